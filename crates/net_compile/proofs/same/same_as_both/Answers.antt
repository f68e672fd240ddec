use Rattle.net_compile.proofs.Sames.{right_is_both, left_is_both}
use Rattle.net_compile.proofs.same.same_as_both.Goals as goal

pub returns-then-stands_alone : goal.returns-then-stands_alone
returns-then-stands_alone c = (
  c.is_logic_and.ensures c.if-not-is_logic_and.false,
  right_is_both c.args.flat.now c.args.left c.args.right (c.stands_alone.ensures.one c.if-stands_alone.true)
      (c.stands_alone.ensures.width c.if-stands_alone.true),
)

pub returns-then-stands_alone-2 : goal.returns-then-stands_alone-2
returns-then-stands_alone-2 c = (
  c.is_logic_and.ensures c.if-not-is_logic_and.false,
  left_is_both c.args.flat.now c.args.left c.args.right (c.stands_alone-2.ensures.one c.if-stands_alone-2.true)
      (c.stands_alone-2.ensures.width c.if-stands_alone-2.true),
)
