use Rattle.std.proofs.Common.{arith, sym, subst}
use Rattle.vl_expr.specs.Ends.{NotAt}
use Rattle.vl_expr.proofs.Levels.{other_level}
use Rattle.vl_expr.proofs.operators.find_operator.Goals as goal

pub returns-in_default : goal.returns-in_default
returns-in_default c = record {
  reads = subst (NotAt c.args.wanted) (sym c.in_ok-token.ensures)
      (λ h. let i = other_level c.in_ok-token.token.now.kind c.in_default.not-Mark in omega (arith, h, i, c.requires.1));
  shorter = tt;
}
