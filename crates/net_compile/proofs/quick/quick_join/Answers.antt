use Rattle.net_compile.proofs.Fast.{join_quick}
use Rattle.net_compile.proofs.quick.quick_join.Goals as goal

pub returns-then-right-lt64 : goal.returns-then-right-lt64
returns-then-right-lt64 c =
    join_quick c.args.width c.args.left c.args.right c.in_ok-two.two c.to_left.result c.requires.1 c.in_ok-two.ensures.0
    c.in_ok-two.ensures.1 c.to_left.ensures.slots c.to_left.ensures.value
