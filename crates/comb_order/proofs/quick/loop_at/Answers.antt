use Rattle.comb_order.proofs.Rises.{loop_is}
use Rattle.comb_order.proofs.quick.loop_at.Goals as goal

pub returns-then-comes_back : goal.returns-then-comes_back
returns-then-comes_back c =
    loop_is c.args.flat.now c.args.start c.in_ok-parts.parts.items c.in_ok-parts.ensures c.requires.least
