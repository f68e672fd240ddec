use Rattle.net_compile.proofs.Fast.{pick_quick}
use Rattle.net_compile.proofs.quick.quick_choice.Goals as goal

pub returns : goal.returns
returns c =
    pick_quick c.args.width c.args.condition c.args.yes c.args.no _ c.requires.1 c.in_ok-narrow.ensures c.in_ok-two.ensures.0
    c.in_ok-two.ensures.1
