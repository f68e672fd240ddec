use Rattle.net_compile.proofs.Fast.{cut_quick}
use Rattle.net_compile.proofs.quick.quick_cut.Goals as goal

pub returns : goal.returns
returns c =
    cut_quick c.args.width c.in_ok-narrow.field-0 c.args.of c.bits.result c.requires.1 c.in_ok-narrow.ensures c.bits.ensures.slots
    c.bits.ensures.value
