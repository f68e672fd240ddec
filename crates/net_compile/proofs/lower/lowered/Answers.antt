use Rattle.net_compile.specs.Pieces.{front_of}
use Rattle.net_compile.proofs.Nodes.{bits_range, bits_lowered}
use Rattle.net_compile.proofs.Sames.{same_lowered}
use Rattle.net_compile.proofs.lower.lowered.Goals as goal

pub bits-requires-clause-range : goal.bits-requires-clause-range
bits-requires-clause-range c = bits_range c.args.flat.now c.args.node c.in-Bits.range c.requires.node c.in-Bits.is

pub returns-in_ok-bits-in-Bits-clause-slot : goal.returns-in_ok-bits-in-Bits-clause-slot
returns-in_ok-bits-in-Bits-clause-slot c =
    bits_lowered c.args.flat.now (front_of c.args.layout.now.given) c.bits.new.builder c.args.node c.in-Bits.range _ c.requires.node
    c.in-Bits.is c.in_ok-bits-in-Bits.ensures.slot

pub returns-in-Some-clause-slot : goal.returns-in-Some-clause-slot
returns-in-Some-clause-slot c =
    same_lowered c.args.flat.now (front_of c.args.layout.now.given) c.args.builder.now c.args.slots.now c.args.node c.in-Some.other
    c.slot_of.result c.requires.node c.in-Some.ensures c.requires.nodes c.slot_of.ensures
