use Rattle.net_compile.specs.Pieces.{front_of, source_number}
use Rattle.net_compile.specs.Stands.{Stands}
use Rattle.net_compile.proofs.Standing.{begins_on, some_is}
use Rattle.net_compile.proofs.Nodes.{piece_stands}
use Rattle.net_compile.proofs.leaf.piece_slot.Goals as goal

pub returns-in_ok-slot-in-Some-clause-slot : goal.returns-in_ok-slot-in-Some-clause-slot
returns-in_ok-slot-in-Some-clause-slot c =
    piece_stands c.args.flat.now (front_of c.args.layout.now.given) c.source_slot.new.builder c.cut.new.builder c.args.signal
    c.args.place c.args.end c.piece_at-piece.result c.in-Some.slot c.in_ok-slot-in-Some.slot
    (begins_on (front_of c.args.layout.now.given) c.args.builder.now c.source_slot.new.builder c.requires.begins
    c.in_ok-slot.ensures.grows)
    c.piece_at-piece.ensures
    (some_is c.in_ok-slot.field-0 c.in-Some.slot (λ s. Stands c.args.flat.now (front_of c.args.layout.now.given)
    c.source_slot.new.builder s c.piece_at-piece.result.of (source_number c.args.flat.now (front_of c.args.layout.now.given)
    c.piece_at-piece.result.source)) c.in-Some.is c.in_ok-slot.ensures.slot)
    c.in_ok-slot-in-Some.ensures.cut
