use Rattle.std.proofs.Common.{◌≡◌, ◌++◌, drop}
use Rattle.std.specs.Prelude.{option_map}
use Rattle.message_format.specs.Events.{piece_events}
use Rattle.message_format.proofs.events.events_of.Given as goal

-- the events so far, and those of the pieces from here on, are those of all
abbrev pub invariant-loop-piece : goal.invariant-loop-piece
invariant-loop-piece l = option_map (λ es. l.events.items ++ es)
    (piece_events l.condition l.path (drop l.piece-index l.pieces) l.left)
    ≡ piece_events l.condition l.path l.pieces l.arguments
