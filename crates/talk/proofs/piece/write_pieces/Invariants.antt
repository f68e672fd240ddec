use Rattle.std.proofs.Common.{drop}
use Rattle.talk.specs.Pieces.{pieces_text}
use Rattle.talk.proofs.WritesLaws.{Leads}
use Rattle.talk.proofs.piece.write_pieces.Given as goal

-- some pieces were written, and the others are left
abbrev pub invariant-loop-piece : goal.invariant-loop-piece
invariant-loop-piece g l =
    Leads (pieces_text l.pieces) (pieces_text (drop l.piece-index l.pieces)) (g.T.Sink.held l.fn.report) (g.T.Sink.held l.report) (g.T.Sink.faults l.fn.report) (g.T.Sink.faults l.report)
