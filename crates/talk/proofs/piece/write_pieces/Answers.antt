use Rattle.std.proofs.Common.{◌+◌, drop}
use Rattle.std.proofs.lemmas.List.{at_drop_more, at_drop_all}
use Rattle.talk.specs.Pieces.{pieces_text}
use Rattle.talk.proofs.WritesLaws.{leads_on, leads_stop, leads_end}
use Rattle.talk.proofs.piece.write_pieces.Goals as goal

pub loop-piece-preserved : goal.loop-piece-preserved
loop-piece-preserved g c =
    let i = c.loop-piece.piece-index in
    leads_on (pieces_text c.args.pieces.now) (pieces_text (drop i c.args.pieces.now)) _ (pieces_text (drop (i + 1) c.args.pieces.now))
    (g.T.Sink.held c.args.report.now) (g.T.Sink.held c.loop-piece.report) (g.T.Sink.held c.write_piece.new.report) (g.T.Sink.faults c.args.report.now) (g.T.Sink.faults c.loop-piece.report) (g.T.Sink.faults c.write_piece.new.report)
    _ (at_drop_more pieces_text c.args.pieces.now i _ c.loop-piece-test.true) c.loop-piece.invariant c.in_ok-write_piece.ensures

pub returns-in_err-write_piece : goal.returns-in_err-write_piece
returns-in_err-write_piece g c =
    let i = c.loop-piece.piece-index in
    leads_stop (pieces_text c.args.pieces.now) (pieces_text (drop i c.args.pieces.now)) _ (pieces_text (drop (i + 1) c.args.pieces.now))
    (g.T.Sink.held c.args.report.now) (g.T.Sink.held c.loop-piece.report) (g.T.Sink.held c.write_piece.new.report) (g.T.Sink.faults c.args.report.now) (g.T.Sink.faults c.loop-piece.report) (g.T.Sink.faults c.write_piece.new.report)
    c.from_residual.result _ c.from_residual.ensures.0 (at_drop_more pieces_text c.args.pieces.now i _ c.loop-piece-test.true) c.loop-piece.invariant c.in_err-write_piece.ensures

pub returns : goal.returns
returns g c =
    leads_end (pieces_text c.args.pieces.now) (pieces_text (drop c.loop-piece.piece-index c.args.pieces.now))
    (g.T.Sink.held c.args.report.now) (g.T.Sink.held c.loop-piece.report) (g.T.Sink.faults c.args.report.now) (g.T.Sink.faults c.loop-piece.report)
    (at_drop_all pieces_text c.args.pieces.now c.loop-piece.piece-index c.loop-piece-test.false) c.loop-piece.invariant
