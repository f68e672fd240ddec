use Rattle.net_compile.proofs.OfPieces.{kept_read}
use Rattle.net_compile.proofs.pieces.kept_piece.Goals as goal

pub returns : goal.returns
returns c =
    kept_read c.args.flat.now c.signals.ensures.fits c.bits_law.ensures c.args.signal c.args.place c.args.end
    c.signals.result.now c.index-signals-signal.result c.source_for.result c.signals.ensures.signals
    c.index-signals-signal.is c.source_for.ensures c.requires.there c.requires.place c.requires.none
