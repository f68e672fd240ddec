use Rattle.std.proofs.Common.{ap, sym, ◌∙◌, get_or}
use Rattle.std.proofs.lemmas.List.{get_or_default}
use Rattle.net_compile.proofs.OfPieces.{driven_is, driven_blank}
use Rattle.net_compile.proofs.pieces.driven_piece.Goals as goal

pub returns : goal.returns
returns c =
    driven_is c.args.flat.now c.driven.ensures.fits c.bits_law.ensures c.args.number c.args.signal c.args.place c.args.end
    c.min.result (get_or c.driven.result.now c.args.number driven_blank) c.requires.there
    (λ d. get_or_default c.args.flat.now.driven c.args.number d driven_blank c.requires.there
    ∙ ap (λ xs. get_or xs c.args.number driven_blank) (sym c.driven.ensures.driven))
    c.requires.holds c.requires.place c.min.ensures
