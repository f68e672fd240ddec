use Rattle.std.proofs.Common.{ap, sym, ◌∙◌, get_or}
use Rattle.std.proofs.lemmas.List.{get_or_default}
use Rattle.net_compile.proofs.GivenSlots.{blank}
use Rattle.net_compile.proofs.OfPieces.{register_is}
use Rattle.net_compile.proofs.pieces.register_piece.Goals as goal

pub returns : goal.returns
returns c =
    register_is c.args.flat.now c.registers.ensures.fits c.bits_law.ensures c.args.number c.args.signal c.args.place c.args.end
    c.min.result (get_or c.registers.result.now c.args.number blank) c.requires.there
    (λ d. get_or_default c.args.flat.now.registers c.args.number d blank c.requires.there
    ∙ ap (λ xs. get_or xs c.args.number blank) (sym c.registers.ensures.registers))
    c.requires.holds c.requires.place c.min.ensures
