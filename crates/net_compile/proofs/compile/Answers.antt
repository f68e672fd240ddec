use Rattle.std.proofs.Common.{subst, sym}
use Rattle.netlist.specs.Fits.{AreInOrder}
use Rattle.netlist.specs.declared.design.DrivenPart.{DrivenPart}
use Rattle.net_compile.specs.Compiles.{ArePlaced}
use Rattle.net_compile.specs.Pieces.{front_of}
use Rattle.net_compile.proofs.InOrder.{map_in_order}
use Rattle.net_compile.proofs.OfPieces.{driven_blank}
use Rattle.net_compile.proofs.Whole.{compiles}
use Rattle.net_compile.proofs.compile.Goals as goal

pub in_turn-requires : goal.in_turn-requires
in_turn-requires c =
    subst (λ rs. AreInOrder (λ r. r) rs) (sym c.in_ok-layout.ensures.driven)
    (map_in_order (λ (p : DrivenPart). p.range) c.args.flat.now.driven driven_blank
    c.in_ok-layout.ensures.fits.parts.driven_order)

pub returns : goal.returns
returns c =
    compiles c.args.flat.now (front_of c.in_ok-layout.layout.given) c.in_ok-made.made.builder c.in_ok-closed.closed.program
    c.in_ok-closed.closed.placement c.in_ok-made.made.slots.items c.in_ok-nodes.nodes.items c.in_ok-layout.ensures.slots
    c.in_ok-made.ensures.begins c.in_ok-made.ensures.nodes c.in_ok-made.ensures.count c.in_ok-closed.ensures
    (subst (λ xs. ArePlaced c.in_ok-closed.closed.placement xs c.in_ok-nodes.nodes.items) c.deref-2.ensures.value
    c.in_ok-nodes.ensures)
