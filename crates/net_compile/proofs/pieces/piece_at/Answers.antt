use Rattle.std.proofs.Common.{sym, ◌∙◌, subst, arith}
use Rattle.netlist.specs.Fits.{AreInOrder}
use Rattle.netlist.specs.declared.design.DrivenPart.{DrivenPart}
use Rattle.netlist.specs.declared.design.RegisterPart.{RegisterPart}
use Rattle.net_compile.proofs.InOrder.{map_in_order}
use Rattle.net_compile.proofs.OfPieces.{driven_blank, part_has, none_has}
use Rattle.net_compile.proofs.GivenSlots.{blank}
use Rattle.net_compile.proofs.pieces.piece_at.Goals as goal

pub nearest-requires-clause-order : goal.nearest-requires-clause-order
nearest-requires-clause-order c =
    subst (λ rs. AreInOrder (λ r. r) rs) (sym (c.deref.ensures.value ∙ c.requires.layout.driven))
    (map_in_order (λ (p : DrivenPart). p.range) c.args.flat.now.driven driven_blank c.requires.layout.fits.parts.driven_order)

pub driven_piece-requires-clause-holds : goal.driven_piece-requires-clause-holds
driven_piece-requires-clause-holds c =
    (part_has (λ (p : DrivenPart). p.range) c.args.flat.now.driven driven_blank c.deref.result.now c.in-Holder.number
    c.args.signal c.args.place (c.deref.ensures.value ∙ c.requires.layout.driven) c.in-Holder.ensures).1

pub nearest-requires-in-Free-clause-order : goal.nearest-requires-in-Free-clause-order
nearest-requires-in-Free-clause-order c =
    subst (λ rs. AreInOrder (λ r. r) rs) (sym (c.deref-in-Free.ensures.value ∙ c.requires.layout.registers))
    (map_in_order (λ (p : RegisterPart). p.range) c.args.flat.now.registers blank
    c.requires.layout.fits.parts.register_order)

pub register_piece-requires-clause-holds : goal.register_piece-requires-clause-holds
register_piece-requires-clause-holds c =
    (part_has (λ (p : RegisterPart). p.range) c.args.flat.now.registers blank c.deref-in-Free.result.now
    c.in-Holder-nearest.number c.args.signal c.args.place (c.deref-in-Free.ensures.value ∙ c.requires.layout.registers)
    c.in-Holder-nearest.ensures).1

pub kept_piece-requires-clause-none : goal.kept_piece-requires-clause-none
kept_piece-requires-clause-none c = λ i from to. record {
  driven = λ k d l h. none_has (λ (p : DrivenPart). p.range) c.args.flat.now.driven c.deref.result.now c.args.signal
      c.args.place c.in-Free.until (c.deref.ensures.value ∙ c.requires.layout.driven) c.in-Free.ensures.1 k i d l from
      (omega (arith, to, c.min.ensures, c.min-in-Free-nearest.ensures)) h;
  registers = λ k d l h. none_has (λ (p : RegisterPart). p.range) c.args.flat.now.registers c.deref-in-Free.result.now
      c.args.signal c.args.place c.in-Free-nearest.other (c.deref-in-Free.ensures.value ∙ c.requires.layout.registers)
      c.in-Free-nearest.ensures.1 k i d l from (omega (arith, to, c.min-in-Free-nearest.ensures)) h;
}
