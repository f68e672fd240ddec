use Rattle.std.proofs.Common.{sym, ◌∙◌, ap, subst, ◌+◌, length}
use Rattle.std.specs.Prelude.{slice_get}
use Rattle.net_compile.specs.Pieces.{front_of, SourceFits, source_number}
use Rattle.net_compile.specs.Stands.{Stands}
use Rattle.net_compile.proofs.Standing.{if_some}
use Rattle.net_compile.proofs.GivenSlots.{register_stands, input_stands}
use Rattle.net_compile.proofs.leaf.source_slot.Goals as goal

pub returns-in-Register-clause-slot : goal.returns-in-Register-clause-slot
returns-in-Register-clause-slot c =
    if_some c.given_slot.result _ (λ slot e. subst (λ x. Stands c.args.flat.now (front_of c.args.layout.now.given)
    c.args.builder.now slot c.args.of (source_number c.args.flat.now (front_of c.args.layout.now.given) x)) (sym c.in-Register.is)
    (register_stands c.args.flat.now (front_of c.args.layout.now.given) c.args.builder.now c.in-Register.number c.args.of slot
    c.requires.layout.slots c.requires.begins (sym c.given_slot.ensures ∙ e) c.requires.fits.0
    (subst (λ x. SourceFits c.args.flat.now c.args.of x) c.in-Register.is c.requires.fits.1)))

pub returns-in-Input-clause-slot : goal.returns-in-Input-clause-slot
returns-in-Input-clause-slot c =
    if_some c.given_slot-in-Input.result _ (λ slot e. subst (λ x. Stands c.args.flat.now (front_of c.args.layout.now.given)
    c.args.builder.now slot c.args.of (source_number c.args.flat.now (front_of c.args.layout.now.given) x)) (sym c.in-Input.is)
    (input_stands c.args.flat.now (front_of c.args.layout.now.given) c.args.builder.now c.in-Input.number c.args.of slot
    c.requires.layout.slots c.requires.begins
    (ap (λ rs. slice_get c.args.layout.now.given.slots.items (length rs + c.in-Input.number)) (sym c.registers.ensures.registers)
    ∙ sym c.given_slot-in-Input.ensures ∙ e) c.requires.fits.0
    (subst (λ x. SourceFits c.args.flat.now c.args.of x) c.in-Input.is c.requires.fits.1)))
