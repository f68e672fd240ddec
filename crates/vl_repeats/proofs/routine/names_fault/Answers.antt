use Rattle.std.proofs.Common.{◌+◌, ◌∷◌, [], drop, refl, sym, ap, ◌∙◌}
use Rattle.std.proofs.lemmas.List.{drop_all}
use Rattle.std.specs.Option.{option_map}
use Rattle.vl_value.specs.Order.{lesser, least}
use Rattle.vl_found.specs.View.{found}
use Rattle.vl_design.specs.Lists.{stands_in}
use Rattle.vl_design.specs.ObjectFaults.{same_locals}
use Rattle.vl_declares.specs.Locals.{all_locals}
use Rattle.vl_declares.specs.Plain.{plain_local}
use Rattle.vl_parameters.proofs.Adding.{fault_on, fault_end}
use Rattle.vl_repeats.specs.Routines.{repeats_here}
use Rattle.vl_repeats.proofs.Repeating.{known_on, locals-drop}
use Rattle.vl_repeats.proofs.routine.names_fault.Goals as goal

pub loop-local-init : goal.loop-local-init
loop-local-init c =
    (c.args.own.now.text ∷ [], known_on c.new-names.result c.add.new.self c.args.own.now.text [] c.in_ok-add.ensures c.new-names.ensures, refl)

pub loop-local-preserved : goal.loop-local-preserved
loop-local-preserved c =
    let all = c.args.locals.now in let k = c.loop-local.local-index in let l = plain_local c.local-item.result in
    let h = c.loop-local.invariant in let before = h.0 in let x = l.name.text in
    let e = locals-drop all k c.local-item.result c.loop-local-test.true c.local-item.is in
    let known = c.has-is_known.ensures ∙ h.1 x in let f = option_map found c.loop-local.fault in (
      x ∷ before,
      known_on c.loop-local.names c.add-in-loop-local.new.self x before c.in_ok-add-2.ensures h.1,
      fault_on f _ _ (repeats_here (stands_in before x) l.name) (same_locals (x ∷ before) (all_locals (drop (k + 1) all))) _ c.lesser-fault.ensures
          (c.repeated.ensures ∙ ap (λ b. least (repeats_here b l.name)) known)
          (ap (λ ls. lesser f (least (same_locals before ls))) (sym e) ∙ h.2),
    )

pub returns : goal.returns
returns c =
    let h = c.loop-local.invariant in let f = option_map found c.loop-local.fault in
    let e = drop_all c.loop-local.local-index c.args.locals.now c.loop-local-test.false in
    sym (fault_end f) ∙ ap (λ ls. lesser f (least (same_locals h.0 (all_locals ls)))) (sym e) ∙ h.2
