use Rattle.std.proofs.Common.{◌∷◌, [], ◌++◌, sym, ap, ◌∙◌}
use Rattle.vl_value.specs.Order.{lesser, least}
use Rattle.vl_value.proofs.OrderLaws.{least_joined}
use Rattle.vl_design.specs.Lists.{each_of}
use Rattle.vl_design.specs.ObjectFaults.{same_locals, local_faults}
use Rattle.vl_declares.specs.Locals.{all_locals}
use Rattle.vl_declares.specs.Plain.{plain_routine}
use Rattle.vl_repeats.proofs.routine.routine_fault.Goals as goal

pub returns : goal.returns
returns c =
    let r = plain_routine c.args.routine.now in let own = r.result.name.text ∷ [] in
    let ls = ap all_locals c.as_slice-locals.ensures.value in
    c.lesser.ensures
    ∙ (λ i. lesser ((c.in_ok-names.ensures ∙ ap (λ y. least (same_locals own y)) ls) i)
    ((c.lesser-ranges.ensures
    ∙ (λ j. lesser (c.local_fault.ensures j) ((c.ranges_fault.ensures ∙ ap (λ y. least (each_of local_faults y)) ls) j))
    ∙ sym (least_joined (local_faults r.result) (each_of local_faults r.locals))) i))
    ∙ sym (least_joined (same_locals own r.locals) (local_faults r.result ++ each_of local_faults r.locals))
