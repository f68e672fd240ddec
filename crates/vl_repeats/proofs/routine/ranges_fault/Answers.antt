use Rattle.std.proofs.Common.{◌+◌, drop, sym, ap, ◌∙◌}
use Rattle.std.proofs.lemmas.List.{drop_all}
use Rattle.std.specs.Option.{option_map}
use Rattle.vl_value.specs.Order.{lesser, least}
use Rattle.vl_found.specs.View.{found}
use Rattle.vl_design.specs.Lists.{each_of}
use Rattle.vl_design.specs.ObjectFaults.{local_faults}
use Rattle.vl_declares.specs.Locals.{all_locals}
use Rattle.vl_declares.specs.Plain.{plain_local}
use Rattle.vl_parameters.proofs.Adding.{fault_on, fault_end}
use Rattle.vl_repeats.proofs.Repeating.{locals-drop}
use Rattle.vl_repeats.proofs.routine.ranges_fault.Goals as goal

pub loop-local-preserved : goal.loop-local-preserved
loop-local-preserved c =
    let all = c.args.locals.now in let k = c.loop-local.local-index in
    let e = locals-drop all k c.local-item.result c.loop-local-test.true c.local-item.is in
    let f = option_map found c.loop-local.fault in
    fault_on f _ _ (local_faults (plain_local c.local-item.result)) (each_of local_faults (all_locals (drop (k + 1) all))) _
    c.lesser-fault.ensures c.local_fault.ensures
    (ap (λ ls. lesser f (least (each_of local_faults ls))) (sym e) ∙ c.loop-local.invariant)

pub returns : goal.returns
returns c =
    let f = option_map found c.loop-local.fault in
    let e = drop_all c.loop-local.local-index c.args.locals.now c.loop-local-test.false in
    sym (fault_end f) ∙ ap (λ ls. lesser f (least (each_of local_faults (all_locals ls)))) (sym e) ∙ c.loop-local.invariant
