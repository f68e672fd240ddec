use Rattle.std.proofs.Common.{◌+◌, drop, sym, ap, ◌∙◌}
use Rattle.std.proofs.lemmas.List.{drop_all}
use Rattle.std.specs.Option.{option_map}
use Rattle.vl_value.specs.Order.{lesser, least}
use Rattle.vl_found.specs.View.{found}
use Rattle.vl_design.specs.Lists.{each_of}
use Rattle.vl_design.specs.ObjectFaults.{declaration_faults}
use Rattle.vl_declares.specs.Plain.{all_plain, plain}
use Rattle.vl_parameters.proofs.Adding.{fault_on, fault_end}
use Rattle.vl_repeats.proofs.Repeating.{declared-drop}
use Rattle.vl_repeats.proofs.declaration.declarations_fault.Goals as goal

pub loop-one-preserved : goal.loop-one-preserved
loop-one-preserved c =
    let all = c.args.declared.now in let k = c.loop-one.one-index in
    let e = declared-drop all k c.one-item.result c.loop-one-test.true c.one-item.is in
    let f = option_map found c.loop-one.fault in
    fault_on f _ _ (declaration_faults (plain c.one-item.result)) (each_of declaration_faults (all_plain (drop (k + 1) all))) _
    c.lesser-fault.ensures c.in_ok-found.ensures
    (ap (λ ds. lesser f (least (each_of declaration_faults ds))) (sym e) ∙ c.loop-one.invariant)

pub returns : goal.returns
returns c =
    let f = option_map found c.loop-one.fault in
    let e = drop_all c.loop-one.one-index c.args.declared.now c.loop-one-test.false in
    sym (fault_end f) ∙ ap (λ ds. lesser f (least (each_of declaration_faults (all_plain ds)))) (sym e) ∙ c.loop-one.invariant
