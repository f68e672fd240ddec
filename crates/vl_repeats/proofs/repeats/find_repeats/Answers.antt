use Rattle.std.proofs.Common.{◌+◌, ◌++◌, ◌∷◌, [], append-nil, drop, sym, ap, ◌∙◌}
use Rattle.std.proofs.lemmas.List.{drop_all}
use Rattle.std.specs.Prelude.{filter}
use Rattle.std.specs.Option.{option_map}
use Rattle.vl_tree.specs.Syntax as t
use Rattle.vl_value.specs.Order.{lesser, least}
use Rattle.vl_found.specs.View.{found}
use Rattle.vl_design.specs.Declarations.{is_named}
use Rattle.vl_design.specs.Objects.{counts_behind}
use Rattle.vl_design.specs.ObjectFaults.{repeated_faults, same_names}
use Rattle.vl_declares.specs.Plain.{all_plain, plain}
use Rattle.vl_parameters.proofs.Adding.{one_on, fault_on, fault_end}
use Rattle.vl_repeats.specs.Sides.{plain_met, met_of, more, counts_by, faults_by}
use Rattle.vl_repeats.specs.Flags.{flags_behind}
use Rattle.vl_repeats.proofs.Repeating.{faults_met, counts_met, met_on, declared-drop}
use Rattle.vl_repeats.proofs.repeats.find_repeats.Goals as goal

pub loop-one-preserved : goal.loop-one-preserved
loop-one-preserved c =
    let all = c.args.declared.now in let k = c.loop-one.one-index in let d = plain c.one-item.result in
    let left = all_plain (drop (k + 1) all) in
    let h = c.loop-one.invariant in let before = h.0 in
    let e = declared-drop all k c.one-item.result c.loop-one-test.true c.one-item.is in
    let named = c.name_of-name.ensures in
    let side = c.as_side-here.ensures in
    let here = ap (option_map plain_met) c.met_in-met.ensures ∙ h.1 _ in
    let met = here ∙ ap (λ (n : t.Name). met_of (filter (is_named n.text) before)) named in
    let mine = filter (is_named (Rattle.vl_design.specs.Declarations.name_of d).text) before in
    let f = option_map found c.loop-one.fault in let flags = c.loop-one.counted.items in (
      before ++ d ∷ [],
      met_on before d _ (ap (λ (n : t.Name). n.text) named) _ _ _ (λ x. c.in_ok-note.ensures.0 x) (c.met_more.ensures ∙ (λ i. more (here i) (side i))) h.1,
      one_on flags _ (counts_behind mine d) (flags_behind (before ++ d ∷ []) left) _
          (c.in_ok-push.ensures ∙ ap (λ b. flags ++ b ∷ []) (c.counts.ensures ∙ (λ i. counts_by (met i) (side i)) ∙ sym (counts_met mine d)))
          (ap (λ ds. flags ++ flags_behind before ds) (sym e) ∙ h.2),
      fault_on f _ _ (repeated_faults mine d) (same_names (before ++ d ∷ []) left) _ c.lesser-fault.ensures
          (c.repeated.ensures ∙ (λ i. least (faults_by (met i) (side i) ((named i).place))) ∙ ap least (sym (faults_met mine d)))
          (ap (λ ds. lesser f (least (same_names before ds))) (sym e) ∙ h.3),
    )

pub returns : goal.returns
returns c =
    let h = c.loop-one.invariant in let flags = c.loop-one.counted.items in let f = option_map found c.loop-one.fault in
    let e = drop_all c.loop-one.one-index c.args.declared.now c.loop-one-test.false in
    record {
      flags = sym (append-nil flags) ∙ ap (λ ds. flags ++ flags_behind h.0 (all_plain ds)) (sym e) ∙ h.2;
      fault = sym (fault_end f) ∙ ap (λ ds. lesser f (least (same_names h.0 (all_plain ds)))) (sym e) ∙ h.3;
    }
