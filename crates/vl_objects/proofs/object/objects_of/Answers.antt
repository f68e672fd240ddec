use Rattle.std.proofs.Common.{◌+◌, ◌<◌, ◌++◌, [], if◌then◌else◌, length, drop, map, false, get_or, append-nil, arith, ap, sym, ◌∙◌}
use Rattle.std.proofs.lemmas.List.{drop_all}
use Rattle.vl_design.specs.Objects.{objects_of}
use Rattle.vl_declares.specs.Plain.{all_plain, plain}
use Rattle.vl_parameters.proofs.Adding.{some_on}
use Rattle.vl_repeats.specs.Flags.{picked}
use Rattle.vl_objects.specs.Partners.{found_by}
use Rattle.vl_objects.specs.Plain.{plain_object}
use Rattle.vl_objects.proofs.Finding.{objects_on, picked-drop, none_picked}
use Rattle.vl_objects.proofs.object.objects_of.Goals as goal

pub loop-k-preserved : goal.loop-k-preserved
loop-k-preserved c =
    let flags = c.args.counted.now in let all = c.args.declared.now in let k = c.loop-k.k in
    let ds = picked flags (all_plain all) in let old = map plain_object c.loop-k.objects.items in
    let in_flags : k < length flags = omega arith in
    let in_all : k < length all = omega arith in
    let one = c.index-declared-k.result in let left = picked (drop (k + 1) flags) (all_plain (drop (k + 1) all)) in
    let found = c.in_ok-found.found in
    some_on old _ (if get_or flags k false then found_by found (plain one) else []) (objects_of ds left) _ c.in_ok-push_if.ensures
    (ap (λ os. old ++ os) (sym (objects_on (get_or flags k false) found ds (plain one) left c.in_ok-found.ensures))
    ∙ ap (λ y. old ++ objects_of ds y) (sym (picked-drop flags all k one in_flags in_all c.index-declared-k.is))
    ∙ c.loop-k.invariant)

pub returns : goal.returns
returns c =
    let flags = c.args.counted.now in let all = c.args.declared.now in let k = c.loop-k.k in
    let ds = picked flags (all_plain all) in let old = map plain_object c.loop-k.objects.items in
    sym (append-nil old) ∙ ap (λ y. old ++ objects_of ds y) (sym (none_picked (drop k flags)))
    ∙ ap (λ y. old ++ objects_of ds (picked (drop k flags) (all_plain y))) (sym (drop_all k all c.loop-k-test.false))
    ∙ c.loop-k.invariant
