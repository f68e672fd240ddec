use Rattle.std.proofs.Common.{◌+◌, ◌<◌, ◌++◌, length, drop, map, false, get_or, append-nil, arith, ap, sym, ◌∙◌}
use Rattle.std.proofs.lemmas.List.{drop_all}
use Rattle.vl_design.specs.Lists.{each_of}
use Rattle.vl_design.specs.Design.{callable_in}
use Rattle.vl_declares.specs.Plain.{all_plain, plain}
use Rattle.vl_repeats.specs.Flags.{picked}
use Rattle.vl_objects.proofs.Finding.{picked-drop, none_picked}
use Rattle.vl_memories.specs.Numbered.{callable_by}
use Rattle.vl_memories.proofs.Adding.{picked_on}
use Rattle.vl_memories.proofs.callables.push_counted.Goals as goal

pub loop-k-preserved : goal.loop-k-preserved
loop-k-preserved c = λ f.
    let flags = c.args.counted.now in let all = c.args.declared.now in let k = c.loop-k.k in
    let in_flags : k < length flags = omega arith in
    let in_all : k < length all = omega arith in
    let one = c.index-declared-k.result in let g = callable_in (f c.args.scope) in
    let old = map (callable_by f) c.loop-k.callables.items in
    picked_on g old _ (get_or flags k false) (plain one) (picked (drop (k + 1) flags) (all_plain (drop (k + 1) all))) _ (c.in_ok-push_if.ensures f)
    (ap (λ ds. old ++ each_of g ds) (sym (picked-drop flags all k one in_flags in_all c.index-declared-k.is)) ∙ c.loop-k.invariant f)

pub returns : goal.returns
returns c = λ f.
    let flags = c.args.counted.now in let all = c.args.declared.now in let k = c.loop-k.k in
    let g = callable_in (f c.args.scope) in let old = map (callable_by f) c.loop-k.callables.items in
    sym (append-nil old) ∙ ap (λ ds. old ++ each_of g ds) (sym (none_picked (drop k flags)))
    ∙ ap (λ y. old ++ each_of g (picked (drop k flags) (all_plain y))) (sym (drop_all k all c.loop-k-test.false))
    ∙ c.loop-k.invariant f
