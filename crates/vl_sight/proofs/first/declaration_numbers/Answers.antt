use Rattle.std.proofs.Common.{◌≡◌, ◌+◌, ◌-◌, ◌<◌, ◌++◌, length, drop, false, get_or, arith, ap, subst, ◌∙◌}
use Rattle.vl_declares.specs.Plain.{all_plain, plain}
use Rattle.vl_objects.proofs.Finding.{picked-drop, one_if}
use Rattle.vl_repeats.specs.Flags.{picked}
use Rattle.vl_sight.specs.Firsts.{Finds, passes_named}
use Rattle.vl_sight.proofs.Finding.{declared_more, read_mapped}
use Rattle.vl_sight.proofs.first.declaration_numbers.Goals as goal

pub loop-k-preserved : goal.loop-k-preserved
loop-k-preserved c =
    let flags = c.args.counted.now in let all = c.args.declared.now in let j = c.loop-k.k - 1 in
    let up : j + 1 ≡ c.loop-k.k = omega arith in
    let in_flags : j < length flags = omega arith in
    let in_all : j < length all = omega arith in
    let one = c.index-declared-k.result in
    declared_more c.args.wanted (all_plain all) _ _ (plain one) j (get_or flags j false) c.loop-k.numbers c.note_wanted.new.numbers
    (read_mapped plain all j one in_all c.index-declared-k.is)
    (picked-drop flags all j one in_flags in_all c.index-declared-k.is
    ∙ ap (λ i. one_if (get_or flags j false) (plain one) ++ picked (drop i flags) (all_plain (drop i all))) up)
    c.in_ok-note_wanted.ensures c.loop-k.invariant

pub returns : goal.returns
returns c =
    let none : c.loop-k.k ≡ 0 = omega arith in
    let all = c.args.declared.now in
    subst (λ i. Finds (passes_named c.args.wanted) (all_plain all) (picked (drop i c.args.counted.now) (all_plain (drop i all))) c.loop-k.numbers) none c.loop-k.invariant
