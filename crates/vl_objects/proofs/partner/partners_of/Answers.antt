use Rattle.std.proofs.Common.{◌≡◌, ◌+◌, ◌-◌, ◌<◌, ◌++◌, length, drop, false, get_or, arith, ap, subst, ◌∙◌}
use Rattle.vl_declares.specs.Plain.{all_plain, plain}
use Rattle.vl_repeats.specs.Flags.{picked}
use Rattle.vl_objects.specs.Partners.{AreOf}
use Rattle.vl_objects.proofs.Finding.{of_more, picked-drop, one_if}
use Rattle.vl_objects.proofs.partner.partners_of.Goals as goal

pub loop-k-preserved : goal.loop-k-preserved
loop-k-preserved c =
    let flags = c.args.counted.now in let all = c.args.declared.now in let j = c.loop-k.k - 1 in
    let up : j + 1 ≡ c.loop-k.k = omega arith in
    let in_flags : j < length flags = omega arith in
    let in_all : j < length all = omega arith in
    let one = c.index-declared-k.result in
    of_more (get_or flags j false) (plain one) _ _ c.loop-k.partners c.note_if.new.self
    (picked-drop flags all j one in_flags in_all c.index-declared-k.is
    ∙ ap (λ i. one_if (get_or flags j false) (plain one) ++ picked (drop i flags) (all_plain (drop i all))) up)
    c.loop-k.invariant c.in_ok-note_if.ensures

pub returns : goal.returns
returns c =
    let none : c.loop-k.k ≡ 0 = omega arith in
    subst (λ i. AreOf c.loop-k.partners (picked (drop i c.args.counted.now) (all_plain (drop i c.args.declared.now)))) none c.loop-k.invariant
