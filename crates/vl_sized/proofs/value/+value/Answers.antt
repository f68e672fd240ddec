use Rattle.std.proofs.Common.{◌≡◌, ◌∙◌, ◌∷◌, ◌+◌, ◌++◌, ap, sym, subst, drop, map, List, [], arith, append-nil, length, get_or, ◌<◌, ◌≤◌, ◌^◌}
use Rattle.std.specs.Prelude.{min, ◌&&◌}
use Rattle.std.proofs.lemmas.List.{drop_more, drop_all}
use Rattle.dt_core.specs.declared.limits.TheConstants.{MAX_WIDTH}
use Rattle.bit_ops.specs.Operators.{low, extend, concat}
use Rattle.vl_value.specs.Things.{width_of}
use Rattle.vl_value.specs.Meaning as m
use Rattle.vl_value.specs.Meaning.{Meaning}
use Rattle.vl_width.specs.Objects.{plain_shape}
use Rattle.vl_sized.specs.Nodes.{at_of, among}
use Rattle.vl_sized.specs.Parts.{case_by}
use Rattle.vl_sized.specs.Plain.{meaning_of, run_steps, run_tests}
use Rattle.vl_sized.specs.Worth.{IsFirstTrue}
use Rattle.vl_sized.proofs.NodeViews.{at-tests}
use Rattle.vl_sized.proofs.Worths.{low_low, copies_low, part_more, ends}
use Rattle.vl_sized.proofs.Evaluated.{same_at, at_call, at_concat, at_copies, at_chain, at_choose, first_test, no_test, taken_case, passed_case, none_to_take}
use Rattle.vl_sized.proofs.value.+value.Goals as goal

pub at-returns-in_ok-told-in-Call : goal.at-returns-in_ok-told-in-Call
at-returns-in_ok-told-in-Call g t c =
    let ns = g.V.Values.numbering c.args.values.now in let now = g.V.Values.moment c.args.values.now in
    let w = c.args.size.width in let s = c.args.size.signed in let sh = c.in-Call.shape in let k = c.in-Call.function in (
      c.extended.ensures.width,
      c.extended.ensures.value
          ∙ ap (extend (sh.signed && s) (width_of (plain_shape sh)) w)
          (c.call.ensures ∙ ap (now.calls (ns.functions k)) (c.as_slice-in-Call-2.ensures.value ∙ c.in_ok-told-in-Call.ensures
          ∙ (λ i. m.arguments (map plain_shape (c.as_slice-in-Call.ensures i)) (map (meaning_of ns now) (c.as_slice.ensures i)))))
          ∙ sym (ap (λ x. at_of ns now x w s) c.in-Call.is ∙ at_call ns now k sh c.in-Call.inputs c.in-Call.shapes w s),
    )

pub at-returns-in_ok-parts-in-Concat : goal.at-returns-in_ok-parts-in-Concat
at-returns-in_ok-parts-in-Concat g t c =
    let ns = g.V.Values.numbering c.args.values.now in let now = g.V.Values.moment c.args.values.now in
    let w = c.args.size.width in let s = c.args.size.signed in let xs = c.in-Concat.parts in (
      c.low_bits.ensures.width,
      c.low_bits.ensures.value
          ∙ ap (low w) (c.in_ok-parts-in-Concat.ensures.1 ∙ ap (λ l. low MAX_WIDTH (m.joined (map (meaning_of ns now) l))) c.as_slice-in-Concat.ensures)
          ∙ low_low MAX_WIDTH w (m.joined (map (meaning_of ns now) xs)) c.args.size.wide.1
          ∙ sym (ap (λ x. at_of ns now x w s) c.in-Concat.is ∙ at_concat ns now xs w s),
    )

pub at-returns-in_ok-parts-in-Copies : goal.at-returns-in_ok-parts-in-Copies
at-returns-in_ok-parts-in-Copies g t c =
    let ns = g.V.Values.numbering c.args.values.now in let now = g.V.Values.moment c.args.values.now in
    let w = c.args.size.width in let s = c.args.size.signed in let xs = c.in-Copies.parts in let k = c.in-Copies.count in
    let ms = map (meaning_of ns now) xs in let h = c.in_ok-parts-in-Copies.ensures in let p = c.in_ok-parts-in-Copies.parts in (
      c.low_bits-in-Copies.ensures.width,
      c.low_bits-in-Copies.ensures.value
          ∙ ap (low w) (c.copies.ensures ∙ copies_low k (m.widths ms) (m.joined ms) p.width p.value
          (h.0 ∙ ap (λ l. min (m.widths (map (meaning_of ns now) l)) MAX_WIDTH) c.as_slice-in-Copies.ensures)
          (h.1 ∙ ap (λ l. low MAX_WIDTH (m.joined (map (meaning_of ns now) l))) c.as_slice-in-Copies.ensures))
          ∙ low_low MAX_WIDTH w (m.repeated k (m.widths ms) (low (m.widths ms) (m.joined ms))) c.args.size.wide.1
          ∙ sym (ap (λ x. at_of ns now x w s) c.in-Copies.is ∙ at_copies ns now k xs w s),
    )

pub at-returns-in_ok-bit-in-Some : goal.at-returns-in_ok-bit-in-Some
at-returns-in_ok-bit-in-Some g t c =
    let ns = g.V.Values.numbering c.args.values.now in let now = g.V.Values.moment c.args.values.now in
    let w = c.args.size.width in let s = c.args.size.signed in let a = at_of ns now c.in-Tests.first in let ks = c.in-Tests.tests in
    let k = c.in-Some.test.now in let b = c.in_ok-left-in-Some.left in
    let is = c.in_ok-bit-in-Some.ensures ∙ (λ i. run_tests ns now (m.unsigned 1 (c.value-in-Some.ensures i)).at (c.as_slice-in-Some.ensures i)) in
    let left = c.in_ok-left-in-Some.ensures.1 ∙ ap (λ x. at_of ns now x k.left.width k.left.signed) c.get-in-Some.ensures in
    let fits = subst (λ v. b.value < 2 ^ v) c.in_ok-left-in-Some.ensures.0 b.fits in
    let some = subst (λ l. 0 < length l) c.as_slice-in-Tests.ensures c.in-Some.ensures.item.3.0 in
    let same = c.in-Some.ensures.item.1 ∙ ap (λ l. get_or l 0 k) c.as_slice-in-Tests.ensures in (
      c.low_bits-in-Some.ensures.width,
      c.low_bits-in-Some.ensures.value
          ∙ (λ i. (is ∙ first_test ns now a b.value ks k some same left fits) i w s)
          ∙ sym (ap (λ x. at_of ns now x w s) c.in-Tests.is ∙ (λ i. at-tests ns now c.in-Tests.first ks i w s)),
    )

pub at-returns-in-None : goal.at-returns-in-None
at-returns-in-None g t c =
    let ns = g.V.Values.numbering c.args.values.now in let now = g.V.Values.moment c.args.values.now in
    let w = c.args.size.width in let s = c.args.size.signed in let a = at_of ns now c.in-Tests.first in let ks = c.in-Tests.tests in
    same_at c.at-in-None.result c.args.size (at_of ns now c.get-in-None.result.now) (at_of ns now c.args.node.now)
    (ap (λ x. at_of ns now x w s) c.get-in-None.ensures
    ∙ sym (ap (λ x. at_of ns now x w s) c.in-Tests.is
    ∙ (λ i. (at-tests ns now c.in-Tests.first ks ∙ no_test ns now a ks (subst (λ l. length l ≤ 0) c.as_slice-in-Tests.ensures c.in-None.ensures.item.3)) i w s)))
    c.at-in-None.ensures

pub at-returns-in_ok-bits-in-Chain : goal.at-returns-in_ok-bits-in-Chain
at-returns-in_ok-bits-in-Chain g t c =
    let ns = g.V.Values.numbering c.args.values.now in let now = g.V.Values.moment c.args.values.now in
    let w = c.args.size.width in let s = c.args.size.signed in let b = c.in_ok-bits-in-Chain.bits in
    let first = c.in_ok-bits-in-Chain.ensures.1 ∙ ap (λ x. at_of ns now x w s) c.get-in-Chain.ensures in
    same_at c.after_steps.result c.args.size (λ v g. run_steps ns now v g b.value c.as_slice-in-Chain.result.now) (at_of ns now c.args.node.now)
    ((λ i. run_steps ns now w s (first i) (c.as_slice-in-Chain.ensures i))
    ∙ sym (ap (λ x. at_of ns now x w s) c.in-Chain.is ∙ at_chain ns now c.in-Chain.first c.in-Chain.steps w s))
    c.after_steps.ensures

pub at-returns-in-Some-2 : goal.at-returns-in-Some-2
at-returns-in-Some-2 g t c =
    let ns = g.V.Values.numbering c.args.values.now in let now = g.V.Values.moment c.args.values.now in
    let w = c.args.size.width in let s = c.args.size.signed in let f = at_of ns now in let last = at_of ns now c.in-Choose.last in
    let h = subst (IsFirstTrue f c.as_slice-in-Choose.result.now c.args.size) c.in-Some-2.is c.in_ok-bits-in-Choose.ensures in
    let both = h last in (
      both.0,
      both.1 ∙ ap (λ l. among (map (case_by f) l) last w s) c.as_slice-in-Choose.ensures
          ∙ sym (ap (λ x. at_of ns now x w s) c.in-Choose.is ∙ at_choose ns now c.in-Choose.cases c.in-Choose.last w s),
    )

pub at-returns-in-None-2 : goal.at-returns-in-None-2
at-returns-in-None-2 g t c =
    let ns = g.V.Values.numbering c.args.values.now in let now = g.V.Values.moment c.args.values.now in
    let w = c.args.size.width in let s = c.args.size.signed in let f = at_of ns now in let last = at_of ns now c.in-Choose.last in
    let h = subst (IsFirstTrue f c.as_slice-in-Choose.result.now c.args.size) c.in-None-2.is c.in_ok-bits-in-Choose.ensures in
    same_at c.at-in-None-2.result c.args.size (at_of ns now c.get-in-None-2.result.now) (at_of ns now c.args.node.now)
    (ap (λ x. at_of ns now x w s) c.get-in-None-2.ensures ∙ h last ∙ ap (λ l. among (map (case_by f) l) last w s) c.as_slice-in-Choose.ensures
    ∙ sym (ap (λ x. at_of ns now x w s) c.in-Choose.is ∙ at_choose ns now c.in-Choose.cases c.in-Choose.last w s))
    c.at-in-None-2.ensures

pub arguments-returns : goal.arguments-returns
arguments-returns g t c =
    let ns = g.V.Values.numbering c.args.values.now in let now = g.V.Values.moment c.args.values.now in
    let k = c.loop-k.k in let told = c.loop-k.told.items in let shs = map plain_shape (drop k c.args.shapes.now) in
    let end : drop k c.args.inputs.now ≡ [] = drop_all k c.args.inputs.now (omega arith) in
    sym (append-nil told) ∙ ap (λ l. told ++ l) (sym (ap (λ l. m.arguments shs (map (meaning_of ns now) l)) end ∙ none_to_take shs)) ∙ c.loop-k.invariant

pub together-returns : goal.together-returns
together-returns g t c =
    let ns = g.V.Values.numbering c.args.values.now in let now = g.V.Values.moment c.args.values.now in
    let k = c.loop-part.part-index in let b = c.loop-part.all in
    let end : drop k c.args.parts.now ≡ [] = drop_all k c.args.parts.now (omega arith) in
    let whole = m.joined (map (meaning_of ns now) c.args.parts.now) in
    let width = sym (ap (λ l. min (b.width + m.widths (map (meaning_of ns now) l)) MAX_WIDTH) end) ∙ c.loop-part.invariant.width in
    let value = sym (ap (λ l. low MAX_WIDTH (concat (m.widths (map (meaning_of ns now) l)) b.value (m.joined (map (meaning_of ns now) l)))) end) ∙ c.loop-part.invariant.value in
    (omega (arith, width, b.most), ends b.value (low MAX_WIDTH whole) value b.fits)

pub together-loop-part-preserved : goal.together-loop-part-preserved
together-loop-part-preserved g t c =
    let ns = g.V.Values.numbering c.args.values.now in let now = g.V.Values.moment c.args.values.now in
    let n = c.loop-part.part-index in let xs = c.args.parts.now in let x = c.part-item.result in let b = c.loop-part.all in
    let rest = map (meaning_of ns now) (drop (n + 1) xs) in
    let e : map (meaning_of ns now) (drop n xs) ≡ meaning_of ns now x ∷ rest =
    ap (map (meaning_of ns now)) (drop_more xs n x c.loop-part-test.true) ∙ ap (λ y. meaning_of ns now y ∷ rest) (sym c.part-item.is) in
    let width = subst (λ (l : List Meaning). min (b.width + m.widths l) MAX_WIDTH ≡ min (m.widths (map (meaning_of ns now) xs)) MAX_WIDTH) e c.loop-part.invariant.width in
    let value = subst (λ (l : List Meaning). low MAX_WIDTH (concat (m.widths l) b.value (m.joined l)) ≡ low MAX_WIDTH (m.joined (map (meaning_of ns now) xs))) e c.loop-part.invariant.value in
    let bits = c.in_ok-bits.bits in
    let pushed = c.with-all.ensures.value ∙ (λ i. low MAX_WIDTH (concat (c.in_ok-bits.ensures.0 i) b.value (c.in_ok-bits.ensures.1 i))) in
    record {
      width = omega (arith, width, c.with-all.ensures.width, c.in_ok-bits.ensures.0);
      value = part_more b.value x.size.width (m.own (meaning_of ns now x)) (m.widths rest) (m.joined rest) (low MAX_WIDTH (m.joined (map (meaning_of ns now) xs)))
          c.with-all.result.value pushed value;
    }

pub first_true-returns : goal.first_true-returns
first_true-returns g t c = λ last.
    let ns = g.V.Values.numbering c.args.values.now in let now = g.V.Values.moment c.args.values.now in
    let k = c.loop-case.case-index in let w = c.args.size.width in let s = c.args.size.signed in
    let end : drop k c.args.cases.now ≡ [] = drop_all k c.args.cases.now (omega arith) in
    sym (ap (λ l. among (map (case_by (at_of ns now)) l) last w s) end) ∙ c.loop-case.invariant last

pub first_true-loop-case-preserved : goal.first_true-loop-case-preserved
first_true-loop-case-preserved g t c = λ last.
    let ns = g.V.Values.numbering c.args.values.now in let now = g.V.Values.moment c.args.values.now in let f = at_of ns now in
    let n = c.loop-case.case-index in let ks = c.args.cases.now in let k = c.case-item.result in let w = c.args.size.width in let s = c.args.size.signed in
    let e = drop_more ks n k c.loop-case-test.true ∙ ap (λ y. y ∷ drop (n + 1) ks) (sym c.case-item.is) in
    sym (passed_case f k (drop (n + 1) ks) last c.value.result w s (c.value.ensures ∙ c.in_ok-condition.ensures.1) c.if-value-ne0.false)
    ∙ sym (ap (λ l. among (map (case_by f) l) last w s) e) ∙ c.loop-case.invariant last

pub first_true-returns-then-value-ne0 : goal.first_true-returns-then-value-ne0
first_true-returns-then-value-ne0 g t c = λ last.
    let ns = g.V.Values.numbering c.args.values.now in let now = g.V.Values.moment c.args.values.now in let f = at_of ns now in
    let n = c.loop-case.case-index in let ks = c.args.cases.now in let k = c.case-item.result in let w = c.args.size.width in let s = c.args.size.signed in
    let e = drop_more ks n k c.loop-case-test.true ∙ ap (λ y. y ∷ drop (n + 1) ks) (sym c.case-item.is) in (
      c.in_ok-at.ensures.0,
      c.in_ok-at.ensures.1
          ∙ sym (taken_case f k (drop (n + 1) ks) last c.value.result w s (c.value.ensures ∙ c.in_ok-condition.ensures.1) c.if-value-ne0.true)
          ∙ sym (ap (λ l. among (map (case_by f) l) last w s) e) ∙ c.loop-case.invariant last,
    )
