use Rattle.std.proofs.Common.{◌≡◌, ◌≢◌, ℕ, ◌+◌, ◌<◌, ◌≤◌, true, false, List, get_or, length, sym, ap, subst, ◌∙◌, arith}
use Rattle.std.specs.Prelude.{Option, None, slice_set, sum}
use Rattle.std.proofs.lemmas.List.{get_or_read}
use Rattle.comb_order.specs.Distance.{AreSupported, one_read_more}
use Rattle.comb_order.proofs.Distances.{still_supported, sum_less, settled_so_far}
use Rattle.comb_order.proofs.distance.shorten.Goals as goal
use Rattle.comb_order.proofs.distance.shorten.Goals.{then-part-to+then-through-ranks, else-part-to, else-part-to-via-then-part-to+else-through-ranks, else-part-to-via-else-part-to}

differ : {A : Type 0} → true ≡ false → A
differ e = absurd cc

pub loop-part-preserved : goal.loop-part-preserved
loop-part-preserved c =
    let old : List ℕ = c.loop-part.ranks in
    let i : ℕ = c.loop-part.part in
    let through : ℕ = c.one_read_more-through.result in
    let firsts : List (Option ℕ) = c.in_ok-firsts.firsts.items in
    let within : i < length c.args.flat.now.driven = omega (arith, c.loop-part-test.true, c.requires.count) in
    let long : i < length firsts = omega (arith, within, c.in_ok-firsts.ensures.count) in
    let there : i < length old = omega (arith, c.loop-part-test.true, c.loop-part.auto.ranks) in
    let is : through ≡ one_read_more old (get_or firsts i None) =
    c.one_read_more-through.ensures
    ∙ ap (one_read_more old) (get_or_read firsts i c.index.result.now long c.index.ensures None) in
    elim c.if-part-to.branch [
      | then-part-to+then-through-ranks w ↦
          let set : List ℕ = slice_set old i through in
          let down : sum set < sum old = sum_less old i through there w.if-through-ranks.true in
          record {
            supported = subst (AreSupported c.args.flat.now c.args.to) (sym w.ranks-is) (still_supported c.args.flat.now
                c.args.to old c.args.ranks.now i through (get_or firsts i None) within w.if-part-to.true is
                w.if-through-ranks.true (c.in_ok-firsts.ensures.each i within) c.loop-part.invariant.supported);
            less = λ e. subst (λ (r : List ℕ). sum r < sum c.args.ranks.now) (sym w.ranks-is)
                (omega (arith, down, c.loop-part.invariant.no_more));
            no_more = subst (λ (r : List ℕ). sum r ≤ sum c.args.ranks.now) (sym w.ranks-is)
                (omega (arith, down, c.loop-part.invariant.no_more));
            same = λ e. differ (sym w.found-is ∙ e);
            settled = λ e. differ (sym w.found-is ∙ e);
          }
      | else-part-to w ↦
          let here : i ≢ c.args.to → get_or old i 0 ≤ one_read_more old (get_or firsts i None) = λ other.
          elim w.else-part-to.branch [
            | else-part-to-via-then-part-to+else-through-ranks v ↦ omega (arith, v.if-through-ranks.false, is)
            | else-part-to-via-else-part-to v ↦ absurd (other v.if-part-to.false)
          ] in
          record {
            supported = subst (AreSupported c.args.flat.now c.args.to) (sym w.ranks-is) c.loop-part.invariant.supported;
            less = λ e. subst (λ (r : List ℕ). sum r < sum c.args.ranks.now) (sym w.ranks-is)
                (c.loop-part.invariant.less (sym w.found-is ∙ e));
            no_more = subst (λ (r : List ℕ). sum r ≤ sum c.args.ranks.now) (sym w.ranks-is)
                c.loop-part.invariant.no_more;
            same = λ e. w.ranks-is ∙ c.loop-part.invariant.same (sym w.found-is ∙ e);
            settled = λ e. subst (λ (r : List ℕ). (p : ℕ) → p < i + 1 → p ≢ c.args.to
                → get_or r p 0 ≤ one_read_more r (get_or firsts p None)) (sym w.ranks-is)
                (settled_so_far old firsts c.args.to i (c.loop-part.invariant.settled (sym w.found-is ∙ e)) here);
          }
    ]
