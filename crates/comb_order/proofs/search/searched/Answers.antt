use Rattle.std.proofs.Common.{◌≡◌, ◌+◌, ◌<◌, ◌∙◌, ℕ, List, length, get_or, true, false, sym, ap, subst, arith}
use Rattle.std.specs.Prelude.{Option, None}
use Rattle.std.proofs.lemmas.List.{with_items_is}
use Rattle.comb_order.specs.Distance.{ComesBack}
use Rattle.comb_order.specs.First.{AreFirst}
use Rattle.comb_order.specs.Labels.{RiseBelow, AreRising}
use Rattle.comb_order.proofs.Rises.{comes_as, rise_more_of, least_more, loop_is, rising}
use Rattle.comb_order.proofs.search.searched.Goals as goal

differ : {A : Type 0} → true ≡ false → A
differ e = absurd cc

pub returns-then-comes_back : goal.returns-then-comes_back
returns-then-comes_back c =
    loop_is c.args.flat.now c.loop-part.part c.in_ok-parts.parts.items c.in_ok-parts.ensures c.loop-part.invariant.least

pub loop-part-preserved : goal.loop-part-preserved
loop-part-preserved c =
    let n : ℕ = c.loop-part.part in
    let ranks : List ℕ = c.in_ok-ranks.ranks.items in
    let firsts : List (Option ℕ) = c.in_ok-firsts.firsts.items in
    let known : AreFirst c.args.flat.now ranks firsts =
    subst (λ (r : List ℕ). AreFirst c.args.flat.now r firsts) c.deref.ensures.value c.in_ok-firsts.ensures in
    let there : n < length c.args.flat.now.driven =
    subst (λ ds. n < length ds) c.driven-part-end.ensures.driven c.loop-part-test.true in
    let within : n < length firsts = omega (arith, there, known.count) in
    let alone : ComesBack ranks (get_or firsts n None) → ⊥ = λ back.
    differ (sym (c.comes_back.ensures.1 (comes_as ranks c.deref-in-loop-part.result.now firsts n c.index.result.now
    c.deref-in-loop-part.ensures.value within c.index.ensures back)) ∙ c.if-comes_back.false) in
    let long : length c.raise.new.labels ≡ c.loop-part.labels.len =
    omega (arith, c.raise.auto.labels, c.deref_mut.ensures.len) in
    record {
      rise = subst (λ (r : List ℕ). RiseBelow c.args.flat.now (n + 1) r)
          (sym (with_items_is c.loop-part.labels c.raise.new.labels long))
          (rise_more_of c.args.flat.now n ranks c.deref-in-loop-part-2.result.now firsts
          c.deref-in-loop-part-3.result.now c.loop-part.labels.items c.deref_mut.result.now c.raise.new.labels
          c.in_ok-ranks.ensures known alone c.deref-in-loop-part-2.ensures.value c.deref-in-loop-part-3.ensures.value
          c.deref_mut.ensures.value c.raise.ensures c.raise.auto.labels c.loop-part.invariant.rise);
      least = least_more c.args.flat.now n ranks firsts c.in_ok-ranks.ensures known alone c.loop-part.invariant.least;
    }

pub by_labels-requires : goal.by_labels-requires
by_labels-requires c =
    let count = c.driven-part-end.ensures.driven in
    let all : c.loop-part.part ≡ length c.args.flat.now.driven =
    omega (arith, c.loop-part-test.false, c.loop-part.auto.part-end, ap length count) in
    subst (λ (r : List ℕ). AreRising c.args.flat.now r) (sym c.deref-2.ensures.value)
    (rising c.args.flat.now c.loop-part.labels.items
    (subst (λ n. RiseBelow c.args.flat.now n c.loop-part.labels.items) all c.loop-part.invariant.rise))
