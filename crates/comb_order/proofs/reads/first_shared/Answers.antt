use Rattle.std.proofs.Common.{subst, sym, ◌∙◌, ◌+◌, arith}
use Rattle.std.specs.Prelude.{Option, ℕ}
use Rattle.comb_order.specs.First.{IsFirst}
use Rattle.comb_order.proofs.Ranges.{SharesBelow, one_more_shared, none_more_shared, all_shared, none_after, after_too, shares_within}
use Rattle.comb_order.proofs.reads.first_shared.Goals as goal
use Rattle.comb_order.proofs.reads.first_shared.Goals.{then-overlaps, else-overlaps}

pub returns-then-is_before : goal.returns-then-is_before
returns-then-is_before c =
    all_shared _ _ _ _ _ (λ q far. none_after c.args.driven.now c.args.range.now q (λ d w. after_too c.args.driven.now
    c.requires.order c.loop-number.number c.args.range.now c.loop-number-test.true
    (c.is_before.ensures.0 c.if-is_before.true) q d far w)) c.loop-number.invariant

pub loop-number-preserved : goal.loop-number-preserved
loop-number-preserved c = elim c.if-overlaps.branch [
  | then-overlaps w ↦ subst (λ (o : Option ℕ). IsFirst c.args.ranks.now (SharesBelow c.args.driven.now c.args.range.now
      (c.loop-number.number + 1)) o) (sym (w.found-is ∙ w.first_of-found.ensures)) (one_more_shared c.args.driven.now
      c.args.ranks.now c.args.range.now c.loop-number.number c.loop-number.found c.loop-number-test.true
      (sym c.overlaps.ensures ∙ w.if-overlaps.true) c.loop-number.invariant)
  | else-overlaps w ↦ subst (λ (o : Option ℕ). IsFirst c.args.ranks.now (SharesBelow c.args.driven.now c.args.range.now
      (c.loop-number.number + 1)) o) (sym w.found-is) (none_more_shared c.args.driven.now c.args.ranks.now
      c.args.range.now c.loop-number.number c.loop-number.found (sym c.overlaps.ensures ∙ w.if-overlaps.false)
      c.loop-number.invariant)
]

pub returns : goal.returns
returns c =
    all_shared _ _ _ _ _ (λ q far h. (let w = shares_within c.args.driven.now c.args.range.now q h in
    omega (arith, w, c.loop-number-test.false))) c.loop-number.invariant
