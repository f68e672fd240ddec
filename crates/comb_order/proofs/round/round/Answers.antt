use Rattle.std.proofs.Common.{◌≡◌, ◌+◌, ◌∙◌, ◌++◌, ◌∷◌, [], ℕ, List, sym, ap, subst, arith}
use Rattle.std.specs.Prelude.{slice_index}
use Rattle.comb_order.specs.Round.{next_of}
use Rattle.comb_order.proofs.Rounds.{Stands, stands_more, stands_last}
use Rattle.comb_order.proofs.round.round.Goals as goal

pub loop-step-preserved : goal.loop-step-preserved
loop-step-preserved c =
    let all : ℕ = slice_index c.args.ranks.now (next_of c.args.firsts.now c.args.start) in
    let is : c.rank-step-end.result ≡ all =
    c.rank-step-end.ensures ∙ ap (slice_index c.args.ranks.now) c.next_of-next.ensures in
    subst (λ (v : List ℕ). Stands c.args.flat.now c.args.start c.args.ranks.now all (c.loop-step.step + 1) v
    c.next_of-next-in-loop-step.result) (sym c.in_ok-push.ensures.items)
    (subst (λ n. Stands c.args.flat.now c.args.start c.args.ranks.now all (c.loop-step.step + 1)
    (c.loop-step.parts.items ++ c.loop-step.next ∷ []) n)
    (sym c.next_of-next-in-loop-step.ensures)
    (stands_more c.args.flat.now c.args.start c.args.ranks.now c.args.firsts.now all c.loop-step.step
    c.loop-step.parts.items c.loop-step.next c.requires.ranks c.requires.firsts
    (omega (arith, c.loop-step-test.true, is)) c.loop-step.invariant))

pub returns : goal.returns
returns c =
    let all : ℕ = slice_index c.args.ranks.now (next_of c.args.firsts.now c.args.start) in
    let is : c.rank-step-end.result ≡ all =
    c.rank-step-end.ensures ∙ ap (slice_index c.args.ranks.now) c.next_of-next.ensures in
    stands_last c.args.flat.now c.args.start c.args.ranks.now all c.loop-step.step c.loop-step.parts.items
    c.loop-step.next c.requires.ranks (omega (arith, c.loop-step-test.false, c.loop-step.auto.step-end, is))
    c.loop-step.invariant
