use Rattle.std.proofs.Common.{◌≡◌, ◌∙◌, ◌<◌, ℕ, List, inl, inr, length, get_or, ap, subst, arith}
use Rattle.std.specs.Prelude.{Option, None}
use Rattle.std.proofs.lemmas.Bool.{cases_lt}
use Rattle.std.proofs.lemmas.List.{get_or_read}
use Rattle.netlist.specs.declared.design.DrivenPart.{DrivenPart}
use Rattle.comb_order.specs.Distance.{HasSupport}
use Rattle.comb_order.proofs.Distances.{all_supported}
use Rattle.comb_order.proofs.distance.are_supported.Goals as goal

pub loop-part-preserved : goal.loop-part-preserved
loop-part-preserved c =
    let i : ℕ = c.loop-part.part in
    let firsts : List (Option ℕ) = c.in_ok-firsts.firsts.items in
    let count : length c.args.ranks.now ≡ length c.args.flat.now.driven =
    c.if-ranks-driven.false ∙ ap (λ (ds : List DrivenPart). length ds) c.driven.ensures.driven in
    let within : i < length firsts = omega (arith, c.loop-part-test.true, count, c.in_ok-firsts.ensures.count) in
    λ p l. elim (cases_lt p i) [
      | inl less ↦ c.loop-part.invariant p less
      | inr last ↦
          let e : i ≡ p = omega (arith, l, last) in
          subst (λ k. HasSupport c.args.to c.args.ranks.now (get_or firsts k None) k) e
          (subst (λ o. HasSupport c.args.to c.args.ranks.now o i)
          (get_or_read firsts i c.index.result.now within c.index.ensures None)
          (c.has_support.ensures c.if-not-has_support.false))
    ]

pub returns : goal.returns
returns c =
    let count : length c.args.ranks.now ≡ length c.args.flat.now.driven =
    c.if-ranks-driven.false ∙ ap (λ (ds : List DrivenPart). length ds) c.driven.ensures.driven in
    λ yes. all_supported c.args.flat.now c.args.to c.args.ranks.now c.in_ok-firsts.firsts.items c.requires count
    c.in_ok-firsts.ensures (λ p l. c.loop-part.invariant p (omega (arith, l, count, c.loop-part-test.false)))
