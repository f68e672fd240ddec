use Rattle.std.proofs.Common.{◌≡◌, ◌<◌, ◌^◌, ℕ, List, length, get_or, sym, subst, arith}
use Rattle.std.specs.Prelude.{Option, None}
use Rattle.comb_order.specs.Labels.{StepsUp, NeverFalls}
use Rattle.comb_order.proofs.Quickly.{rise_all, least_from}
use Rattle.comb_order.proofs.quick.quick.Goals as goal

short : (vs ws : List (Option ℕ)) (n : ℕ) → vs ≡ ws → length ws ≡ n → n < 2 ^ 32 → length vs < 2 ^ 32
short vs ws n same count few = subst (λ (v : List (Option ℕ)). length v < 2 ^ 32) (sym same) (omega (arith, count, few))

pub first_level-requires : goal.first_level-requires
first_level-requires c = short _ _ _ c.deref.ensures.value c.in_ok-firsts.ensures.count c.requires.few

pub by_labels-requires : goal.by_labels-requires
by_labels-requires c =
    rise_all c.args.flat.now c.args.labels.now c.in_ok-firsts.firsts.items c.requires.count c.in_ok-firsts.ensures
    (subst (λ (v : List (Option ℕ)). (p : ℕ) → p < length v → StepsUp c.args.labels.now (get_or v p None) p)
    c.deref.ensures.value c.in-None.ensures)

pub none_falls-requires : goal.none_falls-requires
none_falls-requires c = short _ _ _ c.deref-in-Some.ensures.value c.in_ok-firsts.ensures.count c.requires.few

pub loop_at-requires-clause-least : goal.loop_at-requires-clause-least
loop_at-requires-clause-least c =
    least_from c.args.flat.now c.args.labels.now c.in_ok-firsts.firsts.items c.in-Some.start c.in_ok-firsts.ensures
    (subst (λ (v : List (Option ℕ)). (p : ℕ) → p < length v → NeverFalls c.args.labels.now (get_or v p None) p)
    c.deref-in-Some.ensures.value (c.none_falls.ensures c.if-not-none_falls.false))
    (subst (λ (v : List (Option ℕ)). (p : ℕ) → p < c.in-Some.start → StepsUp c.args.labels.now (get_or v p None) p)
    c.deref.ensures.value c.in-Some.ensures.1)
