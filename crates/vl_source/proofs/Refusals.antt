-- In how many ways a list of tokens can be refused, for any grammar; then for sources.
use Rattle.std.proofs.Common.{◌≡◌, ◌≤◌, ◌<◌, ◌+◌, ℕ, zero, suc, ◌⊎◌, inl, inr, List, []}
use Rattle.std.proofs.Common.{◌∷◌, ◌++◌, length, take, drop, refl, sym, ◌∙◌, ap, subst, append_assoc, arith}
use Rattle.std.proofs.lemmas.List.{take-append-drop}
use Rattle.vl_tree.specs.Modules.{source_at}
use Rattle.vl_tree.specs.Depth.{source_depths}
use Rattle.vl_tree.specs.Derives.{Begins, IsBad, Within, Sinks, Shallow, IsTooDeep}
use Rattle.vl_source.specs.Laws.{RefusalLaw}

-- ---- numbers

order : (k j : ℕ) → (k ≤ j) ⊎ (j + 1 ≤ k)
order zero j = inl (omega arith)
order (suc k) zero = inr (omega arith)
order (suc k) (suc j) = order_next k j (order k j)
  where
    order_next : (k j : ℕ) → (k ≤ j) ⊎ (j + 1 ≤ k) → (suc k ≤ suc j) ⊎ (suc j + 1 ≤ suc k)
    order_next k j (inl i) = inl (omega (arith, i))
    order_next k j (inr i) = inr (omega (arith, i))

module _ {T : Type 0} where
  -- ---- beginnings of a list

  front : (j k : ℕ) (ts : List T) → j ≤ k → (mid : List T) × (take k ts ≡ take j ts ++ mid)
  front zero k ts i = (take k ts, refl)
  front (suc j) zero ts i = absurd (omega (arith, i))
  front (suc j) (suc k) [] i = ([], refl)
  front (suc j) (suc k) (a ∷ ts) i = let o = front j k ts (omega (arith, i)) in (o.0, ap (λ x. a ∷ x) o.1)

  front_some : (j k : ℕ) (ts : List T) → j < k → k ≤ length ts → (b : T) × (mid : List T) × (take k ts ≡ take j ts ++ b ∷ mid)
  front_some j zero ts i n = absurd (omega (arith, i))
  front_some j (suc k) [] i n = absurd (omega (arith, n))
  front_some zero (suc k) (a ∷ ts) i n = (a, take k ts, refl)
  front_some (suc j) (suc k) (a ∷ ts) i n =
      let o = front_some j k ts (omega (arith, i)) (omega (arith, n)) in
      (o.0, o.1, ap (λ x. a ∷ x) o.2)

  -- ---- depths

  sinks_within : (us vs : List T) (ds : List ℕ) → Sinks us ds → Within (us ++ vs) ds → ⊥
  sinks_within [] vs ds s p = absurd s
  sinks_within (a ∷ us) vs [] s p = absurd p
  sinks_within (a ∷ []) vs (d ∷ ds) s p = absurd (omega (arith, s, p.0))
  sinks_within (a ∷ b ∷ us) vs (d ∷ ds) s p = sinks_within (b ∷ us) vs ds s.1 p.1

  sinks_once : (us : List T) (b : T) (vs : List T) (ds : List ℕ) → Sinks us ds → Sinks (us ++ b ∷ vs) ds → ⊥
  sinks_once [] b vs ds s p = absurd s
  sinks_once (a ∷ []) b vs [] s p = absurd s
  sinks_once (a ∷ c ∷ us) b vs [] s p = absurd s
  sinks_once (a ∷ []) b vs (d ∷ ds) s p = absurd (omega (arith, s, p.0))
  sinks_once (a ∷ c ∷ us) b vs (d ∷ ds) s p = sinks_once (c ∷ us) b vs ds s.1 p.1

  -- ---- places

  module _ {N : Type 0} (D : N → List T → List T → Type 0) (M : N → List ℕ) (ts : List T) where
    begins_less : (j k : ℕ) → j ≤ k → Begins D (take k ts) → Begins D (take j ts)
    begins_less j k i b =
        let o = front j k ts i in
        (o.0 ++ b.0, (b.1.0, subst (λ x. D b.1.0 x []) (ap (λ x. x ++ b.0) o.1 ∙ append_assoc (take j ts) o.0 b.0) b.1.1))

    deep_begins : (j : ℕ) → IsTooDeep D M ts j → Begins D (take (j + 1) ts)
    deep_begins j p = (p.more, (p.tree, p.derives))

    bad_before : (k j : ℕ) → IsBad D ts k → j ≤ length ts → k < j → Begins D (take j ts) → ⊥
    bad_before k j p n i b = p.reach.at (omega (arith, i, n)) (begins_less (k + 1) j (omega (arith, i)) b)

    deep_first : (k j : ℕ) → Shallow D M (take k ts) → j + 1 ≤ k → IsTooDeep D M ts j → ⊥
    deep_first k j p i q =
        let o = front (j + 1) k ts i in
        let e : take k ts ++ p.0 ≡ take (j + 1) ts ++ (o.0 ++ p.0) = ap (λ x. x ++ p.0) o.1 ∙ append_assoc (take (j + 1) ts) o.0 p.0 in
        sinks_within (take (j + 1) ts) o.0 (M p.1) (q.each (o.0 ++ p.0) p.1 (subst (λ x. D p.1 x []) e p.2))
        (subst (λ x. Within x (M p.1)) o.1 p.3)

    pub bad_or_deep : (k j : ℕ) → IsBad D ts k → Shallow D M (take k ts) → IsTooDeep D M ts j → (k ≤ j) ⊎ (j + 1 ≤ k) → ⊥
    bad_or_deep k j p s q (inl i) =
        bad_before k (j + 1) p (omega (arith, q.within)) (omega (arith, i)) (deep_begins j q)
    bad_or_deep k j p s q (inr i) = deep_first k j s i q

    bad_least : (k j : ℕ) → IsBad D ts k → IsBad D ts j → k < j → ⊥
    bad_least k j p q i = bad_before k j p q.reach.within i q.reach.before

    deep_least : (k j : ℕ) → IsTooDeep D M ts k → IsTooDeep D M ts j → k < j → ⊥
    deep_least k j p q i =
        let o = front_some (k + 1) (j + 1) ts (omega (arith, i)) (omega (arith, q.within)) in
        let e : take (j + 1) ts ++ q.more ≡ take (k + 1) ts ++ (o.0 ∷ o.1 ++ q.more) =
        ap (λ x. x ++ q.more) o.2 ∙ append_assoc (take (k + 1) ts) (o.0 ∷ o.1) q.more in
        sinks_once (take (k + 1) ts) o.0 o.1 (M q.tree) (p.each (o.0 ∷ o.1 ++ q.more) q.tree (subst (λ x. D q.tree x []) e q.derives))
        (subst (λ x. Sinks x (M q.tree)) o.2 q.sinks)

    pub whole_shallow : (t : N) (j : ℕ) → D t ts [] → Within ts (M t) → IsTooDeep D M ts j → ⊥
    whole_shallow t j d p q =
        let e : ts ≡ take (j + 1) ts ++ drop (j + 1) ts = sym (take-append-drop (j + 1) ts) in
        sinks_within (take (j + 1) ts) (drop (j + 1) ts) (M t) (q.each (drop (j + 1) ts) t (subst (λ x. D t x []) e d))
        (subst (λ x. Within x (M t)) e p)

-- neither of two places stands before the other
equal : (k j : ℕ) → (k < j → ⊥) → (j < k → ⊥) → k ≡ j
equal k j f g = equal_by (order k j) (order j k)
  where
    equal_by : (k ≤ j) ⊎ (j + 1 ≤ k) → (j ≤ k) ⊎ (k + 1 ≤ j) → k ≡ j
    equal_by (inl a) (inl b) = omega (arith, a, b)
    equal_by (inl a) (inr b) = absurd (f (omega (arith, b)))
    equal_by (inr a) b = absurd (g (omega (arith, a)))

pub refusal_law : RefusalLaw
refusal_law ts = record {
  apart = λ k j p q. bad_or_deep source_at source_depths ts k j p.bad p.shallow q (order k j);
  bad = λ k j p q.
      equal k j (bad_least source_at source_depths ts k j p.bad q.bad) (bad_least source_at source_depths ts j k q.bad p.bad);
  deep = λ k j p q. equal k j (deep_least source_at source_depths ts k j p q) (deep_least source_at source_depths ts j k q p);
  sound = λ s k p q. q.bad.none (s, p.derives);
  shallow = λ s k p q. whole_shallow source_at source_depths ts s k p.derives p.shallow q;
}
