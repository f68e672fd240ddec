-- The place of a refusal, and the end of a tree, in the whole list.
use Rattle.std.proofs.Common.{◌≡◌, ℕ, ◌+◌, ◌-◌, ◌≤◌, ◌<◌, List, [], ◌∷◌, ◌++◌, length, take, refl, sym, ◌∙◌, ap, subst}
use Rattle.std.proofs.Common.{append_assoc, append-nil, length-append, arith}
use Rattle.std.proofs.Math.Seq.{take-append-add}
use lib.Seq.{take-append_seam}
use Rattle.vl_tree.specs.Derives.{Derivable, Begins, IsReach, IsBad, Within, Sinks, Shallow, IsTooDeep}
use Rattle.vl_read.specs.Reading.{Covers, Took, Stuck, Sunk}

covers_within : {T : Type 0} (us : List T) (ds : List ℕ) → Covers us ds → Within us ds
covers_within [] ds p = tt
covers_within (a ∷ us) [] p = absurd p
covers_within (a ∷ us) (d ∷ ds) p = (p.0, covers_within us ds p.1)

length_rest : {T : Type 0} (ts used rest : List T) → ts ≡ used ++ rest → length used ≡ length ts - length rest
length_rest ts used rest e = omega (arith, ap length e, length-append used rest)

-- the first of the tokens are those before the rest
front_is : {T : Type 0} (ts used rest : List T) (n : ℕ) → ts ≡ used ++ rest → length used ≡ n → take n ts ≡ used
front_is ts used rest n e h =
    ap (take n) e ∙ ap (λ k. take k (used ++ rest)) (sym h) ∙ take-append_seam used rest

module _ {T N : Type 0} (D : N → List T → List T → Type 0) (M : N → List ℕ) (F G : List T → Type 0) (f : F []) (g : G []) where
  at_place : (used rest : List T)
      → ((a : T) (after : List T) → rest ≡ a ∷ after → Begins D (used ++ a ∷ []) → ⊥)
      → length used < length (used ++ rest) → Begins D (take (length used + 1) (used ++ rest)) → ⊥
  at_place used [] at i b = absurd (omega (arith, length-append used []))
  at_place used (a ∷ after) at i b = at a after refl (subst (Begins D) (take-append-add used (a ∷ after) 1) b)

  reach_parts : (used rest : List T) → Begins D used
      → ((a : T) (after : List T) → rest ≡ a ∷ after → Begins D (used ++ a ∷ []) → ⊥) → IsReach D (used ++ rest) (length used)
  reach_parts used rest before at = record {
    within = omega (arith, length-append used rest);
    before = rw take-append_seam before;
    at = at_place used rest at;
  }

  reach_at : (ts used rest : List T) (n : ℕ) → ts ≡ used ++ rest → length used ≡ n
      → IsReach D (used ++ rest) (length used) → IsReach D ts n
  reach_at ts used rest n e h r = subst (λ x. IsReach D x n) (sym e) (subst (IsReach D (used ++ rest)) h r)

  one_more : (used more : List T) (a : T) (t : N) → D t ((used ++ a ∷ []) ++ more) [] → D t (used ++ a ∷ more) []
  one_more used more a t d = subst (λ x. D t x []) (append_assoc used (a ∷ []) more) d

  -- ---- a reader that is stuck

  stuck_length : (ts : List T) (left : ℕ) (s : Stuck D M F G ts left) → length s.used ≡ length ts - left
  stuck_length ts left s = omega (arith, length_rest ts s.used s.rest s.whole, s.place)

  stuck_front : (ts : List T) (left : ℕ) (s : Stuck D M F G ts left) → take (length ts - left) ts ≡ s.used
  stuck_front ts left s = front_is ts s.used s.rest (length ts - left) s.whole (stuck_length ts left s)

  pub stuck_reach : (ts : List T) (left : ℕ) → Stuck D M F G ts left → IsReach D ts (length ts - left)
  stuck_reach ts left s =
      reach_at ts s.used s.rest (length ts - left) s.whole (stuck_length ts left s)
      (reach_parts s.used s.rest (let v = s.viable [] f in (v.1, (v.0, v.2)))
      (λ a after e b. s.bad a after e b.1.0 b.0 [] (one_more s.used b.0 a b.1.0 b.1.1) g))

  whole_none : (used rest : List T)
      → ((a : T) (after : List T) → rest ≡ a ∷ after → (t : N) (y z : List T) → D t (used ++ a ∷ y) z → G z → ⊥)
      → ((t : N) (z : List T) → D t used z → G z → ⊥) → Derivable D (used ++ rest) → ⊥
  whole_none used [] bad short d = short d.0 [] (subst (λ x. D d.0 x []) (append-nil used) d.1) g
  whole_none used (a ∷ after) bad short d = bad a after refl d.0 after [] d.1 g

  -- the tokens derive nothing
  pub stuck_bad : (ts : List T) (left : ℕ) → Stuck D M F G ts left → IsBad D ts (length ts - left)
  stuck_bad ts left s = record {
    reach = stuck_reach ts left s;
    none = subst (λ x. Derivable D x → ⊥) (sym s.whole) (whole_none s.used s.rest s.bad s.short);
  }

  pub stuck_left : (ts : List T) (left : ℕ) → Stuck D M F G ts left → left ≤ length ts
  stuck_left ts left s = omega (arith, ap length s.whole, length-append s.used s.rest, s.place)

  -- nor do those before the place
  pub stuck_none : (ts : List T) (left : ℕ) → Stuck D M F G ts left → Derivable D (take (length ts - left) ts) → ⊥
  stuck_none ts left s =
      subst (λ x. Derivable D x → ⊥) (sym (stuck_front ts left s)) (λ d. s.short d.0 [] d.1 g)

  pub stuck_shallow : (ts : List T) (left : ℕ) → Stuck D M F G ts left → Shallow D M (take (length ts - left) ts)
  stuck_shallow ts left s =
      let v = s.viable [] f in
      subst (Shallow D M) (sym (stuck_front ts left s)) (v.1, v.0, v.2, v.3)

  -- ---- a token that is too deep

  pub sunk_left : (ts : List T) (left : ℕ) → Sunk D M F G ts left → left ≤ length ts
  sunk_left ts left s =
      omega (arith, ap length s.whole, length-append s.used s.rest, s.place, s.some)

  pub sunk_deep : (ts : List T) (left : ℕ) → Sunk D M F G ts left → IsTooDeep D M ts (length ts - left)
  sunk_deep ts left s =
      let v = s.viable [] f in
      let n = s.some in
      let l = length_rest ts s.used s.rest s.whole in
      let w = ap length s.whole ∙ length-append s.used s.rest in
      let q : length s.used ≡ (length ts - left) + 1 = omega (arith, l, w, n, s.place) in
      let h : take ((length ts - left) + 1) ts ≡ s.used = front_is ts s.used s.rest ((length ts - left) + 1) s.whole q in
      record {
        within = omega (arith, w, n, s.place);
        more = v.1;
        tree = v.0;
        derives = subst (λ x. D v.0 (x ++ v.1) []) (sym h) v.2;
        sinks = subst (λ x. Sinks x (M v.0)) (sym h) v.3;
        each = λ us t d. subst (λ x. Sinks x (M t)) (sym h) (s.each t us [] (subst (λ x. D t (x ++ us) []) h d) g);
      }

  -- ---- a tree that was read

  took_front : (t : N) (ts rest : List T) (p : Took D M F G t ts rest) → take (length ts - length rest) ts ≡ p.used
  took_front t ts rest p =
      front_is ts p.used rest (length ts - length rest) p.whole (length_rest ts p.used rest p.whole)

  no_more : (t : N) (ts rest : List T) (p : Took D M F G t ts rest) (a : T) (after : List T) → rest ≡ a ∷ after
      → (t' : N) (y : List T) → D t' (p.used ++ a ∷ y) [] → ⊥
  no_more t ts rest p a after e t' y d = let h : [] ≡ a ∷ y = (p.forced a after e t' y [] d g).1 in absurd cc

  pub took_reach : (t : N) (ts rest : List T) → Took D M F G t ts rest → IsReach D ts (length ts - length rest)
  took_reach t ts rest p =
      reach_at ts p.used rest (length ts - length rest) p.whole (length_rest ts p.used rest p.whole)
      (reach_parts p.used rest ([], (t, p.any [] f))
      (λ a after e c. no_more t ts rest p a after e c.1.0 c.0 (one_more p.used c.0 a c.1.0 c.1.1)))

  pub took_derives : (t : N) (ts rest : List T) → Took D M F G t ts rest → D t (take (length ts - length rest) ts) []
  took_derives t ts rest p =
      subst (λ x. D t x []) (sym (took_front t ts rest p)) (subst (λ x. D t x []) (append-nil p.used) (p.any [] f))

  pub took_only : (t : N) (ts rest : List T) → Took D M F G t ts rest → (t' : N) → D t' (take (length ts - length rest) ts) []
      → t' ≡ t
  took_only t ts rest p t' d = (p.ended t' [] (subst (λ x. D t' x []) (took_front t ts rest p) d) g).0

  pub took_shallow : (t : N) (ts rest : List T) → Took D M F G t ts rest → Within (take (length ts - length rest) ts) (M t)
  took_shallow t ts rest p =
      subst (λ x. Within x (M t)) (sym (took_front t ts rest p)) (covers_within p.used (M t) p.deep)

  rest_none : (t : N) (ts rest : List T) (p : Took D M F G t ts rest) → (rest ≡ [] → ⊥) → (r : List T) → rest ≡ r
      → Derivable D (p.used ++ r) → ⊥
  rest_none t ts rest p n [] e d = n e
  rest_none t ts rest p n (a ∷ after) e d = no_more t ts rest p a after e d.0 after d.1

  -- a tree ends before the end of the list
  pub rest_bad : (t : N) (ts rest : List T) → Took D M F G t ts rest → (rest ≡ [] → ⊥) → IsBad D ts (length ts - length rest)
  rest_bad t ts rest p n = record {
    reach = took_reach t ts rest p;
    none = subst (λ x. Derivable D x → ⊥) (sym p.whole) (rest_none t ts rest p n rest refl);
  }

  pub rest_shallow : (t : N) (ts rest : List T) → Took D M F G t ts rest → Shallow D M (take (length ts - length rest) ts)
  rest_shallow t ts rest p =
      let h = took_derives t ts rest p in
      ([], t, subst (λ x. D t x []) (sym (append-nil (take (length ts - length rest) ts))) h, took_shallow t ts rest p)
