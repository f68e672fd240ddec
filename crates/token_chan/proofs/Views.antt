-- What is said of all passes, where one changes or a new one comes.
use Rattle.std.proofs.Common.{◌≡◌, ◌≢◌, ◌⊎◌, ℕ, zero, suc, List, [], ◌∷◌, ◌++◌, length, set, refl, sym, ap, subst, inl, inr, ⊎_elim}
use mathlib.Core.Option.{some, some-injective, some-ne-none}
use lib.ListN.{get_elem?}
use Rattle.atomic_table.proofs.Lists.{at_set}

-- the last place has the last view
pub at_end : {V : Type 0} (l : List V) (a b : V) (j : ℕ) → get_elem? (l ++ a ∷ []) j ≡ some b
    → (get_elem? l j ≡ some b) ⊎ ((j ≡ length l) × (a ≡ b))
at_end [] a b zero e = inr (refl, some-injective a b e)
at_end [] a b (suc j) e = absurd (some-ne-none b (sym e))
at_end (x ∷ xs) a b zero e = inl e
at_end (x ∷ xs) a b (suc j) e = ⊎_elim inl (λ t. inr (ap suc t.0, t.1)) (at_end xs a b j e)

module _ {V : Type 0} where
  abbrev pub All : (ℕ → V → Type 0) → List V → Type 0
  All F views = (j : ℕ) (v : V) → get_elem? views j ≡ some v → F j v

  module _ (F G : ℕ → V → Type 0) (views : List V) (id : ℕ) (w : V) where
    -- one view changes, and of the others what is said follows from what was said
    pub all_set : All F views → G id w → ((j : ℕ) (u : V) → j ≢ id → F j u → G j u) → All G (set views id w)
    all_set old mine others j u e = ⊎_elim
        (λ (x : (j ≡ id) × (w ≡ u)). subst (λ (y : ℕ × V). G y.0 y.1) (λ i. (sym x.0 i, x.1 i)) mine)
        (λ (x : (j ≢ id) × (get_elem? views j ≡ some u)). others j u x.0 (old j u x.1)) (at_set views id j w u e)

  -- a new view stands last
  pub all_more : (G : ℕ → V → Type 0) (views : List V) (r : V) → All G views → G (length views) r → All G (views ++ r ∷ [])
  all_more G views r old new j u e = ⊎_elim (λ (x : get_elem? views j ≡ some u). old j u x)
      (λ (x : (j ≡ length views) × (r ≡ u)). subst (λ (y : ℕ × V). G y.0 y.1) (λ i. (sym x.0 i, x.1 i)) new)
      (at_end views r u j e)

  -- the first view, alone
  pub all_first : (G : ℕ → V → Type 0) (w : V) → G 0 w → All G (w ∷ [])
  all_first G w new zero u e = subst (G 0) (some-injective w u e) new
  all_first G w new (suc j) u e = absurd (some-ne-none u (sym e))
