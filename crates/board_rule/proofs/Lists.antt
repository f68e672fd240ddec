-- Lists of what seats have.
use Rattle.std.proofs.Common.{◌≡◌, ◌≢◌, ◌⊎◌, ℕ, zero, suc, List, [], ◌∷◌, ◌++◌}
use Rattle.std.proofs.Common.{length, map, set, get_or, refl, sym, ap, ◌∙◌, inl, inr, ⊎_elim}
use mathlib.Core.Option.{some, some-injective, some-ne-none}
use lib.ListN.{get_elem?}
use Rattle.board_rule.specs.Rule.{Each, Apart}

module _ {A : Type 0} (P Q : A → Type 0) where
  pub each_map : ((x : A) → P x → Q x) → (xs : List A) → Each P xs → Each Q xs
  each_map f [] e = tt
  each_map f (x ∷ xs) e = (f x e.0, each_map f xs e.1)

  -- the elements after a change of each
  pub each_changed : (g : A → A) → ((x : A) → P x → Q (g x)) → (xs : List A) → Each P xs → Each Q (map g xs)
  each_changed g f [] e = tt
  each_changed g f (x ∷ xs) e = (f x e.0, each_changed g f xs e.1)

pub each_both : {A : Type 0} (P Q R : A → Type 0) → ((x : A) → P x → Q x → R x) → (xs : List A) → Each P xs → Each Q xs → Each R xs
each_both P Q R f [] p q = tt
each_both P Q R f (x ∷ xs) p q = (f x p.0 q.0, each_both P Q R f xs p.1 q.1)

pub each_of_map : {A B : Type 0} (P : B → Type 0) (f : A → B) (xs : List A) → Each P (map f xs) → Each (λ (x : A). P (f x)) xs
each_of_map P f [] e = tt
each_of_map P f (x ∷ xs) e = (e.0, each_of_map P f xs e.1)

module _ {A : Type 0} (P : A → Type 0) where
  pub each_append : (xs ys : List A) → Each P xs → Each P ys → Each P (xs ++ ys)
  each_append [] ys a b = b
  each_append (x ∷ xs) ys a b = (a.0, each_append xs ys a.1 b)

-- the last place has the last view
pub at_end : {A : Type 0} (l : List A) (a b : A) (j : ℕ) → get_elem? (l ++ a ∷ []) j ≡ some b
    → (get_elem? l j ≡ some b) ⊎ ((j ≡ length l) × (a ≡ b))
at_end [] a b zero e = inr (refl, some-injective a b e)
at_end [] a b (suc j) e = absurd (some-ne-none b (sym e))
at_end (x ∷ xs) a b zero e = inl e
at_end (x ∷ xs) a b (suc j) e = ⊎_elim inl (λ t. inr (ap suc t.0, t.1)) (at_end xs a b j e)

-- ---- numbers that differ

pub each_of_list : (P : ℕ → Type 0) {A : Type 0} (f : A → ℕ) (xs : List A) → Each (λ (x : A). P (f x)) xs → Each P (map f xs)
each_of_list P f [] e = tt
each_of_list P f (x ∷ xs) e = (e.0, each_of_list P f xs e.1)

-- the numbers of two lists, where those of one are apart from those of the other
pub apart_append : (xs ys : List ℕ) → Apart xs → Apart ys → Each (λ (x : ℕ). Each (λ (y : ℕ). y ≢ x) ys) xs → Apart (xs ++ ys)
apart_append [] ys a b e = b
apart_append (x ∷ xs) ys a b e = (each_append (λ (y : ℕ). y ≢ x) xs ys a.0 e.0, apart_append xs ys a.1 b e.1)

-- elements of two lists that a function sends to different places have different numbers
pub apart_by : {A : Type 0} (number : A → ℕ) (home : ℕ → ℕ) (i j : ℕ) → i ≢ j → (xs ys : List A) → Each (λ (x : A). home (number x) ≡ i) xs
    → Each (λ (y : A). home (number y) ≡ j) ys → Each (λ (x : ℕ). Each (λ (y : ℕ). y ≢ x) (map number ys)) (map number xs)
apart_by number home i j ne [] ys a b = tt
apart_by number home i j ne (x ∷ xs) ys a b = (
  each_of_list (λ (y : ℕ). y ≢ number x) number ys
      (each_map (λ y. home (number y) ≡ j) (λ y. number y ≢ number x) (λ y e t. ne (sym a.0 ∙ ap home (sym t) ∙ e)) ys b),
  apart_by number home i j ne xs ys a.1 b,
)

-- a change that keeps numbers
pub same_numbers : {A : Type 0} (number : A → ℕ) (g : A → A) → ((x : A) → number (g x) ≡ number x) → (xs : List A) → map number (map g xs) ≡ map number xs
same_numbers number g same [] = refl
same_numbers number g same (x ∷ xs) = λ i. same x i ∷ same_numbers number g same xs i

-- the place that a view was put at has it
pub set_at : {A : Type 0} (l : List A) (i : ℕ) (a b : A) → get_elem? l i ≡ some a → get_elem? (set l i b) i ≡ some b
set_at [] i a b e = absurd (some-ne-none a (sym e))
set_at (x ∷ xs) zero a b e = refl
set_at (x ∷ xs) (suc i) a b e = set_at xs i a b e

-- what stands at a place, put there again
pub set_again : {A : Type 0} (xs : List A) (k : ℕ) (d : A) → set xs k (get_or xs k d) ≡ xs
set_again [] k d = refl
set_again (x ∷ xs) zero d = refl
set_again {A} (x ∷ xs) (suc k) d = ap (λ (ys : List A). x ∷ ys) (set_again xs k d)
