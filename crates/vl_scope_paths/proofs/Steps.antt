-- When two paths are the same.
use Rattle.std.proofs.Common.{◌≡◌, Bool, true, false, ◌&&◌, [], ◌∷◌, ◌++◌, refl, sym, ap, ◌∙◌, subst, arith}
use Rattle.std.specs.Prelude.{bytes_eq, ℤ, pos, negsuc, int_le, Option, Some, None, ◌==◌}
use Rattle.vl_store.proofs.Paths.{path_itself}
use Rattle.std.proofs.lemmas.Slice.Eq.{bytes_eq-Decides}
use Rattle.std.proofs.lemmas.Bool.{false≢true, eqb-true}
use Rattle.vl_value.specs.Paths.{Text, Step, named, turn, unnamed, Path, same_number, same_turn, same_step, same_path, below}

pub same_text : (x y : Text) → bytes_eq x y ≡ true → x ≡ y
same_text x y = (bytes_eq-Decides x y).0

pub itself : (x : Text) → bytes_eq x x ≡ true
itself x = (bytes_eq-Decides x x).1 refl

-- a test that can't hold
pub not_so : (b : Bool) → (b ≡ true → ⊥) → b ≡ false
not_so true h = absurd (h refl)
not_so false h = refl

pub is_not : (b : Bool) → b ≡ false → b ≡ true → ⊥
is_not b f t = absurd (false≢true (sym f ∙ t))

pub texts_turned : (x y : Text) → bytes_eq x y ≡ false → bytes_eq y x ≡ false
texts_turned x y h = not_so (bytes_eq y x) (λ t. is_not (bytes_eq x y) h (subst (λ z. bytes_eq x z ≡ true) (sym (same_text y x t)) (itself x)))

pub both_hold : (a b : Bool) → (a && b) ≡ true → (a ≡ true) × (b ≡ true)
both_hold true b h = (refl, h)
both_hold false b h = absurd (false≢true h)

pub first_not : (a b : Bool) → a ≡ false → (a && b) ≡ false
first_not true b h = absurd cc
first_not false b h = refl

pub second_not : (a b : Bool) → b ≡ false → (a && b) ≡ false
second_not true b h = h
second_not false b h = refl

-- paths from one place on differ where the steps there do
pub step_differs : (p : Path) (x y : Step) (xs ys : Path) → same_step x y ≡ false → same_path (p ++ x ∷ xs) (p ++ y ∷ ys) ≡ false
step_differs [] x y xs ys h = first_not (same_step x y) (same_path xs ys) h
step_differs (z ∷ p) x y xs ys h = second_not (same_step z z) _ (step_differs p x y xs ys h)

-- a path differs from a longer one
pub longer_differs : (p : Path) (y : Step) (ys : Path) → same_path p (p ++ y ∷ ys) ≡ false
longer_differs [] y ys = refl
longer_differs (z ∷ p) y ys = second_not (same_step z z) _ (longer_differs p y ys)

behind_step : (b c e : Bool) → (b && c) ≡ false → (c ≡ false → e ≡ false) → (b && e) ≡ false
behind_step true c e h go = go h
behind_step false c e h go = refl

-- objects of scopes whose paths differ, and of one scope whose names do
pub below_differs : (p r : Path) (x y : Text) → same_path p r ≡ false → same_path (below p x) (below r y) ≡ false
below_differs [] [] x y h = absurd cc
below_differs [] (z ∷ []) x y h = second_not (same_step (named x) z) false refl
below_differs [] (z ∷ (w ∷ r)) x y h = second_not (same_step (named x) z) false refl
below_differs (z ∷ []) [] x y h = second_not (same_step z (named y)) false refl
below_differs (z ∷ (w ∷ p)) [] x y h = second_not (same_step z (named y)) false refl
below_differs (z ∷ p) (w ∷ r) x y h = behind_step (same_step z w) (same_path p r) _ h (below_differs p r x y)

pub name_differs : (p : Path) (x y : Text) → bytes_eq x y ≡ false → same_path (below p x) (below p y) ≡ false
name_differs p x y h = step_differs p (named x) (named y) [] [] h

-- two numbers of which each is at most the other
pub both_at_most : (a b : ℤ) → same_number a b ≡ true → a ≡ b
both_at_most (pos m) (pos n) e = let h = both_hold (int_le (pos m) (pos n)) (int_le (pos n) (pos m)) e in grind (arith, h.0, h.1)
both_at_most (negsuc m) (negsuc n) e = let h = both_hold (int_le (negsuc m) (negsuc n)) (int_le (negsuc n) (negsuc m)) e in grind (arith, h.0, h.1)
both_at_most (pos m) (negsuc n) e = absurd cc
both_at_most (negsuc m) (pos n) e = absurd cc

-- ---- what is the same is equal

same_optional : (a b : Option ℤ) → same_turn a b ≡ true → a ≡ b
same_optional None None e = refl
same_optional (Some a) (Some b) e = ap Some (both_at_most a b e)
same_optional None (Some b) e = absurd cc
same_optional (Some a) None e = absurd cc

same_steps : (x y : Step) → same_step x y ≡ true → x ≡ y
same_steps (named x) (named y) e = ap named (same_text x y e)
same_steps (turn x a) (turn y b) e = let h = both_hold (bytes_eq x y) (same_number a b) e in
    (λ i. turn (same_text x y h.0 i) (both_at_most a b h.1 i))
same_steps (unnamed n a) (unnamed m b) e = let h = both_hold (n == m) (same_turn a b) e in
    (λ i. unnamed (eqb-true n m h.0 i) (same_optional a b h.1 i))
same_steps (named x) (turn y b) e = absurd cc
same_steps (named x) (unnamed m b) e = absurd cc
same_steps (turn x a) (named y) e = absurd cc
same_steps (turn x a) (unnamed m b) e = absurd cc
same_steps (unnamed n a) (named y) e = absurd cc
same_steps (unnamed n a) (turn y b) e = absurd cc

pub same_paths : (p r : Path) → same_path p r ≡ true → p ≡ r
same_paths [] [] e = refl
same_paths (x ∷ p) (y ∷ r) e = let h = both_hold (same_step x y) (same_path p r) e in
    (λ i. same_steps x y h.0 i ∷ same_paths p r h.1 i)
same_paths [] (y ∷ r) e = absurd cc
same_paths (x ∷ p) [] e = absurd cc

pub paths_turned : (p r : Path) → same_path p r ≡ false → same_path r p ≡ false
paths_turned p r h = not_so (same_path r p) (λ t. is_not (same_path p r) h (subst (λ w. same_path p w ≡ true) (sym (same_paths r p t)) (path_itself p)))

abbrev pub UnlikePaths : Path → Path → Type 0
UnlikePaths p r = same_path p r ≡ false
