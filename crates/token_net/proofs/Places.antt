-- Families by number: one place changed, sums, and the least of the places that pass a test.
use Rattle.std.proofs.Common.{◌≡◌, ◌≢◌, ◌⊎◌, ℕ, zero, suc, ◌+◌, ◌*◌, ◌<◌, ◌≤◌, ◌==◌, Bool, true, false, true≢false}
use Rattle.std.proofs.Common.{if◌then◌else◌, refl, sym, ap, ◌∙◌, subst, inl, inr, ⊎_elim, arith, eq-eqb}
use Rattle.std.proofs.lemmas.Bool.{ne_eqb, lt-ltb, le-ltb, cases_lt, cases_eq}
use Rattle.token_net.specs.Families.{total, put, put_below}

-- what holds of both answers holds of the choice
pub choose : {A : Type 0} (P : A → Type 0) (a b : ℕ) (x y : A) → (a ≡ b → P x) → (a ≢ b → P y)
    → P (if a == b then x else y)
choose P a b x y f g = ⊎_elim (λ (e : a ≡ b). rw (eq-eqb a b e) (f e)) (λ (ne : a ≢ b). rw (ne_eqb a b ne) (g ne))
    (cases_eq a b)

pub put_cases : {A : Type 0} (P : A → Type 0) (k : ℕ) (v : A) (f : ℕ → A) (j : ℕ) → (j ≡ k → P v) → (j ≢ k → P (f j))
    → P (put k v f j)
put_cases P k v f j a b = choose P j k v (f j) a b

pub put_same : {A : Type 0} (k : ℕ) (v : A) (f : ℕ → A) → put k v f k ≡ v
put_same k v f = rw (eq-eqb k k refl) refl

pub put_other : {A : Type 0} (k : ℕ) (v : A) (f : ℕ → A) (j : ℕ) → j ≢ k → put k v f j ≡ f j
put_other k v f j ne = rw (ne_eqb j k ne) refl

-- what is read of each place: of the new one and of the others
pub put_read : {A B : Type 0} (g : A → B) (k : ℕ) (v : A) (f : ℕ → A) (j : ℕ)
    → g (put k v f j) ≡ put k (g v) (λ x. g (f x)) j
put_read g k v f j = choose (λ a. g a ≡ put k (g v) (λ x. g (f x)) j) j k v (f j)
    (λ e. sym (subst (λ (x : ℕ). put k (g v) (λ y. g (f y)) x ≡ g v) (sym e) (put_same k (g v) (λ y. g (f y)))))
    (λ ne. sym (put_other k (g v) (λ y. g (f y)) j ne))

-- what the new place has as the old one had it, each place has
pub put_keeps : {A B : Type 0} (g : A → B) (k : ℕ) (v : A) (f : ℕ → A) (j : ℕ) → g v ≡ g (f k)
    → g (put k v f j) ≡ g (f j)
put_keeps g k v f j same = put_cases (λ a. g a ≡ g (f j)) k v f j (λ e. same ∙ ap (λ (x : ℕ). g (f x)) (sym e)) (λ _.
    refl)

-- ---- the places below a number changed

pub put_below_cases : {A : Type 0} (P : A → Type 0) (n : ℕ) (g f : ℕ → A) (j : ℕ) → (j < n → P (g j))
    → (n ≤ j → P (f j)) → P (put_below n g f j)
put_below_cases P n g f j a b = ⊎_elim (λ (l : j < n). rw (lt-ltb j n l) (a l)) (λ (m : n ≤ j). rw (le-ltb j n m) (b m))
    (cases_lt j n)

pub put_below_here : {A : Type 0} (n : ℕ) (g f : ℕ → A) (j : ℕ) → j < n → put_below n g f j ≡ g j
put_below_here n g f j l = rw (lt-ltb j n l) refl

-- what g has as the old one had it, each place has
pub put_below_keeps : {A B : Type 0} (h : A → B) (n : ℕ) (g f : ℕ → A) (j : ℕ) → h (g j) ≡ h (f j)
    → h (put_below n g f j) ≡ h (f j)
put_below_keeps h n g f j same = put_below_cases (λ a. h a ≡ h (f j)) n g f j (λ _. same) (λ _. refl)

-- ---- the first and the least

-- some place below n passes, or none does
abbrev pub Found : ℕ → (ℕ → Bool) → Type 0
Found n p = ((k : ℕ) × (k < n) × (p k ≡ true)) ⊎ ((k : ℕ) → k < n → p k ≡ false)

found_here : (n : ℕ) (p : ℕ → Bool) (b : Bool) → p n ≡ b → ((k : ℕ) → k < n → p k ≡ false) → Found (suc n) p
found_here n p true e none = inl (n, omega arith, e)
found_here n p false e none = inr (λ k l. ⊎_elim (λ (s : k ≡ n). ap p s ∙ e)
    (λ (o : k ≢ n). none k (omega (arith, o))) (cases_eq k n))

pub search_for : (n : ℕ) (p : ℕ → Bool) → Found n p
search_for zero p = inr (λ k l. absurd (omega arith))
search_for (suc n) p = ⊎_elim (λ (f : (k : ℕ) × (k < n) × (p k ≡ true)). inl (f.0, omega (arith, f.1), f.2))
    (λ (none : (k : ℕ) → k < n → p k ≡ false). found_here n p (p n) refl none)
    (search_for n p)

-- a place that passes, and at which f is least of all that pass
abbrev pub IsLeast : ℕ → (ℕ → Bool) → (ℕ → ℕ) → ℕ → Type 0
IsLeast n p f k = (k < n) × (p k ≡ true) × ((j : ℕ) → j < n → p j ≡ true → f k ≤ f j)

abbrev pub Least : ℕ → (ℕ → Bool) → (ℕ → ℕ) → Type 0
Least n p f = ((k : ℕ) × IsLeast n p f k) ⊎ ((k : ℕ) → k < n → p k ≡ false)

least_here : (n : ℕ) (p : ℕ → Bool) (f : ℕ → ℕ) (b : Bool) → p n ≡ b → Least n p f → Least (suc n) p f
least_here n p f false e (inl h) = inl (
  h.0,
  (
    omega (arith, h.1.0),
    h.1.1,
    λ j l t. ⊎_elim
        (λ (s : j ≡ n). absurd (true≢false (sym t ∙ ap p s ∙ e)))
        (λ (o : j ≢ n). h.1.2 j (omega (arith, o)) t) (cases_eq j n),
  ),
)
least_here n p f false e (inr h) = inr (λ j l. ⊎_elim (λ (s : j ≡ n). ap p s ∙ e)
    (λ (o : j ≢ n). h j (omega (arith, o))) (cases_eq j n))
least_here n p f true e (inr h) = inl (
  n,
  (
    omega arith,
    e,
    λ j l t. ⊎_elim
        (λ (s : j ≡ n). subst (λ (q : ℕ). f n ≤ f q) (sym s) (omega arith))
        (λ (o : j ≢ n). absurd (true≢false (sym t ∙ h j (omega (arith, o))))) (cases_eq j n),
  ),
)
least_here n p f true e (inl h) = ⊎_elim
    (λ (l : f n < f h.0). inl (
      n,
      (
        omega arith,
        e,
        λ j b t. ⊎_elim
            (λ (s : j ≡ n). subst (λ (q : ℕ). f n ≤ f q) (sym s) (omega arith))
            (λ (o : j ≢ n). let m = h.1.2 j (omega (arith, o)) t in omega (arith, l, m)) (cases_eq j n),
      ),
    ))
    (λ (g : f h.0 ≤ f n). inl (
      h.0,
      (
        omega (arith, h.1.0),
        h.1.1,
        λ j b t. ⊎_elim
            (λ (s : j ≡ n). subst (λ (q : ℕ). f h.0 ≤ f q) (sym s) g)
            (λ (o : j ≢ n). h.1.2 j (omega (arith, o)) t) (cases_eq j n),
      ),
    ))
    (cases_lt (f n) (f h.0))

pub least_of : (n : ℕ) (p : ℕ → Bool) (f : ℕ → ℕ) → Least n p f
least_of zero p f = inr (λ k l. absurd (omega arith))
least_of (suc n) p f = least_here n p f (p n) refl (least_of n p f)

-- the place at which f is least
pub least_place : (n : ℕ) (f : ℕ → ℕ) → 1 ≤ n → (k : ℕ) × (k < n) × ((j : ℕ) → j < n → f k ≤ f j)
least_place n f some = ⊎_elim
    (λ (h : (k : ℕ) × IsLeast n (λ _. true) f k). (h.0, h.1.0, λ j l. h.1.2 j l refl))
    (λ (none : (k : ℕ) → k < n → true ≡ false). absurd (true≢false (none 0 some)))
    (least_of n (λ _. true) f)

-- ---- sums

pub total_le : (n : ℕ) (f g : ℕ → ℕ) → ((j : ℕ) → j < n → f j ≤ g j) → total n f ≤ total n g
total_le zero f g h = omega arith
total_le (suc n) f g h =
    let a = total_le n f g (λ j l. h j (omega (arith, l))) in let b = h n (omega arith) in omega (arith, a, b)

pub total_less : (n : ℕ) (f g : ℕ → ℕ) (k : ℕ) → k < n → f k < g k → ((j : ℕ) → j < n → f j ≤ g j)
    → total n f < total n g
total_less zero f g k l s h = absurd (omega arith)
total_less (suc n) f g k l s h = ⊎_elim
    (λ (e : k ≡ n).
    let a = total_le n f g (λ j b. h j (omega (arith, b))) in
    let c : f n < g n = subst (λ (q : ℕ). f q < g q) e s in
    omega (arith, a, c))
    (λ (o : k ≢ n).
    let a = total_less n f g k (omega (arith, o)) s (λ j b. h j (omega (arith, b))) in
    let c = h n (omega arith) in
    omega (arith, a, c))
    (cases_eq k n)

-- a sum in which each number is raised by the same
pub total_raised : (n : ℕ) (f g : ℕ → ℕ) (k : ℕ) → ((j : ℕ) → j < n → f j ≡ g j + k) → total n f ≡ total n g + n * k
total_raised zero f g k h = omega arith
total_raised (suc n) f g k h =
    let a = total_raised n f g k (λ j l. h j (omega (arith, l))) in let b = h n (omega arith) in omega (arith, a, b)

pub total_none : (n : ℕ) → total n (λ _. 0) ≡ 0
total_none zero = refl
total_none (suc n) = let a = total_none n in omega (arith, a)

pub total_same : (n : ℕ) (f : ℕ → ℕ) (k : ℕ) → ((j : ℕ) → j < n → f j ≡ k) → total n f ≡ n * k
total_same n f k h =
    let a = total_raised n f (λ _. 0) k (λ j l. let e = h j l in omega (arith, e)) in
    let b = total_none n in
    omega (arith, a, b)
