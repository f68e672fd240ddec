-- Lists by place.
use Rattle.std.proofs.Common.{◌≡◌, ℕ, zero, suc, ◌<◌, inl, inr, List, [], ◌∷◌, ◌++◌, length, map, refl, sym, ap, subst, ◌∙◌, arith}
use Rattle.std.specs.Prelude.{Some, slice_get, slice_index_or}
use Rattle.std.proofs.lemmas.Bool.{cases_lt}
use Rattle.vl_value.specs.Reads.{up_to}

-- an element of two lists
pub get_left : {X : Type 0} (xs ys : List X) (i : ℕ) → i < length xs → slice_get (xs ++ ys) i ≡ slice_get xs i
get_left [] ys i l = absurd (omega arith)
get_left (x ∷ xs) ys zero l = refl
get_left (x ∷ xs) ys (suc i) l = get_left xs ys i (omega (arith, l))

get_last : {X : Type 0} (xs : List X) (x : X) (i : ℕ) → i ≡ length xs → slice_get (xs ++ x ∷ []) i ≡ Some x
get_last [] x zero l = refl
get_last [] x (suc i) l = absurd (omega (arith, l))
get_last (y ∷ xs) x zero l = absurd (omega (arith, l))
get_last (y ∷ xs) x (suc i) l = get_last xs x i (omega (arith, l))

longer_by_one : {X : Type 0} (xs : List X) (x : X) → length (xs ++ x ∷ []) ≡ suc (length xs)
longer_by_one [] x = refl
longer_by_one (y ∷ xs) x = ap suc (longer_by_one xs x)

-- the numbers below another, in order
pub count_up : (n : ℕ) → length (up_to n) ≡ n
count_up zero = refl
count_up (suc n) = longer_by_one (up_to n) n ∙ ap suc (count_up n)

pub number_up : (n i : ℕ) → i < n → slice_get (up_to n) i ≡ Some i
number_up zero i l = absurd (omega (arith, l))
number_up (suc n) i l = elim (cases_lt i n) [
  | inl less ↦ get_left (up_to n) (n ∷ []) i (subst (λ m. i < m) (sym (count_up n)) less) ∙ number_up n i less
  | inr from ↦
      let e : i ≡ n = omega (arith, l, from) in
      get_last (up_to n) n i (e ∙ sym (count_up n)) ∙ ap Some (sym e)
]

-- a list is another one, and two functions list the same, where they do at each place
pub listed : {X Y : Type 0} (d : Y) (f : X → Y) (xs : List X) (ns : List Y) → length ns ≡ length xs
    → ((t : ℕ) (x : X) → slice_get xs t ≡ Some x → f x ≡ slice_index_or ns t d) → map f xs ≡ ns
listed d f [] [] count each = refl
listed d f [] (n ∷ ns) count each = absurd (omega (arith, count))
listed d f (x ∷ xs) [] count each = absurd (omega (arith, count))
listed d f (x ∷ xs) (n ∷ ns) count each = ap (λ y. y ∷ map f xs) (each 0 x refl)
    ∙ ap (λ r. n ∷ r) (listed d f xs ns (omega (arith, count)) (λ t y at. each (suc t) y at))

pub listed_alike : {X Y : Type 0} (f g : X → Y) (xs : List X) → ((t : ℕ) (x : X) → slice_get xs t ≡ Some x → f x ≡ g x)
    → map f xs ≡ map g xs
listed_alike f g [] each = refl
listed_alike f g (x ∷ xs) each = ap (λ y. y ∷ map f xs) (each 0 x refl)
    ∙ ap (λ r. g x ∷ r) (listed_alike f g xs (λ t y at. each (suc t) y at))
