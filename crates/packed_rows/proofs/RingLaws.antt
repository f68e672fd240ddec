-- The last rows in a ring.
use Rattle.std.proofs.Common.{◌≡◌, ℕ, suc, ◌+◌, ◌-◌, ◌<◌, ◌≤◌, List, [], ◌∷◌, ◌++◌, length, take, drop, get_or, set, sym, ap, ◌∙◌, arith, append-nil, append_assoc, length-append, inl, inr}
use Rattle.std.specs.Prelude.{Bool, if◌then◌else◌, ◌==◌}
use Rattle.std.proofs.lemmas.Bool.{cases_Bool}
use Rattle.std.proofs.lemmas.Bool.Decides.{nat_tests}
use Rattle.std.proofs.lemmas.List.{drop_more, drop-set-lt, take_more_set, take_all, drop_all, get_or-drop, get_or-take, get_or_append_left, get_or-append_right, length-drop, length-take, length-set}
use Rattle.packed_rows.specs.Kept.{last_ones}
use Rattle.packed_rows.specs.Turned.{turned}

module _ {X : Type 0} where
  pub length_turned : (n : ℕ) (xs : List X) → n ≤ length xs → length (turned n xs) ≡ length xs
  length_turned n xs h = omega (arith, h, length-append (drop n xs) (take n xs), length-drop n xs, length-take n xs)

  -- a ring that begins at its first place
  pub turned_none : (xs : List X) → turned 0 xs ≡ xs
  turned_none xs = append-nil xs

  -- an element where there is room
  pub pushed : (xs : List X) (x : X) (most : ℕ) → length xs < most → turned 0 (xs ++ x ∷ []) ≡ last_ones most (turned 0 xs ++ x ∷ [])
  pushed xs x most h =
      let long : length (xs ++ x ∷ []) ≡ length xs + 1 = length-append xs (x ∷ []) in
      let none : length (turned 0 xs ++ x ∷ []) - most ≡ 0 = omega (arith, h, long, ap (λ (ys : List X). length (ys ++ x ∷ [])) (turned_none xs)) in
      turned_none (xs ++ x ∷ []) ∙ ap (λ (ys : List X). ys ++ x ∷ []) (sym (turned_none xs))
      ∙ ap (λ (i : ℕ). drop i (turned 0 xs ++ x ∷ [])) (sym none)

  -- an element in the place of the oldest one
  replaced : (n : ℕ) (xs : List X) (x : X) → n < length xs
      → drop (n + 1) (set xs n x) ++ take (n + 1) (set xs n x) ≡ drop 1 (turned n xs ++ x ∷ [])
  replaced n xs x h =
      let next : suc n ≡ n + 1 = omega arith in
      let rest : drop (n + 1) (set xs n x) ≡ drop (n + 1) xs = drop-set-lt (n + 1) xs n x (omega arith) in
      let front : take (n + 1) (set xs n x) ≡ take n xs ++ x ∷ [] = take_more_set xs n x h in
      let first : drop n xs ≡ get_or xs n x ∷ drop (n + 1) xs = drop_more xs n x h in
      ap (λ (ys : List X). ys ++ take (n + 1) (set xs n x)) rest ∙ ap (λ (ys : List X). drop (n + 1) xs ++ ys) front
      ∙ sym (append_assoc (drop (n + 1) xs) (take n xs) (x ∷ []))
      ∙ sym (ap (λ (ys : List X). drop 1 ((ys ++ take n xs) ++ x ∷ [])) first)

  one_beyond : (n most : ℕ) (xs : List X) (x : X) → n ≤ length xs → length xs ≡ most
      → drop 1 (turned n xs ++ x ∷ []) ≡ last_ones most (turned n xs ++ x ∷ [])
  one_beyond n most xs x h e =
      let long : length (turned n xs ++ x ∷ []) ≡ length (turned n xs) + 1 = length-append (turned n xs) (x ∷ []) in
      let one : 1 ≡ length (turned n xs ++ x ∷ []) - most = omega (arith, long, length_turned n xs h, e) in
      ap (λ (i : ℕ). drop i (turned n xs ++ x ∷ [])) one

  -- and the next place, within the ring and at its end
  pub turned_on : (n most : ℕ) (xs : List X) (x : X) → n < length xs → length xs ≡ most
      → turned (n + 1) (set xs n x) ≡ last_ones most (turned n xs ++ x ∷ [])
  turned_on n most xs x h e = replaced n xs x h ∙ one_beyond n most xs x (omega (arith, h)) e

  pub turned_round : (n most : ℕ) (xs : List X) (x : X) → n < length xs → length xs ≡ most → n + 1 ≡ most
      → turned 0 (set xs n x) ≡ last_ones most (turned n xs ++ x ∷ [])
  turned_round n most xs x h e end =
      let long : length (set xs n x) ≡ n + 1 = omega (arith, length-set xs n x, e, end) in
      let none : drop (n + 1) (set xs n x) ≡ [] = drop_all (n + 1) (set xs n x) (omega (arith, long)) in
      let all : take (n + 1) (set xs n x) ≡ set xs n x = take_all (n + 1) (set xs n x) (omega (arith, long)) in
      turned_none (set xs n x) ∙ sym (ap (λ (ys : List X). ys ++ take (n + 1) (set xs n x)) none ∙ all) ∙ turned_on n most xs x h e

  -- an element by its number
  pub turned_front : (n k : ℕ) (xs : List X) (d : X) → n ≤ length xs → k < length xs - n → get_or (turned n xs) k d ≡ get_or xs (n + k) d
  turned_front n k xs d h less =
      get_or_append_left (drop n xs) (take n xs) d k (omega (arith, less, length-drop n xs)) ∙ get_or-drop n xs k d

  pub turned_back : (n k : ℕ) (xs : List X) (d : X) → n ≤ length xs → length xs - n ≤ k → k < length xs
      → get_or (turned n xs) k d ≡ get_or xs (k - (length xs - n)) d
  turned_back n k xs d h past less =
      get_or-append_right (drop n xs) (take n xs) (length xs - n) k d (length-drop n xs) past
      ∙ get_or-take n xs (k - (length xs - n)) d (omega (arith, h, past, less))

  pub turned_next : (n most p : ℕ) (xs ys : List X) (x : X) → n < most → length xs ≡ most → ys ≡ set xs n x
      → p ≡ (if n + 1 == most then 0 else n + 1) → turned p ys ≡ last_ones most (turned n xs ++ x ∷ [])
  turned_next n most p xs ys x h e is place = elim (cases_Bool (n + 1 == most)) [
    | inl equal ↦
        let end : n + 1 ≡ most = grind (arith, nat_tests, equal) in
        let first : p ≡ 0 = place ∙ ap (λ (b : Bool). if b then 0 else n + 1) equal in
        (λ i. turned (first i) (is i)) ∙ turned_round n most xs x (omega (arith, h, e)) e end
    | inr other ↦
        let next : p ≡ n + 1 = place ∙ ap (λ (b : Bool). if b then 0 else n + 1) other in
        (λ i. turned (next i) (is i)) ∙ turned_on n most xs x (omega (arith, h, e)) e
  ]
