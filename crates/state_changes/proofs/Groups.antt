-- A list in pieces.
use Rattle.std.proofs.Common.{◌≡◌, ℕ, zero, suc, ◌+◌, ◌-◌, ◌≤◌, List, [], ◌∷◌, length, take, drop, refl, sym, ap, ◌∙◌, arith}
use Rattle.std.specs.Prelude.{slice_get, Option, Some}
use Rattle.std.specs.Option.{unwrap_or}
use Rattle.std.proofs.lemmas.List.{take-take, drop-take}
use Rattle.state_changes.specs.Kept.{total, grouped}

module _ {X : Type 0} where
  pub length_grouped : (ns : List ℕ) (xs : List X) → length (grouped ns xs) ≡ length ns
  length_grouped [] xs = refl
  length_grouped (n ∷ ns) xs = ap suc (length_grouped ns (drop n xs))

  -- the first pieces
  pub first_groups : (k : ℕ) (ns : List ℕ) (xs : List X) → grouped (take k ns) xs ≡ take k (grouped ns xs)
  first_groups zero ns xs = refl
  first_groups (suc k) [] xs = refl
  first_groups (suc k) (n ∷ ns) xs = ap (λ (gs : List (List X)). take n xs ∷ gs) (first_groups k ns (drop n xs))

  -- pieces don't look at what stands after them
  pub groups_within : (ns : List ℕ) (m : ℕ) (xs : List X) → total ns ≤ m → grouped ns (take m xs) ≡ grouped ns xs
  groups_within [] m xs h = refl
  groups_within (n ∷ ns) m xs h =
      let all : total (n ∷ ns) ≡ n + total ns = refl in
      let first : n ≤ m = omega (arith, h, all) in
      let later : total ns ≤ m - n = omega (arith, h, all) in
      let parts : n + (m - n) ≡ m = omega (arith, first) in
      let rest : drop n (take m xs) ≡ take (m - n) (drop n xs) = ap (λ (i : ℕ). drop n (take i xs)) (sym parts) ∙ drop-take n (m - n) xs in
      ap (λ (g : List X). g ∷ grouped ns (drop n (take m xs))) (take-take n m xs first)
      ∙ ap (λ (r : List X). take n xs ∷ grouped ns r) rest
      ∙ ap (λ (gs : List (List X)). take n xs ∷ gs) (groups_within ns (m - n) (drop n xs) later)

-- the lengths within so many places, and the one behind them; there is no other
pub oldest : (k : ℕ) (ns : List ℕ) (c : ℕ) → length ns ≤ suc k → c ≡ unwrap_or (slice_get ns k) 0 → total ns ≡ total (take k ns) + c
oldest zero [] c l e = omega (arith, e)
oldest zero (n ∷ []) c l e = omega (arith, e)
oldest zero (n ∷ m ∷ ns) c l e = absurd (omega (arith, l))
oldest (suc k) [] c l e = omega (arith, e)
oldest (suc k) (n ∷ ns) c l e = let rest = oldest k ns c (omega (arith, l)) e in omega (arith, rest)

-- the first of some lengths
pub newest : (ns : List ℕ) (c : ℕ) → slice_get ns 0 ≡ Some c → total ns ≡ c + total (drop 1 ns)
newest [] c e = absurd cc
newest (n ∷ ns) c e = let same : n ≡ c = ap (λ (o : Option ℕ). unwrap_or o 0) e in omega (arith, same)

-- a front of no elements
pub none_in_front : {X : Type 0} (n : ℕ) (xs : List X) → n ≤ length xs → take n xs ≡ [] → n ≡ 0
none_in_front zero xs h e = refl
none_in_front (suc n) [] h e = absurd (omega (arith, h))
none_in_front (suc n) (x ∷ xs) h e = absurd cc
