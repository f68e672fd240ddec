-- Steps of the functions of a row.
use Rattle.std.proofs.Common.{◌≡◌, ℕ, ◌+◌, ◌/◌, ◌%◌, ◌^◌, ◌<◌, ◌≤◌, List, [], ◌∷◌, ◌++◌, length, get_or, take, set, map, Some, None, sym, ap, ◌∙◌, inl, inr, arith}
use Rattle.std.specs.Prelude.{zero, suc, Option, IsSome, IfSome, IsSomeAnd, ◌↔◌, option_map, slice_get}
use Rattle.std.specs.List.{sum}
use Rattle.std.proofs.lemmas.Bool.{cases_lt}
use Rattle.std.proofs.lemmas.List.{get_or-map, length-map, take_more_set, map_more, take_all}
use Rattle.std.proofs.lemmas.List.Sums.{sum_by_more, sum_by_more_le}
use Rattle.std.proofs.lemmas.Option.{slice_get_past}
use Rattle.dt_core.specs.declared.bits.Bits.{Bits}
use Rattle.dt_core.specs.BitVectors.{BitVector, vector, plain, widths_of}
use Rattle.dt_core.specs.Packing.{number, unpacked, put, Packs}
use Rattle.dt_core.proofs.PackingLaws.{below_pow, unpacked-put, slice_get-unpacked, length-unpacked}

-- ---- widths

pub length-widths_of : (xs : List Bits) → length (widths_of xs) ≡ length xs
length-widths_of xs = length-map xs (λ b. b.width)

width_at : (xs : List Bits) (k : ℕ) (b : Bits) → k < length xs → b ≡ get_or xs k b → get_or (widths_of xs) k 0 ≡ b.width
width_at xs k b l is = get_or-map (λ x. x.width) xs k b 0 l ∙ ap (λ x. x.width) (sym is)

-- the bits before one value and those of it are within the bits of all
pub place_within : (xs : List Bits) (k : ℕ) (b : Bits) → k < length xs → b ≡ get_or xs k b → sum (take k (widths_of xs)) + b.width ≤ sum (widths_of xs)
place_within xs k b l is =
    let s : k < length (widths_of xs) = omega (arith, length-widths_of xs) in
    omega (arith, width_at xs k b l is, sum_by_more_le (λ x. x) (widths_of xs) k 0 s)

pub next_place : (xs : List Bits) (k : ℕ) (b : Bits) → k < length xs → b ≡ get_or xs k b → sum (take k (widths_of xs)) + b.width ≡ sum (take (k + 1) (widths_of xs))
next_place xs k b l is =
    let s : k < length (widths_of xs) = omega (arith, length-widths_of xs) in
    omega (arith, width_at xs k b l is, sum_by_more (λ x. x) (widths_of xs) k 0 s)

pub widths_are_wide : (xs : List Bits) (k : ℕ) → k < length (widths_of xs) → (1 ≤ get_or (widths_of xs) k 0) × (get_or (widths_of xs) k 0 ≤ 128)
widths_are_wide [] k l = absurd (omega arith)
widths_are_wide (x ∷ xs) zero l = x.wide
widths_are_wide (x ∷ xs) (suc k) l = widths_are_wide xs k (omega arith)

-- ---- packing

-- one value more is packed
pub packed_next : (xs : List Bits) (k n m : ℕ) (b : Bits) → k < length xs → b ≡ get_or xs k b
    → m ≡ put n (sum (take k (widths_of xs))) b.width b.value → take k (unpacked (widths_of xs) n) ≡ map plain (take k xs)
    → take (k + 1) (unpacked (widths_of xs) m) ≡ map plain (take (k + 1) xs)
packed_next xs k n m b l is e packed =
    let ws : List ℕ = widths_of xs in
    let w : get_or ws k 0 ≡ b.width = width_at xs k b l is in
    let s : k < length ws = omega (arith, length-widths_of xs) in
    let u : k < length (unpacked ws n) = omega (arith, length-unpacked ws n) in
    let fits : b.value < 2 ^ get_or ws k 0 = rw w b.fits in
    let one : unpacked ws m ≡ set (unpacked ws n) k (plain b) =
    ap (unpacked ws) e ∙ ap (λ y. unpacked ws (put n (sum (take k ws)) y b.value)) (sym w)
    ∙ unpacked-put ws n k b.value s fits ∙ ap (λ y. set (unpacked ws n) k (vector y b.value)) w in
    ap (take (k + 1)) one ∙ take_more_set (unpacked ws n) k (plain b) u ∙ ap (λ ys. ys ++ plain b ∷ []) packed
    ∙ ap (λ y. map plain (take k xs) ++ plain y ∷ []) is ∙ sym (map_more plain xs k b l)

-- all values are packed
pub packed_all : (xs : List Bits) (k n : ℕ) → length xs ≤ k → take k (unpacked (widths_of xs) n) ≡ map plain (take k xs) → unpacked (widths_of xs) n ≡ map plain xs
packed_all xs k n l packed =
    let ws : List ℕ = widths_of xs in
    let u : length (unpacked ws n) ≤ k = omega (arith, length-unpacked ws n, length-widths_of xs) in
    sym (take_all k (unpacked ws n) u) ∙ packed ∙ ap (map plain) (take_all k xs l)

-- ---- one value

made : (o : Option Bits) (w v : ℕ) → (IsSome o ↔ ((1 ≤ w) × (w ≤ 128) × (v < 2 ^ w))) → IfSome o (λ b. (b.width ≡ w) × (b.value ≡ v))
    → 1 ≤ w → w ≤ 128 → v < 2 ^ w → option_map plain o ≡ Some (vector w v)
made None w v some is a b l = absurd (cc (some.1 (a, b, l)))
made (Some x) w v some is a b l = ap (λ y. Some (vector y x.value)) is.0 ∙ ap (λ y. Some (vector w y)) is.1

-- what is read at the place of a value is the value
pub value_read : (ws : List ℕ) (bs : List ℕ) (row : List BitVector) (k w f v : ℕ) (o : Option Bits) → unpacked ws (number bs) ≡ row → Packs ws bs → k < length ws
    → w ≡ get_or ws k 0 → f ≡ sum (take k ws) → v ≡ number bs / 2 ^ f % 2 ^ w
    → (IsSome o ↔ ((1 ≤ w) × (w ≤ 128) × (v < 2 ^ w))) → IfSome o (λ b. (b.width ≡ w) × (b.value ≡ v)) → option_map plain o ≡ slice_get row k
value_read ws bs row k w f v o view packs l e g h some is =
    let n : ℕ = number bs in
    let wide : (1 ≤ get_or ws k 0) × (get_or ws k 0 ≤ 128) = packs.wide k l in
    let low : v < 2 ^ w = rw h (below_pow (n / 2 ^ f) w) in
    made o w v some is (rw e wide.0) (rw e wide.1) low
    ∙ ap (λ y. Some (vector w y)) h ∙ ap (λ y. Some (vector w (n / 2 ^ y % 2 ^ w))) g
    ∙ ap (λ y. Some (vector y (n / 2 ^ sum (take k ws) % 2 ^ y))) e
    ∙ sym (slice_get-unpacked ws n k l) ∙ ap (λ r. slice_get r k) view

pub no_value : (ws : List ℕ) (n k : ℕ) (row : List BitVector) → unpacked ws n ≡ row → length ws ≤ k → None ≡ slice_get row k
no_value ws n k row view l =
    let u : length (unpacked ws n) ≤ k = omega (arith, length-unpacked ws n) in
    sym (slice_get_past (unpacked ws n) k u) ∙ ap (λ r. slice_get r k) view

width_of_some : (u w v : ℕ) (o : Option BitVector) → Some (vector u v) ≡ o → IsSomeAnd o (λ b. b.width ≡ w) → u ≡ w
width_of_some u w v None e has = absurd has
width_of_some u w v (Some b) e has = let s : vector u v ≡ b = cc in ap (λ x. x.width) s ∙ has

none_has : (w : ℕ) (o : Option BitVector) → None ≡ o → IsSomeAnd o (λ b. b.width ≡ w) → ⊥
none_has w None e has = has
none_has w (Some b) e has = cc

-- where a row has a value of width w in place k, its widths have w there
pub width_in_row : (ws : List ℕ) (n k w : ℕ) (row : List BitVector) → unpacked ws n ≡ row → IsSomeAnd (slice_get row k) (λ b. b.width ≡ w)
    → (k < length ws) × (get_or ws k 0 ≡ w)
width_in_row ws n k w row view has = elim (cases_lt k (length ws)) [
  | inl l ↦ (l, width_of_some (get_or ws k 0) w (n / 2 ^ sum (take k ws) % 2 ^ get_or ws k 0) (slice_get row k) (sym (slice_get-unpacked ws n k l) ∙ ap (λ r. slice_get r k) view) has)
  | inr g ↦ absurd (none_has w (slice_get row k) (no_value ws n k row view g) has)
]

pub place_in_row : (ws : List ℕ) (k w : ℕ) → k < length ws → get_or ws k 0 ≡ w → sum (take k ws) + w ≤ sum ws
place_in_row ws k w l e = omega (arith, e, sum_by_more_le (λ x. x) ws k 0 l)

-- another value in place k
pub value_put : (ws : List ℕ) (n m k : ℕ) (b : Bits) (row : List BitVector) → unpacked ws n ≡ row → k < length ws → get_or ws k 0 ≡ b.width
    → m ≡ put n (sum (take k ws)) b.width b.value → unpacked ws m ≡ set row k (plain b)
value_put ws n m k b row view l w e =
    let fits : b.value < 2 ^ get_or ws k 0 = rw w b.fits in
    ap (unpacked ws) e ∙ ap (λ y. unpacked ws (put n (sum (take k ws)) y b.value)) (sym w)
    ∙ unpacked-put ws n k b.value l fits ∙ ap (λ y. set (unpacked ws n) k (vector y b.value)) w
    ∙ ap (λ r. set r k (plain b)) view
