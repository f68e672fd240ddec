-- What stands at places.
use Rattle.std.proofs.Common.{◌≡◌, ℕ, zero, suc, ◌+◌, ◌-◌, ◌*◌, ◌/◌, ◌%◌, ◌^◌, ◌<◌, ◌≤◌, Bool, true, false, List, [], ◌∷◌, ◌++◌, ℤ, pos, negsuc, ◌-ℤ◌, ◌+ℤ◌, refl, sym, ap, ◌∙◌, subst, inl, inr, arith, if◌then◌else◌}
use Rattle.std.specs.Prelude.{nat_lt, filter}
use Rattle.std.specs.List.{list_any}
use Rattle.std.proofs.Math.Nat.{mod-eq_of_lt, div-eq_of_lt, div-one}
use Rattle.std.proofs.lemmas.Int.{ints}
use Rattle.std.proofs.lemmas.Bool.{le-leb, lt-leb, cases_lt}
use Rattle.std.proofs.lemmas.Bool.Decides.{nat_tests}
use Rattle.std.proofs.lemmas.Nat.{pow_pos, pow-add}
use Rattle.std.proofs.Math.Nat.{mul-mod_left}
use Rattle.netlist.specs.Graph.{overlap}
use Rattle.netlist.specs.declared.design.Range.{Range}
use Rattle.bit_ops.specs.Operators.{integer, select}
use Rattle.vl_value.specs.Things.{Shape}
use Rattle.vl_value.specs.Reads.{up_to, is_within}
use Rattle.vl_vectors.specs.Vectors.{has_place}
use Rattle.vl_vectors.proofs.Places.{reads_above}
use Rattle.vl_places.specs.declared.places.Way.{Way}
use Rattle.vl_places.specs.declared.places.Way.TheVariants as way
use Rattle.vl_places.specs.Places.{least_index, place_from}
use Rattle.vl_places.specs.Steps as steps
use Rattle.vl_places.proofs.Integers.{Holds, wider, integer_low, below_zero, above_zero, difference_is}
use Rattle.vl_places.proofs.Indices.{IsFar, StandsFor, near_small, near_is}

-- ---- a place as a difference

-- the index less the right bound, or turned, less so many
abbrev away : Bool → ℤ → ℕ → ℕ → ℤ
away turned z r back = (if turned then pos r -ℤ z else z -ℤ pos r) -ℤ pos back

less_none : (z : ℤ) → z ≡ z -ℤ pos 0
less_none (pos k) = omega (arith, ints)
less_none (negsuc k) = omega (arith, ints)

down_down : (z : ℤ) (n r : ℕ) → 1 ≤ n → ((z -ℤ pos n) +ℤ pos 1) -ℤ pos r ≡ (z -ℤ pos r) -ℤ pos (n - 1)
down_down (pos k) n r some = omega (arith, ints)
down_down (negsuc k) n r some = omega (arith, ints)

up_up : (z : ℤ) (n r : ℕ) → 1 ≤ n → pos r -ℤ (z +ℤ (pos n -ℤ pos 1)) ≡ (pos r -ℤ z) -ℤ pos (n - 1)
up_up (pos k) n r some = omega (arith, ints)
up_up (negsuc k) n r some = omega (arith, ints)

up_down : (z : ℤ) (n r : ℕ) → pos r -ℤ (((z -ℤ pos n) +ℤ pos 1) +ℤ (pos n -ℤ pos 1)) ≡ (pos r -ℤ z) -ℤ pos 0
up_down (pos k) n r = omega (arith, ints)
up_down (negsuc k) n r = omega (arith, ints)

place_away : (sh : Shape) (d : Way) (z : ℤ) (n : ℕ) → 1 ≤ n
    → place_from sh d z n ≡ away (nat_lt sh.left sh.right) z sh.right (steps.behind (nat_lt sh.left sh.right) d n)
place_away sh d z n some = elim (cases_lt sh.left sh.right) [
  | inl up ↦ rw (lt-leb sh.right sh.left up, le-leb (suc sh.left) sh.right up) (ascending d)
  | inr down ↦ rw (le-leb sh.right sh.left down, lt-leb (suc sh.left) sh.right (omega (arith, down))) (descending d)
]
  where
    ascending : (e : Way) → pos sh.right -ℤ (least_index e z n +ℤ (pos n -ℤ pos 1)) ≡ away true z sh.right (steps.behind true e n)
    ascending way.Upward = up_up z n sh.right some
    ascending way.Downward = up_down z n sh.right

    descending : (e : Way) → least_index e z n -ℤ pos sh.right ≡ away false z sh.right (steps.behind false e n)
    descending way.Upward = less_none (z -ℤ pos sh.right)
    descending way.Downward = down_down z n sh.right some

behind_few : (turned : Bool) (d : Way) (n : ℕ) → n ≤ 128 → steps.behind turned d n < 128
behind_few true way.Upward n h = omega (arith, h)
behind_few true way.Downward n h = omega arith
behind_few false way.Upward n h = omega arith
behind_few false way.Downward n h = omega (arith, h)

-- ---- 70 bits hold it

held_once : (turned : Bool) (z : ℤ) (r : ℕ) → Holds true 66 z → r < 2 ^ 32 → Holds true 68 (if turned then pos r -ℤ z else z -ℤ pos r)
held_once true (pos k) r held few = elim (cases_lt r k) [
  | inl less ↦ rw (below_zero r k less) (omega (arith, held, few))
  | inr more ↦ rw (above_zero r k more) (omega (arith, held, few))
]
held_once true (negsuc k) r held few =
    let same : pos r -ℤ negsuc k ≡ pos (r + k + 1) = omega (arith, ints) in subst (Holds true 68) (sym same) (omega (arith, held, few))
held_once false (pos k) r held few = elim (cases_lt k r) [
  | inl less ↦ rw (below_zero k r less) (omega (arith, held, few))
  | inr more ↦ rw (above_zero k r more) (omega (arith, held, few))
]
held_once false (negsuc k) r held few =
    let same : negsuc k -ℤ pos r ≡ negsuc (k + r) = omega (arith, ints) in subst (Holds true 68) (sym same) (omega (arith, held, few))

held_twice : (z : ℤ) (b : ℕ) → Holds true 68 z → b < 128 → Holds true 70 (z -ℤ pos b)
held_twice (pos k) b held few = elim (cases_lt k b) [
  | inl less ↦ rw (below_zero k b less) (omega (arith, held, few))
  | inr more ↦ rw (above_zero k b more) (omega (arith, held, few))
]
held_twice (negsuc k) b held few =
    let same : negsuc k -ℤ pos b ≡ negsuc (k + b) = omega (arith, ints) in subst (Holds true 70) (sym same) (omega (arith, held, few))

held_more : (z : ℤ) → Holds true 68 z → Holds true 70 z
held_more (pos k) h = omega (arith, h)
held_more (negsuc k) h = omega (arith, h)

first_is : (turned : Bool) (k r : ℕ) (z : ℤ) → integer true 70 k ≡ z → Holds true 66 z → r < 2 ^ 32
    → integer true 70 (steps.difference turned r k) ≡ (if turned then pos r -ℤ z else z -ℤ pos r)
first_is true k r z e held few =
    difference_is 70 r k (pos r) z (integer_low true 70 r (omega (arith, few))) e (held_more (pos r -ℤ z) (held_once true z r held few))
first_is false k r z e held few =
    difference_is 70 k r z (pos r) e (integer_low true 70 r (omega (arith, few))) (held_more (z -ℤ pos r) (held_once false z r held few))

place_is : (turned : Bool) (k r b : ℕ) (z : ℤ) → integer true 70 k ≡ z → Holds true 66 z → r < 2 ^ 32 → b < 128
    → integer true 70 (steps.difference false b (steps.difference turned r k)) ≡ away turned z r b
place_is turned k r b z e held few small =
    let y : ℤ = if turned then pos r -ℤ z else z -ℤ pos r in
    difference_is 70 (steps.difference turned r k) b y (pos b) (first_is turned k r z e held few)
    (integer_low true 70 b (omega (arith, small))) (held_twice y b (held_once turned z r held few) small)

-- ---- what is far away

-- a place from which so many bits upward all lie outside
abbrev IsOff : ℕ → ℤ → Type 0
IsOff n (pos k) = 128 ≤ k
IsOff n (negsuc k) = n ≤ suc k

low_far : (w d n : ℕ) → w ≤ d → n * 2 ^ d % 2 ^ w ≡ 0
low_far w d n h =
    let same : d ≡ (d - w) + w = omega (arith, h) in
    let whole : 2 ^ d ≡ 2 ^ (d - w) * 2 ^ w = ap (λ k. 2 ^ k) same ∙ pow-add 2 (d - w) w in
    let moved : n * 2 ^ d ≡ (n * 2 ^ (d - w)) * 2 ^ w = ap (λ k. n * k) whole ∙ omega arith in
    ap (λ k. k % 2 ^ w) moved ∙ mul-mod_left (n * 2 ^ (d - w)) (2 ^ w)

off_select : (n v : ℕ) (z : ℤ) → IsOff n z → v < 2 ^ 128 → select z n v ≡ 0
off_select n v (pos k) h fits =
    let wide : 2 ^ 128 ≤ 2 ^ k = wider 128 k h in
    let none : v / 2 ^ k ≡ 0 = div-eq_of_lt (omega (arith, wide, fits)) in
    ap (λ i. i % 2 ^ n) none ∙ mod-eq_of_lt (pow_pos n)
off_select n v (negsuc k) h fits = low_far n (suc k) v h

-- far away on either side, with room for two differences
abbrev IsFarBy : ℕ → ℤ → Type 0
IsFarBy m (pos k) = m ≤ k
IsFarBy m (negsuc k) = m ≤ k

off_first : (turned : Bool) (z : ℤ) (r : ℕ) → IsFar z → r < 2 ^ 32 → IsFarBy (2 ^ 61) (if turned then pos r -ℤ z else z -ℤ pos r)
off_first true (pos k) r far few =
    let less : r < k = omega (arith, far, few) in rw (below_zero r k less) (omega (arith, far, few))
off_first true (negsuc k) r far few =
    let same : pos r -ℤ negsuc k ≡ pos (r + k + 1) = omega (arith, ints) in subst (IsFarBy (2 ^ 61)) (sym same) (omega (arith, far, few))
off_first false (pos k) r far few =
    let more : r ≤ k = omega (arith, far, few) in rw (above_zero k r more) (omega (arith, far, few))
off_first false (negsuc k) r far few =
    let same : negsuc k -ℤ pos r ≡ negsuc (k + r) = omega (arith, ints) in subst (IsFarBy (2 ^ 61)) (sym same) (omega (arith, far, few))

off_second : (z : ℤ) (n b : ℕ) → IsFarBy (2 ^ 61) z → b < 128 → n ≤ 128 → IsOff n (z -ℤ pos b)
off_second (pos k) n b far few most =
    let more : b ≤ k = omega (arith, far, few) in rw (above_zero k b more) (omega (arith, far, few))
off_second (negsuc k) n b far few most =
    let same : negsuc k -ℤ pos b ≡ negsuc (k + b) = omega (arith, ints) in subst (IsOff n) (sym same) (omega (arith, far, few, most))

off_away : (turned : Bool) (z : ℤ) (n r b : ℕ) → IsFar z → r < 2 ^ 32 → b < 128 → n ≤ 128 → IsOff n (away turned z r b)
off_away turned z n r b far few small most =
    off_second (if turned then pos r -ℤ z else z -ℤ pos r) n b (off_first turned z r far few) small most

-- ---- the bits at a place

-- an index that stands for another gives the same bits
same_away : (turned : Bool) (y z : ℤ) (n r b v : ℕ) → StandsFor y z → r < 2 ^ 32 → b < 128 → n ≤ 128 → v < 2 ^ 128
    → select (away turned y r b) n v ≡ select (away turned z r b) n v
same_away turned y z n r b v (inl e) few small most fits = ap (λ i. select (away turned i r b) n v) e
same_away turned y z n r b v (inr far) few small most fits =
    off_select n v (away turned y r b) (off_away turned y n r b far.0 few small most) fits
    ∙ sym (off_select n v (away turned z r b) (off_away turned z n r b far.1 few small most) fits)

whole_is : (w v : ℕ) → v < 2 ^ w → select (pos 0) w v ≡ v
whole_is w v fits = ap (λ i. i % 2 ^ w) (div-one v) ∙ mod-eq_of_lt fits

pub part_are : (sh : Shape) (d : Way) (n : ℕ) (s : Bool) (w k v u : ℕ) → 1 ≤ n → n ≤ 128 → sh.right < 2 ^ 32 → k < 2 ^ w
    → u ≤ 128 → v < 2 ^ u
    → select (integer true 70 (steps.place sh d n s w k)) n v ≡ select (place_from sh d (integer s w k) n) n v
part_are sh d n s w k v u some most few fits wide below =
    let up : Bool = nat_lt sh.left sh.right in
    let b : ℕ = steps.behind up d n in
    let small : b < 128 = behind_few up d n most in
    let y : ℤ = integer true 70 (steps.near s w k) in
    let power : 2 ^ u ≤ 2 ^ 128 = wider u 128 wide in
    ap (λ i. select i n v) (place_is up (steps.near s w k) sh.right b y refl (near_small s w k fits) few small)
    ∙ same_away up y (integer s w k) n sh.right b v (near_is s w k fits) few small most (omega (arith, below, power))
    ∙ ap (λ i. select i n v) (sym (place_away sh d (integer s w k) n some))

pub bits_are : (sh : Shape) (d : Way) (n : ℕ) (s : Bool) (w k v u : ℕ) → 1 ≤ n → n ≤ 128 → sh.right < 2 ^ 32 → k < 2 ^ w
    → u ≤ 128 → v < 2 ^ u
    → select (integer true 70 (steps.place sh d n s w k)) n (select (pos 0) u v) ≡ select (place_from sh d (integer s w k) n) n v
bits_are sh d n s w k v u some most few fits wide below =
    ap (λ i. select (integer true 70 (steps.place sh d n s w k)) n i) (whole_is u v below)
    ∙ part_are sh d n s w k v u some most few fits wide below

-- ---- what is read

filter_last : (P : ℕ → Bool) (xs : List ℕ) (n : ℕ) → P n ≡ true → filter P (xs ++ n ∷ []) ≡ filter P xs ++ n ∷ []
filter_last P [] n h = rw h refl
filter_last P (x ∷ xs) n h = first (P x) x (filter_last P xs n h)
  where
    first : (b : Bool) (k : ℕ) → filter P (xs ++ n ∷ []) ≡ filter P xs ++ n ∷ []
        → (if b then k ∷ filter P (xs ++ n ∷ []) else filter P (xs ++ n ∷ [])) ≡ (if b then k ∷ filter P xs else filter P xs) ++ n ∷ []
    first true k e = ap (λ ys. k ∷ ys) e
    first false k e = e

filter_all : (P : ℕ → Bool) (n : ℕ) → ((k : ℕ) → k < n → P k ≡ true) → filter P (up_to n) ≡ up_to n
filter_all P zero h = refl
filter_all P (suc n) h =
    filter_last P (up_to n) n (h n (omega arith)) ∙ ap (λ xs. xs ++ n ∷ []) (filter_all P n (λ k l. h k (omega (arith, l))))

within : (w k : ℕ) → k < w → is_within (pos 0) w k ≡ true
within w k h = grind (arith, nat_tests)

pub whole_read : (q : Range) (signal w : ℕ) → 1 ≤ w → 1 ≤ q.width
    → overlap (record { signal = signal; low = 0; width = w }) q ≡ list_any (has_place q signal) (up_to w)
whole_read q signal w some one =
    reads_above q signal w 0 w w (omega (arith, some)) (omega arith) some one
    ∙ ap (list_any (has_place q signal)) (filter_all (is_within (pos 0) w) w (within w))
