-- How many bits a vector may have.
use Rattle.std.proofs.Common.{◌≡◌, refl, sym, ap, ◌∙◌, ℕ, ◌+◌, ◌*◌, ◌<◌, ◌≤◌, Bool, true, false, List, [], ◌∷◌, ◌++◌, map, length, take, get_or, Some, None, arith, if◌then◌else◌}
use Rattle.std.specs.Prelude.{ℤ, pos, int_lt, unsigned_abs, slice_get}
use Rattle.std.proofs.lemmas.Bool.Decides.{nat_tests}
use Rattle.std.proofs.lemmas.Nat.{mul-le}
use Rattle.std.proofs.lemmas.List.{take_more}
use Rattle.std.proofs.lemmas.Option.{get_or_from_slice_get}
use Rattle.vl_value.specs.Things.{Shape}
use Rattle.vl_width.specs.declared.shape.Shape as code
use Rattle.vl_width.specs.Objects.{plain_shape}
use Rattle.dt_core.specs.declared.limits.TheConstants.{MAX_WIDTH}
use Rattle.vl_width.specs.Known.{is_width}
use Rattle.vl_width.proofs.Numbers.{no_product, at_least_one}
use Rattle.vl_sized.specs.Wholes.{if_width}

pub is_enough : (w : ℕ) → 1 ≤ w → w ≤ MAX_WIDTH → is_width w ≡ true
is_enough w a b = grind (arith, nat_tests, a, b)

pub is_too_many : (w : ℕ) → MAX_WIDTH < w → is_width w ≡ false
is_too_many w h = grind (arith, nat_tests, h)

pub enough : (w : ℕ) → 1 ≤ w → w ≤ MAX_WIDTH → Some w ≡ if_width w
enough w a b = ap (λ x. if x then Some w else None) (sym (is_enough w a b))

pub too_many : (w : ℕ) → MAX_WIDTH < w → None ≡ if_width w
too_many w h = ap (λ x. if x then Some w else None) (sym (is_too_many w h))

-- so many bits are those that are told
pub record IsTold (w n : ℕ) : Type 0 where
  pub same : n ≡ w
  pub some : 1 ≤ n
  pub most : n ≤ MAX_WIDTH

told_by : (x : Bool) (w n : ℕ) → is_width w ≡ x → Some n ≡ (if x then Some w else None) → IsTold w n
told_by true w n h e =
    let same : n ≡ w = cc in
    record { same = same; some = grind (arith, nat_tests, h, same); most = grind (arith, nat_tests, h, same) }
told_by false w n h e = absurd cc

pub told_width : (w n : ℕ) → Some n ≡ if_width w → IsTold w n
told_width w n e = told_by (is_width w) w n refl e

no_bits_by : (x : Bool) (w : ℕ) → is_width w ≡ x → None ≡ (if x then Some w else None) → is_width w ≡ false
no_bits_by true w h e = absurd cc
no_bits_by false w h e = h

pub no_bits : (w : ℕ) → None ≡ if_width w → is_width w ≡ false
no_bits w e = no_bits_by (is_width w) w refl e

-- copies of what no vector has are no vector
pub no_copies : (z : ℤ) (w : ℕ) → int_lt z (pos 1) ≡ false → None ≡ if_width w → None ≡ if_width (unsigned_abs z * w)
no_copies z w h e =
    ap (λ x. if x then Some (unsigned_abs z * w) else None) (sym (no_product (unsigned_abs z) w (at_least_one z h) (no_bits w e)))

-- so are more copies than a vector has bits
pub many_copies : (z : ℤ) (w n : ℕ) → MAX_WIDTH < unsigned_abs z → Some n ≡ if_width w → None ≡ if_width (unsigned_abs z * w)
many_copies z w n h e =
    let t = told_width w n e in
    let one : 1 ≤ w = omega (arith, t.same, t.some) in
    let m : unsigned_abs z * 1 ≤ unsigned_abs z * w = mul-le (unsigned_abs z) 1 (unsigned_abs z) w (omega arith) one in
    too_many (unsigned_abs z * w) (omega (arith, m, h))

-- the shapes of one input more
pub one_input : (all : List Shape) (xs ys : List code.Shape) (k : ℕ) (x : code.Shape) → map plain_shape xs ≡ take k all → k < length all
    → Some (plain_shape x) ≡ slice_get all k → ys ≡ xs ++ x ∷ [] → map plain_shape ys ≡ take (k + 1) all
one_input all xs ys k x is h at pushed =
    let sh : Shape = plain_shape x in
    let same : get_or all k sh ≡ sh = get_or_from_slice_get all k sh sh (sym at) in
    let more : take (k + 1) all ≡ take k all ++ sh ∷ [] = take_more all k sh h ∙ ap (λ y. take k all ++ y ∷ []) same in
    ap (map plain_shape) pushed ∙ map_last xs x ∙ ap (λ l. l ++ sh ∷ []) is ∙ sym more
  where
    map_last : (xs : List code.Shape) (x : code.Shape) → map plain_shape (xs ++ x ∷ []) ≡ map plain_shape xs ++ plain_shape x ∷ []
    map_last [] x = refl
    map_last (y ∷ xs) x = ap (λ l. plain_shape y ∷ l) (map_last xs x)
