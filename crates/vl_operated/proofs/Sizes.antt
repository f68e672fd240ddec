-- What an operator gives is within the size at which it is evaluated.
use Rattle.std.proofs.Common.{◌≡◌, ℕ, ◌<◌, ◌≤◌, ◌^◌, Bool, true, false, refl, arith, if◌then◌else◌}
use Rattle.std.proofs.Math.Nat.{mod-eq_of_lt}
use Rattle.std.proofs.Math.Pow.{pow_mono}
use Rattle.bit_ops.specs.Operators as ops
use Rattle.bit_ops.specs.Applied as applied
use Rattle.bit_ops.specs.declared.operator.Unary.{Unary}
use Rattle.bit_ops.specs.declared.operator.Unary.TheVariants as one
use Rattle.bit_ops.specs.declared.operator.Binary.{Binary}
use Rattle.bit_ops.specs.declared.operator.Binary.TheVariants as two
use Rattle.vl_width.specs.Terms as terms
use Rattle.vl_operated.specs.Shifts.{is_shift}
use Rattle.operator_laws.proofs.Fits.{unary_fits, binary_fits}

-- one bit, or as many as the operands have
pub unary_least : (f : Unary) (w : ℕ) → 1 ≤ w → applied.unary_width f w ≤ w
unary_least one.Plus w h = omega arith
unary_least one.Minus w h = omega arith
unary_least one.Not w h = omega arith
unary_least one.LogicNot w h = h
unary_least one.And w h = h
unary_least one.Nand w h = h
unary_least one.Or w h = h
unary_least one.Nor w h = h
unary_least one.Xor w h = h
unary_least one.Xnor w h = h

pub binary_least : (f : Binary) (w : ℕ) → 1 ≤ w → applied.binary_width f w ≤ w
binary_least two.Mul w h = omega arith
binary_least two.Div w h = omega arith
binary_least two.Rem w h = omega arith
binary_least two.Add w h = omega arith
binary_least two.Sub w h = omega arith
binary_least two.Shl w h = omega arith
binary_least two.Shr w h = omega arith
binary_least two.Sar w h = omega arith
binary_least two.Lt w h = h
binary_least two.Le w h = h
binary_least two.Gt w h = h
binary_least two.Ge w h = h
binary_least two.Eq w h = h
binary_least two.Ne w h = h
binary_least two.And w h = omega arith
binary_least two.Xor w h = omega arith
binary_least two.Xnor w h = omega arith
binary_least two.Or w h = omega arith
binary_least two.LogicAnd w h = h
binary_least two.LogicOr w h = h

pub low_same : (w n : ℕ) → n < 2 ^ w → ops.low w n ≡ n
low_same w n l = mod-eq_of_lt l

low_within : (w u n : ℕ) → u ≤ w → n < 2 ^ u → ops.low w n ≡ n
low_within w u n h l = let more : 2 ^ u ≤ 2 ^ w = pow_mono {j = w} h in low_same w n (omega (arith, l, more))

pub unary_low : (f : Unary) (w a : ℕ) → 1 ≤ w → a < 2 ^ w → ops.low w (applied.unary f w a) ≡ applied.unary f w a
unary_low f w a some l = low_within w (applied.unary_width f w) (applied.unary f w a) (unary_least f w some) (unary_fits f w a l)

pub binary_low : (f : Binary) (s : Bool) (w a b : ℕ) → 1 ≤ w → a < 2 ^ w → b < 2 ^ w
    → ops.low w (applied.binary f s w a b) ≡ applied.binary f s w a b
binary_low f s w a b some l m =
    low_within w (applied.binary_width f w) (applied.binary f s w a b) (binary_least f w some) (binary_fits f s w a b l (λ e. m))

-- ---- shifts

pub shift_width : (f : Binary) (w : ℕ) → is_shift f ≡ true → applied.binary_width f w ≡ w
shift_width two.Mul w e = absurd cc
shift_width two.Div w e = absurd cc
shift_width two.Rem w e = absurd cc
shift_width two.Add w e = absurd cc
shift_width two.Sub w e = absurd cc
shift_width two.Shl w e = refl
shift_width two.Shr w e = refl
shift_width two.Sar w e = refl
shift_width two.Lt w e = absurd cc
shift_width two.Le w e = absurd cc
shift_width two.Gt w e = absurd cc
shift_width two.Ge w e = absurd cc
shift_width two.Eq w e = absurd cc
shift_width two.Ne w e = absurd cc
shift_width two.And w e = absurd cc
shift_width two.Xor w e = absurd cc
shift_width two.Xnor w e = absurd cc
shift_width two.Or w e = absurd cc
shift_width two.LogicAnd w e = absurd cc
shift_width two.LogicOr w e = absurd cc

-- a shift by a distance, or what isn't one
pub shift_is : (f : Binary) (s : Bool) (w a n : ℕ)
    → terms.shift_at f s w a n ≡ (if is_shift f then applied.binary f s w a n else a)
shift_is two.Mul s w a n = refl
shift_is two.Div s w a n = refl
shift_is two.Rem s w a n = refl
shift_is two.Add s w a n = refl
shift_is two.Sub s w a n = refl
shift_is two.Shl s w a n = refl
shift_is two.Shr s w a n = refl
shift_is two.Sar s w a n = refl
shift_is two.Lt s w a n = refl
shift_is two.Le s w a n = refl
shift_is two.Gt s w a n = refl
shift_is two.Ge s w a n = refl
shift_is two.Eq s w a n = refl
shift_is two.Ne s w a n = refl
shift_is two.And s w a n = refl
shift_is two.Xor s w a n = refl
shift_is two.Xnor s w a n = refl
shift_is two.Or s w a n = refl
shift_is two.LogicAnd s w a n = refl
shift_is two.LogicOr s w a n = refl
