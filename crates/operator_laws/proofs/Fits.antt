-- The value of an operator fits its width.
use Rattle.std.proofs.Common.{◌≡◌, ℕ, suc, ◌+◌, ◌*◌, ◌/◌, ◌^◌, ◌<◌, min, Bool, true, false, ℤ, pos, negsuc, refl, arith, lit<}
use Rattle.std.specs.Prelude.{◌==◌, if◌then◌else◌}
use Rattle.std.proofs.Math.Nat.{mod-lt}
use Rattle.std.proofs.lemmas.Nat.{pow_pos, pow-add, mul-add-lt, and_le_l, or_lt, xor_lt, shr_le}
use Rattle.bit_ops.specs.Operators as ops
use Rattle.bit_ops.specs.Applied as applied
use Rattle.bit_ops.specs.declared.operator.Unary.{Unary}
use Rattle.bit_ops.specs.declared.operator.Unary.TheVariants as one
use Rattle.bit_ops.specs.declared.operator.Binary.{Binary}
use Rattle.bit_ops.specs.declared.operator.Binary.TheVariants as two
use Rattle.operator_laws.specs.Fits.{OperatorsFit}

bit_fits : (b : Bool) → ops.bit b < 2 ^ 1
bit_fits true = lit< tt
bit_fits false = lit< tt

pub low_fits : (w n : ℕ) → ops.low w n < 2 ^ w
low_fits w n = mod-lt n (pow_pos w)

pub residue_fits : (w : ℕ) (z : ℤ) → ops.residue w z < 2 ^ w
residue_fits w (pos n) = mod-lt n (pow_pos w)
residue_fits w (negsuc n) = let p : 0 < 2 ^ w = pow_pos w in omega arith

invert_fits : (w n : ℕ) → ops.invert w n < 2 ^ w
invert_fits w n = let p : 0 < 2 ^ w = pow_pos w in omega arith

-- 0, or else a value of the width
zero_or : (b : Bool) (w n : ℕ) → n < 2 ^ w → (if b then 0 else n) < 2 ^ w
zero_or true w n h = pow_pos w
zero_or false w n h = h

pub either : (b : Bool) (w x y : ℕ) → x < 2 ^ w → y < 2 ^ w → (if b then x else y) < 2 ^ w
either true w x y h k = h
either false w x y h k = k

shifted : (w a n : ℕ) → a < 2 ^ w → ops.shift_right w a n < 2 ^ w
shifted w a n h = let l = shr_le a (min n w) in omega arith

arithmetic : (s : Bool) (w a n : ℕ) → a < 2 ^ w → ops.arithmetic_right s w a n < 2 ^ w
arithmetic true w a n h = residue_fits w (ops.floor_div (ops.integer true w a) (2 ^ min n w))
arithmetic false w a n h = shifted w a n h

pub unary_fits : (operator : Unary) (w a : ℕ) → a < 2 ^ w → applied.unary operator w a < 2 ^ applied.unary_width operator w
unary_fits one.Plus w a h = h
unary_fits one.Minus w a h = residue_fits w _
unary_fits one.Not w a h = invert_fits w a
unary_fits one.LogicNot w a h = bit_fits _
unary_fits one.And w a h = bit_fits _
unary_fits one.Nand w a h = bit_fits _
unary_fits one.Or w a h = bit_fits _
unary_fits one.Nor w a h = bit_fits _
unary_fits one.Xor w a h = bit_fits _
unary_fits one.Xnor w a h = bit_fits _

pub binary_fits : (operator : Binary) (s : Bool) (w a b : ℕ) → a < 2 ^ w
    → (applied.takes_one_width operator ≡ true → b < 2 ^ w)
    → applied.binary operator s w a b < 2 ^ applied.binary_width operator w
binary_fits two.Mul s w a b h k = low_fits w (a * b)
binary_fits two.Div s w a b h k = zero_or (b == 0) w _ (residue_fits w _)
binary_fits two.Rem s w a b h k = zero_or (b == 0) w _ (residue_fits w _)
binary_fits two.Add s w a b h k = low_fits w (a + b)
binary_fits two.Sub s w a b h k = residue_fits w _
binary_fits two.Shl s w a b h k = low_fits w _
binary_fits two.Shr s w a b h k = shifted w a b h
binary_fits two.Sar s w a b h k = arithmetic s w a b h
binary_fits two.Lt s w a b h k = bit_fits _
binary_fits two.Le s w a b h k = bit_fits _
binary_fits two.Gt s w a b h k = bit_fits _
binary_fits two.Ge s w a b h k = bit_fits _
binary_fits two.Eq s w a b h k = bit_fits _
binary_fits two.Ne s w a b h k = bit_fits _
binary_fits two.And s w a b h k = let l = and_le_l a b in omega arith
binary_fits two.Xor s w a b h k = xor_lt w a b h (k refl)
binary_fits two.Xnor s w a b h k = invert_fits w _
binary_fits two.Or s w a b h k = or_lt w a b h (k refl)
binary_fits two.LogicAnd s w a b h k = bit_fits _
binary_fits two.LogicOr s w a b h k = bit_fits _

pub select_fits : (z : ℤ) (w a : ℕ) → ops.select z w a < 2 ^ w
select_fits (pos k) w a = low_fits w (a / 2 ^ k)
select_fits (negsuc k) w a = low_fits w (a * 2 ^ suc k)

pub insert_fits : (v : ℕ) (z : ℤ) (w b a : ℕ) → ops.insert v z w b a < 2 ^ v
insert_fits v (pos k) w b a = low_fits v _
insert_fits v (negsuc k) w b a = low_fits v _

pub concat_fits : (v w a b : ℕ) → a < 2 ^ v → b < 2 ^ w → ops.concat w a b < 2 ^ (v + w)
concat_fits v w a b h k =
    let whole : 2 ^ (v + w) ≡ 2 ^ v * 2 ^ w = pow-add 2 v w in
    let less : a * 2 ^ w + b < 2 ^ w * 2 ^ v = mul-add-lt a (2 ^ w) b (2 ^ v) h k in
    omega arith

pub extend_fits : (s : Bool) (w v n : ℕ) → ops.extend s w v n < 2 ^ v
extend_fits s w v n = residue_fits v _

pub operators_fit : OperatorsFit
operators_fit = record {
  unary = unary_fits;
  binary = binary_fits;
  extend = extend_fits;
  low = low_fits;
  select = select_fits;
  insert = insert_fits;
  concat = concat_fits;
}
