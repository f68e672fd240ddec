-- Quotients and remainders by the absolute values and the signs.
use Rattle.std.proofs.Common.{◌≡◌, ℕ, ◌/◌, ◌%◌, ◌^◌, ◌<◌, ◌≤◌, Bool, true, false, ℤ, pos, negsuc, unsigned_abs, refl, sym, arith}
use Rattle.std.specs.Prelude.{int_div, int_rem, ◌≢◌}
use mathlib.Core.Bool.{beq}
use Rattle.std.proofs.Math.Nat.{mod-eq_of_lt, mod-le, div-le_self}
use Rattle.std.proofs.lemmas.Bool.{ne_eqb}
use Rattle.bit_ops.specs.Operators.{residue, div, rem}
use Rattle.bit_ops.specs.Reading.{is_negative}

pub same_signs : (w : ℕ) (x y : ℤ) → is_negative x ≡ is_negative y → unsigned_abs x / unsigned_abs y < 2 ^ w → residue w (int_div x y) ≡ unsigned_abs x / unsigned_abs y
same_signs w (pos a) (pos b) e fits = mod-eq_of_lt fits
same_signs w (negsuc a) (negsuc b) e fits = mod-eq_of_lt fits
same_signs w (pos a) (negsuc b) e fits = cc
same_signs w (negsuc a) (pos b) e fits = cc

pub same_from_beq : (a b : Bool) → beq a b ≡ true → a ≡ b
same_from_beq true true e = refl
same_from_beq false false e = refl
same_from_beq true false e = cc
same_from_beq false true e = cc

pub sign_of_first : (w : ℕ) (x y : ℤ) → is_negative x ≡ false → unsigned_abs x % unsigned_abs y < 2 ^ w → residue w (int_rem x y) ≡ unsigned_abs x % unsigned_abs y
sign_of_first w (pos a) y e fits = mod-eq_of_lt fits
sign_of_first w (negsuc a) y e fits = cc

-- ---- without sign

pub unsigned_quotient : (s : Bool) (w a b : ℕ) → s ≡ false → a < 2 ^ w → b ≢ 0 → a / b ≡ div s w a b
unsigned_quotient false w a b e fits some =
    let less : a / b ≤ a = div-le_self a b in
    rw (ne_eqb b 0 some) (sym (mod-eq_of_lt (omega (arith, less, fits))))
unsigned_quotient true w a b e fits some = cc

pub unsigned_remainder : (s : Bool) (w a b : ℕ) → s ≡ false → a < 2 ^ w → b ≢ 0 → a % b ≡ rem s w a b
unsigned_remainder false w a b e fits some =
    let less : a % b ≤ a = mod-le a b in
    rw (ne_eqb b 0 some) (sym (mod-eq_of_lt (omega (arith, less, fits))))
unsigned_remainder true w a b e fits some = cc
