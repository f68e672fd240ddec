-- Laws of the operators, over all widths and values. This project's own.
use Rattle.std.specs.Prelude.{◌≡◌, ◌≢◌, ◌⊎◌, ℕ, suc, ◌+◌, ◌-◌, ◌*◌, ◌^◌, ◌<◌, ◌≤◌, Bool, true, ℤ, pos, negsuc, ◌+ℤ◌, ◌*ℤ◌, unsigned_abs, int_lt}
use Rattle.bit_ops.specs.Operators.{add, mul, div, rem, integer, extend, select, insert, concat}

-- the least negative number and -1: no value of the width stands for their quotient
abbrev pub IsBeyond : Bool → ℕ → ℕ → ℕ → Type 0
IsBeyond s w a b = (s ≡ true) × (2 * a ≡ 2 ^ w) × (b ≡ 2 ^ w - 1)

-- divisor times quotient and remainder are the dividend, for every sign: as values of the width, and but for one pair as whole numbers.
-- The remainder is less in magnitude than the divisor, and 0 or of the dividend's sign, so the quotient is truncated toward 0
pub record QuotientFitsRemainder (s : Bool) (w a b : ℕ) : Type 0 where
  pub whole : add w (mul w (div s w a b) b) (rem s w a b) ≡ a
  pub exact : IsBeyond s w a b ⊎ (integer s w (div s w a b) *ℤ integer s w b +ℤ integer s w (rem s w a b) ≡ integer s w a)
  pub less : unsigned_abs (integer s w (rem s w a b)) < unsigned_abs (integer s w b)
  pub sign : (rem s w a b ≡ 0) ⊎ (int_lt (integer s w (rem s w a b)) (pos 0) ≡ int_lt (integer s w a) (pos 0))

abbrev pub DivisionLaw : Type 0
DivisionLaw = (s : Bool) (w a b : ℕ) → a < 2 ^ w → b < 2 ^ w → b ≢ 0 → QuotientFitsRemainder s w a b

-- a larger width keeps the whole number
abbrev pub ExtensionLaw : Type 0
ExtensionLaw = (s : Bool) (v w n : ℕ) → v ≤ w → n < 2 ^ v → integer s w (extend s v w n) ≡ integer s v n

-- bits put back where they were taken change nothing, wherever the place lies
abbrev pub PutBackLaw : Type 0
PutBackLaw = (v w a : ℕ) (z : ℤ) → a < 2 ^ v → insert v z w (select z w a) a ≡ a

-- bits put within a vector are read back
abbrev pub ReadBackLaw : Type 0
ReadBackLaw = (v k w b a : ℕ) → a < 2 ^ v → b < 2 ^ w → w + k ≤ v → select (pos k) w (insert v (pos k) w b a) ≡ b

-- bits beside a part stay: those below its place k, those from its end on, and those above a part that begins k + 1 places below 0
pub record OthersStay (v w k b a : ℕ) : Type 0 where
  pub below : select (pos 0) k (insert v (pos k) w b a) ≡ select (pos 0) k a
  pub above : (n : ℕ) → select (pos (k + w)) n (insert v (pos k) w b a) ≡ select (pos (k + w)) n a
  pub above_low : (n : ℕ) → select (pos (w - suc k)) n (insert v (negsuc k) w b a) ≡ select (pos (w - suc k)) n a

abbrev pub BesideLaw : Type 0
BesideLaw = (v w k b a : ℕ) → a < 2 ^ v → OthersStay v w k b a

-- the parts of a concatenation are its operands, and a vector is the concatenation of its parts
pub record PartsAreOperands (v w a b : ℕ) : Type 0 where
  pub right : select (pos 0) w (concat w a b) ≡ b
  pub left : select (pos w) v (concat w a b) ≡ a

abbrev pub PartsLaw : Type 0
PartsLaw = (v w a b : ℕ) → a < 2 ^ v → b < 2 ^ w → PartsAreOperands v w a b

abbrev pub WholeLaw : Type 0
WholeLaw = (v w n : ℕ) → n < 2 ^ (v + w) → concat w (select (pos w) v n) (select (pos 0) w n) ≡ n
