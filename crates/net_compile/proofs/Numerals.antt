-- Constants as places.
use Rattle.std.proofs.Common.{◌≡◌, ℕ, ◌≤◌, Bool, true, false, refl}
use Rattle.std.specs.Prelude.{pos}
use Rattle.bit_ops.specs.Operators as ops
use Rattle.net_compile.proofs.Calculations.{same_integer}

-- a number without a sign at any width, and one with a sign at a width of which it has not the highest bit
pub known_integer : (signed : Bool) (w n : ℕ) → n ≤ 128 → (signed ≡ true → 9 ≤ w) → ops.integer signed w n ≡ pos n
known_integer false w n l m = refl
known_integer true w n l m = same_integer true w n l (m refl)
