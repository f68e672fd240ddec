-- What an operator gives fits the width that it has (IEEE 1364-2005, table 5-22). This project's own: values have two states.
use Rattle.std.specs.Prelude.{◌≡◌, ℕ, ◌+◌, ◌^◌, ◌<◌, Bool, true, ℤ}
use Rattle.bit_ops.specs.Operators as ops
use Rattle.bit_ops.specs.Applied as applied
use Rattle.bit_ops.specs.declared.operator.Unary.{Unary}
use Rattle.bit_ops.specs.declared.operator.Binary.{Binary}

pub record OperatorsFit : Type 0 where
  pub unary : (f : Unary) (w a : ℕ) → a < 2 ^ w → applied.unary f w a < 2 ^ applied.unary_width f w
  -- where both operands have one width, the right one is within it too
  pub binary : (f : Binary) (s : Bool) (w a b : ℕ) → a < 2 ^ w → (applied.takes_one_width f ≡ true → b < 2 ^ w)
      → applied.binary f s w a b < 2 ^ applied.binary_width f w
  pub extend : (s : Bool) (w v n : ℕ) → ops.extend s w v n < 2 ^ v
  pub low : (w n : ℕ) → ops.low w n < 2 ^ w
  pub select : (z : ℤ) (w a : ℕ) → ops.select z w a < 2 ^ w
  pub insert : (v : ℕ) (z : ℤ) (w b a : ℕ) → ops.insert v z w b a < 2 ^ v
  pub concat : (v w a b : ℕ) → a < 2 ^ v → b < 2 ^ w → ops.concat w a b < 2 ^ (v + w)
