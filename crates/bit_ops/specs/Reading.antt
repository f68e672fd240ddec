-- What private functions promise each other. This project's own.
use Rattle.std.specs.Prelude.{ℕ, ◌+◌, ◌-◌, ◌*◌, ◌^◌, Bool, true, false, if◌then◌else◌, nat_le, ℤ, pos, negsuc}
use Rattle.bit_ops.specs.Operators.{invert}

-- whether a whole number is below 0
abbrev pub is_negative : ℤ → Bool
is_negative (pos n) = false
is_negative (negsuc n) = true

-- each bit turned where the test holds
abbrev pub turned : Bool → ℕ → ℕ → ℕ
turned true w n = invert w n
turned false w n = n

-- numbers of a width in the order of what they stand for: where signed, from the most negative on
abbrev pub rank : Bool → ℕ → ℕ → ℕ
rank false w n = n
rank true w n = if nat_le (2 ^ w) (2 * n) then n - 2 ^ (w - 1) else n + 2 ^ (w - 1)
