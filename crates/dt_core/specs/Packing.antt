-- Bit vectors packed one after another into bytes. This project's own.
use Rattle.std.specs.Prelude.{ℕ, ◌≡◌, ◌+◌, ◌*◌, ◌/◌, ◌%◌, ◌^◌, ◌<◌, ◌≤◌, List, [], ◌∷◌, length, slice_index}
use Rattle.std.specs.List.{sum}
use Rattle.dt_core.specs.BitVectors.{BitVector, vector}
use Rattle.dt_core.specs.declared.limits.TheConstants.{MAX_WIDTH}

-- bytes as one number, the lowest byte first
abbrev pub number : List ℕ → ℕ
number [] = 0
number (b ∷ bs) = b + 256 * number bs

-- the bit vectors of these widths that stand in a number, the first at its lowest bits
abbrev pub unpacked : List ℕ → ℕ → List BitVector
unpacked [] n = []
unpacked (w ∷ ws) n = vector w (n % 2 ^ w) ∷ unpacked ws (n / 2 ^ w)

-- a number with other bits from a place on, as many as the width says
unfoldable pub put : ℕ → ℕ → ℕ → ℕ → ℕ
put n from width value = (n / 2 ^ (from + width) * 2 ^ width + value) * 2 ^ from + n % 2 ^ from

-- bit vectors of these widths stand in the bytes, which are no more than are needed
pub record Packs (widths bytes : List ℕ) : Type 0 where
  pub wide : (k : ℕ) → k < length widths → (1 ≤ slice_index widths k) × (slice_index widths k ≤ MAX_WIDTH)
  pub tight : length bytes ≡ (sum widths + 7) / 8
  pub counted : sum widths < 2 ^ 64
