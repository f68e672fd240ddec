-- Bit vectors as plain records. This project's own.
use Rattle.std.specs.Prelude.{ℕ, List, map}
use Rattle.dt_core.specs.declared.bits.Bits.{Bits}

-- a bit vector: its width, and its bits as a number
pub record BitVector : Type 0 where
  pub width : ℕ
  pub value : ℕ

-- the bit vector of a width and a value
abbrev pub vector : ℕ → ℕ → BitVector
vector width value = record { width = width; value = value }

-- what the program's bit vector stands for
abbrev pub plain : Bits → BitVector
plain b = vector b.width b.value

-- the width of each
abbrev pub widths_of : List Bits → List ℕ
widths_of = map (λ b. b.width)
