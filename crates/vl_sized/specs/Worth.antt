-- What the calls below `value` give. This project's own.
use Rattle.std.specs.Prelude.{◌≡◌, ◌≤◌, ℕ, ◌^◌, min, List, map, ℤ, unsigned_abs, Option, Some, None, Result, IfOk}
use Rattle.dt_core.specs.declared.bits.Bits.{Bits}
use Rattle.dt_core.specs.declared.limits.TheConstants.{MAX_WIDTH}
use Rattle.bit_ops.specs.Operators as ops
use Rattle.vl_value.specs.Things as things
use Rattle.vl_value.specs.Meaning as m
use Rattle.vl_value.specs.Meaning.{Meaning}
use Rattle.vl_width.specs.declared.size.Size.{Size}
use Rattle.vl_width.specs.Terms.{At}
use Rattle.vl_sized.specs.declared.node.Case.{Case}
use Rattle.vl_sized.specs.declared.node.Node.{Node}
use Rattle.vl_sized.specs.declared.beside.Beside.{Beside}
use Rattle.vl_sized.specs.Nodes.{among}
use Rattle.vl_sized.specs.Parts.{case_by}

-- a vector of this size with the value that a node has there, where memory is enough
abbrev pub IsAtSize : {E : Type 0} → Result Bits E → Size → At → Type 0
IsAtSize r sz a = IfOk r (λ b. (b.width ≡ sz.width) × (b.value ≡ a sz.width sz.signed))

-- ---- indices

abbrev pub IsNear : ℤ → Type 0
IsNear z = unsigned_abs z ≤ 2 ^ 41

abbrev pub IsWithin : Option ℤ → Type 0
IsWithin None = Unit {0}
IsWithin (Some z) = IsNear z

-- a whole number that is told, or that is too far away
abbrev pub Stands : ℤ → Option ℤ → Type 0
Stands z None = 2 ^ 39 ≤ unsigned_abs z
Stands z (Some k) = k ≡ z

-- so many bits of a vector's number from the index that is told upward, at a width
abbrev pub IsCutOut : things.Shape → Option ℤ → ℕ → ℕ → ℕ → ℕ → Type 0
IsCutOut sh from count n w v = (z : ℤ) → Stands z from → v ≡ ops.low w (ops.select (things.place_of sh z count) count n)

-- ---- lists

-- parts side by side, as far as a vector reaches
abbrev pub IsBeside : Beside → List Meaning → Type 0
IsBeside b ms = (b.width ≡ min (m.widths ms) MAX_WIDTH) × (b.value ≡ ops.low MAX_WIDTH (m.joined ms))

-- the value of the first case whose condition holds; where none is told, the last value is what counts
abbrev pub IsFirstTrue : (Node → At) → List (Case Node) → Size → Option Bits → Type 0
IsFirstTrue f ks sz (Some b) = (last : At) → (b.width ≡ sz.width) × (b.value ≡ among (map (case_by f) ks) last sz.width sz.signed)
IsFirstTrue f ks sz None = (last : At) → last sz.width sz.signed ≡ among (map (case_by f) ks) last sz.width sz.signed
