-- A signal's value, put together from its parts. This project's own.
use Rattle.std.specs.Prelude.{◌≡◌, ℕ, ◌^◌, ◌<◌, ◌≤◌, ◌==◌, if◌then◌else◌, List, [], ◌∷◌, length, drop, slice_index, slice_index_or}
use Rattle.bit_ops.specs.Operators as ops
use Rattle.netlist.specs.Fits.{IsWidth}
use Rattle.netlist.specs.declared.design.Role.{Role}
use Rattle.netlist.specs.declared.design.Role.TheVariants as role
use Rattle.netlist.specs.declared.design.Range.{Range}
use Rattle.netlist.specs.declared.design.DrivenPart.{DrivenPart}
use Rattle.netlist.specs.declared.design.RegisterPart.{RegisterPart}
use Rattle.flat_sim.specs.declared.signals.Span.{Span}

-- with other bits in a range, where it is one of the signal, which has this width
abbrev pub with_bits : ℕ → ℕ → Range → ℕ → ℕ → ℕ
with_bits signal width r n value = if r.signal == signal then ops.insert_at width r.low r.width n value else value

-- the same for each of the register parts, which have these numbers in their order
abbrev pub with_registers : ℕ → ℕ → List RegisterPart → List ℕ → ℕ → ℕ
with_registers signal width [] state value = value
with_registers signal width (p ∷ ps) state value = with_registers signal width ps (drop 1 state)
    (with_bits signal width p.range (slice_index state 0) value)

-- the same for each of the driven parts, which have the numbers of their nodes
abbrev pub with_driven : ℕ → ℕ → List DrivenPart → List ℕ → ℕ → ℕ
with_driven signal width [] xs value = value
with_driven signal width (p ∷ ps) xs value = with_driven signal width ps xs
    (with_bits signal width p.range (slice_index xs p.node) value)

-- a number of the range's width
abbrev pub FitsRange : Range → ℕ → Type 0
FitsRange r n = IsWidth r.width × (n < 2 ^ r.width)

-- of elements in order of their signals those of one signal stand in these places
pub record IsSpan {X : Type 0} (signal_of : X → ℕ) (xs : List X) (signal : ℕ) (span : Span) : Type 0 where
  pub within : (span.from ≤ span.to) × (span.to ≤ length xs)
  pub before : (i : ℕ) (d : X) → i < span.from → signal_of (slice_index_or xs i d) < signal
  pub after : (i : ℕ) (d : X) → span.to ≤ i → i < length xs → signal < signal_of (slice_index_or xs i d)

-- a data input is one of so many
abbrev pub IsInputOf : ℕ → Role → Type 0
IsInputOf count r = (k : ℕ) → r ≡ role.Input k → k < count
