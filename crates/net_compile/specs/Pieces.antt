-- The pieces of a signal: bits of a part, of a row, or bits that the signal keeps. This project's own.
use Rattle.std.specs.Prelude.{◌≡◌, ℕ, ◌+◌, ◌^◌, ◌<◌, ◌≤◌, List, length, slice_index, slice_index_or, slice_get, IsSomeAnd, pos, map}
use Rattle.bit_ops.specs.Operators as ops
use Rattle.netlist.specs.Design.{Flat}
use Rattle.netlist.specs.Fits.{IsWellFormed, IsWidth, IsBefore}
use Rattle.netlist.specs.Laws.{HasBit, LiesInNone}
use Rattle.netlist.specs.Run.{State, FlatSettles}
use Rattle.netlist.specs.Values.{Values, width_at, node_values}
use Rattle.netlist.specs.declared.design.Role.{Role}
use Rattle.netlist.specs.declared.design.Role.TheVariants as role
use Rattle.netlist.specs.declared.design.Range.{Range}
use Rattle.netlist.specs.declared.design.DrivenPart.{DrivenPart}
use Rattle.netlist.specs.declared.design.RegisterPart.{RegisterPart}
use Rattle.net_compile.specs.Cycle.{Front, Cycle, HasSlots, given_widths, signal_width}
use Rattle.net_compile.specs.declared.layout.Layout.{Layout}
use Rattle.net_compile.specs.declared.layout.Given.{Given}
use Rattle.net_compile.specs.declared.ranges.Near.{Near}
use Rattle.net_compile.specs.declared.ranges.Near.TheVariants as near
use Rattle.net_compile.specs.declared.pieces.Source.{Source}
use Rattle.net_compile.specs.declared.pieces.Source.TheVariants as source
use Rattle.net_compile.specs.declared.pieces.Piece.{Piece}

-- ---- ranges in order

-- one bit of a signal
abbrev pub one_bit : ℕ → ℕ → Range
one_bit signal place = record { signal = signal; low = place; width = 1 }

-- the first ranges, so many, end before a bit, and the next one doesn't
pub record IsFirstNotBefore (ranges : List Range) (signal place n : ℕ) : Type 0 where
  pub within : n ≤ length ranges
  pub before : (k : ℕ) (d : Range) → k < n → IsBefore (slice_index_or ranges k d) (one_bit signal place)
  pub after : (d : Range) → n < length ranges → IsBefore (slice_index_or ranges n d) (one_bit signal place) → ⊥

-- the range of this number has the bit; or none has a bit of the signal from the place on, up to another
abbrev pub IsNear : List Range → ℕ → ℕ → Near → Type 0
IsNear ranges signal place (near.Holder k) = (k < length ranges)
    × ((d : Range) → HasBit (slice_index_or ranges k d) signal place)
IsNear ranges signal place (near.Free until) = (place < until)
    × ((k i : ℕ) (d : Range) → k < length ranges → place ≤ i → i < until → HasBit (slice_index_or ranges k d) signal i
    → ⊥)

-- ---- where things stand

abbrev pub front_of : Given → Front
front_of g = record { narrow = g.narrow; wide = g.wide; slots = g.slots.items }

-- the layout is that of a well-formed design
pub record IsLaidOut (f : Flat) (l : Layout) : Type 0 where
  pub fits : IsWellFormed f
  pub slots : HasSlots (given_widths f) (front_of l.given)
  pub driven : l.driven.items ≡ map (λ p. p.range) f.driven
  pub registers : l.registers.items ≡ map (λ p. p.range) f.registers

-- ---- pieces

-- the number of a source
abbrev pub source_value : Flat → State → List ℕ → Values → Source → ℕ
source_value f s row v (source.Node n) = slice_index (node_values f v) n
source_value f s row v (source.Register k) = slice_index s.registers k
source_value f s row v (source.Input k) = slice_index row k
source_value f s row v (source.Kept n) = n

abbrev pub source_number : (f : Flat) (front : Front) → Source → Cycle f front → ℕ
source_number f front x c = source_value f c.state c.row c.values x

-- what gives a signal its bits that lie in no part: a data input the row, another what it keeps
abbrev pub source_for : ℕ → Role → Source
source_for kept role.Clock = source.Kept 0
source_for kept (role.Input k) = source.Input k
source_for kept role.Inner = source.Kept kept

-- the source is there, and has this width
abbrev pub SourceFits : Flat → ℕ → Source → Type 0
SourceFits f w (source.Node n) = width_at f.nodes n ≡ w
SourceFits f w (source.Register k) = (k < length f.registers)
    × ((d : RegisterPart) → (slice_index_or f.registers k d).range.width ≡ w)
SourceFits f w (source.Input k) = (k < length f.inputs) × (signal_width f.signals (slice_index f.inputs k) ≡ w)
SourceFits f w (source.Kept n) = n < 2 ^ w

-- the driven part of this number has the bit, or the register part
abbrev pub DrivenHas : Flat → ℕ → ℕ → ℕ → Type 0
DrivenHas f k signal place = (d : DrivenPart) → HasBit (slice_index_or f.driven k d).range signal place

abbrev pub RegisterHas : Flat → ℕ → ℕ → ℕ → Type 0
RegisterHas f k signal place = (d : RegisterPart) → HasBit (slice_index_or f.registers k d).range signal place

-- the signal is there, and has so many bits or more
abbrev pub Reaches : Flat → ℕ → ℕ → Type 0
Reaches f signal end = IsSomeAnd (slice_get f.signals signal) (λ s. end ≤ s.width)

-- the bits of a signal from a place up to another lie in no part
abbrev pub AreInNone : Flat → ℕ → ℕ → ℕ → Type 0
AreInNone f signal place end = (i : ℕ) → place ≤ i → i < end → LiesInNone f signal i

-- the bits of a signal from a place on are bits of the source, up to the end or less
pub record IsPiece (f : Flat) (signal place end : ℕ) (p : Piece) : Type 0 where
  pub some : 1 ≤ p.width
  pub within : place + p.width ≤ end
  pub wide : IsWidth p.of
  pub inside : p.from + p.width ≤ p.of
  pub fits : SourceFits f p.of p.source
  pub value : (s : State) (row : List ℕ) (v : Values) → FlatSettles f s row v
      → ops.select (pos place) p.width (slice_index v.signals signal)
      ≡ ops.select (pos p.from) p.width (source_value f s row v p.source)
