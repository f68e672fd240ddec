-- The first of the driven parts that something reads, where each part has a rank. This project's own.
use Rattle.std.specs.Prelude.{◌≡◌, ℕ, ◌<◌, ◌≤◌, ◌⊎◌, ◌==◌, ◌&&◌, ◌||◌, Bool, nat_lt, nat_le, if◌then◌else◌, List, [], ◌∷◌, length, slice_index, slice_index_or, slice_get, Option, Some, None, IsSomeAnd, IsTrue}
use Rattle.netlist.specs.Design.{Flat}
use Rattle.netlist.specs.Graph.{reads, reads_bits, overlap, ReadsPart}
use Rattle.netlist.specs.declared.design.Range.{Range}
use Rattle.netlist.specs.declared.design.DrivenPart.{DrivenPart}
use Rattle.netlist.specs.declared.node.Operation.{Operation}

-- a part comes before another: its rank is lower, or the same and its number is no higher
abbrev pub ComesFirst : List ℕ → ℕ → ℕ → Type 0
ComesFirst ranks a b = (slice_index ranks a < slice_index ranks b) ⊎ ((slice_index ranks a ≡ slice_index ranks b)
    × (a ≤ b))

-- the first of the parts of which P holds; none where there is none
abbrev pub IsFirst : List ℕ → (ℕ → Type 0) → Option ℕ → Type 0
IsFirst ranks P None = (q : ℕ) → P q → ⊥
IsFirst ranks P (Some b) = P b × ((q : ℕ) → P q → ComesFirst ranks b q)

-- the driven part of this number shares a bit with the range
abbrev pub Shares : List DrivenPart → Range → ℕ → Type 0
Shares driven range q = IsSomeAnd (slice_get driven q) (λ y. IsTrue (overlap range y.range))

-- node n reads a bit of the driven part of this number
abbrev pub NodeReads : Flat → ℕ → ℕ → Type 0
NodeReads f n q = IsSomeAnd (slice_get f.driven q) (λ y. IsTrue (reads f n y))

-- of each node so far the first part that it reads
abbrev pub NodesFirst : Flat → List ℕ → List (Option ℕ) → Type 0
NodesFirst f ranks firsts = (n : ℕ) → n < length firsts → IsFirst ranks (NodeReads f n) (slice_index_or firsts n None)

-- of each driven part the first part that it reads
pub record AreFirst (f : Flat) (ranks : List ℕ) (firsts : List (Option ℕ)) : Type 0 where
  pub count : length firsts ≡ length f.driven
  pub each : (p : ℕ) → p < length f.driven → IsFirst ranks (ReadsPart f p) (slice_index_or firsts p None)

-- ---- by tests

abbrev pub comes_first : List ℕ → ℕ → ℕ → Bool
comes_first ranks a b = nat_lt (slice_index ranks a) (slice_index ranks b)
    || ((slice_index ranks a == slice_index ranks b) && nat_le a b)

-- the first of two, each of which may be missing
abbrev pub first_of : List ℕ → Option ℕ → Option ℕ → Option ℕ
first_of ranks None b = b
first_of ranks (Some a) None = Some a
first_of ranks (Some a) (Some b) = Some (if comes_first ranks a b then a else b)

-- the first of a given one and of what these nodes read first
abbrev pub first_among : List ℕ → List (Option ℕ) → Option ℕ → List ℕ → Option ℕ
first_among ranks firsts best [] = best
first_among ranks firsts best (a ∷ as') =
    first_among ranks firsts (first_of ranks best (slice_index_or firsts a None)) as'

-- the operation reads a bit of the driven part of this number itself
abbrev pub Touches : List DrivenPart → Operation → ℕ → Type 0
Touches driven x q = IsSomeAnd (slice_get driven q) (λ y. IsTrue (reads_bits y.range x))
