-- Orders of a design's driven parts, loops of them, and the values to which a cycle settles in an order. This
-- project's own.
use Rattle.std.specs.Prelude.{◌≡◌, ℕ, suc, ◌-◌, ◌<◌, ◌≤◌, List, [], ◌∷◌, length, slice_index, slice_index_or, slice_get, Option, Some, None}
use Rattle.netlist.specs.Design.{Flat}
use Rattle.netlist.specs.Graph.{ReadsPart, ReadsIn}
use Rattle.netlist.specs.Values.{Values, node_values}
use Rattle.netlist.specs.Run.{State, put, given, all_words}
use Rattle.netlist.specs.declared.design.DrivenPart.{DrivenPart}

-- ---- orders and loops

-- as many numbers as driven parts, each part among them, each after those that it reads
pub record IsOrder (f : Flat) (order : List ℕ) : Type 0 where
  pub count : length order ≡ length f.driven
  pub each : (p : ℕ) → p < length f.driven → (i : ℕ) × (i < length order) × (slice_index order i ≡ p)
  pub after : (i j : ℕ) → i < length order → j < length order
      → ReadsPart f (slice_index order i) (slice_index order j) → j < i

-- of all parts that p reads, q comes back to s in the fewest reads, in n, and has the least number of those that do
pub record IsNearest (f : Flat) (p q s n : ℕ) : Type 0 where
  pub reads : ReadsPart f p q
  pub back : ReadsIn f n q s
  pub fewest : (r m : ℕ) → ReadsPart f p r → ReadsIn f m r s → n ≤ m
  pub least : (r : ℕ) → ReadsPart f p r → ReadsIn f n r s → q ≤ r

-- A list of parts that begins with the least one that reads itself, directly or through others. Each next one, and the
-- first after the last, is the nearest to the first of those that the one before it reads.
pub record IsLoop (f : Flat) (parts : List ℕ) : Type 0 where
  pub some : 0 < length parts
  pub first : (p n : ℕ) → ReadsIn f (suc n) p p → slice_index parts 0 ≤ p
  pub next : (i : ℕ) → i < length parts
      → IsNearest f (slice_index parts i) (slice_index_or parts (suc i) (slice_index parts 0)) (slice_index parts 0)
      (length parts - suc i)

-- ---- values in an order

-- the values with a driven part at its node's value
abbrev pub drive : Flat → Values → Option DrivenPart → Values
drive f v None = v
drive f v (Some p) = record v { signals = put f.signals p.range (slice_index (node_values f v) p.node) v.signals }

-- the values with these parts driven, one after another
abbrev pub driven_in : Flat → List ℕ → Values → Values
driven_in f [] v = v
driven_in f (k ∷ ks) v = driven_in f ks (drive f v (slice_get f.driven k))

-- the values of a cycle, its parts driven in an order over what the state and the row say
abbrev pub flat_val : Flat → List ℕ → State → List ℕ → Values
flat_val f order s row = driven_in f order
    (record { signals = given f s row; memories = all_words f.memories s.memories })
