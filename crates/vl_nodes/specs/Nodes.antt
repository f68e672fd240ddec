-- Nodes of numbered designs that are worth what a sense says. This project's own.
use Rattle.std.specs.Prelude.{◌≡◌, ℕ, length, ◌<◌, ◌^◌, ◌≤◌, ◌+◌, false, List, [], ◌++◌, map, slice_get, slice_index, slice_index_or, Some, IsSomeAnd}
use Rattle.netlist.specs.Design.{Flat}
use Rattle.netlist.specs.Plain.{PlainMemory}
use Rattle.netlist.specs.Fits.{AllAt, IsWidth, IsWellFormed, NodeFits, word_count}
use Rattle.netlist.specs.Graph.{nodes_read}
use Rattle.netlist.specs.Values.{Values, node_values}
use Rattle.netlist.specs.declared.design.Signal.{Signal}
use Rattle.netlist.specs.declared.design.Range.{Range}
use Rattle.netlist.specs.declared.node.Node.{Node}
use Rattle.vl_nodes.specs.declared.made.Made.{Made}
use Rattle.vl_nodes.specs.Sense.{Sense, Shape, Ground}

-- ---- designs

abbrev pub shape_of : PlainMemory → Shape
shape_of m = record { width = m.width; first = m.first; last = m.last }

-- these signals and memories are those of the ground
pub record AreOn (g : Ground) (ss : List Signal) (ms : List PlainMemory) : Type 0 where
  pub signals : map (λ s. s.width) ss ≡ g.signals
  pub memories : map shape_of ms ≡ g.memories

-- a well-formed design on the ground, which begins with these nodes
pub record GoesOn (g : Ground) (nodes : List Node) (f : Flat) : Type 0 where
  pub fits : IsWellFormed f
  pub ground : AreOn g f.signals f.memories
  pub begins : (k : ℕ) (x : Node) → slice_get nodes k ≡ Some x → slice_get f.nodes k ≡ Some x

-- as many words as a memory has, each below 2^width
pub record WordsFit (m : Shape) (ns : List ℕ) : Type 0 where
  pub count : length ns ≡ word_count m.first m.last
  pub each : (i : ℕ) → slice_index ns i < 2 ^ m.width

-- a number below 2^width for each signal, and words for each memory
pub record ValuesFit (g : Ground) (v : Values) : Type 0 where
  pub signals_count : length v.signals ≡ length g.signals
  pub signals : (k w : ℕ) → slice_get g.signals k ≡ Some w → slice_index v.signals k < 2 ^ w
  pub memories_count : length v.memories ≡ length g.memories
  pub words : (k : ℕ) (m : Shape) → slice_get g.memories k ≡ Some m → WordsFit m (slice_index_or v.memories k [])

-- the range lies within a signal of the ground, and the memory is there and has words of this width
abbrev pub HasRange : Ground → Range → Type 0
HasRange g r = IsSomeAnd (slice_get g.signals r.signal) (λ w. r.low + r.width ≤ w)

abbrev pub HasMemory : Ground → ℕ → ℕ → Type 0
HasMemory g k width = IsSomeAnd (slice_get g.memories k) (λ m. m.width ≡ width)

-- ---- nodes

-- a node is there, of its width; over all values that fit, the sense's number is within that width; and in each such design the
-- node is worth what the sense says, and reads bits of exactly the ranges, of a bit at least, that the sense reads
pub record Is (g : Ground) (nodes : List Node) (m : Made) (x : Sense) : Type 0 where
  pub here : Node
  pub stands : slice_get nodes m.node ≡ Some here
  pub wide : here.width ≡ m.width
  pub is_width : IsWidth m.width
  pub fits : (v : Values) → ValuesFit g v → x.value v < 2 ^ m.width
  pub value : (f : Flat) (v : Values) → GoesOn g nodes f → ValuesFit g v
      → slice_index (node_values f v) m.node ≡ x.value v
  pub reads : (f : Flat) (q : Range) → GoesOn g nodes f → 1 ≤ q.width
      → slice_index_or (nodes_read q [] f.nodes) m.node false ≡ x.reads q

-- each node fits those below it, beside all signals and memories of the ground
abbrev pub AllFit : Ground → List Node → Type 0
AllFit g nodes = (ss : List Signal) (ms : List PlainMemory) → AreOn g ss ms → AllAt (NodeFits ss ms nodes) nodes

-- nodes were added at the end, and they fit
pub record Grows (g : Ground) (from to : List Node) : Type 0 where
  pub more : List Node
  pub whole : to ≡ from ++ more
  pub fit : AllFit g from → AllFit g to

-- nodes were added, and this one is worth this
pub record Makes (g : Ground) (from to : List Node) (m : Made) (x : Sense) : Type 0 where
  pub grown : Grows g from to
  pub is : Is g to m x
