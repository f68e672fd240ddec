-- Nodes of a design that have values of an old one. This project's own.
use Rattle.std.specs.Prelude.{◌≡◌, ℕ, false, if◌then◌else◌, ◌+◌, ◌^◌, ◌<◌, List, [], ◌∷◌}
use Rattle.std.specs.Prelude.{◌++◌, length, map, slice_get, slice_index, slice_index_or, Result, Some, IfOk}
use Rattle.std.specs.Option.{option_map, unwrap_or}
use Rattle.bit_ops.specs.Operators.{low, holds}
use Rattle.flat_ir.specs.FlatRun as plain
use Rattle.flat_ir.specs.Shown.{flat_shown}
use Rattle.flat_ir.specs.declared.design.Signal as old_signal
use Rattle.flat_ir.specs.declared.design.Node as old_node
use Rattle.bit_ops.specs.declared.operator.Binary.{Binary}
use Rattle.netlist.specs.Design.{Flat}
use Rattle.netlist.specs.Fits.{AllAt, IsWidth, IsWellFormed, NodeFits}
use Rattle.netlist.specs.Values.{node_values}
use Rattle.netlist.specs.declared.design.Signal.{Signal}
use Rattle.netlist.specs.declared.design.Range.{Range}
use Rattle.netlist.specs.declared.node.Node.{Node}
use Rattle.netlist.specs.declared.node.Operation.TheVariants as o
use Rattle.one_block.specs.declared.made.Made.{Made}
use Rattle.one_block.specs.OneBlock.{Fits, IsOneBlock}
use Rattle.one_block.specs.SameDesign.{signal_of, input_places, register_ranges, whole, values_of}

-- ---- signals as nodes

-- the node that reads the whole of a signal
abbrev pub read : ℕ → ℕ → Node
read k width = record { width = width; operation = o.Bits (whole k width) }

abbrev pub reads_from : ℕ → List Signal → List Node
reads_from k [] = []
reads_from k (s ∷ ss) = read k s.width ∷ reads_from (k + 1) ss

-- the signals of a table, and which of them show data inputs and registers, are those of the old design
pub record IsTable (p : plain.Flat) (signals : List Signal) (inputs : List ℕ) (registers : List Range) : Type 0 where
  pub signals_are : signals ≡ map signal_of p.signals
  pub inputs_are : inputs ≡ input_places 0 p.signals
  pub registers_are : registers ≡ register_ranges 0 p.signals

-- each number is below the count
abbrev pub AreBelow : ℕ → List ℕ → Type 0
AreBelow count numbers = (k : ℕ) → k < length numbers → slice_index numbers k < count

-- the node that reads a data input, and the one that reads a register
abbrev pub input_node : List Signal → List ℕ → ℕ → Made
input_node signals inputs i = record {
  node = slice_index inputs i;
  width = unwrap_or (option_map (λ s. s.width) (slice_get signals (slice_index inputs i))) 0;
}

abbrev pub range_at : List Range → ℕ → Range
range_at ranges r = slice_index_or ranges r (record { signal = 0; low = 0; width = 0 })

abbrev pub register_node : List Range → ℕ → Made
register_node ranges r = record { node = (range_at ranges r).signal; width = (range_at ranges r).width }

-- ---- values

-- a number for each row and state
abbrev pub Value : Type 0
Value = List ℕ → List ℕ → ℕ

-- what the old design's node k is worth, and what its signal k shows
abbrev pub node_of : plain.Flat → ℕ → Value
node_of p k = λ row state. slice_index (plain.flat_values p row state) k

abbrev pub shown_of : plain.Flat → ℕ → Value
shown_of p k = λ row state. slice_index (flat_shown p row state) k

-- a well-formed design that begins with these nodes
pub record GoesOn (nodes : List Node) (f : Flat) : Type 0 where
  pub fits : IsWellFormed f
  pub begins : (k : ℕ) (x : Node) → slice_get nodes k ≡ Some x → slice_get f.nodes k ≡ Some x

-- the node is there, of its width, and has this value in each such design, with every row and state that fit
pub record HasValue (p : plain.Flat) (nodes : List Node) (m : Made) (value : Value) : Type 0 where
  pub here : Node
  pub stands : slice_get nodes m.node ≡ Some here
  pub wide : here.width ≡ m.width
  pub is_width : IsWidth m.width
  pub below : (row state : List ℕ) → Fits p row state → value row state < 2 ^ m.width
  pub is : (f : Flat) (row state : List ℕ) → GoesOn nodes f → Fits p row state
      → slice_index (node_values f (values_of p row state)) m.node ≡ value row state

-- each node fits those below it, beside these signals
abbrev pub NodesFit : List Signal → List Node → Type 0
NodesFit signals nodes = AllAt (NodeFits signals [] nodes) nodes

-- nodes were added at the end, and they fit
pub record Grows (signals : List Signal) (from to : List Node) : Type 0 where
  pub more : List Node
  pub whole : to ≡ from ++ more
  pub fit : NodesFit signals from → NodesFit signals to

-- nodes were added, and this one has this value
pub record Makes (p : plain.Flat) (from to : List Node) (m : Made) (value : Value) : Type 0 where
  pub grown : Grows (map signal_of p.signals) from to
  pub has : HasValue p to m value

-- ---- what calls give

-- of a node one of this width, which has its low bits
abbrev pub IsFitted : {E : Type 0} → List Node → List Node → Made → ℕ → Result Made E → Type 0
IsFitted from to of width result = (p : plain.Flat) (v : Value) → IsWidth width → HasValue p from of v
    → IfOk result (λ m. (m.width ≡ width) × Makes p from to m (λ row state. low width (v row state)))

-- of a node one that has this function of its value, and the same of two
abbrev pub IsOfOne : {E : Type 0} → List Node → List Node → Made → (ℕ → ℕ) → Result Made E → Type 0
IsOfOne from to of f result = (p : plain.Flat) (v : Value) → HasValue p from of v
    → IfOk result (λ m. Makes p from to m (λ row state. f (v row state)))

abbrev pub IsOfTwo : {E : Type 0} → List Node → List Node → Made → Made → (ℕ → ℕ → ℕ) → Result Made E → Type 0
IsOfTwo from to left right f result = (p : plain.Flat) (a b : Value) → HasValue p from left a → HasValue p from right b
    → IfOk result (λ m. Makes p from to m (λ row state. f (a row state) (b row state)))

-- of a condition and two nodes one that has the low bits of the first where the condition isn't 0, else the second
abbrev pub IsChoice : {E : Type 0} → List Node → List Node → Made → Made → Made → Result Made E → Type 0
IsChoice from to condition value other result = (p : plain.Flat) (c v o : Value) → HasValue p from condition c
    → HasValue p from value v → HasValue p from other o → IfOk result (λ m. (m.width ≡ other.width)
    × Makes p from to m (λ row state. if holds (c row state) then low other.width (v row state) else o row state))

-- ---- where a node is made

-- an unsigned operator on two nodes
abbrev pub binary : ℕ → Binary → ℕ → ℕ → Node
binary width operator a b = record { width = width; operation = o.Binary operator false a b }

-- each of the old design's nodes reads lower ones, and inputs and registers that are there
abbrev pub AllFit : ℕ → ℕ → List old_node.Node → Type 0
AllFit inputs registers nodes = (k : ℕ) (x : old_node.Node) → slice_get nodes k ≡ Some x
    → plain.NodeFits inputs registers k x

abbrev pub made_at : List Made → ℕ → Made
made_at made k = slice_index_or made k (record { node = 0; width = 0 })

-- a node for each signal, and for each of the first nodes of the old design, has its value
pub record Stands (p : plain.Flat) (nodes : List Node) (made : List Made) : Type 0 where
  pub signals : (k : ℕ) (s : old_signal.Signal) → slice_get p.signals k ≡ Some s
      → HasValue p nodes (record { node = k; width = s.width }) (shown_of p k)
  pub each : (k : ℕ) → k < length made → HasValue p nodes (made_at made k) (node_of p k)

-- what led to a node more: the old design, its table, and the nodes so far
pub record Led (p : plain.Flat) (signals : List Signal) (inputs : List ℕ) (registers : List Range) (nodes : List Node)
    (made : List Made) : Type 0 where
  pub is_block : IsOneBlock p
  pub well : plain.IsWellFormed p
  pub table : IsTable p signals inputs registers
  pub stands : Stands p nodes made

-- nodes were added, so that each of these old nodes has its value
pub record MakesAll (p : plain.Flat) (from to : List Node) (made : List Made) : Type 0 where
  pub grown : Grows (map signal_of p.signals) from to
  pub stands : Stands p to made
