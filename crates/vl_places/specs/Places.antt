-- Bits of a vector from an index that varies (IEEE 1364-2005, 5.2.1). This project's own: signals and indices are told by numbers.
use Rattle.std.specs.Prelude.{◌≡◌, ℕ, ◌||◌, List, Result, Some, IfOk, ℤ, pos, ◌-ℤ◌, ◌+ℤ◌, slice_get, slice_index}
use Rattle.std.specs.List.{list_any}
use Rattle.bit_ops.specs.Operators as ops
use Rattle.netlist.specs.declared.node.Node.{Node}
use Rattle.vl_value.specs.Things.{Shape, width_of, place_of}
use Rattle.vl_value.specs.Reads.{up_to}
use Rattle.vl_nodes.specs.declared.made.Made.{Made}
use Rattle.vl_nodes.specs.Sense.{Sense, Ground}
use Rattle.vl_nodes.specs.Nodes.{Is}
use Rattle.vl_nodes.specs.Calls.{MakesAt}
use Rattle.vl_vectors.specs.Vectors.{has_place}
use Rattle.vl_places.specs.declared.places.Way.{Way}
use Rattle.vl_places.specs.declared.places.Way.TheVariants as way
use Rattle.vl_places.specs.declared.places.Varying.{Varying}

-- the least of the n indices that a select covers from the index z
abbrev pub least_index : Way → ℤ → ℕ → ℤ
least_index way.Upward z n = z
least_index way.Downward z n = (z -ℤ pos n) +ℤ pos 1

-- the place of the rightmost of them
abbrev pub place_from : Shape → Way → ℤ → ℕ → ℤ
place_from sh w z n = place_of sh (least_index w z n) n

-- Bits of a signal from the index that a sense tells. As the index isn't the same in each moment, the whole vector is read.
abbrev pub bits_by : ℕ → Shape → Varying → Sense → Sense
bits_by signal sh p x = record {
  value = λ v. ops.select (place_from sh p.way (ops.integer p.signed p.index.width (x.value v)) p.count) p.count
      (slice_index v.signals signal);
  reads = λ q. list_any (has_place q signal) (up_to (width_of sh)) || x.reads q;
}

-- the node that is answered is worth these bits, where the ground has the signal
abbrev pub IsBitsBy : {E : Type 0} → List Node → List Node → ℕ → Shape → Varying → Result Made E → Type 0
IsBitsBy from to signal sh p result = (g : Ground) (x : Sense) → slice_get g.signals signal ≡ Some (width_of sh)
    → Is g from p.index x → IfOk result (MakesAt g from to p.count (bits_by signal sh p x))

-- the same of a vector that a sense tells, such as a memory's word
abbrev pub node_bits_by : Shape → Varying → Sense → Sense → Sense
node_bits_by sh p y x = record {
  value = λ v. ops.select (place_from sh p.way (ops.integer p.signed p.index.width (x.value v)) p.count) p.count (y.value v);
  reads = λ q. y.reads q || x.reads q;
}

abbrev pub IsNodeBitsBy : {E : Type 0} → List Node → List Node → Made → Shape → Varying → Result Made E → Type 0
IsNodeBitsBy from to of sh p result = (g : Ground) (y x : Sense) → Is g from of y → Is g from p.index x
    → IfOk result (MakesAt g from to p.count (node_bits_by sh p y x))
