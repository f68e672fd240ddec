-- Bits of a signal from a fixed index (IEEE 1364-2005, 5.2.1). This project's own: signals are told by numbers.
use Rattle.std.specs.Prelude.{◌≡◌, ℕ, List, ℤ, Result, Some, IfOk, slice_get}
use Rattle.netlist.specs.declared.node.Node.{Node}
use Rattle.vl_value.specs.Things.{Shape, width_of}
use Rattle.vl_nodes.specs.declared.made.Made.{Made}
use Rattle.vl_nodes.specs.Sense.{Sense, Ground}
use Rattle.vl_nodes.specs.Calls.{MakesAt}
use Rattle.vl_vectors.specs.Vectors.{bits_at}
use Rattle.vl_places.specs.declared.places.Way.{Way}
use Rattle.vl_places.specs.Places.{place_from}

-- n bits of a signal from the index z
abbrev pub fixed_bits : ℕ → Shape → Way → ℤ → ℕ → Sense
fixed_bits signal sh w z n = bits_at signal (width_of sh) (place_from sh w z n) n

-- the node that is answered is worth these bits, where the ground has the signal
abbrev pub IsFixedBits : {E : Type 0} → List Node → List Node → ℕ → Shape → Way → ℤ → ℕ → Result Made E → Type 0
IsFixedBits from to signal sh w z n result = (g : Ground) → slice_get g.signals signal ≡ Some (width_of sh)
    → IfOk result (MakesAt g from to n (fixed_bits signal sh w z n))
