-- The values of nodes fit their widths. This project's own.
use Rattle.std.specs.Prelude.{◌≡◌, ℕ, ◌^◌, ◌<◌, [], slice_get, slice_index, slice_index_or, Some}
use Rattle.netlist.specs.Design.{Flat}
use Rattle.netlist.specs.Plain.{PlainMemory}
use Rattle.netlist.specs.Fits.{IsWellFormed}
use Rattle.netlist.specs.Values.{Values, node_values}
use Rattle.netlist.specs.declared.node.Node.{Node}

-- the words of each memory are within its width
abbrev pub WordsAreFit : Flat → Values → Type 0
WordsAreFit f v = (t k : ℕ) (m : PlainMemory) → slice_get f.memories t ≡ Some m
    → slice_index (slice_index_or v.memories t []) k < 2 ^ m.width

-- a law: over such words, whatever the signals are, each node's value is within its width
abbrev pub NodesFitLaw : Type 0
NodesFitLaw = (f : Flat) (v : Values) (k : ℕ) (x : Node) → IsWellFormed f → WordsAreFit f v → slice_get f.nodes k ≡ Some x
    → slice_index (node_values f v) k < 2 ^ x.width
