-- What the nodes of a numbered design read of its memories, as `netlist` has it of bits; and the nodes that a block reads. This project's own.
use Rattle.std.specs.Prelude.{ℕ, ◌==◌, ◌||◌, Bool, false, if◌then◌else◌, List, [], ◌∷◌, ◌++◌, slice_index_or, slice_get, Some, None}
use Rattle.netlist.specs.Design.{Flat}
use Rattle.netlist.specs.Plain.{PlainBlock}
use Rattle.netlist.specs.Graph.{operands, some_reads, nodes_read}
use Rattle.netlist.specs.declared.node.Node.{Node}
use Rattle.netlist.specs.declared.node.Operation.{Operation}
use Rattle.netlist.specs.declared.node.Operation.TheVariants as o
use Rattle.netlist.specs.declared.design.RegisterPart.{RegisterPart}
use Rattle.netlist.specs.declared.design.MemoryWrite.{MemoryWrite}
use Rattle.netlist.specs.declared.design.Effect.{Effect}
use Rattle.netlist.specs.declared.design.Effect.TheVariants as e
use Rattle.netlist.specs.declared.design.Event.{Event}
use Rattle.vl_design.specs.Lists.{each_of}

-- ---- what a node reads

-- whether a node reads the bit of a signal at a place, itself or through lower nodes
abbrev pub reads_bit : Flat → ℕ → ℕ → ℕ → Bool
reads_bit f n x k = slice_index_or (nodes_read (record { signal = x; low = k; width = 1 }) [] f.nodes) n false

-- an operation reads a word of the memory of a number itself
abbrev pub reads_word : ℕ → Operation → Bool
reads_word m (o.Word memory index) = memory == m
reads_word m _ = false

-- which nodes read a word of the memory, behind those of the list
abbrev pub words_read : ℕ → List Bool → List Node → List Bool
words_read m below [] = below
words_read m below (x ∷ xs) = words_read m (below ++ (reads_word m x.operation || some_reads below (operands x.operation)) ∷ []) xs

abbrev pub reads_memory : Flat → ℕ → ℕ → Bool
reads_memory f n m = slice_index_or (words_read m [] f.nodes) n false

-- ---- the nodes of a block: what its register parts take next, what its writes to memories say, and of its events the conditions and what
-- is shown

abbrev pub next_node : ℕ → RegisterPart → List ℕ
next_node b p = if p.block == b then p.next ∷ [] else []

abbrev pub write_nodes : ℕ → MemoryWrite → List ℕ
write_nodes b w = if w.block == b then w.condition ∷ w.index.node ∷ w.place.node ∷ w.value ∷ [] else []

abbrev pub shown_node : Effect → List ℕ
shown_node (e.Showed s) = s.node ∷ []
shown_node (e.Said t) = []
shown_node (e.Stopped p z) = []

abbrev pub event_nodes : Event → List ℕ
event_nodes x = x.condition ∷ shown_node x.effect

abbrev pub events_at : List PlainBlock → ℕ → List Event
events_at bs b = elim (slice_get bs b) [ Some x ↦ x.events | None ↦ [] ]

abbrev pub block_nodes : Flat → ℕ → List ℕ
block_nodes f b = each_of (next_node b) f.registers ++ (each_of (write_nodes b) f.writes ++ each_of event_nodes (events_at f.blocks b))
