-- Changes of a design's state, and going back over them. This project's own.
use Rattle.std.specs.Prelude.{ℕ, List, [], ◌∷◌, slice_index, slice_index_or, slice_set}
use Rattle.netlist.specs.Run.{State}
use Rattle.state_changes.specs.declared.changes.Element.{Element}
use Rattle.state_changes.specs.declared.changes.Element.TheVariants as e
use Rattle.state_changes.specs.declared.changes.Change.{Change}

-- the value of an element in a state
abbrev pub value_in : State → Element → ℕ
value_in s (e.Register k) = slice_index s.registers k
value_in s (e.Word m k) = slice_index (slice_index_or s.memories m []) k

-- the state with another value of an element
abbrev pub with_value : State → Element → ℕ → State
with_value s (e.Register k) n = record { registers = slice_set s.registers k n; memories = s.memories }
with_value s (e.Word m k) n =
    record { registers = s.registers; memories = slice_set s.memories m (slice_set (slice_index_or s.memories m []) k n) }

-- the state before these changes, which are given from the newest on: each element has its old value again
abbrev pub undone : List Change → State → State
undone [] s = s
undone (c ∷ cs) s = undone cs (with_value s c.element c.old)
