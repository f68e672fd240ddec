-- What private functions promise each other: nodes that are read, and places of words. This project's own.
use Rattle.std.specs.Prelude.{◌≡◌, ℕ, ◌^◌, ◌<◌, ◌≤◌, List, length, slice_index, ℤ, pos, negsuc, ◌-ℤ◌}
use Rattle.netlist.specs.Plain.{PlainMemory}
use Rattle.netlist.specs.Design.{Flat}
use Rattle.netlist.specs.Fits.{IsWellFormed, WriteFits}
use Rattle.netlist.specs.Run.{write_word}
use Rattle.netlist.specs.Values.{width_at, index_at, least_index}
use Rattle.netlist.specs.declared.design.MemoryWrite.{MemoryWrite}
use Rattle.step_program.specs.Plan.{held}
use Rattle.held_state.specs.Slots.{numbers}
use Rattle.held_state.specs.declared.nodes.Nodes.TheInside.{Inside}

-- a design, and a number for each of its nodes
pub record NodeValues : Type 0 where
  pub flat : Flat
  pub numbers : List ℕ

abbrev pub values_of : Inside → NodeValues
values_of n = record { flat = n.flat.now; numbers = numbers (held n.values.now) n.slots.now }

-- of each node of a well-formed design a number below 2^width
pub record AreNodes (f : Flat) (xs : List ℕ) : Type 0 where
  pub fits : IsWellFormed f
  pub count : length xs ≡ length f.nodes
  pub fit : (k : ℕ) → k < length xs → slice_index xs k < 2 ^ width_at f.nodes k

abbrev pub AreValues : Inside → Type 0
AreValues n = AreNodes (values_of n).flat (values_of n).numbers

-- the write is one of a well-formed design
abbrev pub IsWriteOf : Flat → MemoryWrite → Type 0
IsWriteOf f w = WriteFits (length f.blocks) f.memories f.nodes w

-- the words of its memory once the write is done
abbrev pub word_written : NodeValues → MemoryWrite → PlainMemory → List ℕ → List ℕ
word_written n w m words =
    write_word m.width (index_at n.flat.nodes n.numbers w.place) w.width (slice_index n.numbers w.value) words
    (index_at n.flat.nodes n.numbers w.index -ℤ pos (least_index m))

-- no word of so many stands at the place
abbrev pub IsOutside : ℕ → ℤ → Type 0
IsOutside count (pos k) = count ≤ k
IsOutside count (negsuc k) = Unit {0}
