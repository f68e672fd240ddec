-- The parts of a numbered design that own a list, as plain records. This project's own.
use Rattle.std.specs.Prelude.{ℕ, List, Option}
use Rattle.netlist.specs.declared.design.Event.{Event}

-- a memory: the width of its words, the indices of its first and its last word, its words in the first cycle, the
-- block that writes it
pub record PlainMemory : Type 0 where
  pub width : ℕ
  pub first : ℕ
  pub last : ℕ
  pub words : List ℕ
  pub writer : Option ℕ

-- a clocked block: the scope in which it stands, its events in order of execution
pub record PlainBlock : Type 0 where
  pub scope : ℕ
  pub events : List Event
