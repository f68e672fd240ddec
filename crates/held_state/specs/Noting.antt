-- What private functions that note and undo changes promise each other. This project's own.
use Rattle.std.specs.Prelude.{◌≡◌, ℕ, ◌<◌, ◌==◌, if◌then◌else◌, List, ◌∷◌, length, map, slice_get, IsSomeAnd, ℤ, pos}
use Rattle.std.specs.List.{All}
use Rattle.netlist.specs.Design.{Flat}
use Rattle.netlist.specs.Run.{State}
use Rattle.netlist.specs.Values.{index_at, word_place}
use Rattle.netlist.specs.declared.design.MemoryWrite.{MemoryWrite}
use Rattle.step_program.specs.Values.{Slots, contents}
use Rattle.step_program.specs.Plan.{IsReady}
use Rattle.step_program.specs.declared.words.MemoryWords.{MemoryWords}
use Rattle.net_compile.specs.Compiles.{Machine}
use Rattle.state_changes.specs.Changes.{undone}
use Rattle.state_changes.specs.declared.changes.Element.{Element}
use Rattle.state_changes.specs.declared.changes.Change.{Change}
use Rattle.held_state.specs.Back.{ChangeFits}
use Rattle.held_state.specs.Kept.{AllKept, state_words}
use Rattle.held_state.specs.Moves.{register_numbers}
use Rattle.held_state.specs.States.{RegistersFit}
use Rattle.held_state.specs.Writes.{IsOutside}

-- ---- noting

-- with a note of an element's old value, where it takes another one
abbrev pub with_note : Element → ℕ → ℕ → List Change → List Change
with_note x old new notes = if old == new then notes else record { element = x; old = old } ∷ notes

-- notes in front of earlier ones: undone from a state, they give the one from which the earlier ones are undone
pub record Adds (f : Flat) (old new : List Change) (before after : State) : Type 0 where
  pub fit : All (ChangeFits f) old → All (ChangeFits f) new
  pub undoes : undone new after ≡ undone old before

-- the state of these register parts, where these are the words of all memories
abbrev pub state_with : Flat → List ℕ → List MemoryWords → State
state_with f ns ws = record { registers = ns; memories = state_words f.memories (map contents ws) }

-- so where words changed, whatever the register parts hold; and where register parts changed, whatever the words
abbrev pub AddsWords : Flat → List Change → List Change → List MemoryWords → List MemoryWords → Type 0
AddsWords f old new before after = (ns : List ℕ) → Adds f old new (state_with f ns before) (state_with f ns after)

abbrev pub AddsRegisters : Flat → List Change → List Change → List ℕ → List ℕ → Type 0
AddsRegisters f old new before after = (words : List (List ℕ))
    → Adds f old new (record { registers = before; memories = words }) (record { registers = after; memories = words })

-- the write goes to this place of its memory's words; or to none of them
abbrev pub goal_of : Flat → List ℕ → MemoryWrite → ℤ
goal_of f xs w = word_place f.memories w.memory (index_at f.nodes xs w.index)

abbrev pub GoesTo : Flat → List ℕ → MemoryWrite → ℕ → Type 0
GoesTo f xs w k = (goal_of f xs w ≡ pos k) × IsSomeAnd (slice_get f.memories w.memory) (λ m. k < length m.words)

abbrev pub GoesOutside : Flat → List ℕ → MemoryWrite → Type 0
GoesOutside f xs w = IsSomeAnd (slice_get f.memories w.memory) (λ m. IsOutside (length m.words) (goal_of f xs w))

-- ---- undoing

-- the state that the slots and the words hold
abbrev pub held_state : Flat → Machine → Slots → List MemoryWords → State
held_state f m x ws = state_with f (register_numbers f m x) ws

-- they are ready for the next cycle
pub record CanRun (f : Flat) (m : Machine) (x : Slots) (ws : List MemoryWords) : Type 0 where
  pub ready : IsReady m.plan x
  pub registers : RegistersFit f.registers (register_numbers f m x)
  pub words : AllKept f.memories ws
