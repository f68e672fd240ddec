-- Moves of numbers between slots. This project's own.
use Rattle.std.specs.Prelude.{◌≡◌, ℕ, ◌<◌, ◌≤◌, IsTrue, List, [], ◌∷◌, ◌++◌, length, map, take, slice_index, slice_index_or, slice_set}
use Rattle.std.specs.List.{All}
use Rattle.netlist.specs.Design.{Flat}
use Rattle.netlist.specs.declared.design.RegisterPart.{RegisterPart}
use Rattle.step_program.specs.Values.{Slots}
use Rattle.step_program.specs.declared.step.Slot.{Slot}
use Rattle.step_program.specs.declared.step.Slot.TheVariants as at
use Rattle.net_compile.specs.Cycle.{slot_at}
use Rattle.net_compile.specs.Compiles.{Machine}
use Rattle.held_state.specs.Slots.{numbers}
use Rattle.held_state.specs.declared.commits.Move.{Move}
use Rattle.held_state.specs.declared.commits.Moves.{Moves}
use Rattle.held_state.specs.declared.commits.Commit.{Commit}

-- ---- moves of one kind of slots

-- the numbers that are moved, as they stand
abbrev pub moved : {T : Type 0} → T → List T → List Move → List T
moved {T} d xs ms = map (λ m. slice_index_or xs m.from d) ms

abbrev pub HaveMoved : {T : Type 0} → List T → List Move → List T → Type 0
HaveMoved {T} xs ms ns = (d : T) → ns ≡ moved d xs ms

-- with these numbers where the moves go
abbrev pub with_moved : {T : Type 0} → List T → List Move → List T → List T
with_moved xs [] ns = xs
with_moved xs (m ∷ ms) [] = xs
with_moved xs (m ∷ ms) (n ∷ ns) = with_moved (slice_set xs m.to n) ms ns

-- the slots after moves that take numbers as they stood before the first of them
abbrev pub AreMoved : {T : Type 0} → List T → List Move → List T → Type 0
AreMoved {T} xs ms ys = (d : T) → ys ≡ with_moved xs ms (moved d xs ms)

-- each move goes from a slot above all to which one goes
abbrev pub AreInTurn : List Move → Type 0
AreInTurn ms = (n : ℕ) × All (λ m. m.to < n) ms × All (λ m. n ≤ m.from) ms

-- ---- moves between slots

-- a move to a slot from another one, where both are narrow; where both are wide
abbrev pub narrow_move : Slot → Slot → List Move
narrow_move (at.Narrow k) (at.Narrow j) = record { from = j; to = k } ∷ []
narrow_move (at.Narrow k) (at.Wide j) = []
narrow_move (at.Wide k) from = []

abbrev pub wide_move : Slot → Slot → List Move
wide_move (at.Narrow k) from = []
wide_move (at.Wide k) (at.Narrow j) = []
wide_move (at.Wide k) (at.Wide j) = record { from = j; to = k } ∷ []

-- a move to each of these slots, from the one at its place in the other list
abbrev pub narrow_moves : List Slot → List Slot → List Move
narrow_moves [] from = []
narrow_moves (t ∷ to) [] = []
narrow_moves (t ∷ to) (f ∷ from) = narrow_move t f ++ narrow_moves to from

abbrev pub wide_moves : List Slot → List Slot → List Move
wide_moves [] from = []
wide_moves (t ∷ to) [] = []
wide_moves (t ∷ to) (f ∷ from) = wide_move t f ++ wide_moves to from

pub record AreMoves (to from : List Slot) (m : Moves) : Type 0 where
  pub narrow : m.narrow.items ≡ narrow_moves to from
  pub wide : m.wide.items ≡ wide_moves to from

-- ---- all at once

-- room for as many numbers as are moved; the narrow ones are in turn where it says so
pub record CanMove (c : Commit) : Type 0 where
  pub narrow : length c.narrow_room.items ≡ length c.moves.narrow.items
  pub wide : length c.wide_room.items ≡ length c.moves.wide.items
  pub turn : IsTrue c.in_turn → AreInTurn c.moves.narrow.items

-- each move is between slots that are there
abbrev pub AreThere : ℕ → List Move → Type 0
AreThere n ms = All (λ m. m.from < n) ms × All (λ m. m.to < n) ms

abbrev pub IsThere : Slots → Commit → Type 0
IsThere x c = AreThere (length x.narrow) c.moves.narrow.items × AreThere (length x.wide) c.moves.wide.items

-- the slots x after moves of narrow ones and of wide ones, which take numbers as they stand in y
abbrev pub after_both : Slots → Slots → List Move → List Move → Slots
after_both x y narrow wide = record {
  narrow = with_moved x.narrow narrow (moved 0 y.narrow narrow);
  wide = with_moved x.wide wide (moved 0 y.wide wide);
}

-- the slots after all moves, each of which takes a number as it stood before the first of them
abbrev pub after_moves : Moves → Slots → Slots
after_moves m x = after_both x x m.narrow.items m.wide.items

-- ---- the moves of a design

-- the slots of the next nodes of the register parts
abbrev pub next_slots : List RegisterPart → List Slot → List Slot
next_slots parts nodes = map (λ p. slot_at nodes p.next) parts

-- a commit between these slots
pub record IsCommit (to from : List Slot) (c : Commit) : Type 0 where
  pub moves : AreMoves to from c.moves
  pub can : CanMove c

-- the numbers of the register parts
abbrev pub register_numbers : Flat → Machine → Slots → List ℕ
register_numbers f m x = numbers x (take (length f.registers) m.front.slots)

-- the values of the next nodes of the register parts, where these are the values of all nodes
abbrev pub next_numbers : Flat → List ℕ → List ℕ
next_numbers f xs = map (λ p. slice_index xs p.next) f.registers

-- the commit is to the slots of the register parts from those of their next nodes
abbrev pub IsCommitOf : Flat → Machine → Commit → Type 0
IsCommitOf f m c = IsCommit (take (length f.registers) m.front.slots) (next_slots f.registers m.nodes) c
