-- What a compiled design promises. This project's own.
use Rattle.std.specs.Prelude.{◌≡◌, ℕ, ◌^◌, ◌<◌, List, length, slice_index, slice_index_or, Option, None, IsSomeAnd}
use Rattle.netlist.specs.Design.{Flat}
use Rattle.netlist.specs.Run.{all_words}
use Rattle.netlist.specs.Values.{width_at, node_values}
use Rattle.step_program.specs.Values.{slot_value, is_narrow_width}
use Rattle.step_program.specs.Fits.{IsSlot, is_narrow_slot}
use Rattle.step_program.specs.Plan.{Plan, narrow_total, wide_total, ran}
use Rattle.step_program.specs.Table.{Table, stands}
use Rattle.step_program.specs.declared.step.Slot.{Slot}
use Rattle.net_compile.specs.Cycle.{Front, Cycle, HasSlots, given_widths, slot_at}

-- each of these slots is there, and stands at its place in the program
abbrev pub ArePlaced : Table → List (Option Slot) → List Slot → Type 0
ArePlaced table slots found = (length found ≡ length slots) × ((n : ℕ) → n < length slots
    → IsSomeAnd (slice_index_or slots n None) (λ slot. slot_at found n ≡ stands table slot))

-- the program of a design, its given slots, and the slot of each node
pub record Machine : Type 0 where
  pub plan : Plan
  pub front : Front
  pub nodes : List Slot

-- the given slots are those of the design, and in each cycle the slot of each node, narrow where its width is at most 64,
-- holds the node's value, which is below 2^width, once the program has run
pub record Compiles (f : Flat) (m : Machine) : Type 0 where
  pub slots : HasSlots (given_widths f) m.front
  pub narrow : m.plan.narrow ≡ m.front.narrow
  pub wide : m.plan.wide ≡ m.front.wide
  pub count : length m.nodes ≡ length f.nodes
  pub within : (n : ℕ) → n < length f.nodes → IsSlot (narrow_total m.plan) (wide_total m.plan) (slot_at m.nodes n)
  pub kind : (n : ℕ) → n < length f.nodes
      → is_narrow_slot (slot_at m.nodes n) ≡ is_narrow_width (width_at f.nodes n)
  pub fits : (n : ℕ) (c : Cycle f m.front) → n < length f.nodes
      → slice_index (node_values f c.values) n < 2 ^ width_at f.nodes n
  pub value : (n : ℕ) (c : Cycle f m.front) → n < length f.nodes
      → slot_value (ran m.plan (all_words f.memories c.state.memories) c.given) (slot_at m.nodes n)
      ≡ slice_index (node_values f c.values) n
