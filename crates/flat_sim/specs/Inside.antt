-- What a simulator's fields stand for. This project's own.
use Rattle.std.specs.Prelude.{◌≡◌, ℕ, ◌^◌, ◌<◌, true, if◌then◌else◌, List, length, map, take, drop, slice_index, Some, None}
use Rattle.netlist.specs.Design.{Flat}
use Rattle.netlist.specs.Fits.{IsWellFormed}
use Rattle.netlist.specs.Order.{IsOrder}
use Rattle.netlist.specs.Run.{State, FlatSettles, put_driven, given, all_words}
use Rattle.netlist.specs.Values.{Values, width_at, node_values}
use Rattle.step_program.specs.Values.{contents}
use Rattle.step_program.specs.Plan.{IsReady, held}
use Rattle.net_compile.specs.Cycle.{RowFits}
use Rattle.net_compile.specs.Compiles.{Compiles}
use Rattle.flat_sim.specs.Moment.{Moment}
use Rattle.held_state.specs.Slots.{numbers}
use Rattle.held_state.specs.Moves.{IsCommitOf}
use Rattle.held_state.specs.Kept.{AllKept, state_words}
use Rattle.flat_sim.specs.Stops.{stop_slots}
use Rattle.held_state.specs.States.{RegistersFit}
use Rattle.flat_sim.specs.declared.sim.Sim.TheInside.{Inside}

abbrev pub flat_of : Inside → Flat
flat_of a = a.flat.now

-- the slots of the register parts hold the state's numbers, those of the data inputs the row's
abbrev pub state_of : Inside → State
state_of a = record {
  registers = numbers (held a.slots) (take (length (flat_of a).registers) a.compiled.front.slots);
  memories = state_words (flat_of a).memories (map contents a.words.items);
}

abbrev pub row_of : Inside → List ℕ
row_of a = numbers (held a.slots) (drop (length (flat_of a).registers) a.compiled.front.slots)

abbrev pub nodes_of : Inside → List ℕ
nodes_of a = numbers (held a.slots) a.compiled.nodes

-- the driven parts have the numbers of their nodes
abbrev pub values_of : Inside → Values
values_of a = record {
  signals = put_driven (flat_of a).signals (flat_of a).driven (nodes_of a) (given (flat_of a) (state_of a) (row_of a));
  memories = all_words (flat_of a).memories (state_of a).memories;
}

abbrev pub moment_of : Inside → Moment
moment_of a = record {
  flat = flat_of a;
  cycle = a.cycle;
  state = state_of a;
  values = if a.settled then Some (values_of a) else None;
}

abbrev pub HasOrder : Flat → Type 0
HasOrder f = (order : List ℕ) × IsOrder f order

-- the slots of the nodes hold their values in the values that settled
pub record HasSettled (a : Inside) : Type 0 where
  pub nodes : nodes_of a ≡ node_values (flat_of a) (values_of a)
  pub fit : (k : ℕ) → k < length (nodes_of a) → slice_index (nodes_of a) k < 2 ^ width_at (flat_of a).nodes k
  pub row : RowFits (flat_of a) (row_of a)
  pub settles : FlatSettles (flat_of a) (state_of a) (row_of a) (values_of a)

pub record IsSound (a : Inside) : Type 0 where
  pub fits : IsWellFormed (flat_of a)
  pub order : HasOrder (flat_of a)
  pub compiles : Compiles (flat_of a) a.compiled
  pub ready : IsReady a.compiled.plan (held a.slots)
  pub registers : RegistersFit (flat_of a).registers (state_of a).registers
  pub words : AllKept (flat_of a).memories a.words.items
  pub commit : IsCommitOf (flat_of a) a.compiled a.commit
  pub stops : a.stops.items ≡ stop_slots a.compiled.nodes (flat_of a).blocks
  pub settled : a.settled ≡ true → HasSettled a
