-- When a numbered design of a hierarchy stands for a module with one clocked block: what it shows by name, its
-- assertions and its cycles are the module's. This project's own.
use Rattle.std.specs.Prelude.{◌≡◌, ℕ, List, [], map, length}
use Rattle.std.specs.List.{All, range_with_len}
use Rattle.flat_ir.specs.Names.{Fit}
use Rattle.netlist.specs.Design.{Flat}
use Rattle.netlist.specs.Run.{State, FlatSettles, flat_start, flat_next}
use Rattle.netlist.specs.Values as netlist
use Rattle.design_names.specs.Shown.{signal_at, flat_scope, flat_order, flat_shown}
use Rattle.design_names.specs.Stops.{flat_stops}
use Rattle.design_names.specs.Path.{path_text}
use Rattle.one_block.specs.SameDesign.{IsPlainStop, fired_by_lines}
use Rattle.vl_tree.specs.Tree.{Module}
use Rattle.vl_meaning.specs.Objects.{data_inputs, registers}
use Rattle.vl_meaning.specs.Expression.{Values}
use Rattle.vl_meaning.specs.Run.{cells, initial, next, fired}
use Rattle.vl_meaning.specs.Shown.{scope_of, shown}
use Rattle.vl_meaning.specs.StandsFor as meaning

-- the names and the widths of the data inputs, in order of the ports
abbrev pub input_names : Flat → List (List ℕ)
input_names f = map (λ k. (signal_at f k).name) f.inputs

abbrev pub input_widths : Flat → List ℕ
input_widths f = map (λ k. (signal_at f k).width) f.inputs

-- the module's state that a state is: its numbers, by the names of the registers
abbrev pub by_names : Module → State → Values
by_names m s = cells (registers m) s.registers

-- a number for each register, within its width, and no memory
pub record StateFits (m : Module) (s : State) : Type 0 where
  pub registers : Fit (meaning.register_widths m) s.registers
  pub memories : s.memories ≡ []

-- The cycle of a row and a state is the module's: the signals settle, in one way alone; what they show then, which
-- assertions fire, each by the line of the stop that has its number, and the next state are the module's.
pub record SameCycle (f : Flat) (m : Module) (row : List ℕ) (s : State) : Type 0 where
  pub values : netlist.Values
  pub settles : FlatSettles f s row values
  pub alone : (v : netlist.Values) → FlatSettles f s row v → v ≡ values
  pub shown : flat_shown f values ≡ shown m row (by_names m s)
  pub fired : fired_by_lines f values ≡ fired m row (by_names m s)
  pub next : by_names m (flat_next f s values) ≡ next m row (by_names m s)
  pub next_fits : StateFits m (flat_next f s values)

-- The data inputs have the module's names and widths, in order of the ports. The scopes by name are the module's one scope, in which
-- each signal is shown once, in order of number; its path is the module's name. Each assertion is a `$stop` in that
-- scope. Nothing is driven. The start is the module's, and so is the cycle of each row and each state that fit.
pub record StandsFor (f : Flat) (m : Module) : Type 0 where
  pub inputs : input_names f ≡ data_inputs m
  pub widths : input_widths f ≡ meaning.input_widths m
  pub scope : flat_scope f ≡ scope_of m
  pub once : flat_order f ≡ range_with_len 0 (length f.signals)
  pub path : path_text f 0 ≡ m.name
  pub stops : All IsPlainStop (flat_stops f)
  pub undriven : f.driven ≡ []
  pub start : by_names m (flat_start f) ≡ initial m
  pub start_fits : StateFits m (flat_start f)
  pub cycle : (row : List ℕ) (s : State) → Fit (meaning.input_widths m) row → StateFits m s → SameCycle f m row s
