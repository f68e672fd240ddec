-- When a numbered design stands for a module: what it shows, and its steps, are the module's. This project's own.
use Rattle.std.specs.Prelude.{◌≡◌, ℕ, List, map, length}
use Rattle.flat_ir.specs.FlatRun.{Flat, flat_start, flat_next, flat_fired}
use Rattle.flat_ir.specs.Names.{input_names, Fit}
use Rattle.flat_ir.specs.Shown.{flat_scope, flat_shown}
use Rattle.vl_tree.specs.Tree.{Module}
use Rattle.vl_meaning.specs.Objects.{data_inputs, registers, width_of}
use Rattle.vl_meaning.specs.Expression.{Values}
use Rattle.vl_meaning.specs.Run.{cells, initial, next, fired}
use Rattle.vl_meaning.specs.Shown.{scope_of, shown}

-- the widths of the data inputs, and of the registers, in order
abbrev pub input_widths : Module → List ℕ
input_widths m = map (width_of m.ports) (data_inputs m)

abbrev pub register_widths : Module → List ℕ
register_widths m = map (width_of m.ports) (registers m)

-- the state that the registers' numbers are
abbrev pub by_names : Module → List ℕ → Values
by_names m state = cells (registers m) state

-- The data inputs have the module's names, in order of the ports, and the registers stand in that order too. What is shown by name is
-- the same. The start is the same, and with every row and state that fit the widths so are the next state, which fits them too, the
-- assertions that fire, and the value of each port.
pub record StandsFor (f : Flat) (m : Module) : Type 0 where
  pub name : f.name ≡ m.name
  pub inputs : input_names f.signals ≡ data_inputs m
  pub input_count : f.inputs ≡ length (data_inputs m)
  pub widths : f.registers ≡ register_widths m
  pub scope : flat_scope f ≡ scope_of m
  pub start : by_names m (flat_start f) ≡ initial m
  pub next : (row state : List ℕ) → Fit (input_widths m) row → Fit (register_widths m) state
      → (by_names m (flat_next f row state) ≡ next m row (by_names m state)) × Fit (register_widths m) (flat_next f row state)
  pub fired : (row state : List ℕ) → Fit (input_widths m) row → Fit (register_widths m) state
      → flat_fired f row state ≡ fired m row (by_names m state)
  pub shown : (row state : List ℕ) → Fit (input_widths m) row → Fit (register_widths m) state
      → flat_shown f row state ≡ shown m row (by_names m state)
