-- The run of a numbered design over rows, one for each cycle, from its first state: its driven parts are driven in an
-- order. This project's own.
use Rattle.std.specs.Prelude.{ℕ, zero, suc, List, [], slice_index_or}
use Rattle.netlist.specs.Design.{Flat}
use Rattle.netlist.specs.Order.{flat_val}
use Rattle.netlist.specs.Run.{State, Fired, flat_start, flat_next, flat_fired}
use Rattle.netlist.specs.Values.{Values}
use Rattle.design_names.specs.Shown.{flat_shown}

-- the state of a cycle
abbrev pub state_at : Flat → List ℕ → List (List ℕ) → ℕ → State
state_at f order rows zero = flat_start f
state_at f order rows (suc t) =
    flat_next f (state_at f order rows t) (flat_val f order (state_at f order rows t) (slice_index_or rows t []))

-- the values to which it settles
abbrev pub values_at : Flat → List ℕ → List (List ℕ) → ℕ → Values
values_at f order rows t = flat_val f order (state_at f order rows t) (slice_index_or rows t [])

-- the assertions that fire in it
abbrev pub fired_at : Flat → List ℕ → List (List ℕ) → ℕ → List Fired
fired_at f order rows t = flat_fired f (values_at f order rows t)

-- what the variables of the waveform show in it
abbrev pub shown_at : Flat → List ℕ → List (List ℕ) → ℕ → List ℕ
shown_at f order rows t = flat_shown f (values_at f order rows t)
