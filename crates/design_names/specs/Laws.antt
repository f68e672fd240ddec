-- Laws of what a numbered design shows. This project's own.
use Rattle.std.specs.Prelude.{◌≡◌, ℕ, ◌<◌, true, List, map, length, slice_index}
use Rattle.std.specs.List.{All}
use Rattle.netlist.specs.Design.{Flat}
use Rattle.netlist.specs.Fits.{IsWellFormed}
use Rattle.netlist.specs.Values.{Values}
use Rattle.netlist.specs.Run.{State, FlatSettles, flat_fired}
use Rattle.design_names.specs.Variables.{variables_of}
use Rattle.design_names.specs.Shown.{flat_scope, flat_order, variable_at}
use Rattle.design_names.specs.Outline.{flat_outline, EntryFits}
use Rattle.design_names.specs.Stops.{flat_stops}

-- the k-th variable of the waveform is the k-th shown signal
abbrev pub VariablesAreShown : Type 0
VariablesAreShown = (f : Flat) → variables_of (flat_scope f) ≡ map (variable_at f) (flat_order f)

-- each shown signal is there
abbrev pub ShownAreThere : Type 0
ShownAreThere = (f : Flat) → All (λ k. k < length f.signals) (flat_order f)

-- each scope and each signal of the outline is there
abbrev pub OutlineFits : Type 0
OutlineFits = (f : Flat) → IsWellFormed f → All (EntryFits f) (flat_outline f)

-- each assertion that fires has the number of one that is there
abbrev pub StopsAreThere : Type 0
StopsAreThere = (f : Flat) (v : Values) → All (λ x. x.stop < length (flat_stops f)) (flat_fired f v)

-- in what settles the value of each clock is 0
abbrev pub ClocksAreZero : Type 0
ClocksAreZero = (f : Flat) (s : State) (row : List ℕ) (v : Values) (k : ℕ) → IsWellFormed f → FlatSettles f s row v
    → k < length f.signals → (variable_at f k).clock ≡ true → slice_index v.signals k ≡ 0
