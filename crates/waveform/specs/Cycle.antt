-- What the functions that push the lines of a cycle promise each other. This project's own.
use Rattle.std.specs.Prelude.{◌≡◌, ◌≤◌, ℕ, List, [], slice_index_or}
use Rattle.std.specs.List.{All}
use Rattle.dt_core.specs.declared.limits.TheConstants.{MAX_WIDTH}
use Rattle.netlist.specs.declared.design.Signal.{Signal}
use Rattle.design_names.specs.Shown.{no_signal, variable_of}
use Rattle.design_names.specs.Variables.{wire, Variable}
use Rattle.waveform.specs.Vcd.{Line, first_lines, later_lines}
use Rattle.waveform.specs.declared.form.Form.{Form}
use Rattle.waveform.specs.declared.progress.Progress.{Progress}
use Rattle.waveform.specs.declared.progress.Progress.TheVariants as progress

-- the lines of a cycle after what was written: a first one, or a later one
abbrev pub cycle_lines : Progress → List Variable → ℕ → List ℕ → List ℕ → List Line
cycle_lines progress.Nothing variables cycle last vs = first_lines variables cycle vs
cycle_lines progress.Header variables cycle last vs = first_lines variables cycle vs
cycle_lines progress.Cycles variables cycle last vs = later_lines variables cycle last vs

-- a variable of which only the width is said, and whether it is a clock's name: the lines of a cycle need no more
abbrev pub unnamed : Variable → Variable
unnamed v = record { kind = wire; width = v.width; name = []; clock = v.clock }

-- the variable of a signal by number, without its name
abbrev pub plain_variable : List Signal → ℕ → Variable
plain_variable signals k = unnamed (variable_of (slice_index_or signals k no_signal))

abbrev pub form_variable : Form → Variable
form_variable x = record { kind = wire; width = x.width; name = []; clock = x.clock }

-- no variable is wider than the limit
abbrev pub WidthsFit : List Form → Type 0
WidthsFit forms = All (λ x. x.width ≤ MAX_WIDTH) forms
