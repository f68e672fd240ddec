-- Laws of designs that stand for modules: which do, and that over whole runs they do what the module does. This
-- project's own.
use Rattle.std.specs.Prelude.{◌≡◌, ℕ, suc, ◌<◌, ◌≤◌, List, [], length, slice_index_or}
use Rattle.flat_ir.specs.FlatRun as plain
use Rattle.flat_ir.specs.Names.{Fit}
use Rattle.netlist.specs.Design.{Flat}
use Rattle.netlist.specs.Run.{State, FlatSettles, flat_start, flat_next}
use Rattle.netlist.specs.Values as netlist
use Rattle.design_names.specs.Shown.{flat_shown}
use Rattle.one_block.specs.OneBlock as block
use Rattle.one_block.specs.SameDesign.{SameDesign, fired_by_lines}
use Rattle.vl_tree.specs.Tree.{Module}
use Rattle.vl_meaning.specs.Run.{state, fires}
use Rattle.vl_meaning.specs.Shown.{shown_at}
use Rattle.vl_meaning.specs.StandsFor as meaning
use Rattle.vl_stands.specs.StandsFor.{StandsFor, StateFits, by_names}

-- a design of one clocked block stands for the module, and its inputs have the module's widths
pub record StandsPlain (old : plain.Flat) (m : Module) : Type 0 where
  pub stands : meaning.StandsFor old m
  pub widths : block.input_widths old.signals ≡ meaning.input_widths m

-- A law: the same design as one of a hierarchy stands for the module too.
abbrev pub SameStands : Type 0
SameStands = (old : plain.Flat) (f : Flat) (m : Module) → StandsPlain old m → SameDesign old f → StandsFor f m

-- ---- runs

-- each row fits the data inputs
abbrev pub AllFit : Module → List (List ℕ) → Type 0
AllFit m rows = (t : ℕ) → t < length rows → Fit (meaning.input_widths m) (slice_index_or rows t [])

-- states and values are those of a run over rows: the start, and in each cycle what settles and the next state
pub record IsRun (f : Flat) (rows : List (List ℕ)) (states : ℕ → State) (values : ℕ → netlist.Values) : Type 0 where
  pub start : states 0 ≡ flat_start f
  pub settles : (t : ℕ) → t < length rows → FlatSettles f (states t) (slice_index_or rows t []) (values t)
  pub next : (t : ℕ) → t < length rows → states (suc t) ≡ flat_next f (states t) (values t)

-- such a run is the module's: in each cycle its state, what is shown, and what fires, by lines
pub record SameRun (f : Flat) (m : Module) (rows : List (List ℕ)) (states : ℕ → State) (values : ℕ → netlist.Values)
    : Type 0 where
  pub stands : (t : ℕ) → t ≤ length rows → (by_names m (states t) ≡ state m rows t) × StateFits m (states t)
  pub shown : (t : ℕ) → t < length rows → flat_shown f (values t) ≡ shown_at m rows t
  pub fired : (t : ℕ) → t < length rows → fired_by_lines f (values t) ≡ fires m rows t

-- A law: over rows that fit, a run of a design that stands for a module is the module's.
abbrev pub RunsAreSame : Type 0
RunsAreSame = (f : Flat) (m : Module) (rows : List (List ℕ)) (states : ℕ → State) (values : ℕ → netlist.Values)
    → StandsFor f m → AllFit m rows → IsRun f rows states values → SameRun f m rows states values
