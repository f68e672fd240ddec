-- Laws of designs and of numbered designs that stand for them, as statements that code and proofs are to cite: a numbered design settles
-- where the design does; its runs are the design's; a design has one run at most; what is shown by name is the same. This
-- project's own.
use Rattle.std.specs.Prelude.{◌≡◌, ◌↔◌, ◌<◌, ℕ, suc, List, length, Option, Ok}
use Rattle.std.specs.List.{range_with_len}
use Rattle.netlist.specs.Design.{Flat}
use Rattle.netlist.specs.Fits.{IsWellFormed}
use Rattle.netlist.specs.Graph as graph
use Rattle.netlist.specs.Order.{IsOrder}
use Rattle.netlist.specs.Values.{Values}
use Rattle.netlist.specs.Run.{State, FlatSettles, flat_start, flat_next, flat_fired}
use Rattle.design_names.specs.Shown.{flat_scope, flat_order, flat_shown}
use Rattle.vl_tree.specs.Syntax.{Source}
use Rattle.vl_value.specs.Paths.{Text}
use Rattle.vl_design.specs.Limits.{Limits}
use Rattle.vl_design.specs.Design.{Design, elaborated}
use Rattle.vl_process.specs.Settling.{Fits, Settles, RowFits}
use Rattle.vl_process.specs.Run.{IsRun, RowsFit, row_at, fires}
use Rattle.vl_process.specs.Shown.{scope_of, shown}
use Rattle.vl_process.specs.Parts.{ReadsPart}
use Rattle.vl_process.specs.StandsFor.{StandsFor, StateFits, whole_state, all_fired_by}

-- the design of some source, so that no two of its objects have one path, and its inputs are signals
pub record IsElaborated (d : Design) : Type 0 where
  pub limits : Limits
  pub source : Source
  pub top : Option Text
  pub is : elaborated limits source top ≡ Ok d

-- a law: the same valuations settle
abbrev pub SettlesLaw : Type 0
SettlesLaw = (f : Flat) (d : Design) (s : State) (row : List ℕ) (v : Values) → IsElaborated d → IsWellFormed f
    → StandsFor f d → StateFits f s → RowFits d row → FlatSettles f s row v ↔ Settles d (whole_state f s) row v

-- a law: the same assertions fire, in the same order
abbrev pub FiresLaw : Type 0
FiresLaw = (f : Flat) (d : Design) (v : Values) → StandsFor f d → Fits d v → all_fired_by f (flat_fired f v) ≡ fires d v

-- a law: the same driven parts read one another, so the orders and the loops are the same
abbrev pub ReadsLaw : Type 0
ReadsLaw = (f : Flat) (d : Design) (i j : ℕ) → IsWellFormed f → StandsFor f d → graph.ReadsPart f i j ↔ ReadsPart d i j

-- states and values are those of a run of a numbered design over rows
pub record IsFlatRun (f : Flat) (rows : List (List ℕ)) (states : ℕ → State) (values : ℕ → Values) : Type 0 where
  pub start : states 0 ≡ flat_start f
  pub settled : (k : ℕ) → k < length rows → FlatSettles f (states k) (row_at rows k) (values k)
  pub next_states : (k : ℕ) → k < length rows → states (suc k) ≡ flat_next f (states k) (values k)

-- such a run is the design's: its states and values, what fires in each cycle, and what is shown
pub record SameRun (f : Flat) (d : Design) (rows : List (List ℕ)) (states : ℕ → State) (values : ℕ → Values) : Type 0 where
  pub is_run : IsRun d rows (λ k. whole_state f (states k)) values
  pub fired : (k : ℕ) → k < length rows → all_fired_by f (flat_fired f (values k)) ≡ fires d (values k)
  pub same_shown : (k : ℕ) → k < length rows → flat_shown f (values k) ≡ shown d (values k)

-- A law: over rows that fit, a run of a numbered design that stands for a design and has an order is the design's.
abbrev pub RunsAreSame : Type 0
RunsAreSame = (f : Flat) (d : Design) (order : List ℕ) (rows : List (List ℕ)) (states : ℕ → State) (values : ℕ → Values)
    → IsElaborated d → IsWellFormed f → StandsFor f d → IsOrder f order → RowsFit d rows → IsFlatRun f rows states values
    → SameRun f d rows states values

-- A law: a design has one run at most over given rows.
abbrev pub RunsAreOne : Type 0
RunsAreOne = (d : Design) (rows : List (List ℕ)) (s₁ s₂ v₁ v₂ : ℕ → Values) → IsRun d rows s₁ v₁ → IsRun d rows s₂ v₂
    → (k : ℕ) → k < length rows → (s₁ k ≡ s₂ k) × (v₁ k ≡ v₂ k)

-- what is shown by name is the design's, each signal once, in order of number
pub record ShowsSame (f : Flat) (d : Design) : Type 0 where
  pub scope : flat_scope f ≡ scope_of d
  pub once : flat_order f ≡ range_with_len 0 (length f.signals)

-- A law: so it is where a numbered design stands for the design that a source is.
abbrev pub ShownIsSame : Type 0
ShownIsSame = (f : Flat) (d : Design) → IsElaborated d → StandsFor f d → ShowsSame f d
