-- What judging a line promises. This project's own.
use Rattle.std.specs.Prelude.{◌≡◌, ℕ, ◌≤◌, List, drop, map, None, Some, Result, Ok, Err}
use Rattle.std.specs.Str.Lines.{strip_carriage_return}
use Rattle.stimulus.specs.declared.refusal.Input.{Input}
use Rattle.stimulus.specs.declared.refusal.RefusalKind.{RefusalKind}
use Rattle.stimulus.specs.declared.names.LineFault.{LineFault}
use Rattle.stimulus.specs.Stimulus.{words, widths_of, place_of, values_of, numbers_at, row_fault, row_of, content_fault}
use Rattle.stimulus.specs.Calls.Names.{Judges}
use Rattle.stimulus.specs.Reader.{Layout}

-- the layout is that of these names
pub record IsLayout (inputs : List Input) (names : List (List ℕ)) (layout : Layout) : Type 0 where
  pub widths : layout.widths ≡ widths_of inputs names
  pub places : layout.places ≡ map (λ i. place_of names i.name) inputs

-- the row of a line that has no fault, or its fault
abbrev pub ReadsRow : Layout → Layout → List ℕ → Result (Unit {0}) RefusalKind → Type 0
ReadsRow old new line (Ok read) =
    (row_fault old.widths (values_of line) ≡ None) × (new.row ≡ numbers_at (values_of line) old.places)
ReadsRow old new line (Err kind) = row_fault old.widths (values_of line) ≡ Some kind

-- what is known after line 2, and after a row
pub record Took (inputs : List Input) (names : List (List ℕ)) (number : ℕ) (line : List ℕ) (layout : Layout) : Type 0 where
  pub second : number ≡ 1 → IsLayout inputs (drop 1 (words (strip_carriage_return line))) layout
  pub later : 2 ≤ number → IsLayout inputs names layout × (layout.row ≡ row_of inputs names line)

-- a line that isn't too long has no fault, or this one; from line 3 on the layout is that of the names
abbrev pub JudgesLine : List Input → ℕ → List ℕ → Layout → Layout → Result (Unit {0}) LineFault → Type 0
JudgesLine inputs number line old new result =
    (names : List (List ℕ)) → (2 ≤ number → IsLayout inputs names old)
    → Judges (content_fault inputs names number (strip_carriage_return line))
    (λ _. Took inputs names number line new) result
