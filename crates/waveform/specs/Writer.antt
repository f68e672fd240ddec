-- How far a writer of the waveform has come. This project's own.
use Rattle.std.specs.Prelude.{◌≡◌, ℕ, Bool, List, [], ◌∷◌, map, length}
use Rattle.std.specs.List.{All}
use Rattle.netlist.specs.Design.{Flat}
use Rattle.design_names.specs.Shown.{flat_order}
use Rattle.design_names.specs.Outline.{EntryFits}
use Rattle.design_names.specs.Named.{Named, names_of}
use Rattle.waveform.specs.Cycle.{plain_variable, form_variable, WidthsFit}
use Rattle.waveform.specs.declared.form.Form.{Form}
use Rattle.waveform.specs.declared.progress.Progress.{Progress}
use Rattle.waveform.specs.declared.progress.Progress.TheVariants as progress

-- a writer: the design, whether it may still be asked, what it has written, and the values of the last cycle that it
-- wrote
pub record Writer : Type 0 where
  pub design : Flat
  pub live : Bool
  pub written : Progress
  pub last : List ℕ

-- the last valuation of a list that begins with this one
abbrev pub last_of : List ℕ → List (List ℕ) → List ℕ
last_of vs [] = vs
last_of vs (more ∷ rest) = last_of more rest

-- so it is after the header and cycles of these valuations: what was written last, and what the last of them showed
abbrev pub IsAfter : Progress → List ℕ → List (List ℕ) → Type 0
IsAfter written last [] = written ≡ progress.Header
IsAfter written last (vs ∷ rest) = (written ≡ progress.Cycles) × (last ≡ last_of vs rest)

-- the writer is as it is after the header and cycles of these valuations
abbrev pub HasWritten : Writer → List (List ℕ) → Type 0
HasWritten w cycles = IsAfter w.written w.last cycles

-- what a writer holds of its design: the names, the forms of the variables, and room for a value of each
pub record Holds (f : Flat) (names : Named) (forms : List Form) (last : List ℕ) : Type 0 where
  pub named : names ≡ names_of f
  pub there : All (EntryFits f) names.outline
  pub formed : map form_variable forms ≡ map (plain_variable f.signals) (flat_order f)
  pub widths : WidthsFit forms
  pub room : length last ≡ length forms
