-- Laws of the designs that sources are. This project's own.
use Rattle.std.specs.Prelude.{◌≡◌, ◌≤◌, ◌+◌, ℕ, List, [], ◌∷◌, length, slice_get, Option, Some, Ok}
use Rattle.vl_tree.specs.Syntax.{Source}
use Rattle.vl_value.specs.Paths.{Text}
use Rattle.vl_design.specs.Limits.{Limits}
use Rattle.vl_design.specs.Design.{Signal, Memory, Design, elaborated}
use Rattle.vl_process.specs.Settling.{word_count}

-- it stands in a list, at some place
abbrev pub StandsIn : {A : Type 0} → List A → A → Type 0
StandsIn xs x = (n : ℕ) × (slice_get xs n ≡ Some x)

-- each data input is one of the signals
abbrev pub InputsAreAmong : Design → Type 0
InputsAreAmong d = (k : ℕ) (x : Signal) → slice_get d.inputs k ≡ Some x → StandsIn d.signals x

abbrev pub InputsLaw : Type 0
InputsLaw = (q : Limits) (src : Source) (top : Option Text) (d : Design) → elaborated q src top ≡ Ok d → InputsAreAmong d

-- how many words memories have together
abbrev pub words_in : List Memory → ℕ
words_in [] = 0
words_in (y ∷ ys) = word_count y + words_in ys

-- there are no more signals, and no more words of memories, than may be
pub record KeepsLimits (q : Limits) (d : Design) : Type 0 where
  pub signals : length d.signals ≤ q.signals
  pub words : words_in d.memories ≤ q.words

abbrev pub LimitsLaw : Type 0
LimitsLaw = (q : Limits) (src : Source) (top : Option Text) (d : Design) → elaborated q src top ≡ Ok d → KeepsLimits q d
