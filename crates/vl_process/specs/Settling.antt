-- What a cycle settles on (IEEE 1364-2005, 6.1.2 and 12.3: a driver holds at every moment). This project's own: one clock, two-state
-- values, all drivers at once; a bit that nothing drives is the row's or the state's.
use Rattle.std.specs.Prelude.{◌≡◌, ℕ, zero, suc, ◌+◌, ◌*◌, ◌/◌, ◌%◌, ◌^◌, ◌<◌, Bool, if◌then◌else◌, List, [], ◌∷◌, map, length, Option, Some, None, slice_index}
use Rattle.std.specs.List.{All, list_any}
use Rattle.netlist.specs.Values.{Values}
use Rattle.vl_value.specs.Paths.{Path, same_path}
use Rattle.vl_value.specs.Things.{width_of, distance}
use Rattle.vl_value.specs.Reads.{up_to}
use Rattle.vl_design.specs.LoopVariables.{is_path_in}
use Rattle.vl_design.specs.Design.{Design, Signal, Memory}
use Rattle.vl_process.specs.Clocks.{clock_names}
use Rattle.vl_process.specs.Statement.{Store, all_stored}
use Rattle.vl_process.specs.Aims.{is_aimed}
use Rattle.vl_process.specs.Processes.{Driver, drivers, driven, driver_aims}

-- ---- the values of a design: of each signal a number, of each memory its words from the least index on, in order of the design's lists

abbrev pub signal_width : Signal → ℕ
signal_width x = width_of x.object.shape

abbrev pub word_count : Memory → ℕ
word_count y = suc (distance y.first y.last)

-- a number for each width, below 2 ^ it
abbrev pub AllFit : List ℕ → List ℕ → Type 0
AllFit [] [] = Unit {0}
AllFit (w ∷ ws) (n ∷ ns) = (n < 2 ^ w) × AllFit ws ns
AllFit _ _ = ⊥

-- as many words as there are, each below 2 ^ width
abbrev pub WordsFit : Memory → List ℕ → Type 0
WordsFit y ns = (length ns ≡ word_count y) × All (λ n. n < 2 ^ width_of y.shape) ns

abbrev pub MemoriesFit : List Memory → List (List ℕ) → Type 0
MemoriesFit [] [] = Unit {0}
MemoriesFit (y ∷ ys) (ns ∷ more) = WordsFit y ns × MemoriesFit ys more
MemoriesFit _ _ = ⊥

pub record Fits (d : Design) (v : Values) : Type 0 where
  pub signals : AllFit (map signal_width d.signals) v.signals
  pub memories : MemoriesFit d.memories v.memories

abbrev pub RowFits : Design → List ℕ → Type 0
RowFits d row = AllFit (map signal_width d.inputs) row

-- the number of the signal at a path, among signals with a number each
abbrev pub number_at : List Signal → List ℕ → Path → Option ℕ
number_at (x ∷ xs) (n ∷ ns) p = if same_path x.path p then Some n else number_at xs ns p
number_at _ _ p = None

abbrev pub words_at : List Memory → List (List ℕ) → Path → List ℕ
words_at (y ∷ ys) (ns ∷ more) p = if same_path y.path p then ns else words_at ys more p
words_at _ _ p = []

-- values by path, and back
abbrev pub by_path : Design → Values → Store
by_path d v p k = elim (number_at d.signals v.signals p) [
  | Some n ↦ n
  | None ↦ slice_index (words_at d.memories v.memories p) k
]

abbrev pub by_number : Design → Store → Values
by_number d m = record {
  signals = map (λ (x : Signal). m x.path 0) d.signals;
  memories = map (λ (y : Memory). map (m y.path) (up_to (word_count y))) d.memories;
}

-- ---- drivers

-- what a driver drives at these values is what they have there already
abbrev pub Holds : Design → Values → Driver → Type 0
Holds d v r = by_number d (all_stored (driven (by_path d v) r) (by_path d v)) ≡ v

abbrev pub is_driven : Design → Path → ℕ → Bool
is_driven d p k = list_any (λ r. is_aimed (driver_aims r) p k) (drivers d)

-- ---- bits that nothing drives

-- what a state and a row say: a data input is the row's, a clock's name 0 while a cycle settles, and all else the state's
abbrev pub said_of : Design → List ℕ → Signal → ℕ → ℕ
said_of d row x n = elim (number_at d.inputs row x.path) [
  | Some r ↦ r
  | None ↦ if is_path_in (clock_names d.scopes) x.path then 0 else n
]

abbrev pub all_said : Design → List ℕ → List Signal → List ℕ → List ℕ
all_said d row (x ∷ xs) (n ∷ ns) = said_of d row x n ∷ all_said d row xs ns
all_said d row _ _ = []

-- the number whose bits at the places below w are these
abbrev pub bit_of : ℕ → ℕ → ℕ
bit_of n k = (n / 2 ^ k) % 2

abbrev pub of_bits : ℕ → (ℕ → ℕ) → ℕ
of_bits zero f = 0
of_bits (suc w) f = of_bits w f + f w * 2 ^ w

-- a signal's number, with other bits where nothing drives it
abbrev pub undriven_as : Design → Signal → ℕ → ℕ → ℕ
undriven_as d x n other = of_bits (signal_width x) (λ k. if is_driven d x.path k then bit_of n k else bit_of other k)

abbrev pub all_undriven_as : Design → List Signal → List ℕ → List ℕ → List ℕ
all_undriven_as d (x ∷ xs) (n ∷ ns) (o ∷ os) = undriven_as d x n o ∷ all_undriven_as d xs ns os
all_undriven_as d _ _ _ = []

-- ---- settling

-- v settles with a state and a row: each driver holds in it, all at once; each bit that nothing drives is what the state and the row
-- say; and memories are the state's
pub record Settles (d : Design) (s : Values) (row : List ℕ) (v : Values) : Type 0 where
  pub fits : Fits d v
  pub drivers_hold : All (Holds d v) (drivers d)
  pub undriven : all_undriven_as d d.signals v.signals (all_said d row d.signals s.signals) ≡ v.signals
  pub memories : v.memories ≡ s.memories

-- v is the one valuation that settles
pub record IsVal (d : Design) (s : Values) (row : List ℕ) (v : Values) : Type 0 where
  pub settles : Settles d s row v
  pub alone : (u : Values) → Settles d s row u → u ≡ v
