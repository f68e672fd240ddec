-- What reading a row of single digits promises. This project's own.
use Rattle.std.specs.Prelude.{◌≡◌, ℕ, ◌-◌, ◌*◌, ◌^◌, ◌<◌, ◌≤◌, ◌==◌, min, Bool, if◌then◌else◌, List, [], ◌∷◌, length, take, map, slice_index, slice_index_or, None}
use Rattle.std.specs.Str.Lines.{strip_carriage_return}
use Rattle.stimulus.specs.Stimulus.{values_of, numbers_at, row_fault}
use Rattle.stimulus.specs.Reader.{Layout}
use Rattle.stimulus.specs.Calls.Digits.{digit_code}
use Rattle.stimulus.specs.Calls.Turns.{HasLine}

-- above each digit that is a value of this width, and above no other one
abbrev pub digit_limit : ℕ → ℕ
digit_limit width = min 16 (2 ^ width)

-- an LF stands where a row of so many digits ends
pub record HasEnd (bytes : List ℕ) (count : ℕ) : Type 0 where
  pub some : 0 < count
  pub within : 2 * count ≤ length bytes
  pub ends : slice_index bytes (2 * count - 1) ≡ 10

-- the values of digits below these limits: behind the last one stands an LF, behind each other one a space
abbrev pub AreSingle : List ℕ → List ℕ → List ℕ → Type 0
AreSingle [] bytes [] = Unit {0}
AreSingle (limit ∷ limits) (digit ∷ end ∷ bytes) (value ∷ values) =
    (value ≡ digit_code digit) × (value < limit) × (end ≡ (if length limits == 0 then 10 else 32))
    × AreSingle limits bytes values
AreSingle _ _ _ = ⊥

-- a line of so many bytes, which has no fault as a row, and its LF stand at the head of the bytes, and this is the row
pub record ReadsSingle (old new : Layout) (bytes : List ℕ) (n : ℕ) : Type 0 where
  pub line : HasLine bytes n
  pub faults : row_fault old.widths (values_of (strip_carriage_return (take n bytes))) ≡ None
  pub row : new.row ≡ numbers_at (values_of (strip_carriage_return (take n bytes))) old.places

-- places from 0 on, so many: at each its own number
abbrev pub IsInOrder : ℕ → List ℕ → Type 0
IsInOrder n places =
    (values : List ℕ) → length values ≡ n → map (λ place. slice_index_or values place 0) places ≡ values

-- the row of values that are in order of the ports, or of those that were put into it
abbrev pub row_of_values : Bool → List ℕ → List ℕ → List ℕ
row_of_values in_order values row = if in_order then values else row
