-- What reading the values of a row promises. This project's own.
use Rattle.std.specs.Prelude.{◌≡◌, ℕ, ◌<◌, ◌≤◌, ◌^◌, ◌==◌, Bool, true, false, if◌then◌else◌, List, [], ◌∷◌, length, take, map, slice_index_or, Option, None, Some, Result, Ok, Err}
use Rattle.std.specs.List.{list_all}
use Rattle.std.specs.Char.{is_ascii_hexdigit, digit_value}
use Rattle.std.specs.Borrow.{Bor}
use Rattle.stimulus.specs.declared.refusal.RefusalKind.{RefusalKind}
use Rattle.stimulus.specs.declared.refusal.RefusalKind.TheVariants as k
use Rattle.stimulus.specs.declared.digits.Number.{Number}
use Rattle.stimulus.specs.declared.digits.Run.{Run}
use Rattle.stimulus.specs.declared.digits.Few.{Few}
use Rattle.stimulus.specs.Stimulus.{words, is_number, number_of, value_fault, row_fault, values_of}

-- the value of a byte that is a hexadecimal digit, and 255 for any other
abbrev pub digit_code : ℕ → ℕ
digit_code b = if is_ascii_hexdigit b then digit_value b else 255

-- what is known of a number n: itself, or that it has more than 128 bits
abbrev pub Known : Bool → ℕ → ℕ → Type 0
Known true value n = (2 ^ 124 ≤ value) × (2 ^ 128 ≤ n)
Known false value n = n ≡ value

abbrev pub IsNumber : Number → ℕ → Type 0
IsNumber number n = Known number.over number.value n

-- so many hexadecimal digits stand at the head of the bytes, and no more
pub record IsDigitRun (bytes : List ℕ) (n : ℕ) : Type 0 where
  pub within : n ≤ length bytes
  pub digits : list_all is_ascii_hexdigit (take n bytes) ≡ true
  pub ends : n < length bytes → is_ascii_hexdigit (slice_index_or bytes n 0) ≡ false

-- the hexadecimal digits at the head of the bytes, and their number
pub record IsRun (bytes : List ℕ) (run : Run) : Type 0 where
  pub digits : IsDigitRun bytes run.count
  pub number : IsNumber run.number (number_of (take run.count bytes))

-- the same, where the number has 64 bits at most
pub record IsShortRun (bytes : List ℕ) (few : Few) : Type 0 where
  pub digits : IsDigitRun bytes few.count
  pub number : number_of (take few.count bytes) ≡ few.value

abbrev pub is_space : ℕ → Bool
is_space b = b == 32

-- the pieces of what is left of a line, where something is left
abbrev pub words_in : Option (Bor (List ℕ)) → List (List ℕ)
words_in None = []
words_in (Some rest) = words rest.now

-- what is left after the first piece, which is the first n bytes; or that this piece is no number
abbrev pub EndsPiece : List ℕ → ℕ → Result (Option (Bor (List ℕ))) RefusalKind → Type 0
EndsPiece bytes n (Ok rest) = words bytes ≡ take n bytes ∷ words_in rest
EndsPiece bytes n (Err kind) =
    (kind ≡ k.BadValue) × (value : List ℕ) × (more : List (List ℕ))
    × (words bytes ≡ value ∷ more) × (is_number value ≡ false)

-- the value at the head of the bytes, of this width, and what is left after it; or its fault
abbrev pub ReadsValue : ℕ → List ℕ → Result (ℕ × Option (Bor (List ℕ))) RefusalKind → Type 0
ReadsValue width bytes (Ok read) =
    (value : List ℕ) × (words bytes ≡ value ∷ words_in read.1)
    × (value_fault width value ≡ None) × (read.0 ≡ number_of value)
ReadsValue width bytes (Err kind) =
    (value : List ℕ) × (more : List (List ℕ)) × (words bytes ≡ value ∷ more) × (value_fault width value ≡ Some kind)

-- the values of a row that has no fault, or its fault
abbrev pub ReadsValues : List ℕ → List ℕ → List ℕ → Result (Unit {0}) RefusalKind → Type 0
ReadsValues widths line values (Ok read) =
    (row_fault widths (values_of line) ≡ None) × (values ≡ map number_of (values_of line))
ReadsValues widths line values (Err kind) = row_fault widths (values_of line) ≡ Some kind
