-- Stimulus, version 1: from the data inputs and the bytes to the rows, or to the first refusal with its line. This project's own.
-- A line ends with LF; one CR directly before it isn't part of the line. Line 1 is `stimulus 1`. Line 2 is `inputs` and, each after a
-- space, the names of the data inputs, each once, in any order. Each further line is a row: a hexadecimal value for each name, in that
-- order, with one space between. Of several faults the one of the first line counts. Within a line the kinds count in their order, but for
-- names, and for values, where the leftmost that is bad counts.
use Rattle.std.specs.Prelude.{◌≡◌, ℕ, zero, suc, ◌+◌, ◌*◌, ◌^◌, ◌==◌, Bool, false, not, ◌&&◌, if◌then◌else◌, nat_lt, nat_le, List, [], ◌∷◌, ◌++◌, length, map, drop, fold, bytes_eq, codes, Option, Some, None, unwrap_or, slice_get, slice_index_or}
use Rattle.std.specs.List.{slice_split, list_all, list_any}
use Rattle.std.specs.Str.Lines.{strip_carriage_return}
use Rattle.std.specs.Char.{is_ascii_hexdigit, digit_value}
use Rattle.dt_core.specs.declared.limits.TheConstants.{MAX_ROWS}
use Rattle.stimulus.specs.declared.refusal.TheConstants.{MAX_LINE}
use Rattle.stimulus.specs.declared.refusal.Input.{Input}
use Rattle.stimulus.specs.declared.refusal.Refusal.{Refusal}
use Rattle.stimulus.specs.declared.refusal.RefusalKind.{RefusalKind}
use Rattle.stimulus.specs.declared.refusal.RefusalKind.TheVariants as k

-- what a text is: rows, each with a number for each input in order of the ports, or its first refusal
pub data Reading : Type 0 where
  rows : List (List ℕ) → Reading
  refused : Refusal → Reading

-- ---- lines

-- the pieces round the LFs: the lines, and last what stands after the last LF
abbrev pub pieces : List ℕ → List (List ℕ)
pieces bytes = slice_split (λ b. b == 10) bytes

-- the pieces round the spaces
abbrev pub words : List ℕ → List (List ℕ)
words line = slice_split (λ b. b == 32) line

-- more bytes than a line may have; a CR before the LF counts
abbrev pub is_long : List ℕ → Bool
is_long line = nat_lt MAX_LINE (length line)

-- a fault, or where there is none the next
abbrev pub or_else : Option RefusalKind → Option RefusalKind → Option RefusalKind
or_else (Some kind) next = Some kind
or_else None next = next

-- ---- line 2

-- whether these bytes are among the names
abbrev pub has_name : List (List ℕ) → List ℕ → Bool
has_name names name = list_any (λ n. bytes_eq n name) names

-- whether the pieces of line 2 are `inputs` and names that aren't empty
abbrev pub are_names : List (List ℕ) → Bool
are_names [] = false
are_names (word ∷ names) = bytes_eq word (codes "inputs") && list_all (λ n. not (length n == 0)) names

-- the names of the data inputs
abbrev pub input_names : List Input → List (List ℕ)
input_names inputs = map (λ i. i.name) inputs

-- the fault of a name of line 2 after those before it
abbrev pub name_fault : List Input → List (List ℕ) → List ℕ → Option RefusalKind
name_fault inputs before name =
    if not (has_name (input_names inputs) name) then Some k.UnknownInput
    else (if has_name before name then Some k.RepeatedInput else None)

-- the fault of the leftmost bad name
abbrev pub bad_name : List Input → List (List ℕ) → List (List ℕ) → Option RefusalKind
bad_name inputs before [] = None
bad_name inputs before (name ∷ names) =
    or_else (name_fault inputs before name) (bad_name inputs (before ++ name ∷ []) names)

-- the fault of names that lack a data input
abbrev pub lack_fault : List Input → List (List ℕ) → Option RefusalKind
lack_fault inputs names = if list_all (λ i. has_name names i.name) inputs then None else Some k.MissingInput

-- the fault of line 2, by its pieces
abbrev pub names_fault : List Input → List (List ℕ) → Option RefusalKind
names_fault inputs ws =
    if not (are_names ws) then Some k.BadHeader
    else or_else (bad_name inputs [] (drop 1 ws)) (lack_fault inputs (drop 1 ws))

-- the names that line 2 gives
abbrev pub names_of : List ℕ → List (List ℕ)
names_of line = drop 1 (words (strip_carriage_return line))

-- the width of the input of a name; 0 where there is none
abbrev pub width_of : List Input → List ℕ → ℕ
width_of [] name = 0
width_of (i ∷ inputs) name = if bytes_eq i.name name then i.width else width_of inputs name

-- the widths of the inputs of names
abbrev pub widths_of : List Input → List (List ℕ) → List ℕ
widths_of inputs names = map (λ name. width_of inputs name) names

-- where a name first stands among names, from 0; their number where it doesn't
abbrev pub place_of : List (List ℕ) → List ℕ → ℕ
place_of [] name = 0
place_of (n ∷ names) name = if bytes_eq n name then 0 else suc (place_of names name)

-- ---- rows

-- the values of a row: the pieces round its spaces, and none in an empty line
abbrev pub values_of : List ℕ → List (List ℕ)
values_of [] = []
values_of (b ∷ line) = words (b ∷ line)

-- whether a value is one or more hexadecimal digits
abbrev pub is_number : List ℕ → Bool
is_number value = not (length value == 0) && list_all is_ascii_hexdigit value

-- the number that hexadecimal digits are
abbrev pub number_of : List ℕ → ℕ
number_of value = fold (λ n digit. 16 * n + digit_value digit) 0 value

-- the fault of a value of this width
abbrev pub value_fault : ℕ → List ℕ → Option RefusalKind
value_fault width value =
    if not (is_number value) then Some k.BadValue
    else (if nat_le (2 ^ width) (number_of value) then Some k.TooLarge else None)

-- the fault of the leftmost bad value
abbrev pub bad_value : List ℕ → List (List ℕ) → Option RefusalKind
bad_value [] values = None
bad_value widths [] = None
bad_value (width ∷ widths) (value ∷ values) = or_else (value_fault width value) (bad_value widths values)

-- the fault of a row's values, where there are these widths
abbrev pub row_fault : List ℕ → List (List ℕ) → Option RefusalKind
row_fault widths values = if length values == length widths then bad_value widths values else Some k.WrongCount

-- the numbers of values, in order of their places; a value that isn't there has no digits, and is 0
abbrev pub numbers_at : List (List ℕ) → List ℕ → List ℕ
numbers_at values places = map (λ place. number_of (slice_index_or values place [])) places

-- a row, in order of the ports: the number that stands where the input's name stands
abbrev pub row_of : List Input → List (List ℕ) → List ℕ → List ℕ
row_of inputs names line = numbers_at (values_of (strip_carriage_return line)) (map (λ i. place_of names i.name) inputs)

-- ---- the first refusal

-- the fault of a line that isn't too long, without the CR at its end, by its number from 0
abbrev pub content_fault : List Input → List (List ℕ) → ℕ → List ℕ → Option RefusalKind
content_fault inputs names zero line = if bytes_eq line (codes "stimulus 1") then None else Some k.BadHeader
content_fault inputs names (suc zero) line = names_fault inputs (words line)
content_fault inputs names (suc (suc row)) line =
    if nat_le MAX_ROWS row then Some k.TooManyRows else row_fault (widths_of inputs names) (values_of line)

-- the fault of a line that ends with LF
abbrev pub line_fault : List Input → List (List ℕ) → ℕ → List ℕ → Option RefusalKind
line_fault inputs names n line =
    if is_long line then Some k.LineTooLong else content_fault inputs names n (strip_carriage_return line)

-- the fault of what stands after the last LF: bytes, or nothing before line 1 or 2
abbrev pub tail_fault : ℕ → List ℕ → Option RefusalKind
tail_fault n tail =
    if is_long tail then Some k.LineTooLong else (if nat_lt 1 n && (length tail == 0) then None else Some k.Truncated)

-- a fault of line n, counted from 0, as a refusal; where there is none, the next
abbrev pub refusal_at : ℕ → Option RefusalKind → Option Refusal → Option Refusal
refusal_at n (Some kind) next = Some (record { kind = kind; line = suc n })
refusal_at n None next = next

-- the first refusal among the pieces from line n on
abbrev pub first_refusal : (ℕ → List ℕ → Option RefusalKind) → ℕ → List (List ℕ) → Option Refusal
first_refusal fault n [] = None
first_refusal fault n (tail ∷ []) = refusal_at n (tail_fault n tail) None
first_refusal fault n (line ∷ next ∷ more) = refusal_at n (fault n line) (first_refusal fault (suc n) (next ∷ more))

-- the rows of pieces: of each but the last, which is no line
abbrev pub rows_of : List Input → List (List ℕ) → List (List ℕ) → List (List ℕ)
rows_of inputs names [] = []
rows_of inputs names (tail ∷ []) = []
rows_of inputs names (line ∷ next ∷ more) = row_of inputs names line ∷ rows_of inputs names (next ∷ more)

-- line 2 of the pieces
abbrev pub second : List (List ℕ) → List ℕ
second ps = unwrap_or (slice_get ps 1) []

-- the reading of pieces that have this first refusal
abbrev pub reading_of : List Input → List (List ℕ) → Option Refusal → Reading
reading_of inputs ps (Some r) = refused r
reading_of inputs ps None = rows (rows_of inputs (names_of (second ps)) (drop 2 ps))

-- Stimulus text
abbrev pub stimulus : List Input → List ℕ → Reading
stimulus inputs bytes =
    let ps = pieces bytes in reading_of inputs ps (first_refusal (line_fault inputs (names_of (second ps))) 0 ps)

-- ---- what bytes so far begin

-- nothing but Truncated refuses
abbrev pub IsOpen : Reading → Type 0
IsOpen (rows rs) = Unit {0}
IsOpen (refused r) = r.kind ≡ k.Truncated

-- bytes that are accepted, or refused with nothing but Truncated: it isn't asked whether any further bytes would be accepted
abbrev pub MayGoOn : List Input → List ℕ → Type 0
MayGoOn inputs bytes = IsOpen (stimulus inputs bytes)
