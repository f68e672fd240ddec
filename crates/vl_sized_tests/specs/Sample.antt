-- Names for the tests, what they stand for, and what each is worth in a moment. This project's own.
use Rattle.std.specs.Prelude.{◌+◌, ◌*◌, ◌%◌, ◌==◌, ℕ, pos, Bool, true, false, List, [], ◌∷◌, slice_get}
use Rattle.std.specs.Prelude.{if◌then◌else◌, Option, Some, None, bytes_eq, codes}
use Rattle.std.specs.Option.{unwrap_or}
use Rattle.vl_value.specs.Paths.{Path, turn, unnamed}
use Rattle.vl_value.specs.Things.{Shape, Thing, signal, memory, constant, routine}
use Rattle.vl_value.specs.Constant.{Sight}
use Rattle.vl_width.specs.Objects.{Numbering}
use Rattle.vl_sized.specs.Moments.{Moment}

-- the path of an object whose value has this number
abbrev pub path : ℕ → Path
path n = unnamed n None ∷ []

-- memory 0 begins at value 20, memory 1 at value 36
abbrev pub memory_path : ℕ → Path
memory_path n = path (if n == 0 then 20 else 36)

abbrev pub function_path : ℕ → Path
function_path n = turn [] (pos n) ∷ []

abbrev pub vector : ℕ → ℕ → Bool → Shape
vector a b s = record { left = a; right = b; signed = s }

-- the inputs of function 0 are [7:0] and signed [15:0], that of function 1 is signed [3:0]
abbrev pub inputs : ℕ → List Shape
inputs n = if n == 0 then vector 7 0 false ∷ vector 15 0 true ∷ [] else vector 3 0 true ∷ []

abbrev pub numbering : Numbering
numbering = record { signals = path; memories = memory_path; locals = path; functions = function_path; inputs = inputs }

abbrev pub of_signal : ℕ → ℕ → ℕ → Bool → Option Thing
of_signal n a b s = Some (signal (path n) (vector a b s))

abbrev pub sight : Sight
sight x =
    if bytes_eq x (codes "s0") then of_signal 0 0 0 false else (
    if bytes_eq x (codes "s1") then of_signal 1 3 0 false else (
    if bytes_eq x (codes "s2") then of_signal 2 3 0 true else (
    if bytes_eq x (codes "s3") then of_signal 3 7 0 false else (
    if bytes_eq x (codes "s4") then of_signal 4 7 0 true else (
    if bytes_eq x (codes "s5") then of_signal 5 0 7 false else (
    if bytes_eq x (codes "s6") then of_signal 6 11 4 true else (
    if bytes_eq x (codes "s7") then of_signal 7 15 0 false else (
    if bytes_eq x (codes "s8") then of_signal 8 15 0 true else (
    if bytes_eq x (codes "s9") then of_signal 9 31 0 false else (
    if bytes_eq x (codes "s10") then of_signal 10 31 0 true else (
    if bytes_eq x (codes "s11") then of_signal 11 32 0 false else (
    if bytes_eq x (codes "s12") then of_signal 12 32 0 true else (
    if bytes_eq x (codes "s13") then of_signal 13 63 0 false else (
    if bytes_eq x (codes "s14") then of_signal 14 63 0 true else (
    if bytes_eq x (codes "s15") then of_signal 15 64 0 false else (
    if bytes_eq x (codes "s16") then of_signal 16 99 0 true else (
    if bytes_eq x (codes "s17") then of_signal 17 127 0 false else (
    if bytes_eq x (codes "s18") then of_signal 18 127 0 true else (
    if bytes_eq x (codes "s19") then of_signal 19 2 33 false else (
    if bytes_eq x (codes "m0") then Some (memory (memory_path 0) (vector 7 0 false) 0 15) else (
    if bytes_eq x (codes "m1") then Some (memory (memory_path 1) (vector 32 0 true) 12 5) else (
    if bytes_eq x (codes "P") then Some (constant 32 true 3) else (
    if bytes_eq x (codes "Q") then Some (constant 4 true 15) else (
    if bytes_eq x (codes "R") then Some (constant 8 false 200) else (
    if bytes_eq x (codes "f") then Some (routine false (function_path 0) (vector 11 0 true) (inputs 0)) else (
    if bytes_eq x (codes "g") then Some (routine false (function_path 1) (vector 64 0 false) (inputs 1)) else (
    None)))))))))))))))))))))))))))

-- the value of a number, 0 where there is none
abbrev pub held : List ℕ → ℕ → ℕ
held values k = unwrap_or (slice_get values k) 0

-- function 0 gives the sum of its arguments in 12 bits; function 1 its argument's four bits, and 5 in 61 bits below them
abbrev pub called : ℕ → List ℕ → ℕ
called n args = if n == 0 then (held args 0 % 4096 + held args 1 % 4096) % 4096 else held args 0 % 16 * 2305843009213693952 + 5

abbrev pub word_of : List ℕ → Path → ℕ → ℕ
word_of values (unnamed n o ∷ rest) k = held values (n + k)
word_of values p k = 0

abbrev pub call_of : Path → List ℕ → ℕ
call_of (turn x (pos n) ∷ rest) args = called n args
call_of p args = 0

abbrev pub moment : List ℕ → Moment
moment values = record { word = word_of values; calls = call_of }
