-- What a reader of the waveform knows, stated apart from the writer. This project's own.
use Rattle.std.specs.Prelude.{◌≡◌, ℕ, ◌+◌, ◌-◌, ◌*◌, ◌^◌, ◌<◌, ◌==◌, Bool, true, false, if◌then◌else◌, nat_lt, List, [], ◌∷◌, length, fold, Option, Some, None, slice_get, slice_index_or}
use Rattle.design_names.specs.Variables.{Variable}
use Rattle.waveform.specs.Vcd.{Line, time, value, dumpvars, end, bits, code, risen, window_lines}

-- what is known of the variable of a number at a time: the value that was last written for it up to that time
abbrev pub read_at : ℕ → ℕ → List Line → Option ℕ → Option ℕ
read_at number t [] known = known
read_at number t (time x ∷ ls) known = if nat_lt t x then known else read_at number t ls known
read_at number t (value width n v ∷ ls) known = read_at number t ls (if n == number then Some v else known)
read_at number t (dumpvars ∷ ls) known = read_at number t ls known
read_at number t (end ∷ ls) known = read_at number t ls known

-- the valuations have a number for each variable
abbrev pub AreFull : List Variable → List (List ℕ) → Type 0
AreFull variables [] = Unit {0}
AreFull variables (vs ∷ more) = (length vs ≡ length variables) × AreFull variables more

-- the two times of a cycle: while it settles, and after the rising edge
abbrev pub moment : Bool → ℕ → ℕ
moment false cycle = 2 * cycle
moment true cycle = 2 * cycle + 1

-- what is there to be seen at them: the values, and after the edge 1 for each clock
abbrev pub seen : Bool → List Variable → List ℕ → List ℕ
seen false variables vs = vs
seen true variables vs = risen variables vs

-- A reader who starts with nothing knows at both times of each cycle of the window what each variable shows. The valuations are those of
-- the cycles from the first on.
abbrev pub Recovers : Type 0
Recovers = (edge : Bool) (variables : List Variable) (first : ℕ) (vals : List (List ℕ)) (i k : ℕ)
    → AreFull variables vals → i < length vals → k < length variables
    → read_at k (moment edge (first + i)) (window_lines variables first vals) None
    ≡ slice_get (seen edge variables (slice_index_or vals i [])) k

-- two variables have two codes
abbrev pub CodesDiffer : Type 0
CodesDiffer = (m n : ℕ) → code m ≡ code n → m ≡ n

-- the number that binary digits are, after others that are a
abbrev pub number_of_bits : ℕ → List ℕ → ℕ
number_of_bits a digits = fold (λ n d. 2 * n + (d - 48)) a digits

-- the bits of a value that fits give it back
abbrev pub BitsTell : Type 0
BitsTell = (w v : ℕ) → v < 2 ^ w → number_of_bits 0 (bits w v) ≡ v
