-- The waveform's text, a value change dump (IEEE 1364-2005, clause 18.2), as a function of the scopes, the first cycle and the
-- valuations. The identifier codes, the times, values at their full width, and which lines are written are this project's own.
-- Every line ends with LF.
use Rattle.std.specs.Prelude.{ℕ, zero, suc, ◌+◌, ◌-◌, ◌*◌, ◌/◌, ◌%◌, ◌^◌, ◌==◌, Bool, if◌then◌else◌, nat_lt, List, [], ◌∷◌, ◌++◌, length, codes, decimal}
use Rattle.std.specs.List.{list_any}
use Rattle.design_names.specs.Variables.{Kind, wire, reg, integer, Variable, Scope, scope, Scopes, no_scopes, next_scope, variables_of}

-- ---- identifier codes (18.2.1)

-- the code of the variable of a number, found in at most `steps` steps
abbrev pub code_within : ℕ → ℕ → List ℕ
code_within zero n = []
code_within (suc steps) n = if nat_lt n 94 then (33 + n) ∷ [] else code_within steps (n / 94 - 1) ++ (33 + n % 94) ∷ []

-- of a number below 94 one character, and of a larger one that of n / 94 - 1 and one more character
unfoldable pub code : ℕ → List ℕ
code n = code_within (suc n) n

-- ---- the header (18.2.3)

abbrev pub kind_word : Kind → List ℕ
kind_word wire = codes "wire "
kind_word reg = codes "reg "
kind_word integer = codes "integer "

-- the line of the variable of a number: what it was declared as, its code and its name
abbrev pub declared_text : Variable → List ℕ
declared_text v = codes "$var " ++ (kind_word v.kind ++ (decimal v.width ++ codes " "))

abbrev pub variable_line : ℕ → Variable → List ℕ
variable_line n v = declared_text v ++ (code n ++ (codes " " ++ (v.name ++ codes " $end\n")))

-- the lines of variables that are numbered from n on
abbrev pub variable_lines : ℕ → List Variable → List ℕ
variable_lines n [] = []
variable_lines n (v ∷ variables) = variable_line n v ++ variable_lines (n + 1) variables

abbrev pub scope_word : Bool → List ℕ
scope_word instance = if instance then codes "$scope module " else codes "$scope begin "

-- a scope whose variables are numbered from n on: its variables, and then its child scopes
abbrev mutual
  pub scope_text : ℕ → Scope → List ℕ
  scope_text n (scope instance name variables children) =
      scope_word instance ++ (name ++ (codes " $end\n" ++ (variable_lines n variables
      ++ (scopes_text (n + length variables) children ++ codes "$upscope $end\n"))))

  pub scopes_text : ℕ → Scopes → List ℕ
  scopes_text n no_scopes = []
  scopes_text n (next_scope s ss) = scope_text n s ++ scopes_text (n + length (variables_of s)) ss

abbrev pub header_text : Scope → List ℕ
header_text top =
    codes "$version dessert 1 $end\n$timescale 1 ns $end\n" ++ (scope_text 0 top ++ codes "$enddefinitions $end\n")

-- ---- the lines after the header (18.2.1, 18.2.2)

-- a time, a value of the variable of a number with its width, and the two words round the first values
pub data Line : Type 0 where
  time : ℕ → Line
  value : ℕ → ℕ → ℕ → Line
  dumpvars : Line
  end : Line

-- the low w bits of a number, from the left
abbrev pub bits : ℕ → ℕ → List ℕ
bits zero v = []
bits (suc w) v = (48 + (v / 2 ^ w) % 2) ∷ bits w v

-- a value of width 1 is a digit and the code; a wider one is `b`, all its bits, a space and the code
abbrev pub value_text : ℕ → ℕ → ℕ → List ℕ
value_text width number v =
    if width == 1 then bits 1 v ++ (code number ++ codes "\n")
    else codes "b" ++ (bits width v ++ (codes " " ++ (code number ++ codes "\n")))

abbrev pub line_text : Line → List ℕ
line_text (time t) = codes "#" ++ (decimal t ++ codes "\n")
line_text (value width number v) = value_text width number v
line_text dumpvars = codes "$dumpvars\n"
line_text end = codes "$end\n"

abbrev pub lines_text : List Line → List ℕ
lines_text [] = []
lines_text (l ∷ ls) = line_text l ++ lines_text ls

-- ---- which lines are written

-- the values of all variables, which are numbered from n on
abbrev pub all_values : ℕ → List Variable → List ℕ → List Line
all_values n (x ∷ variables) (v ∷ vs) = value x.width n v ∷ all_values (n + 1) variables vs
all_values n _ _ = []

-- the values that differ from the last ones written
abbrev pub changes : ℕ → List Variable → List ℕ → List ℕ → List Line
changes n (x ∷ variables) (old ∷ olds) (v ∷ vs) =
    if old == v then changes (n + 1) variables olds vs else value x.width n v ∷ changes (n + 1) variables olds vs
changes n _ _ _ = []

-- the value 1 of each clock
abbrev pub edges : ℕ → List Variable → List Line
edges n [] = []
edges n (x ∷ variables) = if x.clock then value x.width n 1 ∷ edges (n + 1) variables else edges (n + 1) variables

abbrev pub has_clock : List Variable → Bool
has_clock variables = list_any (λ x. x.clock) variables

-- the rising edge after a cycle, where there is a clock
abbrev pub rise : List Variable → ℕ → List Line
rise variables cycle = if has_clock variables then time (2 * cycle + 1) ∷ edges 0 variables else []

-- the values last written after a cycle: those of the cycle, and 1 of each clock
abbrev pub risen : List Variable → List ℕ → List ℕ
risen (x ∷ variables) (v ∷ vs) = (if x.clock then 1 else v) ∷ risen variables vs
risen _ _ = []

-- the first cycle: all values
abbrev pub first_lines : List Variable → ℕ → List ℕ → List Line
first_lines variables cycle vs =
    time (2 * cycle) ∷ dumpvars ∷ (all_values 0 variables vs ++ (end ∷ rise variables cycle))

-- a later cycle: what changes after a cycle whose values were `last`
abbrev pub later_lines : List Variable → ℕ → List ℕ → List ℕ → List Line
later_lines variables cycle last vs =
    time (2 * cycle) ∷ (changes 0 variables (risen variables last) vs ++ rise variables cycle)

-- the cycles from one on, after a cycle whose values were `last`
abbrev pub later : List Variable → ℕ → List ℕ → List (List ℕ) → List Line
later variables cycle last [] = []
later variables cycle last (vs ∷ more) = later_lines variables cycle last vs ++ later variables (cycle + 1) vs more

-- all lines after the header
abbrev pub window_lines : List Variable → ℕ → List (List ℕ) → List Line
window_lines variables first [] = []
window_lines variables first (vs ∷ more) = first_lines variables first vs ++ later variables (first + 1) vs more

-- VCD text. A valuation is one number for each variable, in the order of the header, with 0 for each clock
abbrev pub vcd_text : Scope → ℕ → List (List ℕ) → List ℕ
vcd_text top first valuations = header_text top ++ lines_text (window_lines (variables_of top) first valuations)
