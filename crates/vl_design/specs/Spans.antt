-- Ranges of bits and of words (IEEE 1364-2005, clauses 4.3 and 4.9). The most of a bound and of a width is this project's own.
use Rattle.std.specs.Prelude.{ℕ, ◌-◌, Bool, false, ◌&&◌, if◌then◌else◌, nat_le, List, [], ◌∷◌, ◌++◌, ℤ, pos, negsuc, Option, Some, None}
use Rattle.dt_core.specs.declared.limits.TheConstants.{MAX_WIDTH, MAX_BOUND, MAX_WORDS}
use Rattle.vl_tree.specs.declared.fault.FaultKind.TheVariants.{BadRange, TooWide}
use Rattle.vl_tree.specs.Syntax.{Place, Expr, Range}
use Rattle.vl_value.specs.Things.{Shape, width_of}
use Rattle.vl_value.specs.Meaning.{whole}
use Rattle.vl_value.specs.Order.{Found, at}
use Rattle.vl_value.specs.Faults.{start}
use Rattle.vl_design.specs.Constants.{Known, value_of, needs}

-- the number of a bound: missing where it isn't a constant without a fault; outside where no range may have it
pub data Index : Type 0 where
  missing : Index
  outside : Index
  index : ℕ → Index

abbrev pub index_of : ℤ → Index
index_of (pos n) = if nat_le n (MAX_WORDS - 1) then index n else outside
index_of (negsuc n) = outside

-- a bound: its first token, and its number
pub record Bound : Type 0 where
  pub place : Place
  pub number : Index

-- no range, which is [0:0]; the range of an `integer`, which is [31:0]; [left:right]
pub data Span : Type 0 where
  one_bit : Span
  integer_span : Span
  spanned : Bound → Bound → Span

abbrev pub bound : Known → Expr → Bound
bound k e = record { place = start e; number = elim (value_of k e) [ Some m ↦ index_of (whole m) | None ↦ missing ] }

abbrev pub span_of : Known → Range → Span
span_of k r = spanned (bound k r.left) (bound k r.right)

abbrev pub optional_span : Known → Option Range → Span
optional_span k None = one_bit
optional_span k (Some r) = span_of k r

-- the constants that it needs
abbrev pub range_needs : Known → Option Range → List Found
range_needs k None = []
range_needs k (Some r) = needs k r.left ++ needs k r.right

-- ---- what is wrong with it

-- a number that isn't from 0 to the most
abbrev pub bound_faults : ℕ → Bound → List Found
bound_faults most b = elim b.number [
  | missing ↦ []
  | outside ↦ at b.place BadRange ∷ []
  | index n ↦ if nat_le n most then [] else at b.place BadRange ∷ []
]

abbrev pub bounds_faults : ℕ → Span → List Found
bounds_faults most (spanned a b) = bound_faults most a ++ bound_faults most b
bounds_faults most _ = []

-- both bounds, where they are numbers that bounds of bits may be
abbrev pub bounds_of : Index → Index → Option (ℕ × ℕ)
bounds_of (index a) (index b) = if nat_le a MAX_BOUND && nat_le b MAX_BOUND then Some (a, b) else None
bounds_of _ _ = None

-- the range of bits with a sign; none where a bound is none
abbrev pub shape_of : Bool → Span → Option Shape
shape_of s one_bit = Some (record { left = 0; right = 0; signed = s })
shape_of s integer_span = Some (record { left = 31; right = 0; signed = s })
shape_of s (spanned a b) = elim (bounds_of a.number b.number) [
  | Some q ↦ Some (record { left = q.0; right = q.1; signed = s })
  | None ↦ None
]

-- a vector above 128 bits, at its name
abbrev pub width_faults : Place → Option Shape → List Found
width_faults p None = []
width_faults p (Some sh) = if nat_le (width_of sh) MAX_WIDTH then [] else at p TooWide ∷ []

-- of the range of a vector that is declared at a place
abbrev pub vector_faults : Place → Span → List Found
vector_faults p sp = bounds_faults MAX_BOUND sp ++ width_faults p (shape_of false sp)

-- of the range of a memory's words
abbrev pub words_faults : Span → List Found
words_faults sp = bounds_faults (MAX_WORDS - 1) sp

-- ---- what it is without a fault

-- as `shape_of`; something where that is none
abbrev pub shape : Bool → Span → Shape
shape s sp = elim (shape_of s sp) [ Some sh ↦ sh | None ↦ record { left = 0; right = 0; signed = s } ]

abbrev pub number_of : Index → ℕ
number_of (index n) = n
number_of _ = 0

-- the first and the last index of a memory's words
abbrev pub first_word : Span → ℕ
first_word (spanned a b) = number_of a.number
first_word _ = 0

abbrev pub last_word : Span → ℕ
last_word (spanned a b) = number_of b.number
last_word _ = 0
