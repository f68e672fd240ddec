-- What a name stands for, and where the bits of a vector and the words of a memory stand (IEEE 1364-2005, clauses 4.2,
-- 4.3, 4.9, 4.10 and 10.4).
use Rattle.std.specs.Prelude.{ℕ, ◌+◌, ◌-◌, Bool, if◌then◌else◌, nat_le, min, List, ℤ, pos, ◌-ℤ◌, ◌+ℤ◌}
use Rattle.vl_value.specs.Paths.{Path}

-- the declared range of a vector, and its sign
pub record Shape : Type 0 where
  pub left : ℕ
  pub right : ℕ
  pub signed : Bool

abbrev pub distance : ℕ → ℕ → ℕ
distance a b = (a - b) + (b - a)

abbrev pub width_of : Shape → ℕ
width_of sh = distance sh.left sh.right + 1

-- A bit's place is its distance from the right bound. This is the place of the rightmost of the n indices from z upward.
abbrev pub place_of : Shape → ℤ → ℕ → ℤ
place_of sh z n = if nat_le sh.right sh.left then z -ℤ pos sh.right else pos sh.right -ℤ (z +ℤ (pos n -ℤ pos 1))

-- the place of a memory's word: its index less the least of them
abbrev pub word_place : ℕ → ℕ → ℤ → ℤ
word_place first last z = z -ℤ pos (min first last)

pub data Thing : Type 0 where
  -- a net or a variable, of a function too
  signal : Path → Shape → Thing
  -- a memory: the shape of its words, the indices of its first and its last one
  memory : Path → Shape → ℕ → ℕ → Thing
  -- a parameter, a genvar, or a loop variable in the body of its loop: its width, its sign and its value
  constant : ℕ → Bool → ℕ → Thing
  -- a function: whether the name stands in its own body, where without arguments it is the variable of that name; the
  -- shape of its result, those of its inputs
  routine : Bool → Path → Shape → List Shape → Thing
