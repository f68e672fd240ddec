-- What an expression means in each moment, and what it reads. This project's own.
use Rattle.std.specs.Prelude.{ℕ, List, [], ◌++◌, ◌∷◌}
use Rattle.vl_tree.specs.Syntax.{Expr}
use Rattle.vl_value.specs.Paths.{Path}
use Rattle.vl_value.specs.Meaning.{Context, Meaning, meaning}
use Rattle.vl_value.specs.Constant.{Sight}
use Rattle.vl_value.specs.Reads.{Reading, reads}

-- a moment: the number of word k of the object at a path, and what a function gives
pub record Moment : Type 0 where
  pub word : Path → ℕ → ℕ
  pub calls : Path → List ℕ → ℕ

-- where an expression stands in a moment
abbrev pub in_sight : Sight → Moment → Context
in_sight s m = record { find = s; word = m.word; calls = m.calls }

-- the moment in which all is 0, as constants have it
abbrev pub still : Moment
still = record { word = λ p k. 0; calls = λ p ns. 0 }

-- a meaning in each moment, and what is read
pub record Sense : Type 0 where
  pub means : Moment → Meaning
  pub read : List Reading

abbrev pub sense : Sight → Expr → Sense
sense s e = record { means = λ m. meaning (in_sight s m) e; read = reads s e }

-- what means the same in each moment, and reads nothing
abbrev pub constant_sense : Meaning → Sense
constant_sense a = record { means = λ m. a; read = [] }

-- what is made of one, and of two
abbrev pub on_one : (Meaning → Meaning) → Sense → Sense
on_one f a = record { means = λ m. f (a.means m); read = a.read }

abbrev pub on_two : (Meaning → Meaning → Meaning) → Sense → Sense → Sense
on_two f a b = record { means = λ m. f (a.means m) (b.means m); read = a.read ++ b.read }

-- the meanings of several, and all that they read
abbrev pub all_mean : List Sense → Moment → List Meaning
all_mean [] t = []
all_mean (a ∷ xs) t = a.means t ∷ all_mean xs t

abbrev pub all_read : List Sense → List Reading
all_read [] = []
all_read (a ∷ xs) = a.read ++ all_read xs

abbrev pub on_all : (List Meaning → Meaning) → List Sense → Sense
on_all f xs = record { means = λ m. f (all_mean xs m); read = all_read xs }
