-- Paths: how an object is named from the top (IEEE 1364-2005, clauses 12.4.3 and 12.5). That a path is a list of steps
-- and not a text is this project's own, so that a label that reads like the name of an unnamed block is another step.
use Rattle.std.specs.Prelude.{ℕ, ◌==◌, Bool, true, false, ◌&&◌, List, [], ◌∷◌, ◌++◌, ℤ, int_le, Option, Some, None, bytes_eq}

-- a name, as the bytes of its text
abbrev pub Text : Type 0
Text = List ℕ

-- One step of a path: the name of an instance, a labelled block or an object; a labelled block of a generate loop in
-- the turn of a value; the block of a generate construct that has a number and no label, in the turn of a value where
-- the construct is a loop.
pub data Step : Type 0 where
  named : Text → Step
  turn : Text → ℤ → Step
  unnamed : ℕ → Option ℤ → Step

-- the steps from the top; the top's own path has none
abbrev pub Path : Type 0
Path = List Step

-- the path of what a scope declares under a name
abbrev pub below : Path → Text → Path
below p x = p ++ named x ∷ []

-- ---- which are equal

abbrev pub same_number : ℤ → ℤ → Bool
same_number a b = int_le a b && int_le b a

abbrev pub same_turn : Option ℤ → Option ℤ → Bool
same_turn None None = true
same_turn (Some a) (Some b) = same_number a b
same_turn _ _ = false

abbrev pub same_step : Step → Step → Bool
same_step (named x) (named y) = bytes_eq x y
same_step (turn x a) (turn y b) = bytes_eq x y && same_number a b
same_step (unnamed n a) (unnamed m b) = (n == m) && same_turn a b
same_step _ _ = false

abbrev pub same_path : Path → Path → Bool
same_path [] [] = true
same_path (x ∷ xs) (y ∷ ys) = same_step x y && same_path xs ys
same_path _ _ = false
