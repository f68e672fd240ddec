-- Events of a block's execution, and the assertions that fire in it with their messages. This project's own.
use Rattle.std.specs.Prelude.{ℕ, List, [], ◌∷◌, ◌++◌}

-- a piece of text, or an assertion that fires, with the line where it stands
pub data Event : Type 0 where
  said : List ℕ → Event
  stopped : ℕ → Event

-- an assertion that fired: its line, and the texts since the one before it
pub record Fired : Type 0 where
  pub line : ℕ
  pub message : List ℕ

-- the assertions of one execution, in order; the text so far is given first
abbrev pub fired_in : List ℕ → List Event → List Fired
fired_in t [] = []
fired_in t (said more ∷ es) = fired_in (t ++ more) es
fired_in t (stopped line ∷ es) = record { line = line; message = t } ∷ fired_in [] es
