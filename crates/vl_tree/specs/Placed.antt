-- Tokens where they stand: each with its number, from 0, and its line. This project's own.
use Rattle.std.specs.Prelude.{ℕ, ◌+◌, List, [], ◌∷◌}
use Rattle.vl_tree.specs.Token.{Kind, Tokens, token}
use Rattle.vl_tree.specs.Syntax.{Place}

-- a token of this kind at this place
pub data Placed : Type 0 where
  at : Kind → Place → Placed

-- what a token is
abbrev pub kind_of : Placed → Kind
kind_of (at a p) = a

-- these tokens, numbered from this number on
abbrev pub placed : ℕ → Tokens → List Placed
placed n [] = []
placed n (token line a ∷ rest) = at a (record { token = n; line = line }) ∷ placed (n + 1) rest
