-- What a rule owes so that its trees can stand in a list with commas. This project's own.
use Rattle.std.specs.Prelude.{ℕ, List, ◌∷◌, Result, map}
use Rattle.vl_tree.specs.declared.token.Mark.TheVariants as m
use Rattle.vl_tree.specs.Token as k
use Rattle.vl_tree.specs.Syntax.{Place}
use Rattle.vl_tree.specs.Placed.{Placed, at}
use Rattle.vl_tree.specs.Piece.{commas}
use Rattle.vl_tree.specs.Depth.{comma_depths}
use Rattle.vl_read.specs.declared.fault.Fault.{Fault}
use Rattle.vl_read.specs.Reading.{Reads}
use Rattle.vl_read.specs.Tokens.{Not}

-- A comma may follow a tree; and before any tokens that may follow one there is a tree.
pub record IsListed {N : Type 0} (D : N → List Placed → List Placed → Type 0) (may : List Placed → Type 0) : Type 0 where
  pub comma : (p : Place) (z : List Placed) → may (at (k.mark m.Comma) p ∷ z)
  pub some : (z : List Placed) → may z → (t : N) × (a : List Placed) × D t a z

-- what may follow a list: no comma, and what may follow a tree
abbrev pub EndsCommas : (List Placed → Type 0) → List Placed → Type 0
EndsCommas may ts = Not (k.mark m.Comma) ts × may ts

-- the list that was read and the tokens after it, or why there is none
abbrev pub ReadsCommas : {X N : Type 0} → (X → N) → (N → List Placed → List Placed → Type 0) → (ℕ → N → List ℕ)
    → (List Placed → Type 0) → ℕ → List Placed → Result (List X × List Placed) Fault → Type 0
ReadsCommas view D M may d ts r = Reads (map view) (commas D) (comma_depths M d) (EndsCommas may) (EndsCommas may) ts r
