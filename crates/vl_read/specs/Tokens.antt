-- What readers of single tokens answer. This project's own.
use Rattle.std.specs.Prelude.{ℕ, ◌≡◌, List, [], ◌∷◌, Option, Some, None, Result, Ok, Err}
use Rattle.dt_core.specs.declared.place.Place as declared
use Rattle.vl_tree.specs.declared.expression.Name as name_code
use Rattle.vl_tree.specs.Token.{Kind}
use Rattle.vl_tree.specs.Token as k
use Rattle.vl_tree.specs.Syntax.{Place}
use Rattle.vl_tree.specs.SyntaxView.{place}
use Rattle.vl_tree.specs.Placed.{Placed, at, kind_of}
use Rattle.vl_tree.specs.Piece.{Piece, kind_at, kind, name_at}
use Rattle.vl_read.specs.declared.fault.Fault.{Fault}
use Rattle.vl_read.specs.Reading.{Any, Refuses}

-- a piece that is no tree
abbrev pub one : Piece → Unit {0} → Piece
one p u = p

-- the depth of one token
abbrev pub one_deep : {N : Type 0} → ℕ → N → List ℕ
one_deep d x = d ∷ []

-- a token of this kind doesn't come next
abbrev pub Not : Kind → List Placed → Type 0
Not b [] = Unit {0}
Not b (a ∷ rest) = kind_of a ≡ b → ⊥

-- the place of the token of this kind that comes first and the tokens after it, or that it doesn't come
abbrev pub Finds : Kind → List Placed → Option (declared.Place × List Placed) → Type 0
Finds a ts (Some x) = ts ≡ at a (place x.0) ∷ x.1
Finds a ts None = Not a ts

-- the same, or the fault of a rule that wants the token here
abbrev pub Expects : Kind → List Placed → Result (declared.Place × List Placed) Fault → Type 0
Expects a ts (Ok x) = ts ≡ at a (place x.0) ∷ x.1
Expects a ts (Err e) = (d : ℕ) → Refuses (kind_at a) (one_deep d) Any Any ts e

-- the tokens after one of this kind that is no part of a tree, or the fault
abbrev pub Passes : Kind → List Placed → Result (List Placed) Fault → Type 0
Passes a ts (Ok rest) = (p : Place) × (ts ≡ at a p ∷ rest)
Passes a ts (Err e) = (d : ℕ) → Refuses (one (kind a)) (one_deep d) Any Any ts e

-- the name that comes first and the tokens after it, or the fault of a rule that wants a name here
abbrev pub ExpectsName : List Placed → Result (name_code.Name × List Placed) Fault → Type 0
ExpectsName ts (Ok x) = ts ≡ at (k.name x.0.text) (place x.0.place) ∷ x.1
ExpectsName ts (Err e) = (d : ℕ) → Refuses name_at (one_deep d) Any Any ts e
