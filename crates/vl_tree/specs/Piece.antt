-- Pieces of the grammar: which tokens stand for something, from where they begin to those that are left after them. The
-- notation is this project's own; `{ }`, `[ ]` and `|` of IEEE 1364-2005, annex A, become lists, options and
-- constructors.
use Rattle.std.specs.Prelude.{◌≡◌, Bool, true, false, List, [], ◌∷◌, Option, Some, None}
use Rattle.vl_tree.specs.declared.token.Key.{Key}
use Rattle.vl_tree.specs.declared.token.Mark.{Mark}
use Rattle.vl_tree.specs.declared.token.Mark.TheVariants as m
use Rattle.vl_tree.specs.declared.token.System.{System}
use Rattle.vl_tree.specs.Token.{Kind}
use Rattle.vl_tree.specs.Token as k
use Rattle.vl_tree.specs.Syntax.{Place, Name}
use Rattle.vl_tree.specs.Placed.{Placed, at}

-- from these tokens to those that are left
abbrev pub Piece : Type 1
Piece = List Placed → List Placed → Type 0

-- one piece and then another
infixr 20 ◌then◌
abbrev pub ◌then◌ : Piece → Piece → Piece
(p then q) ts rest = (mid : List Placed) × p ts mid × q mid rest

-- no token
abbrev pub nothing : Piece
nothing ts rest = ts ≡ rest

-- no tokens stand for it
abbrev pub nowhere : Piece
nowhere ts rest = ⊥

-- a piece under a condition
abbrev pub given : Type 0 → Piece → Piece
given condition p ts rest = condition × p ts rest

-- a token of this kind at this place
abbrev pub kind_at : Kind → Place → Piece
kind_at a p ts rest = ts ≡ at a p ∷ rest

-- a token of this kind
abbrev pub kind : Kind → Piece
kind a ts rest = (p : Place) × kind_at a p ts rest

-- this keyword
abbrev pub word : Key → Piece
word w = kind (k.key w)

-- this keyword at this place
abbrev pub word_at : Key → Place → Piece
word_at w = kind_at (k.key w)

-- this mark
abbrev pub mark : Mark → Piece
mark a = kind (k.mark a)

-- this mark at this place
abbrev pub mark_at : Mark → Place → Piece
mark_at a = kind_at (k.mark a)

-- a mark to which the table gives this operator, at this place
abbrev pub operator_at : {O : Type 0} → (Mark → Option O) → O → Place → Piece
operator_at table op p ts rest = (a : Mark) × (table a ≡ Some op) × mark_at a p ts rest

-- this system name at this place
abbrev pub system_at : System → Place → Piece
system_at s = kind_at (k.system s)

-- this name where it stands
abbrev pub name_at : Name → Piece
name_at n = kind_at (k.name n.text) n.place

-- a piece between `(` and `)`
abbrev pub in_parens : Piece → Piece
in_parens p = mark m.OpenParen then p then mark m.CloseParen

-- the piece where the test holds, else no token
abbrev pub where_true : Bool → Piece → Piece
where_true false p = nothing
where_true true p = p

-- the piece of what is there, else no token
abbrev pub maybe : {A : Type 0} → (A → Piece) → Option A → Piece
maybe p None = nothing
maybe p (Some a) = p a

-- one after another
abbrev pub each : {A : Type 0} → (A → Piece) → List A → Piece
each p [] = nothing
each p (a ∷ more) = p a then each p more

-- each with a comma before it
abbrev pub more_of : {A : Type 0} → (A → Piece) → List A → Piece
more_of p [] = nothing
more_of p (a ∷ more) = mark m.Comma then p a then more_of p more

-- one or more with commas between them
abbrev pub commas : {A : Type 0} → (A → Piece) → List A → Piece
commas p [] = nowhere
commas p (a ∷ more) = p a then more_of p more
