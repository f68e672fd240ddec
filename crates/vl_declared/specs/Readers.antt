-- What the reader of items that declare names answers (IEEE 1364-2005, A.2.1, A.4.2 and A.6.1, for the rules; the answers are this
-- project's own).
use Rattle.std.specs.Prelude.{ℕ, ◌≡◌, List, [], ◌∷◌, Option, Some, None, Result}
use Rattle.vl_tree.specs.declared.token.Key.{Key}
use Rattle.vl_tree.specs.declared.item.Item as item_code
use Rattle.vl_tree.specs.Token.{Kind}
use Rattle.vl_tree.specs.Token as k
use Rattle.vl_tree.specs.Syntax.{Place, Direction}
use Rattle.vl_tree.specs.Syntax.{Item, parameter, directed, nets, registers, integer, genvar, continuous, always}
use Rattle.vl_tree.specs.Syntax.{initial, function, instances, region, generate_loop, generate_if}
use Rattle.vl_tree.specs.SyntaxView.{item}
use Rattle.vl_tree.specs.Placed.{Placed, at, kind_of}
use Rattle.vl_tree.specs.Piece.{Piece, nowhere}
use Rattle.vl_tree.specs.Statements.{NoElse}
use Rattle.vl_tree.specs.Modules.{direction_word, item_at}
use Rattle.vl_tree.specs.Depth.{item_depths}
use Rattle.vl_read.specs.declared.fault.Fault.{Fault}
use Rattle.vl_read.specs.Reading.{Reads, Any}

-- an item that declares names, or continuous assignments
abbrev pub declared_at : Item → Piece
declared_at (parameter p l s r vs) = item_at (parameter p l s r vs)
declared_at (directed d ns) = item_at (directed d ns)
declared_at (nets p s r ns) = item_at (nets p s r ns)
declared_at (registers p s r vs) = item_at (registers p s r vs)
declared_at (integer p vs) = item_at (integer p vs)
declared_at (genvar p ns) = item_at (genvar p ns)
declared_at (continuous p ds) = item_at (continuous p ds)
declared_at (always p e b) = nowhere
declared_at (initial p b) = nowhere
declared_at (function f) = nowhere
declared_at (instances n b is) = nowhere
declared_at (region p is) = nowhere
declared_at (generate_loop p l b) = nowhere
declared_at (generate_if bs o) = nowhere

abbrev pub ReadsDeclared : ℕ → List Placed → Result (item_code.Item × List Placed) Fault → Type 0
ReadsDeclared d ts r = Reads item declared_at (item_depths d) NoElse Any ts r

-- ---- what comes first

-- a token of this kind comes next
abbrev pub Begins : Kind → List Placed → Type 0
Begins a ts = (p : Place) × (rest : List Placed) × (ts ≡ at a p ∷ rest)

-- the word of a direction comes next
abbrev pub BeginsDirected : List Placed → Type 0
BeginsDirected ts = (v : Direction) × Begins (k.key (direction_word v)) ts

-- no keyword comes next
abbrev pub NoWord : List Placed → Type 0
NoWord [] = Unit {0}
NoWord (a ∷ rest) = (b : Key) → kind_of a ≡ k.key b → ⊥

-- the keyword that comes next, or that none does
abbrev pub FindsWord : List Placed → Option Key → Type 0
FindsWord ts (Some b) = Begins (k.key b) ts
FindsWord ts None = NoWord ts
