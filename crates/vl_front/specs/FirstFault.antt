-- The first static fault of a text, over the phases that are read: 1, its clean text, and 2, the tokens of that (`Spelled`); 3, the source
-- that the tokens derive (IEEE 1364-2005, annex A, cut down to the profile). A phase looks at a text only where those before have no
-- fault. The phases' numbers and the places are this project's own.
use Rattle.std.specs.Prelude.{ℕ, ◌≡◌, ◌-◌, ◌⊎◌, min, List, length, Option, Some, None, Ok, Err, slice_get}
use Rattle.vl_tree.specs.declared.fault.FaultKind.{FaultKind}
use Rattle.vl_tree.specs.declared.fault.FaultKind.TheVariants as k
use Rattle.vl_tree.specs.Fault.{Fault}
use Rattle.vl_tree.specs.Token.{Token, token, Tokens}
use Rattle.vl_tree.specs.Placed.{placed}
use Rattle.vl_tree.specs.Syntax.{Source}
use Rattle.vl_tree.specs.Derives.{IsSource, IsSyntax, IsDeep}
use Rattle.vl_front.specs.Spelled.{spelled}

-- the line of a token, or the first where there is none
abbrev pub line_of : Option Token → ℕ
line_of None = 1
line_of (Some (token line a)) = line

-- the line of the token of this number; of the last token, where there are no more
abbrev pub line_at : Tokens → ℕ → ℕ
line_at ts n = line_of (slice_get ts (min n (length ts - 1)))

-- a fault of phase 3 at the token of this number; where that is the number of the tokens, at the end
abbrev pub tree_fault : Tokens → ℕ → FaultKind → Fault
tree_fault ts n kind = record { phase = 3; line = line_at ts n; token = Some n; kind = kind }

-- the tokens are no source's: no source begins with those up to this one (at the end: they are none's), or this one is too deep; and
-- those before it begin one, none of them too deep
abbrev pub HasTreeFault : Tokens → Fault → Type 0
HasTreeFault ts f =
    (n : ℕ) × ((IsSyntax (placed 0 ts) n × (f ≡ tree_fault ts n k.Syntax)) ⊎ (IsDeep (placed 0 ts) n × (f ≡ tree_fault ts n k.Deep)))

-- the tokens are a source's
abbrev pub AreSource : Tokens → Type 0
AreSource ts = (s : Source) × IsSource (placed 0 ts) s

-- the text has this fault first
abbrev pub HasFirst : List ℕ → Fault → Type 0
HasFirst text f = (spelled text ≡ Err f) ⊎ ((ts : Tokens) × (spelled text ≡ Ok ts) × HasTreeFault ts f)
