-- What a reader answers against the grammar: the one tree that the tokens begin with, and those after it; or that they begin with none.
-- This project's own.
use Rattle.std.specs.Prelude.{ℕ, ◌≡◌, ◌∷◌, ◌≤◌, List, Option, Some, None, Result, Ok, Err}
use denote.Ref.{Bor}
use Rattle.vl_tree.specs.declared.token.Token as declared
use Rattle.vl_tree.specs.Token.{Token, Tokens, all_coded}
use Rattle.vl_tree.specs.Tree.{Module}
use Rattle.vl_tree.specs.Grammar.{Piece, Derives}
use Rattle.vl_module.specs.declared.SynFault.{SynFault}
use Rattle.vl_module.specs.declared.SynFault.TheVariants as fault

-- no condition on the tokens that are left
abbrev pub Any : Tokens → Type 0
Any ts = Unit {0}

-- `D` derives this tree from the tokens up to the rest, and no other tree up to no other rest that `G` holds of
pub record Took {N : Type 0} (D : N → Tokens → Tokens → Type 0) (G : Tokens → Type 0) (t : N) (ts rest : Tokens) : Type 0 where
  pub here : D t ts rest
  pub only : (u : N) (z : Tokens) → D u ts z → G z → (u ≡ t) × (z ≡ rest)

-- `D` derives no tree from the first of these tokens, up to a rest that `G` holds of
abbrev pub NoTree : {N : Type 0} → (N → Tokens → Tokens → Type 0) → (Tokens → Type 0) → Tokens → Type 0
NoTree {N} D G ts = (u : N) (z : Tokens) → D u ts z → G z → ⊥

-- a reader that refuses says that there is no tree; one that is out of memory says nothing
abbrev pub Refuses : {N : Type 0} → (N → Tokens → Tokens → Type 0) → (Tokens → Type 0) → Tokens → SynFault → Type 0
Refuses D G ts fault.NoTree = NoTree D G ts
Refuses D G ts fault.Memory = Unit {0}

-- the tree that was read, and the tokens left after it; or the fault
abbrev pub Reads : {X N : Type 0} → (X → N) → (N → Tokens → Tokens → Type 0) → (Tokens → Type 0) → Tokens → Result (X × Bor (List declared.Token)) SynFault → Type 0
Reads view D G ts (Ok x) = Took D G (view x.0) ts (all_coded x.1.now)
Reads view D G ts (Err e) = Refuses D G ts e

-- a piece that is no tree, as a keyword
abbrev pub one : Piece → Unit {0} → Tokens → Tokens → Type 0
one p u = p

-- the tokens after the piece, or the fault
abbrev pub Expects : Piece → Tokens → Result (Bor (List declared.Token)) SynFault → Type 0
Expects p ts (Ok rest) = Took (one p) Any tt ts (all_coded rest.now)
Expects p ts (Err e) = Refuses (one p) Any ts e

-- the tokens after the piece, or that it doesn't come first
abbrev pub Finds : Piece → Tokens → Option (Bor (List declared.Token)) → Type 0
Finds p ts (Some rest) = Took (one p) Any tt ts (all_coded rest.now)
Finds p ts None = NoTree (one p) Any ts

-- the tree that comes first and the tokens after it, or that none comes first
abbrev pub FindsTree : {X N : Type 0} → (X → N) → (N → Tokens → Tokens → Type 0) → Tokens → Option (X × Bor (List declared.Token)) → Type 0
FindsTree view D ts (Some x) = Took D Any (view x.0) ts (all_coded x.1.now)
FindsTree view D ts None = NoTree D Any ts

-- no token stands at this depth
abbrev pub NoToken : ℕ → Tokens → Type 0
NoToken d ts = (a : Token) (us : Tokens) → d ≤ 200 → ts ≡ a ∷ us → ⊥

-- there is no module to these tokens; or memory was wanting
abbrev pub IsRefused : Tokens → SynFault → Type 0
IsRefused ts fault.NoTree = (n : Module) → Derives ts n → ⊥
IsRefused ts fault.Memory = Unit {0}
