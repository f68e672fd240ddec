-- The tree of a numbered design's scopes. This project's own.
use Rattle.std.specs.Prelude.{ℕ, ◌+◌, ◌==◌, Bool, false, if◌then◌else◌, List, [], ◌∷◌, drop, Option, Some, None}
use Rattle.netlist.specs.Design.{Flat}
use Rattle.netlist.specs.declared.design.Scope.{Scope}
use Rattle.netlist.specs.declared.design.Signal.{Signal}

-- a scope by its number, with the scopes that stand in it, in order of number
mutual
  pub data Branch : Type 0 where
    branch : ℕ → Branches → Branch

  pub data Branches : Type 0 where
    no_branches : Branches
    next_branch : Branch → Branches → Branches

-- whether what stands in a scope, or in none, stands in that of the number
abbrev pub is_in : ℕ → Option ℕ → Bool
is_in k None = false
is_in k (Some p) = p == k

-- of these scopes, whose branches are given, those that stand in the scope k
abbrev pub children : ℕ → List Scope → List Branch → Branches
children k (s ∷ ss) (b ∷ bs) = if is_in k s.parent then next_branch b (children k ss bs) else children k ss bs
children k _ _ = no_branches

-- a scope of this number before scopes whose branches are given
abbrev pub with_branch : ℕ → List Scope → List Branch → List Branch
with_branch n ss bs = branch n (children n ss bs) ∷ bs

-- the branches of scopes that are numbered from n on; what stands in a scope comes after it
abbrev pub branches : ℕ → List Scope → List Branch
branches n [] = []
branches n (s ∷ ss) = with_branch n ss (branches (n + 1) ss)

-- those of the scopes from j on that stand in the scope k
abbrev pub children_from : List Scope → ℕ → ℕ → Branches
children_from scopes k j = children k (drop j scopes) (branches j (drop j scopes))

-- the scope of a number, with all below it
abbrev pub branch_at : List Scope → ℕ → Branch
branch_at scopes k = branch k (children_from scopes k (k + 1))

-- the top, which is the first scope
abbrev pub flat_tree : Flat → Branch
flat_tree f = branch_at f.scopes 0

-- of signals that are numbered from n on, those that stand in the scope k
abbrev pub signals_from : ℕ → ℕ → List Signal → List ℕ
signals_from k n [] = []
signals_from k n (s ∷ ss) = if is_in k s.scope then n ∷ signals_from k (n + 1) ss else signals_from k (n + 1) ss

abbrev pub signals_in : Flat → ℕ → List ℕ
signals_in f k = signals_from k 0 f.signals
