-- What a reader answers against a grammar, for any type of tokens: the tree that it read and the tokens that are left, or why there is
-- none. `D` says which tokens stand for a tree, and `M` at which depths; `F` says what may follow a tree, and `G` what a tree is looked at
-- before. This project's own.
use Rattle.std.specs.Prelude.{ℕ, suc, ◌≡◌, ◌≤◌, List, [], ◌∷◌, ◌++◌, length, Result, Ok, Err}
use Rattle.dt_core.specs.declared.limits.TheConstants.{MAX_DEPTH}
use Rattle.vl_tree.specs.Derives.{Within, Sinks}
use Rattle.vl_read.specs.declared.fault.Fault.{Fault}
use Rattle.vl_read.specs.declared.fault.Fault.TheVariants as f

-- no condition on the tokens that are left
abbrev pub Any : {T : Type 0} → List T → Type 0
Any ts = Unit {0}

-- these tokens stand at these depths, and at 200 at most
abbrev pub Covers : {T : Type 0} → List T → List ℕ → Type 0
Covers [] [] = Unit {0}
Covers [] (d ∷ ds) = ⊥
Covers (a ∷ us) [] = ⊥
Covers (a ∷ us) (d ∷ ds) = (d ≤ MAX_DEPTH) × Covers us ds

-- The tokens up to the rest are the tree's, and would be before any rest that may follow. With the token that comes next, or with none,
-- no other tree and no other place fits.
pub record Took {T N : Type 0} (D : N → List T → List T → Type 0) (M : N → List ℕ) (F G : List T → Type 0) (t : N)
    (ts rest : List T) : Type 0 where
  pub used : List T
  pub whole : ts ≡ used ++ rest
  pub here : D t ts rest
  pub any : (z : List T) → F z → D t (used ++ z) z
  pub kept : (a : T) (after : List T) → rest ≡ a ∷ after → (y : List T) → D t (used ++ a ∷ y) (a ∷ y)
  pub forced : (a : T) (after : List T) → rest ≡ a ∷ after → (t' : N) (y z : List T) → D t' (used ++ a ∷ y) z → G z
      → (t' ≡ t) × (z ≡ a ∷ y)
  pub ended : (t' : N) (z : List T) → D t' used z → G z → (t' ≡ t) × (z ≡ [])
  pub deep : Covers used (M t)

-- The tokens before the place begin a tree, and none is deeper than 200. With the token at the place they begin none. The place is told
-- by how many tokens are left there.
pub record Stuck {T N : Type 0} (D : N → List T → List T → Type 0) (M : N → List ℕ) (F G : List T → Type 0)
    (ts : List T) (left : ℕ) : Type 0 where
  pub used : List T
  pub rest : List T
  pub whole : ts ≡ used ++ rest
  pub place : length rest ≡ left
  pub viable : (z : List T) → F z → (t : N) × (y : List T) × D t (used ++ y) z × Within used (M t)
  pub bad : (a : T) (after : List T) → rest ≡ a ∷ after → (t : N) (y z : List T) → D t (used ++ a ∷ y) z → G z → ⊥
  pub short : (t : N) (z : List T) → D t used z → G z → ⊥

-- The tokens up to the place, that one included, begin a tree, and in each tree that they begin that one alone is deeper than 200.
pub record Sunk {T N : Type 0} (D : N → List T → List T → Type 0) (M : N → List ℕ) (F G : List T → Type 0)
    (ts : List T) (left : ℕ) : Type 0 where
  pub used : List T
  pub rest : List T
  pub whole : ts ≡ used ++ rest
  pub place : suc (length rest) ≡ left
  pub some : 1 ≤ length used
  pub viable : (z : List T) → F z → (t : N) × (y : List T) × D t (used ++ y) z × Sinks used (M t)
  pub each : (t : N) (y z : List T) → D t (used ++ y) z → G z → Sinks used (M t)

-- what a fault says; one that wants memory says nothing
abbrev pub Refuses : {T N : Type 0} → (N → List T → List T → Type 0) → (N → List ℕ) → (List T → Type 0) → (List T → Type 0)
    → List T → Fault → Type 0
Refuses D M F G ts f.Memory = Unit {0}
Refuses D M F G ts (f.At left) = Stuck D M F G ts left
Refuses D M F G ts (f.Deep left) = Sunk D M F G ts left

-- the tree that was read and the tokens after it, or why there is none
abbrev pub Reads : {T X N : Type 0} → (X → N) → (N → List T → List T → Type 0) → (N → List ℕ) → (List T → Type 0) → (List T → Type 0)
    → List T → Result (X × List T) Fault → Type 0
Reads view D M F G ts (Ok x) = Took D M F G (view x.0) ts x.1
Reads view D M F G ts (Err e) = Refuses D M F G ts e

-- one tree and then another
abbrev pub Both : {T N K : Type 0} → (N → List T → List T → Type 0) → (K → List T → List T → Type 0)
    → N × K → List T → List T → Type 0
Both {T} D E x ts rest = (mid : List T) × D x.0 ts mid × E x.1 mid rest

-- the depths of one tree and then of another
abbrev pub BothDepths : {N K : Type 0} → (N → List ℕ) → (K → List ℕ) → N × K → List ℕ
BothDepths M L x = M x.0 ++ L x.1
