-- Which token lists derive from a grammar, and where those that don't are bad or too deep. `D` says which tokens stand
-- for a tree, from where they begin to those that are left, and `M` at which depths they stand. The words "derives" and
-- "begins" are those of IEEE 1364-2005, annex A; places and depths are this project's own.
use Rattle.std.specs.Prelude.{ℕ, ◌≡◌, ◌+◌, ◌≤◌, ◌<◌, List, [], ◌∷◌, ◌++◌, length, take}
use Rattle.dt_core.specs.declared.limits.TheConstants.{MAX_DEPTH}
use Rattle.vl_tree.specs.Syntax.{Expr, Source}
use Rattle.vl_tree.specs.Placed.{Placed}
use Rattle.vl_tree.specs.Expressions.{expr_at}
use Rattle.vl_tree.specs.Modules.{source_at}
use Rattle.vl_tree.specs.Depth.{expr_depths, source_depths}

-- ---- any grammar

-- the tokens are those of some tree, all of them
abbrev pub Derivable : {T N : Type 0} → (N → List T → List T → Type 0) → List T → Type 0
Derivable {T} {N} D ts = (t : N) × D t ts []

-- some list that derives begins with these tokens
abbrev pub Begins : {T N : Type 0} → (N → List T → List T → Type 0) → List T → Type 0
Begins {T} D ts = (more : List T) × Derivable D (ts ++ more)

-- The least place such that no list that derives begins with the tokens up to it, that one included; or the number of
-- the tokens where there is no such place.
pub record IsReach {T N : Type 0} (D : N → List T → List T → Type 0) (ts : List T) (place : ℕ) : Type 0 where
  pub within : place ≤ length ts
  pub before : Begins D (take place ts)
  pub at : place < length ts → Begins D (take (place + 1) ts) → ⊥

-- the tokens derive nothing, and this is the least bad place: the number of the tokens where only the end is bad
pub record IsBad {T N : Type 0} (D : N → List T → List T → Type 0) (ts : List T) (place : ℕ) : Type 0 where
  pub reach : IsReach D ts place
  pub none : Derivable D ts → ⊥

-- these tokens stand at the first of these depths, and at 200 at most
abbrev pub Within : {T : Type 0} → List T → List ℕ → Type 0
Within [] ds = Unit {0}
Within (a ∷ us) [] = ⊥
Within (a ∷ us) (d ∷ ds) = (d ≤ MAX_DEPTH) × Within us ds

-- the last of these tokens stands at depth 201, and those before it at 200 at most
abbrev pub Sinks : {T : Type 0} → List T → List ℕ → Type 0
Sinks [] ds = ⊥
Sinks (a ∷ us) [] = ⊥
Sinks (a ∷ []) (d ∷ ds) = d ≡ MAX_DEPTH + 1
Sinks (a ∷ b ∷ us) (d ∷ ds) = (d ≤ MAX_DEPTH) × Sinks (b ∷ us) ds

-- some list that derives begins with these tokens, and has none of them deeper than 200
abbrev pub Shallow : {T N : Type 0} → (N → List T → List T → Type 0) → (N → List ℕ) → List T → Type 0
Shallow {T} {N} D M ts = (more : List T) × (t : N) × D t (ts ++ more) [] × Within ts (M t)

-- The first token at depth 201: some list that derives begins with the tokens up to it, and in each that does they stand at 200 at
-- most and it alone at 201.
pub record IsTooDeep {T N : Type 0} (D : N → List T → List T → Type 0) (M : N
    → List ℕ) (ts : List T) (place : ℕ) : Type 0 where
  pub within : place < length ts
  pub more : List T
  pub tree : N
  pub derives : D tree (take (place + 1) ts ++ more) []
  pub sinks : Sinks (take (place + 1) ts) (M tree)
  pub each : (us : List T) (t : N) → D t (take (place + 1) ts ++ us) [] → Sinks (take (place + 1) ts) (M t)

-- ---- a source

-- the tokens are this source's, and none is deeper than 200
pub record IsSource (ts : List Placed) (s : Source) : Type 0 where
  pub derives : source_at s ts []
  pub shallow : Within ts (source_depths s)

-- the least bad place, with no token before it deeper than 200
pub record IsSyntax (ts : List Placed) (place : ℕ) : Type 0 where
  pub bad : IsBad source_at ts place
  pub shallow : Shallow source_at source_depths (take place ts)

-- the first token that is too deep
abbrev pub IsDeep : List Placed → ℕ → Type 0
IsDeep = IsTooDeep source_at source_depths

-- ---- an expression

-- The tokens before the place are this expression, and with the token at the place none begins; no token before it is
-- deeper than 200.
pub record IsExpr (ts : List Placed) (e : Expr) (place : ℕ) : Type 0 where
  pub reach : IsReach expr_at ts place
  pub derives : expr_at e (take place ts) []
  pub shallow : Within (take place ts) (expr_depths 0 e)

-- The tokens before the place begin an expression and are none, and with the token at the place none begins; no token
-- before it is deeper than 200.
pub record IsNoExpr (ts : List Placed) (place : ℕ) : Type 0 where
  pub reach : IsReach expr_at ts place
  pub none : Derivable expr_at (take place ts) → ⊥
  pub shallow : Shallow expr_at (expr_depths 0) (take place ts)

-- the first token that is too deep
abbrev pub IsDeepExpr : List Placed → ℕ → Type 0
IsDeepExpr = IsTooDeep expr_at (expr_depths 0)
