-- Laws of the definitions: in how many ways a list of tokens can be refused. This project's own.
use Rattle.std.specs.Prelude.{ℕ, ◌≡◌, List}
use Rattle.vl_tree.specs.Syntax.{Source}
use Rattle.vl_tree.specs.Placed.{Placed}
use Rattle.vl_tree.specs.Derives.{IsSource, IsSyntax, IsDeep}

-- the tokens are bad at one place at most, or too deep at one place at most, never both, and those of a source neither
pub record RefusedOnce (ts : List Placed) : Type 0 where
  pub apart : (k j : ℕ) → IsSyntax ts k → IsDeep ts j → ⊥
  pub bad : (k j : ℕ) → IsSyntax ts k → IsSyntax ts j → k ≡ j
  pub deep : (k j : ℕ) → IsDeep ts k → IsDeep ts j → k ≡ j
  pub sound : (s : Source) (k : ℕ) → IsSource ts s → IsSyntax ts k → ⊥
  pub shallow : (s : Source) (k : ℕ) → IsSource ts s → IsDeep ts k → ⊥

-- A law: so it is for any tokens.
abbrev pub RefusalLaw : Type 0
RefusalLaw = (ts : List Placed) → RefusedOnce ts
