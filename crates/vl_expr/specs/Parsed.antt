-- What `parse_expr` answers: the expression that the tokens from a place on begin with, as far as they go; or why they begin with none.
-- Numbers of tokens are those of the whole list. This project's own.
use Rattle.std.specs.Prelude.{ℕ, ◌+◌, ◌-◌, ◌≡◌, List, [], Result, Ok, Err, drop, take}
use Rattle.vl_tree.specs.declared.expression.Expr as code
use Rattle.vl_tree.specs.Token.{Tokens}
use Rattle.vl_tree.specs.Syntax.{Expr}
use Rattle.vl_tree.specs.SyntaxView.{expr}
use Rattle.vl_tree.specs.Placed.{Placed, placed}
use Rattle.vl_tree.specs.Expressions.{expr_at}
use Rattle.vl_tree.specs.Derives.{IsExpr, IsNoExpr, IsDeepExpr}
use Rattle.vl_read.specs.declared.fault.SynFault.{SynFault}
use Rattle.vl_read.specs.declared.fault.SynFault.TheVariants as s

-- the tokens from this number on, where they stand
abbrev pub from : ℕ → Tokens → List Placed
from start ts = placed start (drop start ts)

-- why the tokens from a place on begin with no expression; want of memory says nothing
abbrev pub IsRefused : ℕ → Tokens → SynFault → Type 0
IsRefused start ts (s.At k) = (n : ℕ) × (k ≡ start + n) × IsNoExpr (from start ts) n
IsRefused start ts (s.Deep k) = (n : ℕ) × (k ≡ start + n) × IsDeepExpr (from start ts) n
IsRefused start ts s.Memory = Unit {0}

-- the expression and the number of the token after it, or why there is none
abbrev pub Parses : ℕ → Tokens → Result (code.Expr × ℕ) SynFault → Type 0
Parses start ts (Ok x) = (n : ℕ) × (x.1 ≡ start + n) × IsExpr (from start ts) (expr x.0) n
Parses start ts (Err e) = IsRefused start ts e

-- no other expression is that of the tokens from a place on up to the one of this number
abbrev pub IsOnly : ℕ → Tokens → code.Expr × ℕ → Type 0
IsOnly start ts x = (e : Expr) → expr_at e (take (x.1 - start) (from start ts)) [] → e ≡ expr x.0
