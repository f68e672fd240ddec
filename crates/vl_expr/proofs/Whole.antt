-- From what the reader of expressions answers to what `parse_expr` answers.
use Rattle.std.proofs.Common.{◌≡◌, ◌≤◌, ◌+◌, ◌-◌, ℕ, List, [], length, drop, take, sym, ◌∙◌, ap, subst, arith}
use Rattle.std.proofs.lemmas.List.{length-drop}
use Rattle.vl_tree.specs.Token.{Tokens}
use Rattle.vl_tree.specs.Syntax.{Expr}
use Rattle.vl_tree.specs.Placed.{Placed}
use Rattle.vl_tree.specs.Expressions.{expr_at}
use Rattle.vl_tree.specs.Depth.{expr_depths}
use Rattle.vl_tree.specs.Derives.{IsExpr}
use Rattle.vl_read.specs.declared.fault.Fault.{Fault}
use Rattle.vl_read.specs.declared.fault.Fault.TheVariants as f
use Rattle.vl_read.specs.Faults.{told}
use Rattle.vl_read.specs.Reading.{Took, Refuses}
use Rattle.vl_read.proofs.Places.{stuck_reach, stuck_none, stuck_shallow, stuck_left, sunk_deep, sunk_left, took_reach, took_derives, took_shallow, took_only}
use Rattle.vl_read.proofs.TokenRules.{placed_length}
use Rattle.vl_expr.specs.Ends.{EndsExpr}
use Rattle.vl_expr.specs.Parsed.{from, IsRefused}

module _ (start count : ℕ) (ts : Tokens) (some : start ≤ count) (all : count ≡ length ts) where
  pub from_length : length (from start ts) ≡ count - start
  from_length = placed_length start (drop start ts) ∙ length-drop start ts ∙ ap (λ n. n - start) (sym all)

  pub refused : (e : Fault) → Refuses expr_at (expr_depths 0) EndsExpr EndsExpr (from start ts) e → IsRefused start ts (told count e)
  refused f.Memory r = tt
  refused (f.At left) r = (
    length (from start ts) - left,
    omega (arith, from_length, some, stuck_left expr_at (expr_depths 0) EndsExpr EndsExpr tt tt (from start ts) left r),
    record {
      reach = stuck_reach expr_at (expr_depths 0) EndsExpr EndsExpr tt tt (from start ts) left r;
      none = stuck_none expr_at (expr_depths 0) EndsExpr EndsExpr tt tt (from start ts) left r;
      shallow = stuck_shallow expr_at (expr_depths 0) EndsExpr EndsExpr tt tt (from start ts) left r;
    },
  )
  refused (f.Deep left) r = (
    length (from start ts) - left,
    omega (arith, from_length, some, sunk_left expr_at (expr_depths 0) EndsExpr EndsExpr tt tt (from start ts) left r),
    sunk_deep expr_at (expr_depths 0) EndsExpr EndsExpr tt tt (from start ts) left r,
  )

  module _ (e : Expr) (rest : List Placed) (p : Took expr_at (expr_depths 0) EndsExpr EndsExpr e (from start ts) rest)
      (less : length rest ≤ length (from start ts)) where
    pub parsed : (n : ℕ) × (count - length rest ≡ start + n) × IsExpr (from start ts) e n
    parsed = (
      length (from start ts) - length rest,
      omega (arith, from_length, some, less),
      record {
        reach = took_reach expr_at (expr_depths 0) EndsExpr EndsExpr tt tt e (from start ts) rest p;
        derives = took_derives expr_at (expr_depths 0) EndsExpr EndsExpr tt tt e (from start ts) rest p;
        shallow = took_shallow expr_at (expr_depths 0) EndsExpr EndsExpr tt tt e (from start ts) rest p;
      },
    )

    pub only_parsed : (u : Expr) → expr_at u (take ((count - length rest) - start) (from start ts)) [] → u ≡ e
    only_parsed u d =
        let n : (count - length rest) - start ≡ length (from start ts) - length rest = omega (arith, from_length, some, less) in
        took_only expr_at (expr_depths 0) EndsExpr EndsExpr tt tt e (from start ts) rest p u
        (subst (λ k. expr_at u (take k (from start ts)) []) n d)
