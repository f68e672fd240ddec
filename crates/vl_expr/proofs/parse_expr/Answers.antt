use Rattle.std.proofs.Common.{arith, subst, ap, sym, length}
use Rattle.std.proofs.lemmas.List.{length-map}
use Rattle.vl_tree.specs.Token.{coded, all_coded}
use Rattle.vl_tree.specs.SyntaxView.{expr}
use Rattle.vl_tree.specs.Expressions.{expr_at}
use Rattle.vl_tree.specs.Depth.{expr_depths}
use Rattle.vl_read.specs.Reading.{Took, Refuses}
use Rattle.vl_expr.specs.Ends.{EndsExpr}
use Rattle.vl_expr.proofs.Whole.{from_length, refused, parsed, only_parsed}
use Rattle.vl_expr.proofs.parse_expr.Goals as goal

pub overflow_sub-result : goal.overflow_sub-result
overflow_sub-result c =
    omega (
      arith,
      c.left.ensures,
      c.in-Ok.ensures.shorter,
      ap length c.starting_at.ensures,
      from_length c.args.at (length c.args.tokens.now) (all_coded c.args.tokens.now) c.requires.0 (sym (length-map c.args.tokens.now coded)),
    )

pub returns-in-Err-clause-parses : goal.returns-in-Err-clause-parses
returns-in-Err-clause-parses c =
    rw c.told.ensures
    (refused c.args.at (length c.args.tokens.now) (all_coded c.args.tokens.now) c.requires.0 (sym (length-map c.args.tokens.now coded))
    c.in-Err.fault (subst (λ w. Refuses expr_at (expr_depths 0) EndsExpr EndsExpr w c.in-Err.fault) c.starting_at.ensures c.in-Err.ensures.reads))

pub returns-in-Ok-clause-parses : goal.returns-in-Ok-clause-parses
returns-in-Ok-clause-parses c =
    rw c.left.ensures
    (parsed c.args.at (length c.args.tokens.now) (all_coded c.args.tokens.now) c.requires.0 (sym (length-map c.args.tokens.now coded))
    (expr c.in-Ok.expr) c.in-Ok.rest
    (subst (λ w. Took expr_at (expr_depths 0) EndsExpr EndsExpr (expr c.in-Ok.expr) w c.in-Ok.rest) c.starting_at.ensures c.in-Ok.ensures.reads)
    (omega (arith, c.in-Ok.ensures.shorter, ap length c.starting_at.ensures)))

pub returns-in-Ok-clause-only : goal.returns-in-Ok-clause-only
returns-in-Ok-clause-only c =
    rw c.left.ensures
    (only_parsed c.args.at (length c.args.tokens.now) (all_coded c.args.tokens.now) c.requires.0 (sym (length-map c.args.tokens.now coded))
    (expr c.in-Ok.expr) c.in-Ok.rest
    (subst (λ w. Took expr_at (expr_depths 0) EndsExpr EndsExpr (expr c.in-Ok.expr) w c.in-Ok.rest) c.starting_at.ensures c.in-Ok.ensures.reads)
    (omega (arith, c.in-Ok.ensures.shorter, ap length c.starting_at.ensures)))
