use Rattle.std.proofs.Common.{◌≡◌, ◌≤◌, ◌<◌, ◌+◌, ◌-◌, ◌*◌, List, suc, length}
use Rattle.vl_tree.specs.Token as k
use Rattle.vl_tree.specs.declared.token.Mark.TheVariants as m
use Rattle.vl_tree.specs.Placed.{Placed}
use Rattle.vl_tree.specs.Syntax.{Expr, Exprs, Selects, Links, Choices}
use Rattle.vl_tree.specs.SyntaxView as view
use Rattle.vl_tree.specs.Expressions.{below, selects_at, links_at, more_exprs_at}
use Rattle.vl_tree.specs.Depth.{expr_depths, selects_depths, links_depths, more_exprs_depths}
use Rattle.vl_read.specs.declared.fault.Fault.{Fault}
use Rattle.vl_read.specs.Reading.{Took, Refuses}
use Rattle.vl_read.specs.Tokens.{Not}
use Rattle.vl_expr.specs.Ends.{Ends, EndsExpr, EndsList}
use Rattle.vl_expr.specs.Lists.{tail_at, tail_depths, choices_on, links_on, exprs_on, list_after, list_after_depths, selects_on}
use Rattle.vl_expr.proofs.expression.+expression.Given as goal

abbrev pub decreases-read_primary : goal.decreases-read_primary
decreases-read_primary l = 16 * length l.at

abbrev pub decreases-read_named : goal.decreases-read_named
decreases-read_named l = 16 * length l.at + 2

abbrev pub decreases-read_system : goal.decreases-read_system
decreases-read_system l = 16 * length l.at + 2

abbrev pub decreases-read_group : goal.decreases-read_group
decreases-read_group l = 16 * length l.at + 13

abbrev pub decreases-read_unary : goal.decreases-read_unary
decreases-read_unary l = 16 * length l.at + 1

abbrev pub decreases-read_selects : goal.decreases-read_selects
decreases-read_selects l = 16 * length l.at + 1

abbrev pub decreases-read_more : goal.decreases-read_more
decreases-read_more l = 16 * length l.at + 1

abbrev pub decreases-read_chain : goal.decreases-read_chain
decreases-read_chain l = 16 * length l.at + 1

abbrev pub decreases-read_links : goal.decreases-read_links
decreases-read_links l = 16 * length l.at + 2

abbrev pub decreases-read_expr : goal.decreases-read_expr
decreases-read_expr l = 16 * length l.at + 12

abbrev pub decreases-read_select : goal.decreases-read_select
decreases-read_select l = 16 * length l.at + 13

abbrev pub decreases-read_list : goal.decreases-read_list
decreases-read_list l = 16 * length l.at + 13

abbrev pub decreases-read_braces : goal.decreases-read_braces
decreases-read_braces l = 16 * length l.at + 13

-- ---- choices

abbrev pub invariant-read_expr-loop-choices : goal.invariant-read_expr-loop-choices
invariant-read_expr-loop-choices l = record {
  took : (cs : Choices) (e : Expr) (rest : List Placed) → Took tail_at (tail_depths l.depth) EndsExpr EndsExpr (cs, e) l.rest rest
      → Took tail_at (tail_depths l.depth) EndsExpr EndsExpr (choices_on l.choices cs, e) l.fn.at rest;
  fails : (e : Fault) → Refuses tail_at (tail_depths l.depth) EndsExpr EndsExpr l.rest e
      → Refuses tail_at (tail_depths l.depth) EndsExpr EndsExpr l.fn.at e;
  shorter : length l.rest ≤ length l.fn.at;
}

abbrev pub decreases-read_expr-loop-choices : goal.decreases-read_expr-loop-choices
decreases-read_expr-loop-choices l = length l.rest

-- ---- operators of one level

abbrev pub invariant-read_chain-loop-expr : goal.invariant-read_chain-loop-expr
invariant-read_chain-loop-expr l = record {
  took : Took (below l.lower) (expr_depths l.depth) (Ends l.lower) (Ends l.lower) (view.expr l.expr) l.fn.at l.rest;
  some : 1 ≤ l.lower;
  most : l.lower ≤ l.limit;
  shorter : length l.rest < length l.fn.at;
}

abbrev pub decreases-read_chain-loop-expr : goal.decreases-read_chain-loop-expr
decreases-read_chain-loop-expr l = l.limit - l.lower

abbrev pub invariant-read_links-loop-first : goal.invariant-read_links-loop-first
invariant-read_links-loop-first l = record {
  same : l.first ≡ l.fn.first;
  took : (ls : Links) (rest : List Placed)
      → Took (links_at l.level) (links_depths l.depth) (Ends (suc l.level)) (Ends (suc l.level)) ls l.rest rest
      → Took (links_at l.level) (links_depths l.depth) (Ends (suc l.level)) (Ends (suc l.level)) (links_on l.links ls) l.fn.at rest;
  fails : (e : Fault)
      → Refuses (links_at l.level) (links_depths l.depth) (Ends (suc l.level)) (Ends (suc l.level)) l.rest e
      → Refuses (links_at l.level) (links_depths l.depth) (Ends (suc l.level)) (Ends (suc l.level)) l.fn.at e;
  shorter : length l.rest ≤ length l.fn.at;
}

abbrev pub decreases-read_links-loop-first : goal.decreases-read_links-loop-first
decreases-read_links-loop-first l = length l.rest

-- ---- expressions with commas

abbrev pub invariant-read_more-loop-all : goal.invariant-read_more-loop-all
invariant-read_more-loop-all l = record {
  took : (es : Exprs) (rest : List Placed) → Took more_exprs_at (more_exprs_depths l.depth) EndsList EndsList es l.rest rest
      → Took (list_after (view.expr l.fn.first)) (list_after_depths l.depth) EndsList EndsList (exprs_on l.all es) l.fn.at rest;
  fails : (e : Fault) → Refuses more_exprs_at (more_exprs_depths l.depth) EndsList EndsList l.rest e
      → Refuses (list_after (view.expr l.fn.first)) (list_after_depths l.depth) EndsList EndsList l.fn.at e;
  shorter : length l.rest ≤ length l.fn.at;
}

abbrev pub decreases-read_more-loop-all : goal.decreases-read_more-loop-all
decreases-read_more-loop-all l = length l.rest

-- ---- selects

abbrev pub invariant-read_selects-loop-selects : goal.invariant-read_selects-loop-selects
invariant-read_selects-loop-selects l = record {
  took : (ss : Selects) (rest : List Placed)
      → Took selects_at (selects_depths l.depth) (Not (k.mark m.OpenBracket)) (Not (k.mark m.OpenBracket)) ss l.rest rest
      → Took selects_at (selects_depths l.depth) (Not (k.mark m.OpenBracket)) (Not (k.mark m.OpenBracket)) (selects_on l.selects ss) l.fn.at rest;
  fails : (e : Fault) → Refuses selects_at (selects_depths l.depth) (Not (k.mark m.OpenBracket)) (Not (k.mark m.OpenBracket)) l.rest e
      → Refuses selects_at (selects_depths l.depth) (Not (k.mark m.OpenBracket)) (Not (k.mark m.OpenBracket)) l.fn.at e;
  shorter : length l.rest ≤ length l.fn.at;
}

abbrev pub decreases-read_selects-loop-selects : goal.decreases-read_selects-loop-selects
decreases-read_selects-loop-selects l = length l.rest
