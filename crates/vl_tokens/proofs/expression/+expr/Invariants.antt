use Rattle.std.proofs.Common.{drop}
use Rattle.vl_tree.specs.SyntaxView as view
use Rattle.vl_width.specs.Lists.{exprs_of, links_of, choices_of}
use Rattle.vl_tokens.specs.Counted.{listed, links_tokens, choices_tokens, selects_tokens}
use Rattle.vl_tokens.proofs.Counting.{Counts}
use Rattle.vl_tokens.proofs.expression.+expr.Given as goal

abbrev pub invariant-in_commas-loop-e : goal.invariant-in_commas-loop-e
invariant-in_commas-loop-e l = Counts l.count (listed l.comma (exprs_of (drop l.e-index l.all))) (listed l.first (exprs_of l.all))

abbrev pub invariant-links-loop-link : goal.invariant-links-loop-link
invariant-links-loop-link l = Counts l.count (links_tokens (links_of (drop l.link-index l.all))) (links_tokens (links_of l.all))

abbrev pub invariant-choices-loop-choice : goal.invariant-choices-loop-choice
invariant-choices-loop-choice l = Counts l.count (choices_tokens (choices_of (drop l.choice-index l.all))) (choices_tokens (choices_of l.all))

abbrev pub invariant-selects-loop-selected : goal.invariant-selects-loop-selected
invariant-selects-loop-selected l = Counts l.count (selects_tokens (view.read_selects (drop l.selected-index l.all))) (selects_tokens (view.read_selects l.all))
