use Rattle.std.proofs.Common.{◌≡◌, drop}
use Rattle.vl_tree.specs.SyntaxView as view
use Rattle.vl_width.specs.Lists.{exprs_of, links_of, choices_of}
use Rattle.vl_design.specs.Constants.{some_mention, links_mention, choices_mention, selects_mention}
use Rattle.vl_constants.specs.Needed.{faulty_in}
use Rattle.vl_constants.proofs.mentions.+mentions.Given as goal

abbrev pub invariant-some_mention-loop-e : goal.invariant-some_mention-loop-e
invariant-some_mention-loop-e l = some_mention (faulty_in l.frames) (exprs_of (drop l.e-index l.all)) ≡ some_mention (faulty_in l.frames) (exprs_of l.all)

abbrev pub invariant-links_mention-loop-link : goal.invariant-links_mention-loop-link
invariant-links_mention-loop-link l = links_mention (faulty_in l.frames) (links_of (drop l.link-index l.links)) ≡ links_mention (faulty_in l.frames) (links_of l.links)

abbrev pub invariant-selects_mention-loop-selected : goal.invariant-selects_mention-loop-selected
invariant-selects_mention-loop-selected l = selects_mention (faulty_in l.frames) (view.read_selects (drop l.selected-index l.selects)) ≡ selects_mention (faulty_in l.frames) (view.read_selects l.selects)

abbrev pub invariant-choices_mention-loop-choice : goal.invariant-choices_mention-loop-choice
invariant-choices_mention-loop-choice l = choices_mention (faulty_in l.frames) (choices_of (drop l.choice-index l.choices)) ≡ choices_mention (faulty_in l.frames) (choices_of l.choices)
