use Rattle.std.proofs.Common.{◌≡◌, drop}
use Rattle.vl_tree.specs.SyntaxView as view
use Rattle.vl_value.specs.Constant as constant
use Rattle.vl_width.specs.Lists.{exprs_of, links_of, choices_of}
use Rattle.vl_sized.proofs.constancy.+constancy.Given as goal

abbrev pub invariant-are_constant-loop-part : goal.invariant-are_constant-loop-part
invariant-are_constant-loop-part g l =
    constant.all_constant (g.N.Names.sight l.names) (exprs_of (drop l.part-index l.parts)) ≡ constant.all_constant (g.N.Names.sight l.names) (exprs_of l.parts)

abbrev pub invariant-are_links-loop-link : goal.invariant-are_links-loop-link
invariant-are_links-loop-link g l =
    constant.links_constant (g.N.Names.sight l.names) (links_of (drop l.link-index l.links)) ≡ constant.links_constant (g.N.Names.sight l.names) (links_of l.links)

abbrev pub invariant-are_choices-loop-choice : goal.invariant-are_choices-loop-choice
invariant-are_choices-loop-choice g l =
    constant.choices_constant (g.N.Names.sight l.names) (choices_of (drop l.choice-index l.choices))
    ≡ constant.choices_constant (g.N.Names.sight l.names) (choices_of l.choices)

abbrev pub invariant-are_selects-loop-selected : goal.invariant-are_selects-loop-selected
invariant-are_selects-loop-selected g l =
    constant.selects_constant (g.N.Names.sight l.names) (view.read_selects (drop l.selected-index l.selects))
    ≡ constant.selects_constant (g.N.Names.sight l.names) (view.read_selects l.selects)
