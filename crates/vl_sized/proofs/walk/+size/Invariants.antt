use Rattle.std.proofs.Common.{◌≡◌, drop, map}
use Rattle.vl_tree.specs.SyntaxView as view
use Rattle.vl_width.specs.Lists.{exprs_of, links_of, choices_of}
use Rattle.vl_sized.specs.Plain.{sense_of, case_of, plain_picks, judged}
use Rattle.vl_sized.specs.Sensed.{all_sensed, linked, all_choices, all_picked, picks_joined}
use Rattle.vl_sized.proofs.Joints.{all_joint}
use Rattle.vl_sized.proofs.walk.+size.Given as goal

abbrev pub invariant-size_all-loop-part : goal.invariant-size_all-loop-part
invariant-size_all-loop-part g l =
    all_joint (judged (map (sense_of (g.N.Names.numbering l.names))) l.all) (all_sensed (g.N.Names.sight l.names) (exprs_of (drop l.part-index l.parts)))
    ≡ all_sensed (g.N.Names.sight l.names) (exprs_of l.parts)

abbrev pub invariant-size_links-loop-link : goal.invariant-size_links-loop-link
invariant-size_links-loop-link g l =
    linked (g.N.Names.sight l.names) (links_of (drop l.link-index l.links)) (judged (sense_of (g.N.Names.numbering l.names)) l.left)
    ≡ linked (g.N.Names.sight l.names) (links_of l.links) (judged (sense_of (g.N.Names.numbering l.names)) l.fn.first)

abbrev pub invariant-size_choices-loop-choice : goal.invariant-size_choices-loop-choice
invariant-size_choices-loop-choice g l =
    all_joint (judged (map (case_of (g.N.Names.numbering l.names))) l.all) (all_choices (g.N.Names.sight l.names) (choices_of (drop l.choice-index l.choices)))
    ≡ all_choices (g.N.Names.sight l.names) (choices_of l.choices)

abbrev pub invariant-size_selects-loop-selected : goal.invariant-size_selects-loop-selected
invariant-size_selects-loop-selected g l =
    picks_joined (plain_picks (g.N.Names.numbering l.names) l.picks) (all_picked (g.N.Names.sight l.names) (view.read_selects (drop l.selected-index l.selects)))
    ≡ all_picked (g.N.Names.sight l.names) (view.read_selects l.selects)
