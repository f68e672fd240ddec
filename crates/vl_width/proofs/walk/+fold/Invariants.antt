use Rattle.std.proofs.Common.{◌≡◌, ◌++◌, drop, map, Some, List}
use Rattle.std.specs.Option.{option_map}
use Rattle.vl_value.specs.Meaning.{Meaning}
use Rattle.vl_width.specs.Terms.{branch, meant}
use Rattle.vl_width.specs.Known.{all_known, linked, all_choices}
use Rattle.vl_width.specs.Lists.{exprs_of, links_of, choices_of}
use Rattle.vl_width.proofs.walk.+fold.Given as goal

abbrev pub invariant-fold_all-loop-part : goal.invariant-fold_all-loop-part
invariant-fold_all-loop-part g l =
    option_map (λ (ms : List Meaning). map meant l.all ++ ms) (all_known (g.N.Names.sight l.names) (exprs_of (drop l.part-index l.parts)))
    ≡ all_known (g.N.Names.sight l.names) (exprs_of l.parts)

abbrev pub invariant-fold_links-loop-link : goal.invariant-fold_links-loop-link
invariant-fold_links-loop-link g l =
    linked (g.N.Names.sight l.names) (links_of (drop l.link-index l.links)) (Some (meant l.left))
    ≡ linked (g.N.Names.sight l.names) (links_of l.links) (option_map meant l.fn.first)

abbrev pub invariant-fold_choices-loop-choice : goal.invariant-fold_choices-loop-choice
invariant-fold_choices-loop-choice g l =
    option_map (λ (bs : List (Meaning × Meaning)). map branch l.all ++ bs) (all_choices (g.N.Names.sight l.names) (choices_of (drop l.choice-index l.choices)))
    ≡ all_choices (g.N.Names.sight l.names) (choices_of l.choices)
