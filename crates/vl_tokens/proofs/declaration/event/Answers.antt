use Rattle.std.proofs.Common.{false, refl, sym, ap, ◌∙◌, length, map}
use Rattle.vl_tree.specs.SyntaxView as view
use Rattle.vl_tree.specs.Depth.{event_depths, sensed_depths}
use Rattle.vl_tokens.specs.Counted.{capped, in_list}
use Rattle.vl_tokens.proofs.Counting.{sums}
use Rattle.vl_tokens.proofs.DeclarationParts.{sensed_tokens}
use Rattle.vl_tokens.proofs.declaration.event.Goals as goal

pub returns-in-Sensed : goal.returns-in-Sensed
returns-in-Sensed c =
    sums 3 (in_list sensed_depths false (map view.sensed c.in-Sensed.all)) c.plus.ensures refl
    (c.sensed_in_commas.ensures ∙ ap (λ y. capped (in_list sensed_depths false (map view.sensed y))) c.as_slice.ensures)
    ∙ ap capped (sym (ap (λ y. length (event_depths 0 (view.event y))) c.in-Sensed.is ∙ sensed_tokens (map view.sensed c.in-Sensed.all)))
