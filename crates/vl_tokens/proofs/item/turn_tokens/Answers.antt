use Rattle.std.proofs.Common.{◌+◌, refl, ap, ◌∙◌}
use Rattle.std.specs.Option.{option_map}
use Rattle.vl_tree.specs.SyntaxView as view
use Rattle.vl_views.specs.Blocks.{items_of}
use Rattle.vl_design.specs.Generate.{items_tokens}
use Rattle.vl_tokens.specs.Counted.{capped}
use Rattle.vl_tokens.specs.Statements.{label_tokens}
use Rattle.vl_tokens.specs.Items.{item_tokens}
use Rattle.vl_tokens.proofs.Counting.{sums}
use Rattle.vl_tokens.proofs.ItemParts.{of_single, of_several}
use Rattle.vl_tokens.proofs.item.turn_tokens.Goals as goal

pub returns-in-Single : goal.returns-in-Single
returns-in-Single c =
    c.item.ensures ∙ ap (λ y. capped (item_tokens (view.item y))) c.get.ensures ∙ ap capped (of_single c.args.block.now c.in-Single.inner c.in-Single.is)

pub returns-in-Several : goal.returns-in-Several
returns-in-Several c =
    let w = c.in-Several in
    sums (label_tokens (option_map view.name w.name)) (2 + items_tokens (items_of w.inner)) c.plus.ensures c.label.ensures
    (sums 2 (items_tokens (items_of w.inner)) c.plus-whole.ensures refl
    (c.items_tokens.ensures ∙ ap (λ y. capped (items_tokens (items_of y))) c.as_slice.ensures))
    ∙ ap capped (of_several c.args.block.now w.field-0 w.name w.inner w.is)
