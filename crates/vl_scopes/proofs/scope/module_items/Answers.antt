use Rattle.std.proofs.Common.{ap, sym, ◌∙◌}
use Rattle.vl_views.specs.Blocks.{items_of}
use Rattle.vl_views.proofs.ItemViews.{items-map}
use Rattle.vl_scopes.proofs.scope.module_items.Goals as goal

pub returns : goal.returns
returns c = ap items_of c.as_slice.ensures ∙ sym (items-map c.args.module.now.items)
