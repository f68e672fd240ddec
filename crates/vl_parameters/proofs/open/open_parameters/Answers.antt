use Rattle.std.proofs.Common.{◌++◌, map, sym, ap, ◌∙◌}
use Rattle.vl_tree.specs.SyntaxView as view
use Rattle.vl_design.specs.Parameters.{open_in}
use Rattle.vl_views.specs.Blocks.{items_of}
use Rattle.vl_views.proofs.ItemViews.{items-map}
use Rattle.vl_parameters.specs.Open.{texts_of, header_names}
use Rattle.vl_parameters.proofs.open.open_parameters.Goals as goal

pub returns : goal.returns
returns c =
    let m = c.args.module.now in
    let header = c.in_ok-open_header.ensures
    ∙ (λ i. texts_of (c.new-names.ensures.items i) ++ header_names (map view.header_parameter (c.as_slice.ensures i))) in
    let items = ap items_of c.as_slice-2.ensures ∙ sym (items-map m.items) in
    c.in_ok-open_in.ensures ∙ (λ i. header i ++ open_in (items i))
