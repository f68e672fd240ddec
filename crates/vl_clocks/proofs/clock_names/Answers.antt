use Rattle.std.proofs.Common.{ap, ◌++◌, ◌∙◌}
use Rattle.vl_design.specs.LoopVariables.{object_path}
use Rattle.vl_design.specs.Lists.{each_of}
use Rattle.vl_views.specs.Blocks.{items_of}
use Rattle.vl_clocks.specs.Names.{texts, clock_names_in}
use Rattle.vl_clocks.proofs.Clocked.{of_items}
use Rattle.vl_clocks.proofs.clock_names.Goals as goal

pub returns : goal.returns
returns c s =
    let is = items_of c.args.items.now in
    ap (each_of (λ x. object_path (s x))) (c.in_ok-gather.ensures ∙ ap (λ xs. texts xs ++ clock_names_in is) c.new-names.ensures.items)
    ∙ of_items s is
