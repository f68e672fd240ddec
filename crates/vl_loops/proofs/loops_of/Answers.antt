use Rattle.std.proofs.Common.{ap, map, ◌++◌, ◌∙◌}
use Rattle.vl_design.specs.Lists.{each_of}
use Rattle.vl_views.specs.Blocks.{items_of}
use Rattle.vl_loops.specs.Loops.{plain_loops, looped_by_loops, loops_in}
use Rattle.vl_loops.proofs.Gathered.{of_items}
use Rattle.vl_loops.proofs.loops_of.Goals as goal

pub returns : goal.returns
returns c s =
    let is = items_of c.args.items.now in
    ap (each_of (looped_by_loops s)) (c.in_ok-gather.ensures ∙ ap (λ os. map plain_loops os ++ loops_in is) c.new-loops.ensures.items)
    ∙ of_items s is
