use Rattle.std.proofs.Common.{ap, sym, subst}
use Rattle.std.specs.Prelude.{OnOk}
use Rattle.vl_views.proofs.ItemViews.{region_is}
use Rattle.vl_loops.specs.Loops.{AddsLoops, loops_by}
use Rattle.vl_loops.proofs.item.+items.Goals as goal

pub gather_one-returns-in-Region : goal.gather_one-returns-in-Region
gather_one-returns-in-Region t c =
    let w = c.in-Region in
    subst (λ xs. OnOk c.gather.result (AddsLoops xs c.args.loops.now.items c.gather.new.loops.items))
    (ap loops_by (sym (region_is c.args.item.now w.field-0 w.items c.as_slice.result.now w.is c.as_slice.ensures))) c.gather.ensures
