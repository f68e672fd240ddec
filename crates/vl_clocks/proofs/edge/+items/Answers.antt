use Rattle.std.proofs.Common.{ap, sym, subst}
use Rattle.std.specs.Prelude.{OnOk}
use Rattle.vl_views.proofs.ItemViews.{region_is}
use Rattle.vl_clocks.specs.Names.{Adds, clock_names_by}
use Rattle.vl_clocks.proofs.edge.+items.Goals as goal

pub gather_one-returns-in-Region : goal.gather_one-returns-in-Region
gather_one-returns-in-Region t c =
    let w = c.in-Region in
    subst (λ xs. OnOk c.gather.result (Adds xs c.args.names.now.items c.gather.new.names.items))
    (ap clock_names_by (sym (region_is c.args.item.now w.field-0 w.items c.as_slice.result.now w.is c.as_slice.ensures))) c.gather.ensures
