use Rattle.std.proofs.Common.{◌∙◌, ap}
use Rattle.design_names.specs.Outline.{entry_signals}
use Rattle.design_names.specs.Stops.{block_stops}
use Rattle.design_names.proofs.ShownLaws.{order_outlined}
use Rattle.design_names.proofs.names.Names.new.Goals as goal

pub returns : goal.returns
returns c =
    let shown = c.in_ok-shown.ensures ∙ ap entry_signals (c.deref.ensures.value ∙ c.in_ok-outline.ensures)
    ∙ order_outlined c.args.flat.now in
    let stops = c.in_ok-stops.ensures ∙ ap block_stops c.blocks-2.ensures.blocks in
    λ i. record { outline = c.in_ok-outline.ensures i; shown = shown i; stops = stops i }
