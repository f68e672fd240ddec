use Rattle.std.proofs.Common.{◌++◌, map, ap, ◌∙◌}
use Rattle.vl_objects.specs.Plain.{plain_object}
use Rattle.vl_top_clocks.specs.Data.{is_data, kept_if}
use Rattle.vl_top_clocks.proofs.Counting.{kept_more}
use Rattle.vl_top_clocks.proofs.inputs.data_of.Goals as goal

pub loop-object-preserved : goal.loop-object-preserved
loop-object-preserved c =
    let o = c.object-item.result in
    kept_more (is_data c.args.clocks.now c.args.path) c.args.signals.now c.loop-object.object-index o _ _ c.loop-object-test.true
    c.object-item.is c.loop-object.invariant
    (c.in_ok-push_if.ensures
    ∙ ap (λ b. map plain_object c.loop-object.kept.items ++ kept_if b (plain_object o)) c.is_data.ensures)
