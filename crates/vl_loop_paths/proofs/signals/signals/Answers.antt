use Rattle.std.proofs.Common.{sym, ap, map, if◌then◌else◌, [], ◌∷◌, ◌++◌, ◌∙◌}
use Rattle.vl_objects.specs.Plain.{plain_object}
use Rattle.vl_paths.specs.Sets.{has}
use Rattle.vl_loop_paths.specs.Signals.{is_signal}
use Rattle.vl_loop_paths.proofs.Counted.{one_kept, twice}
use Rattle.vl_loop_paths.proofs.signals.signals.Goals as goal

pub loop-object-preserved : goal.loop-object-preserved
loop-object-preserved c =
    let keeps = is_signal c.args.loops.now c.args.path in let o = c.object-item.result in
    one_kept keeps c.as_slice-object-items.result.now c.loop-object.object-index o c.loop-object.kept.items c.push_unless.new.kept.items
    c.loop-object-test.true c.object-item.is
    (c.in_ok-push_unless.ensures ∙ ap (λ b. map plain_object c.loop-object.kept.items ++ (if b then [] else plain_object o ∷ []))
    (c.has-is_loop.ensures ∙ sym (twice (has c.args.loops.now c.args.path (plain_object o).name.text)))) c.loop-object.invariant
