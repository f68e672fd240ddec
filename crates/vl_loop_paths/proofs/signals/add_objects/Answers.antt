use Rattle.vl_loop_paths.proofs.Counted.{one_counted}
use Rattle.vl_loop_paths.proofs.signals.add_objects.Goals as goal

pub loop-object-preserved : goal.loop-object-preserved
loop-object-preserved c = one_counted c.args.limit.now c.loop-object.limit c.add.new.self c.args.objects.now c.loop-object.object-index c.object-item.result
    c.loop-object-test.true c.object-item.is c.add.ensures c.loop-object.invariant
