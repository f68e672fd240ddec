use Rattle.dessert.proofs.InputLaws.{one_pushed}
use Rattle.dessert.proofs.inputs.inputs_of.Goals as goal

pub loop-number-preserved : goal.loop-number-preserved
loop-number-preserved c =
    one_pushed c.args.flat.now c.loop-number.number-index c.index-signals-number.result c.signals-signals.result.now c.inputs-number-items.result.now
    c.loop-number.inputs.items c.push_input.new.inputs.items _ c.signals-signals.ensures.fits c.signals-signals.ensures.signals c.inputs-number-items.ensures.inputs
    c.loop-number-test.true c.index-signals-number.is c.in_ok-push_input.ensures c.loop-number.invariant
