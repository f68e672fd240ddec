use Rattle.std.proofs.Common.{take, map}
use Rattle.dt_core.specs.declared.limits.TheConstants.{MAX_INPUTS, MAX_INPUT_BITS}
use Rattle.vl_value.specs.Things.{width_of}
use Rattle.vl_design.specs.Objects.{Object}
use Rattle.vl_objects.specs.Plain.{plain_object}
use Rattle.vl_top_clocks.proofs.Counting.{HasCounted}
use Rattle.vl_top_clocks.proofs.inputs.too_many.Given as goal

-- the inputs before were counted, and their bits
abbrev pub invariant-loop-input : goal.invariant-loop-input
invariant-loop-input l = let os = map plain_object (take l.input-index l.inputs) in
    HasCounted l.count MAX_INPUTS (λ o. 1) os × HasCounted l.bits MAX_INPUT_BITS (λ (o : Object). width_of o.shape) os
