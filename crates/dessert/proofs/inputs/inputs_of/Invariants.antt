use Rattle.std.proofs.Common.{◌≡◌, ◌++◌, drop, map}
use Rattle.design_names.specs.Shown.{signal_at}
use Rattle.vl_stands.specs.StandsFor.{input_names}
use Rattle.dessert.specs.Inputs.{bits_named}
use Rattle.dessert.proofs.inputs.inputs_of.Given as goal

-- the inputs so far, and those that are left
abbrev pub invariant-loop-number : goal.invariant-loop-number
invariant-loop-number l =
    l.inputs.items ++ bits_named (map (λ k. (signal_at l.flat k).name) (drop l.number-index l.flat.inputs)) ≡ bits_named (input_names l.flat)
