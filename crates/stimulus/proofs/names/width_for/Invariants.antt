-- The input is among those that are left, or there is none.
use Rattle.std.proofs.Common.{◌≡◌, drop}
use Rattle.stimulus.specs.Stimulus.{width_of}
use Rattle.stimulus.proofs.names.width_for.Given as goal

abbrev pub invariant-loop-input : goal.invariant-loop-input
invariant-loop-input l = width_of (drop l.input-index l.inputs) l.name ≡ width_of l.inputs l.name
