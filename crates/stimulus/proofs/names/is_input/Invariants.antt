-- It is the name of an input that is left, or of none.
use Rattle.std.proofs.Common.{◌≡◌, drop}
use Rattle.stimulus.specs.Stimulus.{has_name, input_names}
use Rattle.stimulus.proofs.names.is_input.Given as goal

abbrev pub invariant-loop-input : goal.invariant-loop-input
invariant-loop-input l = has_name (input_names (drop l.input-index l.inputs)) l.name ≡ has_name (input_names l.inputs) l.name
