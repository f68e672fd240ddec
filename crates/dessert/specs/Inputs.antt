-- The data inputs of a stimulus. This project's own.
use Rattle.std.specs.Prelude.{ℕ, List, map}
use Rattle.stimulus.specs.declared.refusal.Input.{Input}
use Rattle.vl_tree.specs.Tree.{Module}
use Rattle.vl_meaning.specs.Objects.{data_inputs}

-- inputs of these names; each has one bit, as all have in today's form of modules
abbrev pub bits_named : List (List ℕ) → List Input
bits_named names = map (λ name. record { name = name; width = 1 }) names

-- the data inputs of a module, in order of its ports
abbrev pub inputs_of : Module → List Input
inputs_of m = bits_named (data_inputs m)
