use Rattle.std.proofs.Common.{◌≡◌, ◌+◌, ◌≤◌, length, map, drop}
use Rattle.vl_tree.specs.View as view
use Rattle.vl_meaning.specs.Objects.{data_inputs_of}
use Rattle.vl_scope.proofs.declared.count_data_inputs.Given as goal

-- those so far, and those of the rest, are all
abbrev pub invariant-loop-port : goal.invariant-loop-port
invariant-loop-port l = record {
  within : l.count ≤ l.port-index;
  whole : l.count + length (data_inputs_of l.clock (map view.port (drop l.port-index l.ports))) ≡ length (data_inputs_of l.clock (map view.port l.ports));
}
