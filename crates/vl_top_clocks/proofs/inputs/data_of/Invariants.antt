use Rattle.std.proofs.Common.{◌≡◌, take, map, filter}
use Rattle.vl_objects.specs.Plain.{plain_object}
use Rattle.vl_top_clocks.specs.Data.{is_data}
use Rattle.vl_top_clocks.proofs.inputs.data_of.Given as goal

-- the data inputs of the signals before
abbrev pub invariant-loop-object : goal.invariant-loop-object
invariant-loop-object l =
    map plain_object l.kept.items ≡ filter (is_data l.clocks l.path) (map plain_object (take l.object-index l.signals))
