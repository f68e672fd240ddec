use Rattle.std.proofs.Common.{◌≡◌, take, map, filter}
use Rattle.vl_objects.specs.Plain.{plain_object}
use Rattle.vl_loop_paths.specs.Signals.{is_signal}
use Rattle.vl_loop_paths.proofs.signals.signals.Given as goal

-- the signals of those before
abbrev pub invariant-loop-object : goal.invariant-loop-object
invariant-loop-object l =
    map plain_object l.kept.items ≡ filter (is_signal l.loops l.path) (map plain_object (take l.object-index l.object-items))
