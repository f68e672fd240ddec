use Rattle.std.proofs.Common.{take, map}
use Rattle.vl_limits.specs.Counting.{Adds}
use Rattle.vl_objects.specs.Plain.{plain_object}
use Rattle.vl_loop_paths.proofs.Counted.{ones}
use Rattle.vl_loop_paths.proofs.signals.add_objects.Given as goal

-- those before were counted
abbrev pub invariant-loop-object : goal.invariant-loop-object
invariant-loop-object l = Adds (ones (map plain_object (take l.object-index l.objects))) l.fn.limit l.limit
