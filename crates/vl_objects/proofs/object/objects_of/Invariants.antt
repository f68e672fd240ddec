use Rattle.std.proofs.Common.{◌≡◌, ◌++◌, drop, map}
use Rattle.vl_design.specs.Objects.{objects_of}
use Rattle.vl_declares.specs.Plain.{all_plain}
use Rattle.vl_repeats.specs.Flags.{picked}
use Rattle.vl_objects.specs.Plain.{plain_object}
use Rattle.vl_objects.proofs.object.objects_of.Given as goal

-- the objects so far, and those of what is left
abbrev pub invariant-loop-k : goal.invariant-loop-k
invariant-loop-k l = let ds = picked l.counted (all_plain l.declared) in
    map plain_object l.objects.items ++ objects_of ds (picked (drop l.k l.counted) (all_plain (drop l.k l.declared))) ≡ objects_of ds ds
