use Rattle.std.proofs.Common.{drop, map}
use Rattle.vl_objects.specs.Plain.{plain_object}
use Rattle.vl_sight.specs.Firsts.{Finds, has_name}
use Rattle.vl_sight.proofs.first.object_numbers.Given as goal

-- the first of each name from here on
abbrev pub invariant-loop-k : goal.invariant-loop-k
invariant-loop-k l = Finds has_name (map plain_object l.all) (map plain_object (drop l.k l.all)) l.numbers
