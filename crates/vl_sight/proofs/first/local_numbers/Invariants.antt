use Rattle.std.proofs.Common.{drop}
use Rattle.vl_declares.specs.Locals.{all_locals}
use Rattle.vl_sight.specs.Firsts.{Finds, is_local}
use Rattle.vl_sight.proofs.first.local_numbers.Given as goal

-- the first of each name from here on
abbrev pub invariant-loop-k : goal.invariant-loop-k
invariant-loop-k l = Finds is_local (all_locals l.all) (all_locals (drop l.k l.all)) l.numbers
