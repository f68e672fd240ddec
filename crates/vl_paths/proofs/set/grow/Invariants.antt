use Rattle.std.proofs.Common.{◌+◌, ◌-◌, length}
use Rattle.vl_paths.specs.Sets.{HaveSame}
use Rattle.vl_paths.proofs.set.grow.Given as goal

-- no name was added
abbrev pub invariant-loop-alloc : goal.invariant-loop-alloc
invariant-loop-alloc l = HaveSame l.fn.names.items l.names.items

-- what is missing
abbrev pub decreases-loop-alloc : goal.decreases-loop-alloc
decreases-loop-alloc l = l.number + 1 - length l.names.items
