-- The limits of the widths so far.
use Rattle.std.proofs.Common.{◌≡◌, map, take}
use Rattle.stimulus.specs.Calls.Single.{digit_limit}
use Rattle.stimulus.proofs.single.digit_limits.Given as goal

abbrev pub invariant-loop-width : goal.invariant-loop-width
invariant-loop-width l = l.limits.items ≡ map digit_limit (take l.width-index l.widths)
