use Rattle.std.proofs.Common.{◌≡◌, length, reverse}
use Rattle.vl_pre.specs.Directives.{without_blanks}
use Rattle.vl_pre.proofs.directives.before_blanks.Given as goal

abbrev pub invariant-loop-byte : goal.invariant-loop-byte
invariant-loop-byte l = reverse (without_blanks (reverse l.rest)) ≡ reverse (without_blanks (reverse l.fn.bytes))

abbrev pub decreases-loop-byte : goal.decreases-loop-byte
decreases-loop-byte l = length l.rest
