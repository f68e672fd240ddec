use Rattle.std.proofs.Common.{◌≡◌, length}
use Rattle.vl_lex.specs.Attributes as a
use Rattle.vl_lex.proofs.attributes.after_white.Given as goal

abbrev pub invariant-loop-first : goal.invariant-loop-first
invariant-loop-first l = a.after_white l.rest ≡ a.after_white l.fn.bytes

abbrev pub decreases-loop-first : goal.decreases-loop-first
decreases-loop-first l = length l.rest
