use Rattle.std.proofs.Common.{◌≡◌, ◌≤◌, ◌-◌, length}
use Rattle.vl_lex.specs.Attributes as a
use Rattle.vl_lex.specs.Calls.Reading.{inside}
use Rattle.vl_lex.proofs.AttributeLaws.{later}
use Rattle.vl_lex.proofs.attributes.close_length.Given as goal

abbrev pub invariant-loop-first : goal.invariant-loop-first
invariant-loop-first l = record {
  so_far : a.close_from l.fn.bytes ≡ later (length l.fn.bytes - length l.rest) (a.close_after (inside l.at l.rest) l.rest);
  within : length l.rest ≤ length l.fn.bytes;
}

abbrev pub decreases-loop-first : goal.decreases-loop-first
decreases-loop-first l = length l.rest
