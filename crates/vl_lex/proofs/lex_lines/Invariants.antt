use Rattle.std.proofs.Common.{◌≤◌, ◌-◌, drop, length}
use Rattle.vl_pre.specs.Bytes.{joined}
use Rattle.vl_lex.specs.Tokens.{lexed, most_tokens}
use Rattle.vl_lex.proofs.LoopLaws.{SoFar}
use Rattle.vl_lex.proofs.lex_lines.Given as goal

abbrev pub invariant-loop-at : goal.invariant-loop-at
invariant-loop-at l = record {
  so_far : SoFar (lexed (joined l.bytes l.lines)) l.tokens.items (drop l.at (joined l.bytes l.lines));
  few : length l.tokens.items ≤ most_tokens;
  within : l.at ≤ length l.bytes;
}

abbrev pub decreases-loop-at : goal.decreases-loop-at
decreases-loop-at l = length l.bytes - l.at
