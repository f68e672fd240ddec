use Rattle.std.proofs.Common.{◌≡◌, drop}
use Rattle.vl_pre.specs.Tables.{pairs}
use Rattle.vl_lex.specs.Tokens.{mark_token}
use Rattle.vl_lex.proofs.words.find_mark.Given as goal

abbrev pub invariant-loop-entry : goal.invariant-loop-entry
invariant-loop-entry l = mark_token (pairs (drop l.entry-index l.entries)) l.bytes ≡ mark_token (pairs l.entries) l.bytes
