use Rattle.std.proofs.Common.{◌≡◌, drop}
use Rattle.vl_pre.specs.Tables.{entry, pairs}
use Rattle.vl_pre.proofs.tables.find.Given as goal

abbrev pub invariant-loop-entry : goal.invariant-loop-entry
invariant-loop-entry g l = entry (pairs (drop l.entry-index l.entries)) l.word ≡ entry (pairs l.entries) l.word
