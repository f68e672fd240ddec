-- What was taken so far is held, and among the bytes that were searched there is no LF.
use Rattle.std.proofs.Common.{◌≡◌, ◌-◌, ◌≤◌, ◌++◌, List, ℕ, length, take}
use Rattle.std.specs.Io.KnownBytes.{Consumes}
use Rattle.stimulus.specs.declared.refusal.TheConstants.{MAX_LINE}
use Rattle.stimulus.specs.Lines.{IsPlain}
use Rattle.stimulus.specs.Calls.Turns.{IsInTime}
use Rattle.stimulus.proofs.lines.next_line.Given as goal

abbrev pub invariant-turns : goal.invariant-turns
invariant-turns g l = record {
  taken : (more : List ℕ) × Consumes (g.S.Source.left l.fn.source) (g.S.Source.left l.source) more × (l.buffer.bytes ≡ l.fn.buffer.bytes ++ more);
  time : IsInTime l.fn.buffer l.buffer;
  plain : IsPlain (take l.searched l.buffer.bytes);
  within : l.searched ≤ length l.buffer.bytes;
  short : l.searched ≤ MAX_LINE;
  kept : g.S.Source.faults l.source ≡ g.S.Source.faults l.fn.source;
}

abbrev pub decreases-turns : goal.decreases-turns
decreases-turns g l = 589825 - length l.buffer.bytes
