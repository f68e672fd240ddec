-- So many values were read, and have no fault.
use Rattle.std.proofs.Common.{◌≡◌, length}
use Rattle.stimulus.proofs.ValueLaws.{Led}
use Rattle.stimulus.proofs.digits.read_each.Given as goal

abbrev pub invariant-loop-place : goal.invariant-loop-place
invariant-loop-place l = record {
  led : Led l.widths l.line l.place l.values l.rest;
  size : length l.values ≡ length l.widths;
}
