-- So many values were read, and have no fault if the row has as many as there are widths.
use Rattle.std.proofs.Common.{◌≡◌, length}
use Rattle.stimulus.specs.Stimulus.{values_of}
use Rattle.stimulus.proofs.ValueLaws.{Led, Passed}
use Rattle.stimulus.proofs.digits.read_short.Given as goal

abbrev pub invariant-loop-place : goal.invariant-loop-place
invariant-loop-place l = record {
  led : length (values_of l.line) ≡ length l.widths → Led l.widths l.line l.place l.values l.rest;
  passed : Passed l.line l.place l.rest;
  size : length l.values ≡ length l.widths;
}
