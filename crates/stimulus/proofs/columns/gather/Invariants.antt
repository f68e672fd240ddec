-- The values of the places so far.
use Rattle.std.proofs.Common.{◌≡◌, map, take, length, slice_index_or}
use Rattle.stimulus.proofs.columns.gather.Given as goal

abbrev pub invariant-loop-k : goal.invariant-loop-k
invariant-loop-k l = record {
  row : take l.k l.row ≡ map (λ place. slice_index_or l.values place 0) (take l.k l.places);
  size : length l.row ≡ length l.places;
}
