-- The name stands among those that are left, or nowhere.
use Rattle.std.proofs.Common.{◌≡◌, ◌+◌, drop}
use Rattle.stimulus.specs.Stimulus.{has_name, place_of}
use Rattle.stimulus.specs.Calls.Names.{shown}
use Rattle.stimulus.proofs.names.find_place.Given as goal

abbrev pub invariant-loop-place : goal.invariant-loop-place
invariant-loop-place l = record {
  has : has_name (shown (drop l.place l.names)) l.name ≡ has_name (shown l.names) l.name;
  place : l.place + place_of (shown (drop l.place l.names)) l.name ≡ place_of (shown l.names) l.name;
}
