-- The places of the inputs so far.
use Rattle.std.proofs.Common.{◌≡◌, ◌<◌, map, take, drop, length}
use Rattle.std.specs.List.{All}
use Rattle.stimulus.specs.Stimulus.{place_of, lack_fault}
use Rattle.stimulus.specs.Calls.Names.{shown}
use Rattle.stimulus.proofs.names.places_of.Given as goal

abbrev pub invariant-loop-input : goal.invariant-loop-input
invariant-loop-input l = record {
  places : l.places.items ≡ map (λ i. place_of (shown l.names) i.name) (take l.input-index l.inputs);
  within : All (λ place. place < length l.names) l.places.items;
  left : lack_fault (drop l.input-index l.inputs) (shown l.names) ≡ lack_fault l.inputs (shown l.names);
}
