-- How many steps a call counts.
use Rattle.std.proofs.Common.{◌≡◌, ◌≤◌, ℕ, List, [], refl, inl, arith}
use Rattle.std.specs.Io.KnownBytes.{Consumes}
use Rattle.dessert.specs.Outside.{Outside}
use Rattle.dessert.specs.Steps.{AreFew}
use Rattle.dessert.specs.Calls.Rows.{StepsEach}

-- nothing was read, and no step was counted
pub unread : (words : List (List ℕ)) (old new : Outside) → Consumes old.source.left new.source.left [] → new.steps ≤ old.steps → AreFew words old new
unread words old new taken few = record { bytes = []; cycles = 0; taken = taken; window = inl refl; few = omega (arith, few) }

-- rows were read, and none was run again
pub few_read : (words : List (List ℕ)) (old new : Outside) → StepsEach old.source new.source old.steps new.steps → AreFew words old new
few_read words old new e = record { bytes = e.bytes; cycles = 0; taken = e.taken; window = inl refl; few = omega (arith, e.few) }
