-- It is among the names that are left, or nowhere.
use Rattle.std.proofs.Common.{◌≡◌, drop}
use Rattle.stimulus.specs.Stimulus.{has_name}
use Rattle.stimulus.specs.Calls.Names.{shown}
use Rattle.stimulus.proofs.names.is_among.Given as goal

abbrev pub invariant-loop-other : goal.invariant-loop-other
invariant-loop-other l = has_name (shown (drop l.other-index l.names)) l.name ≡ has_name (shown l.names) l.name
