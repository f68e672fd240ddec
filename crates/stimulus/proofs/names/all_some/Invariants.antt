-- The names that are left decide.
use Rattle.std.proofs.Common.{◌≡◌, drop, length}
use Rattle.std.specs.Prelude.{◌==◌, not}
use Rattle.std.specs.List.{list_all}
use Rattle.stimulus.specs.Calls.Names.{shown}
use Rattle.stimulus.proofs.names.all_some.Given as goal

abbrev pub invariant-loop-name : goal.invariant-loop-name
invariant-loop-name l =
    list_all (λ n. not (length n == 0)) (shown (drop l.name-index l.names)) ≡ list_all (λ n. not (length n == 0)) (shown l.names)
