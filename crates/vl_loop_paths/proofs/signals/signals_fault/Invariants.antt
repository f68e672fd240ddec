use Rattle.std.proofs.Common.{List}
use Rattle.dt_core.specs.declared.limits.TheConstants.{MAX_SIGNALS}
use Rattle.vl_value.specs.Paths.{Path}
use Rattle.vl_scopes.specs.Plain.{plain_scopes}
use Rattle.vl_paths.specs.Sets.{HoldsPaths}
use Rattle.vl_loop_paths.proofs.Passed.{Front}
use Rattle.vl_loop_paths.proofs.Counted.{HasCounted}
use Rattle.vl_loop_paths.proofs.signals.signals_fault.Given as goal

-- the scopes before, whose signals were counted
abbrev pub invariant-loop-k : goal.invariant-loop-k
invariant-loop-k l = (f : Front l.scopes l.k)
    × ((ps : List Path) → HoldsPaths l.numbers l.loops (plain_scopes l.scopes) ps → HasCounted l.limit MAX_SIGNALS ps f.before)
