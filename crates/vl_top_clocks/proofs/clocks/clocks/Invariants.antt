use Rattle.std.proofs.Common.{drop}
use Rattle.vl_design.specs.Clocks.{clocks_at_top}
use Rattle.vl_paths.specs.Numbers.{AreNumbers}
use Rattle.vl_paths.specs.Sets.{HoldsPaths}
use Rattle.vl_scopes.specs.Plain.{plain_scopes}
use Rattle.vl_top_clocks.proofs.clocks.clocks.Given as goal

-- the clock names of the scopes from here on
abbrev pub invariant-loop-k : goal.invariant-loop-k
invariant-loop-k l = let ss = plain_scopes l.scopes in
    AreNumbers l.numbers ss → HoldsPaths l.numbers l.clocks ss (clocks_at_top (drop l.k ss))
