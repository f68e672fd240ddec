use Rattle.std.proofs.Common.{ap, sym, ◌∙◌}
use Rattle.std.specs.Prelude.{None}
use Rattle.vl_scopes.specs.Plain.{levels_at, outer_of, plain_scopes}
use Rattle.vl_sight.proofs.Standing.{before_scope, levels_from, levels_past, outer_levels}
use Rattle.vl_sight.proofs.sights.outer_of.Goals as goal

pub returns-in_err-scope-clause-levels : goal.returns-in_err-scope-clause-levels
returns-in_err-scope-clause-levels c =
    levels_past c.args.scopes.now c.args.at _ c.in_err-scope.ensures.lookup.3 c.from_residual.ensures

pub returns-in-Block-clause-levels : goal.returns-in-Block-clause-levels
returns-in-Block-clause-levels c =
    let cs = c.args.scopes.now in let k = c.args.at in let s = c.in_ok-scope.scope.now in let here = c.in_ok-scope.ensures.lookup in
    levels_from cs k s c.lower.result here.3.0 here.1
    (ap (outer_of (before_scope cs k) s.within) c.in-Block.is
    ∙ outer_levels cs k s.within here.3.0
    ∙ ap (levels_at (plain_scopes cs)) (sym c.lower.ensures.number))

pub returns-in-Top-clause-levels : goal.returns-in-Top-clause-levels
returns-in-Top-clause-levels c =
    let cs = c.args.scopes.now in let k = c.args.at in let s = c.in_ok-scope.scope.now in let here = c.in_ok-scope.ensures.lookup in
    levels_from cs k s None here.3.0 here.1 (ap (outer_of (before_scope cs k) s.within) c.in-Top.is)

pub returns-in-Instance-clause-levels : goal.returns-in-Instance-clause-levels
returns-in-Instance-clause-levels c =
    let cs = c.args.scopes.now in let k = c.args.at in let s = c.in_ok-scope.scope.now in let here = c.in_ok-scope.ensures.lookup in
    levels_from cs k s None here.3.0 here.1 (ap (outer_of (before_scope cs k) s.within) c.in-Instance.is)
