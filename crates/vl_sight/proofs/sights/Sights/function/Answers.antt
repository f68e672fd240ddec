use Rattle.std.proofs.Common.{ap, get_or, ◌∙◌}
use Rattle.std.specs.Option.{option_map}
use Rattle.std.specs.Prelude.{option_and_then}
use Rattle.vl_declares.specs.Plain.{all_plain, plain_routine}
use Rattle.vl_sight.specs.Named.{function_by, routine_in}
use Rattle.vl_sight.proofs.Here.{no_routine, routine_here}
use Rattle.vl_sight.proofs.sights.Sights.function.Goals as goal

pub returns-in_err-scope : goal.returns-in_err-scope
returns-in_err-scope c =
    ap (option_map (λ r. plain_routine r.now)) c.from_residual.ensures
    ∙ no_routine c.args.scopes.now c.args.at c.args.name.now c.in_err-scope.ensures.lookup.3

pub returns : goal.returns
returns c =
    let cs = c.args.scopes.now in let k = c.args.at in let s = c.in_ok-scope.scope.now in let n = c.in_ok-names.names.now in
    let here = c.in_ok-scope.ensures.lookup in
    routine_here cs k s n c.args.name.now _ here.3.0 here.1
    (c.requires.each k s n here.3.0 here.1 (c.in_ok-names.ensures.lookup.1 ∙ ap (λ l. get_or l k n) c.as_slice.ensures.value))
    (c.function.ensures ∙ ap (λ ds. option_and_then routine_in (function_by n (all_plain ds) c.args.name.now)) c.as_slice-2.ensures.value)
