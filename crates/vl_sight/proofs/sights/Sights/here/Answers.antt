use Rattle.std.proofs.Common.{ap, get_or, ◌∙◌}
use Rattle.std.specs.Option.{option_map}
use Rattle.std.specs.Prelude.{Some, None}
use Rattle.vl_scopes.specs.Plain.{plain_scopes}
use Rattle.vl_sight.specs.Seen.{seen_thing}
use Rattle.vl_sight.proofs.Here.{nothing_past, thing_here}
use Rattle.vl_sight.proofs.sights.Sights.here.Goals as goal

pub returns-in_err-scope : goal.returns-in_err-scope
returns-in_err-scope c =
    ap (option_map (seen_thing (plain_scopes c.args.scopes.now) c.args.name.now)) c.from_residual.ensures
    ∙ nothing_past c.args.scopes.now c.args.at c.args.name.now c.in_err-scope.ensures.lookup.3

pub thing-requires : goal.thing-requires
thing-requires c =
    let here = c.in_ok-scope.ensures.lookup in let n = c.in_ok-names.names.now in
    c.requires.each c.args.at c.in_ok-scope.scope.now n here.3.0 here.1
    (c.in_ok-names.ensures.lookup.1 ∙ ap (λ l. get_or l c.args.at n) c.as_slice.ensures.value)

pub returns-in_err-thing : goal.returns-in_err-thing
returns-in_err-thing c =
    let here = c.in_ok-scope.ensures.lookup in
    ap (option_map (seen_thing (plain_scopes c.args.scopes.now) c.args.name.now)) c.from_residual-in_err-thing.ensures
    ∙ thing_here c.args.scopes.now c.args.at c.in_ok-scope.scope.now c.args.name.now None here.3.0 here.1 c.in_err-thing.ensures

pub returns : goal.returns
returns c =
    let here = c.in_ok-scope.ensures.lookup in
    thing_here c.args.scopes.now c.args.at c.in_ok-scope.scope.now c.args.name.now (Some c.in_ok-thing.thing) here.3.0 here.1 c.in_ok-thing.ensures
