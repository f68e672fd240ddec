use Rattle.std.proofs.Common.{sym, subst}
use Rattle.std.specs.Prelude.{OnOk}
use Rattle.vl_clocks.specs.Names.{texts}
use Rattle.vl_scopes.specs.Plain.{plain_scopes}
use Rattle.vl_top_clocks.specs.Passing.{AddsOuter}
use Rattle.vl_top_clocks.proofs.Turning.{adds_none}
use Rattle.vl_top_clocks.proofs.clocks.add_outer.Goals as goal

pub returns-in-Some : goal.returns-in-Some
returns-in-Some c =
    let ss = plain_scopes c.args.scopes.now in
    subst (λ w. OnOk c.add_names.result (AddsOuter c.args.numbers.now ss w c.args.names.now c.args.clocks.now c.add_names.new.loops))
    (sym c.in-Some.is) c.add_names.ensures

pub returns-in-None : goal.returns-in-None
returns-in-None c =
    adds_none c.args.numbers.now (plain_scopes c.args.scopes.now) c.args.outer (texts c.args.names.now) c.args.clocks.now c.in-None.is
