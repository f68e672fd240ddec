use Rattle.std.proofs.Common.{refl, sym, ap, ◌∙◌}
use Rattle.std.specs.Option.{option_map}
use Rattle.vl_tree.specs.SyntaxView as view
use Rattle.vl_design.specs.Parameters.{binds_faults}
use Rattle.vl_constants.specs.Needed.{constants_of}
use Rattle.vl_top.specs.Names.{tree_of}
use Rattle.vl_opening.specs.declared.walk.Walk.{Walk}
use Rattle.vl_opening.proofs.Entering.{walks_fail}
use Rattle.vl_walk.proofs.supply.supply_of.Goals as goal

pub returns-in_ok-gift-in-Some : goal.returns-in_ok-gift-in-Some
returns-in_ok-gift-in-Some c =
    let w = c.args.walk.now in let g = c.in_ok-gift-in-Some in
    let next : Walk = record { progress = c.fail.new.self; scopes = w.scopes } in
    let ps = option_map (option_map view.binds) c.args.values.now in (
      sym (ap (option_map tree_of) (sym c.in-Some.is) ∙ c.find.ensures),
      g.ensures.given,
      walks_fail g.gift.fault (binds_faults (constants_of c.args.frames.now) (view.module_tree c.in-Some.parent.now) ps) w next refl g.ensures.fault
          c.fail.ensures,
    )
