use Rattle.std.proofs.Common.{◌≡◌, true, sym, ap, ◌∙◌, subst}
use Rattle.std.specs.Prelude.{if◌then◌else◌, Some, None, IsSome, IsSomeAnd}
use Rattle.netlist.specs.Run.{flat_fired, blocks_fired}
use Rattle.step_program.specs.Plan.{held}
use Rattle.flat_sim.specs.Stops.{has_some}
use Rattle.flat_sim.specs.Stops.{some_holds}
use Rattle.flat_sim.specs.Inside.{HasSettled, values_of}
use Rattle.flat_sim.proofs.Advances.{was_settled}
use Rattle.flat_sim.proofs.Fires.{some_fires}
use Rattle.flat_sim.proofs.sim.Sim.fires.Goals as goal

pub returns : goal.returns
returns c =
    let a = c.self.inside in
    let f = a.flat.now in
    let s : a.settled ≡ true =
    was_settled a.settled (values_of a) (subst (λ v. IsSome v.values) (sym c.self.view_is) c.requires) in
    let settled : HasSettled a = c.self.invariant.settled s in
    let is : c.some_holds.result ≡ has_some (flat_fired f (values_of a)) =
    c.some_holds.ensures ∙ ap (λ ss. some_holds (held a.slots) ss) (c.deref.ensures.value ∙ c.self.invariant.stops)
    ∙ some_fires f (held a.slots) a.compiled.nodes c.self.invariant.fits c.self.invariant.compiles.count
    ∙ ap (λ xs. has_some (blocks_fired f.nodes xs 0 f.blocks)) settled.nodes in
    subst (λ u. IsSomeAnd u.values (λ v. c.some_holds.result ≡ has_some (flat_fired u.flat v))) c.self.view_is
    (subst (λ b. IsSomeAnd (if b then Some (values_of a) else None)
    (λ v. c.some_holds.result ≡ has_some (flat_fired f v))) (sym s) is)
