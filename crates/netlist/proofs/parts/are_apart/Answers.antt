use Rattle.std.proofs.Common.{ap}
use Rattle.std.proofs.lemmas.List.{get_or_default}
use Rattle.netlist.proofs.Apart.{a_part_further}
use Rattle.netlist.proofs.parts.are_apart.Goals as goal

pub loop-register-preserved : goal.loop-register-preserved
loop-register-preserved c =
    let next =
    a_part_further _ _ _ _ _ _ c.requires.driven c.requires.registers c.loop-register-test.true
    c.loop-register.invariant.before
    c.loop-register.invariant.apart c.first_not_before-next.ensures.before
    (c.is_before_part.ensures.0 c.if-not-is_before_part.false)
    (λ e. ap (λ x. x.range) (get_or_default _ _ _ _ c.loop-register-test.true)) in
    record { within = c.first_not_before-next.ensures.from.1; before = next.0; apart = next.1 }
