use Rattle.std.proofs.Common.{subst}
use Rattle.step_program.specs.Draft.{HasStep}
use Rattle.step_program.specs.Arranging.{IsAmong}
use Rattle.step_program.proofs.Owning.{found_has}
use Rattle.step_program.proofs.builder.Builder.push.Goals as goal

pub returns-in-Some : goal.returns-in-Some
returns-in-Some c =
    subst (λ d. HasStep d d c.args.step c.in-Some.slot) c.self.view_is
    (found_has c.self.inside.given c.self.inside.next c.self.inside.entries.items c.args.step c.in-Some.slot c.self.invariant
    (subst (λ xs. IsAmong xs c.args.step c.in-Some.slot) c.deref.ensures.value c.in-Some.ensures))
