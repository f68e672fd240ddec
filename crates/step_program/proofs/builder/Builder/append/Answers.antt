use Rattle.std.proofs.Common.{sym, subst}
use Rattle.step_program.specs.Draft.{Fits, HasStep}
use Rattle.step_program.specs.Arranging.{draft_from}
use Rattle.step_program.proofs.Owning.{entry_fits, entry_has}
use Rattle.step_program.proofs.builder.Builder.append.Goals as goal

pub invariant_of-self-in-Ok : goal.invariant_of-self-in-Ok
invariant_of-self-in-Ok c =
    entry_fits c.self.inside.given c.self.inside.next c.self.inside.entries.items c.push.new.self.items c.args.step
    c.is_narrow.result c.in-Some.next c.self.invariant (subst (λ d. Fits d c.args.step) (sym c.self.view_is) c.requires)
    c.is_narrow.ensures c.in-Some.ensures c.in-Ok.ensures.items

pub returns-in-Ok : goal.returns-in-Ok
returns-in-Ok c =
    subst (λ d. HasStep d (draft_from c.self.inside.given c.push.new.self.items) c.args.step c.in-Some.next.slot)
    c.self.view_is
    (entry_has c.self.inside.given c.self.inside.next c.self.inside.entries.items c.push.new.self.items c.args.step
    c.is_narrow.result c.in-Some.next c.self.invariant c.is_narrow.ensures c.in-Some.ensures c.in-Ok.ensures.items)
