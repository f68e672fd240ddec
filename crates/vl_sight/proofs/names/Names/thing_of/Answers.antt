use Rattle.std.proofs.Common.{ap, sym, ◌∙◌}
use Rattle.vl_declares.specs.Plain.{plain}
use Rattle.vl_sight.specs.Named.{object_by, thing_by}
use Rattle.vl_sight.proofs.names.Names.thing_of.Goals as goal

pub returns-in-Port : goal.returns-in-Port
returns-in-Port c p =
    let x = c.args.name.now in
    c.signal.ensures p ∙ sym (ap (λ d. thing_by p x (object_by c.args.self.now x) (plain d)) c.in-Port.is)

pub returns-in-Object : goal.returns-in-Object
returns-in-Object c p =
    let x = c.args.name.now in
    c.signal-in-Object.ensures p ∙ sym (ap (λ d. thing_by p x (object_by c.args.self.now x) (plain d)) c.in-Object.is)

pub returns-in-Parameter : goal.returns-in-Parameter
returns-in-Parameter c p =
    let x = c.args.name.now in
    c.constant.ensures p x ∙ sym (ap (λ d. thing_by p x (object_by c.args.self.now x) (plain d)) c.in-Parameter.is)
