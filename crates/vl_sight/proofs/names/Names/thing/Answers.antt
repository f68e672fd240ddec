use Rattle.std.proofs.Common.{ap, ◌∙◌}
use Rattle.std.specs.Prelude.{option_and_then}
use Rattle.vl_declares.specs.Plain.{all_plain}
use Rattle.vl_sight.specs.Named.{declared_by, object_by, thing_by}
use Rattle.vl_sight.specs.Seen.{plain_thing}
use Rattle.vl_sight.proofs.Naming.{either_first, either_second, thing_found}
use Rattle.vl_sight.proofs.names.Names.thing.Goals as goal

pub returns-in-Some : goal.returns-in-Some
returns-in-Some c p =
    let s = c.args.scope.now in let n = c.args.self.now in let x = c.args.name.now in
    either_first (plain_thing p x c.in-Some.thing) _ _
    (c.in-Some.ensures p
    ∙ ap (λ ds. option_and_then (thing_by p x (object_by n x)) (declared_by n (all_plain ds) x)) c.as_slice.ensures.value
    ∙ thing_found s n p x c.requires)

pub returns-in-None : goal.returns-in-None
returns-in-None c p =
    let s = c.args.scope.now in let n = c.args.self.now in let x = c.args.name.now in
    either_second _ _ _
    (c.in-None.ensures p
    ∙ ap (λ ds. option_and_then (thing_by p x (object_by n x)) (declared_by n (all_plain ds) x)) c.as_slice.ensures.value
    ∙ thing_found s n p x c.requires)
    (c.turn_thing.ensures p)
