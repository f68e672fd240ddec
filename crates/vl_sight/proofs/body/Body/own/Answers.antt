use Rattle.vl_objects.specs.Plain.{plain_range}
use Rattle.vl_scopes.specs.Plain.{path_at}
use Rattle.std.specs.Prelude.{Some}
use Rattle.vl_sight.specs.Bodies.{routine_with}
use Rattle.vl_sight.proofs.Looking.{own_local, own_itself}
use Rattle.vl_sight.proofs.body.Body.own.Goals as goal

pub returns-in-Some : goal.returns-in-Some
returns-in-Some c h ss f named =
    let b = c.args.self.now in let x = c.args.name.now in
    own_local (path_at ss (Some c.args.scope)) f x (routine_with b) _ (plain_range c.in-Some.range) (h.locals x) named c.in-Some.ensures

pub returns-in-None : goal.returns-in-None
returns-in-None c h ss f named =
    let b = c.args.self.now in let x = c.args.name.now in
    own_itself (path_at ss (Some c.args.scope)) x (routine_with b) _ _ (h.locals x) c.in-None.ensures (c.itself.ensures ss f)
