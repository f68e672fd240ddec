use Rattle.std.proofs.Common.{◌∙◌}
use Rattle.vl_scopes.specs.Plain.{plain_scopes}
use Rattle.vl_sight.specs.Seen.{inside_thing}
use Rattle.vl_sight.proofs.Looking.{inside_first, inside_second, own_at}
use Rattle.vl_sight.proofs.sights.Sights.find_inside.Goals as goal

pub returns-in-Some : goal.returns-in-Some
returns-in-Some c f h =
    let ss = plain_scopes c.args.scopes.now in let k = c.args.from in let x = c.args.name.now in
    inside_first ss k f x (inside_thing ss f x c.in-Some.inside)
    (own_at ss k f x c.args.body.now _ h (λ i named. c.in-Some.ensures i ss f named))

pub returns-in-None : goal.returns-in-None
returns-in-None c f h =
    let ss = plain_scopes c.args.scopes.now in let k = c.args.from in let x = c.args.name.now in
    inside_second ss k f x _
    (own_at ss k f x c.args.body.now _ h (λ i named. c.in-None.ensures i ss f named))
    (c.around.ensures ss f x ∙ c.find.ensures)
