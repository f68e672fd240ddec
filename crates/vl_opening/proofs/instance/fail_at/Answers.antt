use Rattle.std.proofs.Common.{refl, [], ◌∷◌}
use Rattle.std.specs.Prelude.{Some}
use Rattle.vl_tree.specs.SyntaxView as view
use Rattle.vl_value.specs.Order.{at}
use Rattle.vl_opening.proofs.Entering.{walks_fail}
use Rattle.vl_opening.proofs.instance.fail_at.Goals as goal

pub returns : goal.returns
returns c =
    walks_fail (Some (record { place = c.args.place; kind = c.args.kind })) (at (view.place c.args.place) c.args.kind ∷ []) c.args.walk.now
    (record { progress = c.fail.new.self; scopes = c.args.walk.now.scopes }) refl refl c.fail.ensures
