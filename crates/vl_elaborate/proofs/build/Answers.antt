use Rattle.std.proofs.Common.{refl}
use Rattle.vl_tree.specs.SyntaxView as view
use Rattle.vl_elaborate.proofs.Building.{is_built}
use Rattle.vl_elaborate.proofs.build.Goals as goal

pub returns : goal.returns
returns c =
    is_built (view.source c.args.source.now) (view.module_tree c.args.parent.now) c.args.parent.now.name.place c.in_ok-modules.modules
    c.new-walk.result c.walk_top.new.walk refl c.in_ok-modules.ensures c.new-walk.ensures c.in_ok-walk_top.ensures
