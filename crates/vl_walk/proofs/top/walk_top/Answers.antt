use Rattle.std.proofs.Common.{refl}
use Rattle.vl_tree.specs.SyntaxView as view
use Rattle.vl_design.specs.Scopes.{top_use}
use Rattle.vl_walk.proofs.top.walk_top.Goals as goal

pub walk_module-requires : goal.walk_module-requires
walk_module-requires c =
    record {
      finds = c.requires;
      site = (top_use (view.module_tree c.args.parent.now), record { place = refl; path = refl; given = refl; origin = refl; outer = refl; items = refl });
    }

pub returns : goal.returns
returns c = c.in_ok-walk_module.ensures (top_use (view.module_tree c.args.parent.now))
    (record { place = refl; path = refl; given = refl; origin = refl; outer = refl; items = refl })
