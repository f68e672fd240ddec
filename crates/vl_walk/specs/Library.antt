-- The modules of a source, as the program has them. This project's own.
use Rattle.std.specs.Prelude.{◌≡◌, ℕ, map, nat_eq}
use Rattle.std.specs.Cmp.Lexicographic.{pointwise}
use Rattle.indexmap.specs.IndexMap.{get}
use Rattle.vl_tree.specs.Syntax.{Source}
use Rattle.vl_tree.specs.SyntaxView as view
use Rattle.vl_design.specs.Limits.{limits}
use Rattle.vl_design.specs.Scopes.{Maker, instance_requests}
use Rattle.vl_top.specs.Names.{FindsModules}
use Rattle.vl_walk.specs.declared.modules.Modules.{Modules}

abbrev pub source_of : Modules → Source
source_of m = map view.module_tree m.all.now

-- each name has its first module
abbrev pub Finds : Modules → Type 0
Finds m = FindsModules (get (pointwise nat_eq) m.by_name) (source_of m)

pub record IsOf (src : Source) (m : Modules) : Type 0 where
  pub source : source_of m ≡ src
  pub finds : Finds m

-- what makes instances, of which so many may lie in one another
abbrev pub maker_of : Modules → ℕ → Maker
maker_of m d = instance_requests (source_of m) limits d
