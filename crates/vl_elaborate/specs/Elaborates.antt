-- The scopes of a source and the least fault of phase 4, as the program has them. This project's own.
use Rattle.std.specs.Prelude.{◌≡◌, Option}
use Rattle.std.specs.Option.{option_map}
use Rattle.vl_tree.specs.Syntax.{Source, Module}
use Rattle.vl_value.specs.Paths.{Text}
use Rattle.vl_value.specs.Order.{least}
use Rattle.vl_found.specs.declared.Found.{Found}
use Rattle.vl_found.specs.View.{found}
use Rattle.vl_design.specs.Limits.{limits}
use Rattle.vl_design.specs.Walk.{build, hierarchy_faults}
use Rattle.vl_design.specs.Design as design
use Rattle.vl_scopes.specs.declared.tree.Tree.{Tree}
use Rattle.vl_scopes.specs.Plain.{plain_scopes}
use Rattle.vl_opening.specs.declared.walk.Walk.{Walk}

-- all scopes of a source, whose top is asked for or not
abbrev pub HasScopes : Source → Option Text → Tree → Type 0
HasScopes src top tree = plain_scopes tree.scopes.items ≡ design.scopes limits src top

-- the least fault of phase 4
abbrev pub HasHierarchyFault : Source → Option Text → Option Found → Type 0
HasHierarchyFault src top f = option_map found f ≡ least (hierarchy_faults limits src top)

-- what is built of a top
pub record IsBuilt (src : Source) (m : Module) (w : Walk) : Type 0 where
  pub scopes : plain_scopes w.scopes.items ≡ (build limits src m).scopes
  pub fault : option_map found w.progress.fault ≡ least (build limits src m).faults
