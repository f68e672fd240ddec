-- What was walked from the top is what is built of a source; and the faults of all modules and of the top together.
use Rattle.std.proofs.Common.{◌≡◌, sym, ap, ◌∙◌, List, [], ◌∷◌}
use Rattle.std.specs.Prelude.{Option, Some, None}
use Rattle.std.specs.Option.{option_map}
use Rattle.dt_core.specs.declared.place.Place.{Place}
use Rattle.vl_tree.specs.Syntax.{Source, Module}
use Rattle.vl_tree.specs.SyntaxView as view
use Rattle.vl_tree.specs.declared.fault.FaultKind.TheVariants.{NoTop}
use Rattle.vl_value.specs.Paths.{Text}
use Rattle.vl_value.specs.Order.{at, least, lesser}
use Rattle.vl_value.proofs.OrderLaws.{least_joined}
use Rattle.vl_found.specs.declared.Found.{Found}
use Rattle.vl_found.specs.View.{found}
use Rattle.vl_design.specs.Limits.{limits}
use Rattle.vl_design.specs.Design as design
use Rattle.vl_design.specs.Scopes.{Scope, all_requests}
use Rattle.vl_design.specs.Walk.{Built, nothing_built, all_heard, build, building_faults, duplicate_modules, first_token, hierarchy_faults, top_of}
use Rattle.vl_scopes.specs.declared.scope.Scope as code
use Rattle.vl_scopes.specs.Plain.{plain_scopes}
use Rattle.vl_opening.specs.declared.walk.Walk.{Walk}
use Rattle.vl_opening.specs.Walking.{IsFresh, Walks}
use Rattle.vl_walk.specs.declared.modules.Modules.{Modules}
use Rattle.vl_walk.specs.Library.{IsOf, source_of}
use Rattle.vl_elaborate.specs.Elaborates.{IsBuilt}

pub is_built : (src : Source) (m : Module) (place : Place) (ms : Modules) (old new : Walk) → view.place place ≡ m.name.place → IsOf src ms
    → IsFresh place old → Walks (all_requests limits (source_of ms) m) old new → IsBuilt src m new
is_built src m place ms old new ep is f w =
    let top : view.place old.progress.top ≡ m.name.place = ap view.place f.top_is ∙ ep in
    let whole : all_heard limits (view.place old.progress.top) (all_requests limits (source_of ms) m) nothing_built ≡ build limits src m =
    λ i. all_heard limits (top i) (all_requests limits (is.source i) m) nothing_built in
    record {
      scopes = sym (w.scopes nothing_built f.tells (ap plain_scopes (sym f.scopes))) ∙ ap (λ (b : Built). b.scopes) whole;
      fault = (w.hears.tells nothing_built f.tells).fault ∙ ap (λ (b : Built). least b.faults) whole;
    }

module _ (src : Source) (top : Option Text) (o : Option Module) (is : o ≡ top_of src top) (f g h : Option Found)
    (first : option_map found f ≡ least (duplicate_modules [] src))
    (both : option_map found h ≡ lesser (option_map found f) (option_map found g)) where
  all_faults : option_map found g ≡ least (building_faults limits src o) → option_map found h ≡ least (hierarchy_faults limits src top)
  all_faults second = both ∙ (λ i. lesser (first i) ((second ∙ ap (λ x. least (building_faults limits src x)) is) i))
      ∙ sym (least_joined (duplicate_modules [] src) (building_faults limits src (top_of src top)))

  pub fault_built : (m : Module) → o ≡ Some m → option_map found g ≡ least (build limits src m).faults
      → option_map found h ≡ least (hierarchy_faults limits src top)
  fault_built m e second = all_faults (second ∙ ap (λ x. least (building_faults limits src x)) (sym e))

  pub fault_none : (x : Found) → o ≡ None → g ≡ Some x → found x ≡ at (first_token src) NoTop
      → option_map found h ≡ least (hierarchy_faults limits src top)
  fault_none x e eg ex = all_faults (ap (option_map found) eg ∙ ap (λ y. least (y ∷ [])) ex ∙ ap (λ y. least (building_faults limits src y)) (sym e))

abbrev scopes_by : Source → Option Module → List Scope
scopes_by src o = elim o [ Some m ↦ (build limits src m).scopes | None ↦ [] ]

pub scopes_built : (src : Source) (top : Option Text) (o : Option Module) (m : Module) (w : Walk) → o ≡ top_of src top → o ≡ Some m → IsBuilt src m w
    → plain_scopes w.scopes.items ≡ design.scopes limits src top
scopes_built src top o m w is e b = b.scopes ∙ ap (scopes_by src) (sym e ∙ is)

pub scopes_none : (src : Source) (top : Option Text) (o : Option Module) (cs : List code.Scope) → o ≡ top_of src top → o ≡ None → cs ≡ []
    → plain_scopes cs ≡ design.scopes limits src top
scopes_none src top o cs is e none = ap plain_scopes none ∙ ap (scopes_by src) (sym e ∙ is)
