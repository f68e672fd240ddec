-- What an instance gives to parameters, one value after another. This project's own.
use Rattle.std.specs.Prelude.{◌≡◌, Bool, ◌&&◌, not, if◌then◌else◌, List, [], ◌∷◌, ◌++◌, Option, Some, None, map}
use Rattle.std.specs.Option.{option_map}
use Rattle.vl_tree.specs.Syntax as t
use Rattle.vl_tree.specs.declared.fault.FaultKind.TheVariants.{UnknownParameter}
use Rattle.vl_value.specs.Paths.{Text}
use Rattle.vl_value.specs.Order as order
use Rattle.vl_value.specs.Order.{at, least}
use Rattle.vl_found.specs.declared.Found.{Found}
use Rattle.vl_found.specs.View.{found}
use Rattle.vl_names.specs.declared.NameSet.{NameSet}
use Rattle.vl_names.specs.Names.{has}
use Rattle.vl_design.specs.Lists.{stands_in}
use Rattle.vl_design.specs.Constants.{Known, needs}
use Rattle.vl_design.specs.Parameters as d
use Rattle.vl_parameters.specs.declared.worth.Given.{Given}
use Rattle.vl_parameters.specs.Plain.{plain_given}

-- one value more, and the fault of its expression
pub record Adds (k : Known) (x : Text) (e : t.Expr) (old new : List Given) (f : Option Found) : Type 0 where
  pub given : map plain_given new ≡ map plain_given old ++ d.given_by k x e ∷ []
  pub fault : option_map found f ≡ least (needs k e)

pub record GivesInOrder (k : Known) (xs : List Text) (es : t.Exprs) (gs : List Given) (f : Option Found) : Type 0 where
  pub given : map plain_given gs ≡ d.given_in_order k xs es
  pub fault : option_map found f ≡ least (d.value_order_faults k xs es)

-- ---- by name

-- a set has these names
abbrev pub HasNames : NameSet → List Text → Type 0
HasNames s xs = (x : Text) → has s x ≡ stands_in xs x

-- what a bind gives
abbrev pub bind_gives : Known → t.NamedBind → List d.Given
bind_gives k b = elim b.value [ Some e ↦ d.given_by k b.name.text e ∷ [] | None ↦ [] ]

pub record AddsBind (k : Known) (b : t.NamedBind) (old new : List Given) (f : Option Found) : Type 0 where
  pub given : map plain_given new ≡ map plain_given old ++ bind_gives k b
  pub fault : option_map found f ≡ least (d.bind_needs k b)

-- its fault, where its name is open or not, and was bound before or not
abbrev pub bind_faults : Known → Bool → Bool → t.NamedBind → List order.Found
bind_faults k is_open is_bound b =
    if is_open && not is_bound then d.bind_needs k b else at b.name.place UnknownParameter ∷ []

pub record AddsIfOpen (k : Known) (is_open is_bound : Bool) (b : t.NamedBind) (old new : List Given) (f : Option Found) : Type 0 where
  pub given : map plain_given new ≡ map plain_given old ++ (if is_open then bind_gives k b else [])
  pub fault : option_map found f ≡ least (bind_faults k is_open is_bound b)

pub record GivesByName (k : Known) (xs : List Text) (bs : List t.NamedBind) (gs : List Given) (f : Option Found) : Type 0 where
  pub given : map plain_given gs ≡ d.given_by_name k xs bs
  pub fault : option_map found f ≡ least (d.name_faults k xs [] bs)

-- ---- the whole

pub record GivesAll (k : Known) (m : t.Module) (b : Option (Option t.Binds)) (gs : List Given) (f : Option Found) : Type 0 where
  pub given : map plain_given gs ≡ d.given_of k m b
  pub fault : option_map found f ≡ least (d.binds_faults k m b)
