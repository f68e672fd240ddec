-- Parameters of the program as those of `vl_design`. This project's own.
use Rattle.std.specs.Prelude.{◌≡◌, Bool, if◌then◌else◌, bytes_eq, List, [], ◌∷◌, ◌++◌, Option, Some, None}
use Rattle.std.specs.Option.{option_map}
use Rattle.std.specs.Borrow.{Bor}
use Rattle.vl_tree.specs.Syntax as t
use Rattle.vl_tree.specs.SyntaxView as view
use Rattle.vl_tree.specs.Syntax.{Place}
use Rattle.vl_value.specs.Paths.{Text}
use Rattle.vl_value.specs.Meaning.{Meaning}
use Rattle.vl_value.specs.Order as order
use Rattle.vl_value.specs.Order.{least}
use Rattle.vl_width.specs.Terms.{meant}
use Rattle.vl_found.specs.declared.Found.{Found}
use Rattle.vl_found.specs.View.{found}
use Rattle.vl_value.specs.Faults.{start}
use Rattle.vl_design.specs.Constants.{Known, value_of, needs}
use Rattle.vl_design.specs.Spans.{range_needs}
use Rattle.vl_design.specs.Parameters as d
use Rattle.vl_span.specs.Plain.{plain_span}
use Rattle.vl_frames.specs.declared.mark.Worth.{Worth}
use Rattle.vl_frames.specs.Marks.{plain_worth}
use Rattle.vl_parameters.specs.declared.worth.ParameterType.{ParameterType}
use Rattle.vl_parameters.specs.declared.worth.Given.{Given}

abbrev pub plain_type : ParameterType → d.ParameterType
plain_type t = record { signed = t.signed; range = option_map plain_span t.range }

abbrev pub plain_given : Given → d.Given
plain_given g = record { name = g.name.now; place = view.place g.place; value = option_map meant g.value }

-- the first value of a name, if one is given
abbrev pub given_in : List d.Given → Text → Option d.Given
given_in [] x = None
given_in (g ∷ gs) x = if bytes_eq g.name x then Some g else given_in gs x

abbrev pub found_given : Option (Bor Given) → Option d.Given
found_given = option_map (λ g. plain_given g.now)

-- a range that has a fault, of a value that is there
abbrev pub spoilt_at : d.ParameterType → Place → Option Meaning → List order.Found
spoilt_at t p None = []
spoilt_at t p (Some m) = d.spoilt p t.range

pub record HasType (k : Known) (s : Bool) (r : Option t.Range) (y : ParameterType) (f : Option Found) : Type 0 where
  pub kind : plain_type y ≡ d.parameter_type k s r
  pub fault : option_map found f ≡ least (range_needs k r)

-- by its own expression
pub record HasOwnWorth (k : Known) (y : d.ParameterType) (e : t.Expr) (w : Worth) (f : Option Found) : Type 0 where
  pub worth : plain_worth w ≡ d.worth_of y (value_of k e)
  pub fault : option_map found f ≡ least (needs k e ++ spoilt_at y (start e) (value_of k e))

pub record HasWorth (gs : List d.Given) (k : Known) (y : d.ParameterType) (x : t.Name) (e : t.Expr) (w : Worth) (f : Option Found) : Type 0 where
  pub worth : plain_worth w ≡ d.parameter_worth gs k y x e
  pub fault : option_map found f ≡ least (d.parameter_needs gs k y x e)
