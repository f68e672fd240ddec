-- What a declaration is beside another of its name, and what was met of a name. This project's own.
use Rattle.std.specs.Prelude.{Bool, true, false, ◌&&◌, ◌||◌, not, if◌then◌else◌, List, [], ◌∷◌, Option, Some, None}
use Rattle.std.specs.Option.{option_map}
use Rattle.vl_tree.specs.declared.fault.FaultKind.TheVariants.{Duplicate, BadPort}
use Rattle.vl_tree.specs.Syntax.{Place, Direction, input, output}
use Rattle.vl_value.specs.Order.{Found, at}
use Rattle.vl_design.specs.Spans.{Span}
use Rattle.vl_design.specs.Declarations.{Declared, Kind, net, register, whole_number}
use Rattle.vl_design.specs.Objects.{is_bare_port, is_plain_object}
use Rattle.vl_design.specs.ObjectFaults.{declared_span, spans_agree, is_input_port, is_variable}
use Rattle.vl_span.specs.Plain.{plain_span}
use Rattle.vl_repeats.specs.declared.side.Side as code_side
use Rattle.vl_repeats.specs.declared.side.Met as code_met
use Rattle.vl_repeats.specs.declared.side.Met.TheVariants as m

-- what others of its name ask of a declaration
pub record Side : Type 0 where
  pub bare : Bool
  pub plain : Bool
  pub span : Option Span
  pub driven : Bool
  pub variable : Bool

abbrev pub side_of : Declared → Side
side_of a = record {
  bare = is_bare_port a;
  plain = is_plain_object a;
  span = declared_span a;
  driven = is_input_port a;
  variable = is_variable a;
}

abbrev pub neither : Side
neither = record { bare = false; plain = false; span = None; driven = false; variable = false }

abbrev pub is_input_direction : Direction → Bool
is_input_direction input = true
is_input_direction output = false

abbrev pub is_variable_kind : Kind → Bool
is_variable_kind net = false
is_variable_kind register = true
is_variable_kind whole_number = true

abbrev pub plain_side : code_side.Side → Side
plain_side s = record {
  bare = s.is_bare_port;
  plain = s.is_plain_object;
  span = option_map plain_span s.span;
  driven = s.is_input;
  variable = s.is_variable;
}

-- ---- one declaration of a name, or two at least

pub data Meeting : Type 0 where
  once : Side → Meeting
  again : Meeting

abbrev pub plain_met : code_met.Met → Meeting
plain_met (m.Once s) = once (plain_side s)
plain_met m.Again = again

abbrev pub met_of : List Declared → Option Meeting
met_of [] = None
met_of (a ∷ []) = Some (once (side_of a))
met_of (a ∷ c ∷ ds) = Some again

abbrev pub more : Option Meeting → Side → Meeting
more None s = once s
more (Some w) s = again

-- ---- a declaration behind those of its name

abbrev pub may_unite : Side → Side → Bool
may_unite a b = (a.bare && b.plain) || (a.plain && b.bare)

abbrev pub counts_by : Option Meeting → Side → Bool
counts_by None s = true
counts_by (Some (once a)) s = may_unite a s
counts_by (Some again) s = false

abbrev pub united_at : Side → Side → Place → List Found
united_at a b p = if spans_agree a.span b.span && not ((a.driven && b.variable) || (a.variable && b.driven))
    then [] else at p BadPort ∷ []

abbrev pub faults_by : Option Meeting → Side → Place → List Found
faults_by None s p = []
faults_by (Some (once a)) s p = if may_unite a s then united_at a s p else at p Duplicate ∷ []
faults_by (Some again) s p = at p Duplicate ∷ []
