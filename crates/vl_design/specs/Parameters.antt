-- Parameters and the values that an instance gives them (IEEE 1364-2005, clauses 4.10 and 12.2).
use Rattle.std.specs.Prelude.{Bool, false, ◌||◌, ◌&&◌, not, if◌then◌else◌, nat_le, List, [], ◌∷◌, ◌++◌, map, bytes_eq, Option, Some, None}
use Rattle.std.specs.List.{list_any}
use Rattle.dt_core.specs.declared.limits.TheConstants.{MAX_WIDTH}
use Rattle.vl_tree.specs.declared.fault.FaultKind.TheVariants.{NotConstant, UnknownParameter}
use Rattle.vl_tree.specs.Syntax.{Place, Name, Expr, Exprs, no_expr, more_expr, Range, Valued, HeaderParameter, declared_parameter, next_parameter, NamedBind, Binds, ordered, by_name, Item, parameter, region, Items, no_item, more_item, Module}
use Rattle.vl_value.specs.Paths.{Text}
use Rattle.vl_value.specs.Things.{Shape, width_of}
use Rattle.vl_value.specs.Meaning.{Meaning, own, assigned}
use Rattle.vl_value.specs.Order.{Found, at}
use Rattle.vl_value.specs.Faults.{start}
use Rattle.vl_design.specs.Lists.{stands_in}
use Rattle.vl_design.specs.Constants.{Worth, worth, faulty, Known, with_constant, value_of, needs}
use Rattle.vl_design.specs.Spans.{Span, span_of, range_needs, vector_faults, shape_of}

-- the declared sign, and the range if one is declared
pub record ParameterType : Type 0 where
  pub signed : Bool
  pub range : Option Span

abbrev pub no_type : ParameterType
no_type = record { signed = false; range = None }

abbrev pub parameter_type : Known → Bool → Option Range → ParameterType
parameter_type k s None = record { signed = s; range = None }
parameter_type k s (Some r) = record { signed = s; range = Some (span_of k r) }

-- a value that an instance gives: where it stands, and what it means unless it rests on a fault
pub record Given : Type 0 where
  pub name : Text
  pub place : Place
  pub value : Option Meaning

abbrev pub given_by : Known → Text → Expr → Given
given_by k x e = record { name = x; place = start e; value = value_of k e }

-- the one of this name, or another
abbrev pub given_or : List Given → Text → Given → Given
given_or [] x g = g
given_or (h ∷ gs) x g = if bytes_eq h.name x then h else given_or gs x g

abbrev pub is_given : List Given → Text → Bool
is_given gs x = list_any (λ (g : Given). bytes_eq g.name x) gs

-- ---- one parameter

-- of a declared range the width and the declared sign; else those of the value, which is signed where either is
abbrev pub ranged : Bool → Option Shape → Meaning → Worth
ranged s None m = faulty
ranged s (Some sh) m = if nat_le (width_of sh) MAX_WIDTH then worth (width_of sh) s (assigned (width_of sh) m) else faulty

abbrev pub typed : ParameterType → Meaning → Worth
typed t m = elim t.range [
  | Some sp ↦ ranged t.signed (shape_of t.signed sp) m
  | None ↦ worth m.width (t.signed || m.signed) (own m)
]

abbrev pub worth_of : ParameterType → Option Meaning → Worth
worth_of t None = faulty
worth_of t (Some m) = typed t m

-- a range that has a fault of phase 5, which is found first as one of the value
abbrev pub spoilt : Place → Option Span → List Found
spoilt p None = []
spoilt p (Some sp) = elim (vector_faults p sp) [ [] ↦ [] | f ∷ fs ↦ at p NotConstant ∷ [] ]

abbrev pub spoilt_value : ParameterType → Given → List Found
spoilt_value t g = elim g.value [ Some m ↦ spoilt g.place t.range | None ↦ [] ]

-- its value: the one that is given, or that of its own expression
abbrev pub source_of : List Given → Known → Name → Expr → Given
source_of gs k x e = given_or gs x.text (given_by k x.text e)

abbrev pub parameter_needs : List Given → Known → ParameterType → Name → Expr → List Found
parameter_needs gs k t x e =
    (if is_given gs x.text then [] else needs k e) ++ spoilt_value t (source_of gs k x e)

abbrev pub parameter_worth : List Given → Known → ParameterType → Name → Expr → Worth
parameter_worth gs k t x e = worth_of t (source_of gs k x e).value

-- ---- parameters in order, each of which sees those before it

abbrev pub after_values : List Given → ParameterType → Known → List Valued → Known
after_values gs t k [] = k
after_values gs t k (v ∷ vs) =
    after_values gs t (with_constant v.name.text (parameter_worth gs k t v.name v.value) k) vs

abbrev pub value_needs : List Given → ParameterType → Known → List Valued → List Found
value_needs gs t k [] = []
value_needs gs t k (v ∷ vs) = parameter_needs gs k t v.name v.value
    ++ value_needs gs t (with_constant v.name.text (parameter_worth gs k t v.name v.value) k) vs

-- each with its worth
abbrev pub values_worth : List Given → ParameterType → Known → List Valued → List (Name × Worth)
values_worth gs t k [] = []
values_worth gs t k (v ∷ vs) = let w : Worth = parameter_worth gs k t v.name v.value in
    (v.name, w) ∷ values_worth gs t (with_constant v.name.text w k) vs

-- those of a header: one without the word takes the type of the one before
abbrev pub header_type : Known → ParameterType → HeaderParameter → ParameterType
header_type k t (declared_parameter p s r x e) = parameter_type k s r
header_type k t (next_parameter x e) = t

abbrev pub header_range : HeaderParameter → Option Range
header_range (declared_parameter p s r x e) = r
header_range (next_parameter x e) = None

abbrev pub header_value : HeaderParameter → Valued
header_value (declared_parameter p s r x e) = record { name = x; value = e }
header_value (next_parameter x e) = record { name = x; value = e }

-- one parameter of a header as a list of one
abbrev pub header_values : HeaderParameter → List Valued
header_values h = header_value h ∷ []

abbrev pub after_header : List Given → ParameterType → Known → List HeaderParameter → Known
after_header gs t k [] = k
after_header gs t k (h ∷ hs) = let u : ParameterType = header_type k t h in
    after_header gs u (after_values gs u k (header_values h)) hs

abbrev pub header_needs : List Given → ParameterType → Known → List HeaderParameter → List Found
header_needs gs t k [] = []
header_needs gs t k (h ∷ hs) = let u : ParameterType = header_type k t h in
    range_needs k (header_range h) ++ (value_needs gs u k (header_values h)
    ++ header_needs gs u (after_values gs u k (header_values h)) hs)

abbrev pub header_worth : List Given → ParameterType → Known → List HeaderParameter → List (Name × Worth)
header_worth gs t k [] = []
header_worth gs t k (h ∷ hs) = let u : ParameterType = header_type k t h in
    values_worth gs u k (header_values h) ++ header_worth gs u (after_values gs u k (header_values h)) hs

-- ---- what an instance may give: the parameters of the header, then those of items; no `localparam`

abbrev mutual
  pub open_by : Item → List Text
  open_by (parameter p is_local s r vs) = if is_local then [] else map (λ (v : Valued). v.name.text) vs
  open_by (region p is) = open_in is
  open_by _ = []

  pub open_in : Items → List Text
  open_in no_item = []
  open_in (more_item i is) = open_by i ++ open_in is

abbrev pub open_parameters : Module → List Text
open_parameters m = map (λ (h : HeaderParameter). (header_value h).name.text) m.parameters ++ open_in m.items

-- in order; the first of too many is a fault
abbrev pub given_in_order : Known → List Text → Exprs → List Given
given_in_order k (x ∷ xs) (more_expr e es) = given_by k x e ∷ given_in_order k xs es
given_in_order k _ _ = []

abbrev pub value_order_faults : Known → List Text → Exprs → List Found
value_order_faults k (x ∷ xs) (more_expr e es) = needs k e ++ value_order_faults k xs es
value_order_faults k [] (more_expr e es) = at (start e) UnknownParameter ∷ []
value_order_faults k _ no_expr = []

-- by name; `.P()` gives none, and a name that isn't there, or that was bound before, is a fault
abbrev pub given_by_name : Known → List Text → List NamedBind → List Given
given_by_name k xs [] = []
given_by_name k xs (b ∷ bs) = elim b.value [
  | Some e ↦ (if stands_in xs b.name.text then given_by k b.name.text e ∷ [] else []) ++ given_by_name k xs bs
  | None ↦ given_by_name k xs bs
]

abbrev pub bind_needs : Known → NamedBind → List Found
bind_needs k b = elim b.value [ Some e ↦ needs k e | None ↦ [] ]

abbrev pub name_faults : Known → List Text → List Text → List NamedBind → List Found
name_faults k xs before [] = []
name_faults k xs before (b ∷ bs) =
    (if stands_in xs b.name.text && not (stands_in before b.name.text) then bind_needs k b
    else at b.name.place UnknownParameter ∷ []) ++ name_faults k xs (b.name.text ∷ before) bs

abbrev pub given_of : Known → Module → Option (Option Binds) → List Given
given_of k m (Some (Some (ordered es))) = given_in_order k (open_parameters m) es
given_of k m (Some (Some (by_name bs))) = given_by_name k (open_parameters m) bs
given_of k m _ = []

abbrev pub binds_faults : Known → Module → Option (Option Binds) → List Found
binds_faults k m (Some (Some (ordered es))) = value_order_faults k (open_parameters m) es
binds_faults k m (Some (Some (by_name bs))) = name_faults k (open_parameters m) [] bs
binds_faults k m _ = []
