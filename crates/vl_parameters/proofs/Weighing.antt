-- What a parameter is worth by the value that is given, or by its own.
use Rattle.std.proofs.Common.{◌≡◌, Bool, true, false, refl, sym, ap, ◌∙◌, List, [], ◌∷◌, ◌++◌, Some, None, if◌then◌else◌}
use Rattle.std.specs.Prelude.{Option, ◌||◌, bytes_eq}
use Rattle.std.specs.Option.{option_map, option_copied}
use Rattle.vl_tree.specs.Syntax.{Place, Name, Expr}
use Rattle.vl_value.specs.Paths.{Text}
use Rattle.vl_value.specs.Meaning.{Meaning}
use Rattle.vl_tree.specs.declared.fault.FaultKind.TheVariants.{NotConstant}
use Rattle.vl_value.specs.Order.{Found, at, least}
use Rattle.vl_design.specs.Spans.{Span, vector_faults}
use Rattle.vl_value.specs.Faults.{start}
use Rattle.vl_design.specs.Constants.{Known, value_of, needs}
use Rattle.vl_design.specs.Parameters.{ParameterType, Given, given_or, is_given, given_by, source_of, spoilt, spoilt_value, worth_of, parameter_worth, parameter_needs}
use Rattle.std.specs.Prelude.{nat_le}
use Rattle.std.specs.Borrow.{Bor}
use Rattle.dt_core.specs.declared.limits.TheConstants.{MAX_WIDTH}
use Rattle.vl_value.specs.Meaning.{assigned}
use Rattle.vl_value.specs.Things.{Shape, width_of}
use Rattle.vl_width.specs.declared.known.Known as code
use Rattle.vl_width.specs.Terms.{meant}
use Rattle.vl_design.specs.Constants.{Worth, worth, faulty}
use Rattle.vl_design.specs.Parameters as d
use Rattle.vl_constants.specs.Needed.{meant_in}
use Rattle.vl_span.specs.Plain.{fitting}
use Rattle.vl_parameters.specs.Plain.{given_in, spoilt_at}

-- ---- the first value of a name, or another

some_by : (o : Option Given) (r g a : Given) (b : Bool) → (Some g ≡ o → r ≡ g)
    → Some g ≡ (if b then Some a else o) → (if b then a else r) ≡ g
some_by o r g a true more e = cc
some_by o r g a false more e = more e

pub given_some : (gs : List Given) (x : Text) (h g : Given) → Some g ≡ given_in gs x → given_or gs x h ≡ g
given_some [] x h g e = absurd cc
given_some (a ∷ gs) x h g e = some_by (given_in gs x) (given_or gs x h) g a (bytes_eq a.name x) (given_some gs x h g) e

none_by : (o : Option Given) (r h a : Given) (b : Bool) → (None ≡ o → r ≡ h)
    → None ≡ (if b then Some a else o) → (if b then a else r) ≡ h
none_by o r h a true more e = absurd cc
none_by o r h a false more e = more e

pub given_none : (gs : List Given) (x : Text) (h : Given) → None ≡ given_in gs x → given_or gs x h ≡ h
given_none [] x h e = refl
given_none (a ∷ gs) x h e = none_by (given_in gs x) (given_or gs x h) h a (bytes_eq a.name x) (given_none gs x h) e

is_some_by : (o : Option Given) (r : Bool) (g a : Given) (b : Bool) → (Some g ≡ o → r ≡ true)
    → Some g ≡ (if b then Some a else o) → (b || r) ≡ true
is_some_by o r g a true more e = refl
is_some_by o r g a false more e = more e

pub is_some_given : (gs : List Given) (x : Text) (g : Given) → Some g ≡ given_in gs x → is_given gs x ≡ true
is_some_given [] x g e = absurd cc
is_some_given (a ∷ gs) x g e = is_some_by (given_in gs x) (is_given gs x) g a (bytes_eq a.name x) (is_some_given gs x g) e

is_none_by : (o : Option Given) (r : Bool) (a : Given) (b : Bool) → (None ≡ o → r ≡ false)
    → None ≡ (if b then Some a else o) → (b || r) ≡ false
is_none_by o r a true more e = absurd cc
is_none_by o r a false more e = more e

pub is_none_given : (gs : List Given) (x : Text) → None ≡ given_in gs x → is_given gs x ≡ false
is_none_given [] x e = refl
is_none_given (a ∷ gs) x e = is_none_by (given_in gs x) (is_given gs x) a (bytes_eq a.name x) (is_none_given gs x) e

-- the first of some values has the name
pub given_first : (x : Text) (g : Given) (gs : List Given) (all : Option Given) → bytes_eq g.name x ≡ true
    → given_in (g ∷ gs) x ≡ all → Some g ≡ all
given_first x g gs all e h = ap (λ b. if b then Some g else given_in gs x) (sym e) ∙ h

-- ---- faults

by_faults : (p : Place) (fs : List Found) (f : Found) → Some f ≡ least fs
    → (elim fs [ [] ↦ [] | g ∷ gs ↦ at p NotConstant ∷ [] ]) ≡ at p NotConstant ∷ []
by_faults p [] f h = absurd cc
by_faults p (g ∷ gs) f h = refl

-- a range that has a fault
pub spoilt_some : (p : Place) (sp : Span) (f : Found) → Some f ≡ least (vector_faults p sp) → spoilt p (Some sp) ≡ at p NotConstant ∷ []
spoilt_some p sp f h = by_faults p (vector_faults p sp) f h

spoilt_by : (y : ParameterType) (p : Place) (v : Option Meaning)
    → (elim v [ Some m ↦ spoilt p y.range | None ↦ [] ]) ≡ spoilt_at y p v
spoilt_by y p None = refl
spoilt_by y p (Some m) = refl

module _ (gs : List Given) (k : Known) (y : ParameterType) (x : Name) (e : Expr) where
  pub needs_given : (g : Given) → Some g ≡ given_in gs x.text → parameter_needs gs k y x e ≡ spoilt_at y g.place g.value
  needs_given g h =
      (λ i. (if is_some_given gs x.text g h i then [] else needs k e) ++ spoilt_value y (given_some gs x.text (given_by k x.text e) g h i))
      ∙ spoilt_by y g.place g.value

  pub needs_own : None ≡ given_in gs x.text → parameter_needs gs k y x e ≡ needs k e ++ spoilt_at y (start e) (value_of k e)
  needs_own h =
      (λ i. (if is_none_given gs x.text h i then [] else needs k e) ++ spoilt_value y (given_none gs x.text (given_by k x.text e) h i))
      ∙ ap (λ fs. needs k e ++ fs) (spoilt_by y (start e) (value_of k e))

  pub worth_given : (g : Given) → Some g ≡ given_in gs x.text → parameter_worth gs k y x e ≡ worth_of y g.value
  worth_given g h = ap (λ (f : Given). worth_of y f.value) (given_some gs x.text (given_by k x.text e) g h)

  pub worth_own : None ≡ given_in gs x.text → parameter_worth gs k y x e ≡ worth_of y (value_of k e)
  worth_own h = ap (λ (f : Given). worth_of y f.value) (given_none gs x.text (given_by k x.text e) h)

-- ---- values, and ranges without a fault

pub meant_copied : (o : Option (Bor code.Known)) → meant_in o ≡ option_map meant (option_copied o)
meant_copied None = refl
meant_copied (Some k) = refl

abbrev weighed : Bool → Bool → Shape → Meaning → Worth
weighed b s sh m = if b then worth (width_of sh) s (assigned (width_of sh) m) else faulty

some_fits : (b s : Bool) (q sh : Shape) (m : Meaning) → Some sh ≡ (if b then Some q else None)
    → weighed b s q m ≡ worth (width_of sh) s (assigned (width_of sh) m)
some_fits true s q sh m e = let h : sh ≡ q = cc in ap (λ (r : Shape). worth (width_of r) s (assigned (width_of r) m)) (sym h)
some_fits false s q sh m e = absurd cc

none_fits : (b s : Bool) (q : Shape) (m : Meaning) → None ≡ (if b then Some q else None) → weighed b s q m ≡ faulty
none_fits true s q m e = absurd cc
none_fits false s q m e = refl

pub ranged_some : (s : Bool) (o : Option Shape) (sh : Shape) (m : Meaning) → Some sh ≡ fitting o
    → d.ranged s o m ≡ worth (width_of sh) s (assigned (width_of sh) m)
ranged_some s None sh m e = absurd cc
ranged_some s (Some q) sh m e = some_fits (nat_le (width_of q) MAX_WIDTH) s q sh m e

pub ranged_none : (s : Bool) (o : Option Shape) (m : Meaning) → None ≡ fitting o → d.ranged s o m ≡ faulty
ranged_none s None m e = refl
ranged_none s (Some q) m e = none_fits (nat_le (width_of q) MAX_WIDTH) s q m e
