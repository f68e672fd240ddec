-- A source that is a design has no fault of phases 4 and 5.
use Rattle.std.proofs.Common.{◌≡◌, ℕ, Bool, true, false, List, [], ◌∷◌, ◌++◌, Ok, Err, refl}
use Rattle.std.specs.Prelude.{Option, Some, None, Result, if◌then◌else◌}
use Rattle.vl_tree.specs.Syntax.{Source}
use Rattle.vl_tree.specs.Fault.{Fault}
use Rattle.vl_value.specs.Paths.{Text}
use Rattle.vl_value.specs.Order.{Found, is_before, lesser, least, of_phase}
use Rattle.vl_design.specs.Limits.{Limits}
use Rattle.vl_design.specs.Walk.{hierarchy_faults}
use Rattle.vl_design.specs.ObjectFaults.{object_faults}
use Rattle.vl_design.specs.Design.{Design, design_of, scopes, first_fault, elaborated}

-- ---- the least fault of no faults

lesser_there : (b : Bool) (f g : Found) → (if b then Some g else Some f) ≡ None → ⊥
lesser_there true f g e = absurd cc
lesser_there false f g e = absurd cc

lesser_is : (f : Found) (o : Option Found) → lesser (Some f) o ≡ None → ⊥
lesser_is f None e = absurd cc
lesser_is f (Some g) e = lesser_there (is_before g f) f g e

pub least_of_none : (fs : List Found) → least fs ≡ None → fs ≡ []
least_of_none [] e = refl
least_of_none (f ∷ fs) e = absurd (lesser_is f (least fs) e)

pub none_joined : {A : Type 0} (xs ys : List A) → xs ++ ys ≡ [] → (xs ≡ []) × (ys ≡ [])
none_joined [] ys e = (refl, e)
none_joined (x ∷ xs) ys e = absurd cc

-- ---- phases

abbrev phase : ℕ → Option Found → Option Fault → Option Fault
phase n o later = elim o [ Some f ↦ Some (of_phase n f) | None ↦ later ]

none_in : (n : ℕ) (o : Option Found) (later : Option Fault) → phase n o later ≡ None → (o ≡ None) × (later ≡ None)
none_in n None later e = (refl, e)
none_in n (Some f) later e = absurd cc

abbrev chosen : Option Fault → Design → Result Design Fault
chosen o d = elim o [ Some f ↦ Err f | None ↦ Ok d ]

is_chosen : (o : Option Fault) (d e : Design) → chosen o d ≡ Ok e → (o ≡ None) × (d ≡ e)
is_chosen None d e h = (refl, cc)
is_chosen (Some f) d e h = absurd cc

module _ (q : Limits) (src : Source) (top : Option Text) (d : Design) (is : elaborated q src top ≡ Ok d) where
  all : (first_fault q src top ≡ None) × (design_of (scopes q src top) ≡ d)
  all = is_chosen (first_fault q src top) (design_of (scopes q src top)) d is

  -- it is the design of its scopes
  pub is_of : design_of (scopes q src top) ≡ d
  is_of = all.1

  phases : (least (hierarchy_faults q src top) ≡ None) × (phase 5 (least (object_faults q (scopes q src top))) None ≡ None)
  phases = none_in 4 (least (hierarchy_faults q src top)) (phase 5 (least (object_faults q (scopes q src top))) None) all.0

  pub no_hierarchy_fault : hierarchy_faults q src top ≡ []
  no_hierarchy_fault = least_of_none (hierarchy_faults q src top) phases.0

  pub no_object_fault : object_faults q (scopes q src top) ≡ []
  no_object_fault =
      least_of_none (object_faults q (scopes q src top)) (none_in 5 (least (object_faults q (scopes q src top))) None phases.1).0
