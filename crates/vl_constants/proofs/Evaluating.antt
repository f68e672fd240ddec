-- What is known is the value, and what is none has one fault.
use Rattle.std.proofs.Common.{◌≡◌, refl, ap, ◌∙◌, Bool, true, false, List, [], ◌∷◌, Some, None, if◌then◌else◌}
use Rattle.std.specs.Prelude.{Option, ℤ}
use Rattle.vl_tree.specs.Syntax.{Place, Expr}
use Rattle.vl_tree.specs.declared.fault.FaultKind.TheVariants.{NotConstant}
use Rattle.vl_value.specs.Constant.{is_constant}
use Rattle.vl_value.specs.Order.{Found, at}
use Rattle.vl_value.specs.Meaning.{Meaning, whole}
use Rattle.vl_value.specs.Faults.{settled, unsettled, faults, start, constant_meaning}
use Rattle.vl_width.specs.Known.{known}
use Rattle.vl_width.proofs.Settled.{known_settled}
use Rattle.vl_design.specs.Constants.{Known, is_faulty, sight_of, mentions, value_of, needs}
use Rattle.vl_design.specs.Spans as d
use Rattle.vl_constants.specs.Needed.{index_in}

pub is_value : (k : Known) (e : Expr) → known (sight_of k) e ≡ value_of k e
is_value k e = known_settled (sight_of k) e

-- ---- faults

needs_nothing : (t b : Bool) (fs : List Found) (m x : Meaning) (z : ℤ) (p : Place) → Some m ≡ settled b fs x
    → (if t then [] else unsettled p (settled b fs z)) ≡ []
needs_nothing true b fs m x z p h = refl
needs_nothing false true [] m x z p h = refl
needs_nothing false true (f ∷ fs) m x z p h = absurd cc
needs_nothing false false fs m x z p h = absurd cc

needs_a_constant : (t b : Bool) (fs : List Found) (x : Meaning) (z : ℤ) (p : Place) → None ≡ settled b fs x
    → (if t then [] else unsettled p (settled b fs z)) ≡ (if t then [] else at p NotConstant ∷ [])
needs_a_constant true b fs x z p h = refl
needs_a_constant false true [] x z p h = absurd cc
needs_a_constant false true (f ∷ fs) x z p h = refl
needs_a_constant false false fs x z p h = refl

pub nothing_needed : (k : Known) (e : Expr) (m : Meaning) → Some m ≡ known (sight_of k) e → needs k e ≡ []
nothing_needed k e m h =
    needs_nothing (mentions (λ x. is_faulty (k x)) e) (is_constant (sight_of k) e) (faults (sight_of k) e) m
    (constant_meaning (sight_of k) e) (whole (constant_meaning (sight_of k) e)) (start e) (h ∙ is_value k e)

pub constant_needed : (k : Known) (e : Expr) → None ≡ known (sight_of k) e
    → needs k e ≡ (if mentions (λ x. is_faulty (k x)) e then [] else at (start e) NotConstant ∷ [])
constant_needed k e h =
    needs_a_constant (mentions (λ x. is_faulty (k x)) e) (is_constant (sight_of k) e) (faults (sight_of k) e)
    (constant_meaning (sight_of k) e) (whole (constant_meaning (sight_of k) e)) (start e) (h ∙ is_value k e)

-- ---- bounds

pub bound_number : (k : Known) (e : Expr) (o : Option Meaning) → o ≡ value_of k e → index_in o ≡ (d.bound k e).number
bound_number k e o h = ap index_in h ∙ by_value (value_of k e) where
  by_value : (v : Option Meaning) → index_in v ≡ (elim v [ Some m ↦ d.index_of (whole m) | None ↦ d.missing ])
  by_value None = refl
  by_value (Some m) = refl
