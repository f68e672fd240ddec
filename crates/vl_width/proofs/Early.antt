-- What is told of an expression that is known, and of one that isn't.
use Rattle.std.proofs.Common.{◌≡◌, refl, sym, ap, ◌∙◌, subst, Bool, true, false, List, [], ◌∷◌, Some, None}
use Rattle.std.specs.Prelude.{ℤ}
use Rattle.vl_tree.specs.Syntax.{Place, Expr}
use Rattle.vl_tree.specs.Fault.{Fault}
use Rattle.vl_value.specs.Constant.{Sight, is_constant}
use Rattle.vl_value.specs.Order.{Found}
use Rattle.vl_value.specs.Meaning.{Meaning, own, whole}
use Rattle.vl_value.specs.Faults.{settled, unsettled, faults, start, constant_meaning, early_faults}
use Rattle.vl_width.specs.declared.number.Constant.{Constant}
use Rattle.std.specs.Option.{option_map}
use Rattle.vl_width.specs.Objects.{plain_constant}
use Rattle.vl_width.specs.Known.{known}
use Rattle.vl_width.specs.Told.{parameter_of, IsConstantOf, Tells}
use Rattle.vl_width.proofs.Settled.{known_settled, settled_map}
use Rattle.std.specs.Prelude.{Option}

of_some : (p : Place) (b : Bool) (fs : List Found) (x m : Meaning) (z : ℤ) → Some m ≡ settled b fs x → unsettled p (settled b fs z) ≡ []
of_some p true [] x m z h = refl
of_some p true (g ∷ fs) x m z h = absurd cc
of_some p false fs x m z h = absurd cc

of_none : (p : Place) (b : Bool) (fs : List Found) (x : Meaning) (z : ℤ) → None ≡ settled b fs x → unsettled p (settled b fs z) ≡ unsettled p None
of_none p true [] x z h = absurd cc
of_none p true (g ∷ fs) x z h = refl
of_none p false fs x z h = refl

same_meaning : (b : Bool) (fs : List Found) (x m : Meaning) → Some m ≡ settled b fs x → m ≡ x
same_meaning true [] x m h = cc
same_meaning true (g ∷ fs) x m h = absurd cc
same_meaning false fs x m h = absurd cc

pub is_constant_of : (s : Sight) (e : Expr) (m : Meaning) (c : Constant) → Some m ≡ known s e → plain_constant c ≡ parameter_of m → IsConstantOf s e c
is_constant_of s e m c h p =
    let k : Some m ≡ settled (is_constant s e) (faults s e) (constant_meaning s e) = h ∙ known_settled s e in
    let same : m ≡ constant_meaning s e = same_meaning (is_constant s e) (faults s e) (constant_meaning s e) m k in
    let w : c.bits.width ≡ m.width = cc in
    let g : c.signed ≡ m.signed = cc in
    let v : c.bits.value ≡ own m = cc in
    record {
      sound = of_some (start e) (is_constant s e) (faults s e) (constant_meaning s e) m (whole (constant_meaning s e)) k;
      width = w ∙ ap (λ (a : Meaning). a.width) same;
      signed = g ∙ ap (λ (a : Meaning). a.signed) same;
      value = v ∙ ap own same;
    }

pub tells_none : (s : Sight) (e : Expr) (o : Option Fault) → None ≡ known s e → Tells 4 (unsettled (start e) None) o → Tells 4 (early_faults s e) o
tells_none s e o h t =
    let k : None ≡ settled (is_constant s e) (faults s e) (constant_meaning s e) = h ∙ known_settled s e in
    subst (λ fs. Tells 4 fs o) (sym (of_none (start e) (is_constant s e) (faults s e) (constant_meaning s e) (whole (constant_meaning s e)) k)) t

pub settled_parameter : (s : Sight) (e : Expr) (o : Option Meaning) → o ≡ known s e
    → option_map parameter_of o ≡ settled (is_constant s e) (faults s e) (parameter_of (constant_meaning s e))
settled_parameter s e o h =
    ap (option_map parameter_of) (h ∙ known_settled s e) ∙ settled_map parameter_of (is_constant s e) (faults s e) (constant_meaning s e)
