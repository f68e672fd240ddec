-- What is told of an expression at its context.
use Rattle.std.proofs.Common.{◌≡◌, refl, ap, ◌∙◌, ℕ, Some, None}
use Rattle.std.specs.Prelude.{Option, Ok, Err, max}
use Rattle.std.specs.Option.{option_map}
use Rattle.vl_tree.specs.Syntax.{Expr}
use Rattle.vl_tree.specs.Fault.{Fault}
use Rattle.vl_value.specs.Meaning.{Meaning, meaning}
use Rattle.vl_value.specs.Constant.{Sight}
use Rattle.vl_value.specs.Order.{Found, least, of_phase}
use Rattle.vl_value.specs.Faults.{faults}
use Rattle.vl_value.proofs.OrderLaws.{least_none}
use Rattle.vl_width.specs.Objects.{Numbering}
use Rattle.vl_width.specs.Told.{Tells}
use Rattle.vl_sized.specs.declared.node.SizedNode.{SizedNode}
use Rattle.vl_sized.specs.declared.node.Node.{Node}
use Rattle.vl_found.specs.declared.Found as code
use Rattle.vl_sized.specs.Moments.{in_sight, Sense, sense}
use Rattle.vl_sized.specs.Nodes.{at_of, reads_of}
use Rattle.vl_sized.specs.Plain.{meaning_of, sense_of}
use Rattle.vl_found.specs.View.{found}
use Rattle.vl_sized.specs.Told.{told}
use Rattle.vl_sized.specs.Answered.{IsSized}
use Rattle.vl_sized.specs.Sensed.{sensed}
use Rattle.vl_sized.proofs.Judged.{gone}

told_none : {X : Type 0} (o : Option Found) (x y : X) → Ok x ≡ told o y → o ≡ None
told_none None x y h = refl
told_none (Some g) x y h = absurd cc

told_same : {X : Type 0} (o : Option Found) (x y : X) → Ok x ≡ told o y → x ≡ y
told_same None x y h = cc
told_same (Some g) x y h = absurd cc

told_some : {X : Type 0} (o : Option Found) (g : Found) (y : X) → Err g ≡ told o y → o ≡ Some g
told_some None g y h = absurd cc
told_some (Some f) g y h = cc

pub sized_at : (s : Sight) (ns : Numbering) (e : Expr) (context : ℕ) (x y : SizedNode Node) → Ok (sense_of ns x) ≡ sensed s e
    → y.size.width ≡ max x.size.width context → y.size.signed ≡ x.size.signed → y.node ≡ x.node → IsSized s ns e context y
sized_at s ns e context x y h w g n =
    let is : sense_of ns x ≡ sense s e = told_same (least (faults s e)) (sense_of ns x) (sense s e) (h ∙ gone s e) in
    record {
      sound = least_none (faults s e) (told_none (least (faults s e)) (sense_of ns x) (sense s e) (h ∙ gone s e));
      means = λ t.
          let q : meaning_of ns t x ≡ meaning (in_sight s t) e = ap (λ (a : Sense). a.means t) is in
          record {
            width = w ∙ ap (λ (a : Meaning). max a.width context) q;
            signed = g ∙ ap (λ (a : Meaning). a.signed) q;
            value = (λ i. at_of ns t (n i) (w i) (g i)) ∙ ap (λ (a : Meaning). a.at (max a.width context) a.signed) q;
          };
      reads = ap (reads_of ns) n ∙ ap (λ (a : Sense). a.read) is;
    }

pub tells_least : (s : Sight) (e : Expr) (g : code.Found) (o : Option Fault) → Err (found g) ≡ sensed s e → o ≡ Some (of_phase 6 (found g))
    → Tells 6 (faults s e) o
tells_least s e g o h k =
    let is : least (faults s e) ≡ Some (found g) = told_some (least (faults s e)) (found g) (sense s e) (h ∙ gone s e) in
    rw k (ap (option_map (of_phase 6)) is)
