-- A number without a base.
use Rattle.std.proofs.Common.{◌≡◌, ℕ, List, [], ◌∷◌, refl, sym, ap, subst, ◌∙◌, take, drop, None}
use Rattle.std.specs.Prelude.{Result}
use Rattle.std.specs.List.{prefix_len}
use Rattle.vl_lex.specs.Numbers.{is_in_decimal, format_at, plain_number, number_by, number_at}
use Rattle.vl_lex.specs.Calls.Reading.{Tells}
use Rattle.vl_tree.specs.declared.fault.FaultKind.{FaultKind}
use Rattle.vl_lex.specs.declared.numbers.Number.{Number}

no_base : (size rest : List ℕ) → (size ≡ [] → ⊥) → number_by size None rest ≡ plain_number size rest
no_base [] rest h = absurd (h refl)
no_base (b ∷ bs) rest h = refl

-- after digits without an apostrophe and a base, the number is plain
pub tells_plain : (bs size rest : List ℕ) (n : ℕ) (r : Result Number FaultKind) → n ≡ prefix_len is_in_decimal bs → size ≡ take n bs → rest ≡ drop n bs → format_at rest ≡ None → (size ≡ [] → ⊥)
    → Tells (plain_number size rest) r → Tells (number_at bs) r
tells_plain bs size rest n r e s t f some tells =
    let k : ℕ = prefix_len is_in_decimal bs in
    let s' : take k bs ≡ size = ap (λ x. take x bs) (sym e) ∙ sym s in
    let t' : drop k bs ≡ rest = ap (λ x. drop x bs) (sym e) ∙ sym t in
    let g : number_at bs ≡ plain_number size rest =
    ap (λ x. number_by x (format_at (drop k bs)) (drop k bs)) s' ∙ ap (λ x. number_by size (format_at x) x) t' ∙ ap (λ x. number_by size x rest) f ∙ no_base size rest some in
    subst (λ x. Tells x r) (sym g) tells
