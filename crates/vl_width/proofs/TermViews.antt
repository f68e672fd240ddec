-- What terms are worth.
use Rattle.std.proofs.Common.{◌≡◌, List, [], ◌∷◌, ◌++◌, rules, map, refl, ◌∙◌, ℕ, Bool}
use Rattle.std.specs.Prelude.{◌&&◌}
use Rattle.bit_ops.specs.Operators as ops
use Rattle.bit_ops.specs.Applied as applied
use Rattle.bit_ops.specs.declared.operator.Unary.{Unary}
use Rattle.vl_width.specs.declared.number.Constant.{Constant}
use Rattle.vl_width.specs.declared.term.Step.{Step}
use Rattle.vl_width.specs.declared.term.Term.{Term, the_lemmas}
use Rattle.vl_width.specs.declared.term.Term.TheVariants as term
use Rattle.vl_width.specs.declared.term.Term.TheOpen.{Term-F}
use Rattle.vl_width.specs.Terms.{at_of, layer, run, run_terms, stepped, step_at}

pub at-number : (c : Constant) → at_of (term.Number c) ≡ (λ w s. ops.extend (c.signed && s) c.bits.width w c.bits.value)
at-number c = search (rules, the_lemmas)

pub at-unary : (f : Unary) (a : Term) → at_of (term.Unary f a) ≡ (λ w s. applied.unary f w (at_of a w s))
at-unary f a = search (rules, the_lemmas)

at-chain-map : (a : Term) (ks : List (Step Term)) → at_of (term.Chain a ks) ≡ layer (Term-F.Chain (at_of a) (map step_at ks))
at-chain-map a ks = search (rules, the_lemmas)

run-map : (w : ℕ) (s : Bool) (n : ℕ) (ks : List (Step Term)) → run w s n (map step_at ks) ≡ run_terms w s n ks
run-map w s n [] = refl
run-map w s n (k ∷ ks) = run-map w s (stepped w s n (step_at k)) ks

pub at-chain : (a : Term) (ks : List (Step Term)) → at_of (term.Chain a ks) ≡ (λ w s. run_terms w s (at_of a w s) ks)
at-chain a ks = at-chain-map a ks ∙ (λ i w s. run-map w s (at_of a w s) ks i)

run-one-more : (w : ℕ) (s : Bool) (n : ℕ) (ks : List (Step Term)) (k : Step Term)
    → run_terms w s n (ks ++ k ∷ []) ≡ stepped w s (run_terms w s n ks) (step_at k)
run-one-more w s n [] k = refl
run-one-more w s n (j ∷ ks) k = run-one-more w s (stepped w s n (step_at j)) ks k

-- a chain with one step more
pub at-one-more : (a : Term) (ks : List (Step Term)) (k : Step Term)
    → at_of (term.Chain a (ks ++ k ∷ [])) ≡ (λ w s. stepped w s (run_terms w s (at_of a w s) ks) (step_at k))
at-one-more a ks k = at-chain a (ks ++ k ∷ []) ∙ (λ i w s. run-one-more w s (at_of a w s) ks k i)
