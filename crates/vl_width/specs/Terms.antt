-- What a constant is worth at each size of its context (IEEE 1364-2005, 5.5.2): a number is extended, an operator that
-- takes its operands at the context's size does so. This project's own: what has a size of its own is a number already.
use Rattle.std.specs.Prelude.{◌≡◌, ℕ, Bool, ◌&&◌, List, [], ◌∷◌, Option, Result, IfOk}
use Rattle.std.specs.Option.{option_map}
use Rattle.bit_ops.specs.Operators as ops
use Rattle.bit_ops.specs.Applied as applied
use Rattle.bit_ops.specs.declared.operator.Binary.{Binary}
use Rattle.bit_ops.specs.declared.operator.Binary.TheVariants as two
use Rattle.vl_value.specs.Meaning.{Meaning}
use Rattle.vl_width.specs.declared.number.Constant.{Constant}
use Rattle.vl_width.specs.declared.known.Known.{Known}
use Rattle.vl_width.specs.declared.known.Branch.{Branch}
use Rattle.vl_width.specs.declared.term.Step.{Step}
use Rattle.vl_width.specs.declared.term.Step.TheVariants as step
use Rattle.vl_width.specs.declared.term.Term.{Term}
use Rattle.vl_width.specs.declared.term.Term.TheOpen.{Term-F}
use Rattle.vl_width.specs.declared.term.Term.TheFolds.{fold-Term}

-- the value at a width and a sign
abbrev pub At : Type 0
At = ℕ → Bool → ℕ

-- a shift by a distance; what is no shift does nothing
abbrev pub shift_at : Binary → Bool → ℕ → ℕ → ℕ → ℕ
shift_at two.Shl s w a n = applied.binary two.Shl s w a n
shift_at two.Shr s w a n = applied.binary two.Shr s w a n
shift_at two.Sar s w a n = applied.binary two.Sar s w a n
shift_at f s w a n = a

-- what a step makes of a value at a width and a sign
abbrev pub stepped : ℕ → Bool → ℕ → Step At → ℕ
stepped w s n (step.Alike f b) = applied.binary f s w n (b w s)
stepped w s n (step.Shift f d) = shift_at f s w n d.value

abbrev pub run : ℕ → Bool → ℕ → List (Step At) → ℕ
run w s n [] = n
run w s n (k ∷ ks) = run w s (stepped w s n k) ks

abbrev pub number_at : Constant → At
number_at c = λ w s. ops.extend (c.signed && s) c.bits.width w c.bits.value

abbrev pub layer : Term-F At → At
layer (Term-F.Number c) = number_at c
layer (Term-F.Unary f a) = λ w s. applied.unary f w (a w s)
layer (Term-F.Chain a ks) = λ w s. run w s (a w s) ks

abbrev pub at_of : Term → At
at_of = fold-Term At layer

-- steps of the program
abbrev pub step_at : Step Term → Step At
step_at (step.Alike f b) = step.Alike f (at_of b)
step_at (step.Shift f d) = step.Shift f d

abbrev pub run_terms : ℕ → Bool → ℕ → List (Step Term) → ℕ
run_terms w s n [] = n
run_terms w s n (k ∷ ks) = run_terms w s (stepped w s n (step_at k)) ks

-- what a constant means
abbrev pub meant : Known → Meaning
meant k = record { width = k.size.width; signed = k.size.signed; at = at_of k.term }

-- a condition, and the value where it holds
abbrev pub branch : Branch → Meaning × Meaning
branch b = (meant b.condition, meant b.value)

-- what a walk gives, where memory is enough
abbrev pub Gives : {E : Type 0} → Result (Option Known) E → Option Meaning → Type 0
Gives r o = IfOk r (λ k. option_map meant k ≡ o)

-- a term that has this value at each size
abbrev pub IsTerm : {E : Type 0} → Result Term E → At → Type 0
IsTerm r a = IfOk r (λ t. at_of t ≡ a)

-- a value with one step more
abbrev pub then_step : At → Step Term → At
then_step a k = λ w s. stepped w s (a w s) (step_at k)

-- a chain's value
abbrev pub chain_at : At → List (Step Term) → At
chain_at a ks = λ w s. run_terms w s (a w s) ks
