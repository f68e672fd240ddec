-- No bit lies in two parts: those in order are apart, and ranges that are apart have no bit in common.
use Rattle.std.proofs.Common.{◌≡◌, ℕ, ◌<◌, ◌⊎◌, List, length, get_or, arith}
use Rattle.std.proofs.Math.Logic.{⊎_elim}
use Rattle.std.proofs.lemmas.Bool.{cases_order}
use Rattle.netlist.specs.Fits.{IsBefore, AreInOrder, AreApart}
use Rattle.netlist.specs.Laws.{HasBit, PartsLaw}
use Rattle.netlist.specs.declared.design.Range.{Range}
use Rattle.netlist.proofs.Apart.{all_before}

no_common_bit : (r q : Range) (s k : ℕ) → IsBefore r q → HasBit r s k → HasBit q s k → ⊥
no_common_bit r q s k p a b = grind arith

none_in_both : (r q : Range) (s k : ℕ) → AreApart r q → HasBit r s k → HasBit q s k → ⊥
none_in_both r q s k p a b =
    ⊎_elim (λ (x : IsBefore r q). no_common_bit r q s k x a b) (λ (x : IsBefore q r). no_common_bit q r s k x b a) p

one_part : {X : Type 0} (range : X → Range) (xs : List X) → AreInOrder range xs → (i j s k : ℕ) (d : X)
    → i < length xs → j < length xs → HasBit (range (get_or xs i d)) s k → HasBit (range (get_or xs j d)) s k → i ≡ j
one_part range xs o i j s k d v w a b =
    ⊎_elim (λ (e : i ≡ j). e)
    (λ (r : (i < j) ⊎ (j < i)). ⊎_elim
    (λ (l : i < j). absurd (no_common_bit (range (get_or xs i d)) (range (get_or xs j d)) s k
    (all_before range xs o i j d l w) a b))
    (λ (l : j < i). absurd (no_common_bit (range (get_or xs j d)) (range (get_or xs i d)) s k
    (all_before range xs o j i d l v) b a)) r) (cases_order i j)

pub parts_law : PartsLaw
parts_law f w = record {
  driven = λ i j s k d v l a b. one_part (λ p. p.range) f.driven w.parts.driven_order i j s k d v l a b;
  registers = λ i j s k d v l a b. one_part (λ p. p.range) f.registers w.parts.register_order i j s k d v l a b;
  both = λ i j s k d e v l a b. none_in_both _ _ s k (w.parts.apart i j d e v l) a b;
}
