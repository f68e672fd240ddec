-- Bits of numbers, taken and put side by side.
use Rattle.std.proofs.Common.{◌≡◌, ℕ, ◌+◌, ◌*◌, ◌/◌, ◌%◌, ◌^◌, ◌<◌, inl, inr, sym, ap, ◌∙◌, subst, arith}
use Rattle.std.specs.Prelude.{pos}
use Rattle.std.specs.Int.{bit_at}
use Rattle.std.proofs.Math.Nat.{mod-lt, mod-eq_of_lt, div-one}
use Rattle.std.proofs.lemmas.Bool.{cases_lt}
use Rattle.std.proofs.lemmas.Nat.{pow_pos, pow-add, shr-shr, mod-pow-add, mul-add-lt}
use Rattle.std.proofs.lemmas.Nat.Bits.{bit_at_above, same_from_bits}
use Rattle.bit_ops.specs.Operators as ops
use Rattle.netlist.proofs.Bits.{low_bit, high_bit}

pub below_select : (k w n : ℕ) → ops.select (pos k) w n < 2 ^ w
below_select k w n = mod-lt (n / 2 ^ k) (pow_pos w)

pub same_low : (w n : ℕ) → n < 2 ^ w → ops.low w n ≡ n
same_low w n l = mod-eq_of_lt l

pub all_bits : (w n : ℕ) → n < 2 ^ w → n ≡ ops.select (pos 0) w n
all_bits w n l =
    let whole : n / 1 ≡ n = div-one n in
    sym (ap (λ x. x % 2 ^ w) whole ∙ mod-eq_of_lt l)

-- equal bits from two places on are equal numbers
pub same_bits : (a b j k w : ℕ) → ((i : ℕ) → i < w → bit_at a (j + i) ≡ bit_at b (k + i))
    → ops.select (pos j) w a ≡ ops.select (pos k) w b
same_bits a b j k w h = same_from_bits (a / 2 ^ j % 2 ^ w) (b / 2 ^ k % 2 ^ w) (λ i. elim (cases_lt i w) [
  | inl inside ↦ low_bit w (a / 2 ^ j) i inside ∙ high_bit j a i ∙ h i inside ∙ sym (high_bit k b i)
      ∙ sym (low_bit w (b / 2 ^ k) i inside)
  | inr beyond ↦ bit_at_above (a / 2 ^ j % 2 ^ w) w i (mod-lt (a / 2 ^ j) (pow_pos w)) beyond
      ∙ sym (bit_at_above (b / 2 ^ k % 2 ^ w) w i (mod-lt (b / 2 ^ k) (pow_pos w)) beyond)
])

-- bits from a place on, and those after them to their left
pub more_bits : (x k v w : ℕ)
    → ops.concat w (ops.select (pos (k + w)) v x) (ops.select (pos k) w x) ≡ ops.select (pos k) (v + w) x
more_bits x k v w =
    ap (λ y. (y % 2 ^ v) * 2 ^ w + (x / 2 ^ k) % 2 ^ w) (sym (shr-shr x k w)) ∙ sym (mod-pow-add (x / 2 ^ k) v w)

pub below_concat : (v w a b : ℕ) → a < 2 ^ v → b < 2 ^ w → ops.concat w a b < 2 ^ (v + w)
below_concat v w a b l m =
    let turned : w + v ≡ v + w = omega arith in
    subst (λ k. a * 2 ^ w + b < 2 ^ k) turned
    (subst (λ x. a * 2 ^ w + b < x) (sym (pow-add 2 w v)) (mul-add-lt a (2 ^ w) b (2 ^ v) l m))
