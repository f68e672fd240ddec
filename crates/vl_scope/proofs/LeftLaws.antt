-- What is left after one number and then another.
use Rattle.std.proofs.Common.{◌≡◌, ℕ, ◌+◌, Option, Some, None, sym, ap, ◌∙◌, arith}
use Rattle.std.proofs.lemmas.Bool.Decides.{nat_tests}
use Rattle.vl_scope.specs.Left.{left_after}

left_after-some : (left new n m : ℕ) → Some new ≡ left_after left n → left_after new m ≡ left_after left (n + m)
left_after-some left new n m h = grind (arith, nat_tests)

left_after-none : (left n m : ℕ) → None ≡ left_after left n → None ≡ left_after left (n + m)
left_after-none left n m h = grind (arith, nat_tests)

pub left_after-zero : (left : ℕ) → Some left ≡ left_after left 0
left_after-zero left = grind (arith, nat_tests)

-- a part was counted: the rest decides for all
pub counted_on : (left new n m k : ℕ) (whole : Option ℕ) → Some new ≡ left_after left n → k ≡ n + m → left_after left k ≡ whole → left_after new m ≡ whole
counted_on left new n m k whole some sum all = left_after-some left new n m some ∙ ap (left_after left) (sym sum) ∙ all

-- a part was too much: so is all
pub counted_out : (left n m k : ℕ) (whole : Option ℕ) → None ≡ left_after left n → k ≡ n + m → left_after left k ≡ whole → None ≡ whole
counted_out left n m k whole none sum all = left_after-none left n m none ∙ ap (left_after left) (sym sum) ∙ all
