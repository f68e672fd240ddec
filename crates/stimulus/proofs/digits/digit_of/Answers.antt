use Rattle.std.proofs.Common.{◌≡◌, ◌+◌, ◌∙◌, ap, sym, subst, ℕ, List, slice_index_or, arith}
use Rattle.stimulus.specs.Calls.Digits.{digit_code}
use Rattle.stimulus.proofs.DigitLaws.{code_at, codes_from}
use Rattle.stimulus.proofs.digits.digit_of.Goals as goal

pub returns : goal.returns
returns c =
    let P : List ℕ → Type 0 = λ x. slice_index_or x c.args.byte 0 ≡ digit_code c.args.byte in
    let none : 0 + c.args.byte ≡ c.args.byte = omega arith in
    let all : P (codes_from 0 256) = code_at 0 256 c.args.byte 0 (omega (arith, c.ranges.byte)) ∙ ap digit_code none in
    subst P (sym c.as_slice-digits.ensures) all
