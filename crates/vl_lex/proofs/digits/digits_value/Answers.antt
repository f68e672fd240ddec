use Rattle.std.proofs.Common.{rules, subst, ◌≤◌, ◌^◌, ℕ}
use Rattle.vl_lex.proofs.DigitLaws.{value_is, too_great}
use Rattle.vl_lex.proofs.digits.digits_value.Goals as goal

pub loop-byte-init : goal.loop-byte-init
loop-byte-init c = value_is c.args.radix c.args.digits.now

pub returns-in_err-value : goal.returns-in_err-value
returns-in_err-value c =
    let P : ℕ → Type 0 = λ x. 2 ^ 128 ≤ x in
    rw c.from_residual.ensures (subst P c.loop-byte.invariant (too_great c.args.radix c.loop-byte.value c.loop-byte.byte-index (2 ^ 128) c.args.digits.now c.requires (search rules) c.in_err-value.ensures))
