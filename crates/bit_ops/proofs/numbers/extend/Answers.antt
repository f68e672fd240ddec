use Rattle.std.proofs.Common.{◌≡◌, ◌≤◌, ◌<◌, ℕ, ◌+◌, ◌-◌, ◌*◌, ◌^◌, ◌%◌, sym, ◌∙◌, arith}
use Rattle.std.proofs.lemmas.Nat.{pow_pos}
use Rattle.bit_ops.proofs.Residues.{wider}
use Rattle.bit_ops.proofs.Signs.{sign_bit, kept_unsigned, kept_signed, extended_by_ones}
use Rattle.bit_ops.proofs.numbers.extend.Goals as goal
use Rattle.bit_ops.proofs.numbers.extend.Goals.{else-signed-via-then-signed+else-value-from, else-signed-via-else-signed}

pub overflow_sub-result : goal.overflow_sub-result
overflow_sub-result c =
    let wide : 2 ^ c.args.from ≤ 2 ^ c.args.to = wider c.args.from c.args.to c.requires.widths.1 in omega (arith, wide)

pub returns-then-value-from : goal.returns-then-value-from
returns-then-value-from c =
    let v : ℕ = c.args.from in let w : ℕ = c.args.to in let n : ℕ = c.args.value in
    let wide : 2 ^ v ≤ 2 ^ w = wider v w c.requires.widths.1 in
    let some : 0 < 2 ^ v = pow_pos v in
    let most : v ≤ 128 = omega (arith, c.requires.widths) in
    let bit : 2 * (1 * 2 ^ (v - 1) % 2 ^ 128) ≡ 2 ^ v = sign_bit v c.requires.widths.0 most in
    let high : 2 ^ v ≤ 2 * n = omega (arith, bit, c.if-value-from.true) in
    let added : n + (c.ones.result - c.ones-then-value-from.result) ≡ n + (2 ^ w - 2 ^ v) = omega (arith, wide, some, c.ones.ensures, c.ones-then-value-from.ensures) in
    rw c.if-signed.true (added ∙ sym (extended_by_ones v w n c.requires.fits high wide))

pub returns-else-signed : goal.returns-else-signed
returns-else-signed c =
    let v : ℕ = c.args.from in let w : ℕ = c.args.to in let n : ℕ = c.args.value in
    let wide : 2 ^ v ≤ 2 ^ w = wider v w c.requires.widths.1 in
    let fits : n < 2 ^ w = omega (arith, wide, c.requires.fits) in
    let most : v ≤ 128 = omega (arith, c.requires.widths) in
    let bit : 2 * (1 * 2 ^ (v - 1) % 2 ^ 128) ≡ 2 ^ v = sign_bit v c.requires.widths.0 most in
    elim c.else-signed.branch [
      | else-signed-via-then-signed+else-value-from b ↦
          let low : 2 * n < 2 ^ v = omega (arith, bit, b.if-value-from.false) in
          rw b.if-signed.true (sym (kept_signed v w n low fits))
      | else-signed-via-else-signed b ↦ rw b.if-signed.false (sym (kept_unsigned v w n fits))
    ]
