use Rattle.std.proofs.Common.{◌≡◌, ◌≤◌, ◌^◌, ap, arith}
use Rattle.std.proofs.lemmas.Bool.{le-leb}
use Rattle.std.proofs.lemmas.Nat.{one_shl}
use Rattle.vl_width.proofs.Numbers.{least_power}
use Rattle.vl_width.proofs.known.logarithm.Goals as goal

pub returns-else-k-value-clause-value : goal.returns-else-k-value-clause-value
returns-else-k-value-clause-value c =
    let k = c.loop-k.k in
    let o = one_shl k 128 (omega arith) in
    let h : c.args.a.value ≤ 2 ^ k = omega (arith, o) in
    least_power c.args.a.width c.args.a.value k c.loop-k.invariant.within (le-leb c.args.a.value (2 ^ k) h) c.loop-k.invariant.below

pub returns-after-loop-k-clause-value : goal.returns-after-loop-k-clause-value
returns-after-loop-k-clause-value c =
    let k = c.loop-k.k in
    let e : k ≡ c.args.a.width = omega arith in
    let p : 2 ^ k ≡ 2 ^ c.args.a.width = ap (λ j. 2 ^ j) e in
    let h : c.args.a.value ≤ 2 ^ k = omega (arith, p) in
    least_power c.args.a.width c.args.a.value k c.loop-k.invariant.within (le-leb c.args.a.value (2 ^ k) h) c.loop-k.invariant.below
