use Rattle.std.proofs.Common.{sym, ◌∙◌, ◌≡◌, ◌<◌, ◌≤◌, ◌-◌, ◌+◌, arith, pos, negsuc, subst}
use Rattle.std.specs.Prelude.{slice_index, IfOk}
use Rattle.bit_ops.specs.Operators as ops
use Rattle.vl_nodes.specs.Sense.{number, on_two}
use Rattle.vl_nodes.specs.Calls.{MakesAt}
use Rattle.vl_nodes.proofs.Making.{grows_none, grows_on, is_kept, or_none}
use Rattle.vl_vectors.specs.Vectors.{bits_at}
use Rattle.vl_vectors.proofs.Joining.{then}
use Rattle.vl_vectors.proofs.Places.{none_under, reads_below}
use Rattle.vl_vectors.proofs.Bits.{all_below, some_below}
use Rattle.vl_vectors.proofs.vectors.below.Goals as goal

pub returns-then-under-from-clause-made : goal.returns-then-under-from-clause-made
returns-then-under-from-clause-made c = λ g at.
    let t = c.args.signal in let u = c.args.width in let k = c.args.under in let n = c.args.count in
    let far : n ≤ k = omega (arith, c.if-under-from.true, c.from.ensures) in
    then g c.args.nodes.now c.args.nodes.now c.number.new.self n (number 0) (bits_at t u (negsuc (k - 1)) n) c.number.result
    (grows_none g c.args.nodes.now) (c.number.ensures.made g) (λ v fit. all_below k n (slice_index v.signals t) c.requires.under far)
    (λ q some. sym (none_under q t u k n c.requires.under far))

pub returns-clause-made : goal.returns-clause-made
returns-clause-made c = λ g at.
    let t = c.args.signal in let u = c.args.width in let k = c.args.under in let n = c.args.count in
    let near : k < n = omega (arith, c.if-under-from.false, c.from.ensures) in
    let n0 = c.args.nodes.now in let n1 = c.above.new.nodes in let n2 = c.number-2.new.self in let n3 = c.concat.new.self in
    let a = c.in_ok-bits.ensures.made g at in let x = bits_at t u (pos 0) (n - k) in
    let b = c.in_ok-zeros.ensures.made g in
    let whole : c.in_ok-bits.bits.width + c.in_ok-zeros.zeros.width ≡ n = omega (arith, a.0, b.0, near) in
    let joined = c.concat.ensures.made g x (number 0) (is_kept g n1 n2 c.in_ok-bits.bits x b.1.grown a.1.is) b.1.is in
    let wide = subst (λ w. IfOk c.concat.result (MakesAt g n2 n3 w (on_two (ops.concat c.in_ok-zeros.zeros.width) x (number 0)))) whole joined in
    then g n0 n2 n3 n (on_two (ops.concat k) x (number 0)) (bits_at t u (negsuc (k - 1)) n) c.concat.result
    (grows_on g n0 n1 n2 a.1.grown b.1.grown)
    (subst (λ w. IfOk c.concat.result (MakesAt g n2 n3 n (on_two (ops.concat w) x (number 0)))) b.0 wide)
    (λ v fit. some_below k n (slice_index v.signals t) c.requires.under near)
    (λ q some. or_none (x.reads q) ∙ reads_below q t u k n c.requires.under near)
