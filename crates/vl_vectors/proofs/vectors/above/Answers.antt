use Rattle.std.proofs.Common.{sym, ◌≡◌, ◌+◌, ◌-◌, ◌<◌, ◌≤◌, arith, pos, subst, false}
use Rattle.std.specs.Prelude.{slice_get, slice_index, IsSomeAnd, IfOk, min}
use Rattle.vl_nodes.specs.Calls.{MakesAt}
use Rattle.bit_ops.specs.Operators as ops
use Rattle.netlist.specs.declared.design.Range.{Range}
use Rattle.vl_nodes.specs.Sense.{number, bits, on_one}
use Rattle.vl_nodes.proofs.Making.{grows_none}
use Rattle.vl_vectors.specs.Vectors.{bits_at}
use Rattle.vl_vectors.proofs.Joining.{then}
use Rattle.vl_vectors.proofs.Places.{none_above, reads_above}
use Rattle.vl_vectors.proofs.Bits.{all_above, some_above}
use Rattle.vl_vectors.proofs.vectors.above.Goals as goal

pub returns-then-low-from-clause-made : goal.returns-then-low-from-clause-made
returns-then-low-from-clause-made c = λ g at.
    let t = c.args.signal in let u = c.args.width in let k = c.args.low in let n = c.args.count in
    let far : u ≤ k = omega (arith, c.if-low-from.true, c.from.ensures) in
    then g c.args.nodes.now c.args.nodes.now c.number.new.self n (number 0) (bits_at t u (pos k) n) c.number.result (grows_none g c.args.nodes.now)
    (c.number.ensures.made g) (λ v fit. all_above u k n (slice_index v.signals t) far (fit.signals t u at))
    (λ q some. sym (none_above q t u k n far))

pub returns-clause-made : goal.returns-clause-made
returns-clause-made c = λ g at.
    let t = c.args.signal in let u = c.args.width in let k = c.args.low in let n = c.args.count in let m = c.min-inside.result in
    let near : k < u = omega (arith, c.if-low-from.false, c.from.ensures) in
    let few : m ≡ min n (u - k) = c.min-inside.ensures in
    let r : Range = record { signal = t; low = k; width = m } in
    let has : IsSomeAnd (slice_get g.signals t) (λ w. k + m ≤ w) =
    subst (λ o. IsSomeAnd o (λ w. k + m ≤ w)) (sym at) (omega (arith, near, few)) in
    let made = c.in_ok-bits.ensures.made g has in
    then g c.args.nodes.now c.bits.new.self c.extend.new.self n (on_one (ops.extend false m n) (bits r)) (bits_at t u (pos k) n) c.extend.result
    made.1.grown
    (subst (λ w. IfOk c.extend.result (MakesAt g c.bits.new.self c.extend.new.self n (on_one (ops.extend false w n) (bits r)))) made.0
    (c.extend.ensures.made g (bits r) made.1.is))
    (λ v fit. some_above u k n (slice_index v.signals t) m near few (fit.signals t u at))
    (λ q some. reads_above q t u k n m near few c.requires.some.0 some)
