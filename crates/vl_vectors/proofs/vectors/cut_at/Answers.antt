use Rattle.std.proofs.Common.{refl}
use Rattle.dt_core.specs.declared.limits.TheConstants.{MAX_WIDTH}
use Rattle.bit_ops.specs.Operators as ops
use Rattle.vl_width.proofs.Numbers.{extended_low}
use Rattle.vl_nodes.specs.Sense.{on_one}
use Rattle.vl_vectors.proofs.Joining.{then}
use Rattle.vl_vectors.proofs.vectors.cut_at.Goals as goal

pub returns-clause-made : goal.returns-clause-made
returns-clause-made c = λ g x i.
    let w = c.args.size.width in let u = c.args.of.width in let b = c.args.by_sign in
    let made = c.in_ok-wide.ensures.made g x i in
    let wide = on_one (ops.extend b u MAX_WIDTH) x in
    then g c.args.nodes.now c.extend.new.self c.cut.new.self w (on_one (ops.low w) wide) (on_one (ops.extend b u w) x) c.cut.result made.1.grown
    (c.cut.ensures.made g wide made.1.is) (λ v fit. extended_low b u w (x.value v) c.args.size.wide.1) (λ q some. refl)
