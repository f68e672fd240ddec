use Rattle.std.proofs.Common.{◌<◌, ◌^◌, ap, ◌∙◌, refl, subst}
use Rattle.bit_ops.specs.Operators as ops
use Rattle.bit_ops.specs.Applied as applied
use Rattle.vl_nodes.specs.Sense.{on_one}
use Rattle.vl_vectors.proofs.Joining.{then}
use Rattle.vl_operated.proofs.Sizes.{unary_low}
use Rattle.vl_operated.proofs.operated.unary_at.Goals as goal

pub returns-clause-made : goal.returns-clause-made
returns-clause-made c = λ g x i.
    let n0 = c.args.nodes.now in let n1 = c.unary.new.self in let n2 = c.resized.new.nodes in
    let w = c.args.size.width in let f = c.args.operator in let u = c.args.of.width in
    let a = c.in_ok-made.ensures.made g x i in
    let y = on_one (applied.unary f u) x in
    then g n0 n1 n2 w (on_one (ops.low w) y) (on_one (applied.unary f w) x) c.resized.result a.1.grown
    (c.resized.ensures.made g y a.1.is)
    (λ v fit. ap (λ k. ops.low w (applied.unary f k (x.value v))) c.requires
    ∙ unary_low f w (x.value v) c.args.size.wide.0 (subst (λ k. x.value v < 2 ^ k) c.requires (i.fits v fit)))
    (λ q some. refl)
