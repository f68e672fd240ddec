use Rattle.std.proofs.Common.{◌<◌, ◌^◌, ap, ◌∙◌, refl, subst}
use Rattle.bit_ops.specs.Operators as ops
use Rattle.bit_ops.specs.Applied as applied
use Rattle.vl_nodes.specs.Sense.{on_one, on_two}
use Rattle.vl_vectors.proofs.Joining.{then}
use Rattle.vl_operated.proofs.Sizes.{binary_low}
use Rattle.vl_operated.proofs.operated.alike.Goals as goal

pub returns-clause-made : goal.returns-clause-made
returns-clause-made c = λ g x y i j.
    let n0 = c.args.nodes.now in let n1 = c.binary.new.self in let n2 = c.resized.new.nodes in
    let w = c.args.size.width in let s = c.args.size.signed in let f = c.args.operator in let u = c.args.left.width in
    let a = c.in_ok-made.ensures.made g x y i j in
    let z = on_two (applied.binary f s u) x y in
    then g n0 n1 n2 w (on_one (ops.low w) z) (on_two (applied.binary f s w) x y) c.resized.result a.1.grown
    (c.resized.ensures.made g z a.1.is)
    (λ v fit. ap (λ k. ops.low w (applied.binary f s k (x.value v) (y.value v))) c.requires.left
    ∙ binary_low f s w (x.value v) (y.value v) c.args.size.wide.0
    (subst (λ k. x.value v < 2 ^ k) c.requires.left (i.fits v fit)) (subst (λ k. y.value v < 2 ^ k) c.requires.right (j.fits v fit)))
    (λ q some. refl)
