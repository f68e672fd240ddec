use Rattle.std.proofs.Common.{arith, ◌≤◌, ◌<◌, refl, subst}
use Rattle.std.specs.Prelude.{IfOk}
use Rattle.bit_ops.specs.Operators as ops
use Rattle.vl_nodes.specs.Sense.{on_one}
use Rattle.vl_nodes.specs.Calls.{MakesAt}
use Rattle.vl_nodes.proofs.Making.{grows_none}
use Rattle.vl_vectors.proofs.Joining.{then}
use Rattle.vl_places.specs.Steps as steps
use Rattle.vl_places.proofs.Indices.{near_short, near_long}
use Rattle.vl_places.proofs.places.near.Goals as goal

pub returns-then-index-le-INDEX_WIDTH-clause-made : goal.returns-then-index-le-INDEX_WIDTH-clause-made
returns-then-index-le-INDEX_WIDTH-clause-made c = λ g x i.
    let n0 = c.args.nodes.now in let n1 = c.extend.new.self in let s = c.args.signed in let w = c.args.index.width in
    let short : w ≤ 64 = omega (arith, c.if-index-le-INDEX_WIDTH.true) in
    then g n0 n0 n1 70 (on_one (ops.extend s w 70) x) (on_one (steps.near s w) x) c.extend.result (grows_none g n0)
    (c.extend.ensures.made g x i) (λ v fit. near_short s w (x.value v) short) (λ q some. refl)

pub returns-clause-made : goal.returns-clause-made
returns-clause-made c = λ g x i.
    let n0 = c.args.nodes.now in let n1 = c.clamped.new.nodes in let n2 = c.extend-2.new.self in
    let s = c.args.signed in let w = c.args.index.width in let r = c.extend-2.result in
    let long : 64 < w = omega (arith, c.if-index-le-INDEX_WIDTH.false) in
    let a = c.in_ok-clamped.ensures.made g x i in
    let made = c.extend-2.ensures.made g (on_one (steps.clamped s w) x) a.1.is in
    then g n0 n1 n2 70 (on_one (ops.extend s 64 70) (on_one (steps.clamped s w) x)) (on_one (steps.near s w) x) r a.1.grown
    (subst (λ k. IfOk r (MakesAt g n1 n2 70 (on_one (ops.extend s k 70) (on_one (steps.clamped s w) x)))) a.0 made)
    (λ v fit. near_long s w (x.value v) long) (λ q some. refl)
