use Rattle.std.proofs.Common.{ap, refl, false, nat_lt}
use Rattle.vl_nodes.specs.Sense.{on_one}
use Rattle.vl_nodes.proofs.Making.{grows_on}
use Rattle.vl_vectors.proofs.Joining.{then}
use Rattle.vl_width.specs.Objects.{plain_shape}
use Rattle.vl_places.specs.Steps as steps
use Rattle.vl_places.proofs.places.place_by.Goals as goal

pub returns-clause-made : goal.returns-clause-made
returns-clause-made c = λ g x i.
    let n0 = c.args.nodes.now in let n1 = c.near.new.nodes in let n2 = c.difference.new.nodes in let n3 = c.difference-2.new.nodes in
    let p = c.args.part in let sh = c.args.shape in let ascending = nat_lt sh.left sh.right in
    let index = on_one (steps.near p.signed p.index.width) x in let first = on_one (steps.difference ascending sh.right) index in
    let a = c.in_ok-index.ensures.made g x i in
    let b = c.in_ok-first.ensures.made g index a.1.is in
    let made = c.difference-2.ensures.made g first b.1.is in
    then g n0 n2 n3 70 (on_one (steps.difference false c.behind.result) first)
    (on_one (steps.place (plain_shape sh) p.way p.count p.signed p.index.width) x) c.difference-2.result
    (grows_on g n0 n1 n2 a.1.grown b.1.grown) made
    (λ v fit. ap (λ k. steps.difference false k (first.value v)) c.behind.ensures) (λ q some. refl)
