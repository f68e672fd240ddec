use Rattle.std.proofs.Common.{◌<◌, ◌^◌, true, arith, subst, refl}
use Rattle.std.specs.Prelude.{IfOk}
use Rattle.vl_width.specs.Objects.{plain_shape}
use Rattle.vl_nodes.specs.Sense.{selected, on_one, on_two}
use Rattle.vl_nodes.specs.Calls.{MakesAt}
use Rattle.vl_nodes.proofs.Making.{is_kept}
use Rattle.vl_vectors.proofs.Joining.{then}
use Rattle.vl_places.specs.Places as places
use Rattle.vl_places.specs.Steps as steps
use Rattle.vl_places.proofs.Selected.{part_are}
use Rattle.vl_places.proofs.places.node_bits_by.Goals as goal

pub returns-clause-made : goal.returns-clause-made
returns-clause-made c = λ g y x of i.
    let n0 = c.args.nodes.now in let n1 = c.place_by.new.nodes in let n2 = c.select.new.self in
    let p = c.args.part in let sh = plain_shape c.args.shape in
    let bound : sh.right < 2 ^ 32 = omega (arith, c.args.shape.bounded.1) in
    let place = on_one (steps.place sh p.way p.count p.signed p.index.width) x in
    let a = c.in_ok-place.ensures.made g x i in
    let made = c.select.ensures.made g y place (is_kept g n0 n1 c.args.of y a.1.grown of) a.1.is in
    then g n0 n1 n2 p.count (on_two (selected true 70 p.count) y place) (places.node_bits_by sh p y x) c.select.result a.1.grown
    (subst (λ k. IfOk c.select.result (MakesAt g n1 n2 p.count (on_two (selected true k p.count) y place))) a.0 made)
    (λ v fit. part_are sh p.way p.count p.signed p.index.width (x.value v) (y.value v) c.args.of.width c.requires.some.0 c.requires.some.1
    bound (i.fits v fit) of.is_width.1 (of.fits v fit))
    (λ q one. refl)
