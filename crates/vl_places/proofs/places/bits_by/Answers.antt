use Rattle.std.proofs.Common.{◌≡◌, ◌+◌, ◌<◌, ◌≤◌, ◌^◌, ◌||◌, true, arith, ap, sym, ◌∙◌, subst}
use Rattle.std.specs.Prelude.{slice_get, slice_index, IsSomeAnd, IfOk}
use Rattle.std.specs.List.{list_any}
use Rattle.netlist.specs.declared.design.Range.{Range}
use Rattle.vl_value.specs.Things.{width_of}
use Rattle.vl_value.specs.Reads.{up_to}
use Rattle.vl_width.specs.Objects.{plain_shape}
use Rattle.vl_nodes.specs.Sense.{bits, selected, on_one, on_two}
use Rattle.vl_nodes.specs.Calls.{MakesAt}
use Rattle.vl_nodes.proofs.Making.{is_kept, grows_on}
use Rattle.vl_vectors.specs.Vectors.{has_place}
use Rattle.vl_vectors.proofs.Joining.{then}
use Rattle.vl_places.specs.Places as places
use Rattle.vl_places.specs.Steps as steps
use Rattle.vl_places.proofs.Selected.{bits_are, whole_read}
use Rattle.vl_places.proofs.places.bits_by.Goals as goal

pub returns-clause-made : goal.returns-clause-made
returns-clause-made c = λ g x at i.
    let n0 = c.args.nodes.now in let n1 = c.place_by.new.nodes in let n2 = c.bits.new.self in let n3 = c.select.new.self in
    let t = c.args.signal in let p = c.args.part in let sh = plain_shape c.args.shape in let u = c.width_of.result in
    let wide : u ≡ width_of sh = c.width_of.ensures in
    let some : 1 ≤ u = omega (arith, wide) in
    let most : u ≤ 128 = omega (arith, wide, c.args.shape.wide) in
    let bound : sh.right < 2 ^ 32 = omega (arith, c.args.shape.bounded.1) in
    let r : Range = record { signal = t; low = 0; width = u } in
    let has : IsSomeAnd (slice_get g.signals t) (λ w. 0 + u ≤ w) =
    subst (λ o. IsSomeAnd o (λ w. 0 + u ≤ w)) (sym at) (omega (arith, wide)) in
    let place = on_one (steps.place sh p.way p.count p.signed p.index.width) x in
    let a = c.in_ok-place.ensures.made g x i in
    let b = c.in_ok-whole.ensures.made g has in
    let made = c.select.ensures.made g (bits r) place b.1.is (is_kept g n1 n2 c.in_ok-place.place place b.1.grown a.1.is) in
    then g n0 n2 n3 p.count (on_two (selected true 70 p.count) (bits r) place) (places.bits_by t sh p x) c.select.result
    (grows_on g n0 n1 n2 a.1.grown b.1.grown)
    (subst (λ k. IfOk c.select.result (MakesAt g n2 n3 p.count (on_two (selected true k p.count) (bits r) place))) a.0 made)
    (λ v fit. bits_are sh p.way p.count p.signed p.index.width (x.value v) (slice_index v.signals t) u c.requires.some.0 c.requires.some.1
    bound (i.fits v fit) most (subst (λ k. slice_index v.signals t < 2 ^ k) (sym wide) (fit.signals t (width_of sh) at)))
    (λ q one. ap (λ y. y || x.reads q) (whole_read q t u some one ∙ ap (λ k. list_any (has_place q t) (up_to k)) wide))
