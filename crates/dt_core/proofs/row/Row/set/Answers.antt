use Rattle.std.proofs.Common.{length, take, sym, ap, ◌∙◌, arith}
use Rattle.std.specs.List.{sum}
use Rattle.std.proofs.lemmas.List.{length-take-le, with_items_is}
use Rattle.dt_core.specs.Packing.{number, unpacked, put}
use Rattle.dt_core.proofs.RowLaws.{width_in_row, place_in_row, value_put}
use Rattle.dt_core.proofs.row.Row.set.Goals as goal

pub slice_bounds-bits_of-end : goal.slice_bounds-bits_of-end
slice_bounds-bits_of-end c =
    let r = c.self.inside in
    let there = width_in_row r.widths.items (number r.bytes.items) c.args.k c.args.value.width c.args.self.now c.self.view_is c.requires in
    sym (length-take-le c.args.k c.deref.result.now (omega (arith, there.0, ap length c.deref.ensures.value)))

pub write-requires-clause-within : goal.write-requires-clause-within
write-requires-clause-within c =
    let r = c.self.inside in
    let there = width_in_row r.widths.items (number r.bytes.items) c.args.k c.args.value.width c.args.self.now c.self.view_is c.requires in
    omega (
      arith,
      c.bits_of-from.ensures ∙ ap (λ ws. sum (take c.args.k ws)) c.deref.ensures.value,
      place_in_row r.widths.items c.args.k c.args.value.width there.0 there.1,
      ap length c.deref_mut.ensures.value,
      c.self.invariant.tight,
    )

pub write-requires-clause-counted : goal.write-requires-clause-counted
write-requires-clause-counted c =
    let r = c.self.inside in
    let there = width_in_row r.widths.items (number r.bytes.items) c.args.k c.args.value.width c.args.self.now c.self.view_is c.requires in
    omega (
      arith,
      c.bits_of-from.ensures ∙ ap (λ ws. sum (take c.args.k ws)) c.deref.ensures.value,
      place_in_row r.widths.items c.args.k c.args.value.width there.0 there.1,
      c.self.invariant.counted,
    )

pub returns : goal.returns
returns c =
    let r = c.self.inside in
    let b = c.args.value in
    let there = width_in_row r.widths.items (number r.bytes.items) c.args.k b.width c.args.self.now c.self.view_is c.requires in
    let from = c.bits_of-from.ensures ∙ ap (λ ws. sum (take c.args.k ws)) c.deref.ensures.value in
    let written = c.write.ensures ∙ ap (λ bs. put (number bs) c.bits_of-from.result b.width b.value) c.deref_mut.ensures.value
    ∙ ap (λ f. put (number r.bytes.items) f b.width b.value) from in
    ap (λ bs. unpacked r.widths.items (number bs)) (with_items_is r.bytes c.write.new.bytes (omega arith))
    ∙ value_put r.widths.items (number r.bytes.items) (number c.write.new.bytes) c.args.k b c.args.self.now c.self.view_is there.0 there.1 written
