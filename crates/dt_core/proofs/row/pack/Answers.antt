use Rattle.std.proofs.Common.{ap, ◌∙◌, arith}
use Rattle.dt_core.specs.Packing.{number, put}
use Rattle.dt_core.proofs.RowLaws.{place_within, next_place, packed_next, packed_all}
use Rattle.dt_core.proofs.row.pack.Goals as goal

pub write-requires-clause-within : goal.write-requires-clause-within
write-requires-clause-within c =
    omega (arith, place_within c.args.values.now c.loop-value.value-index c.value-item.result (omega arith) c.value-item.is)

pub write-requires-clause-counted : goal.write-requires-clause-counted
write-requires-clause-counted c =
    omega (arith, place_within c.args.values.now c.loop-value.value-index c.value-item.result (omega arith) c.value-item.is)

pub overflow_add-from : goal.overflow_add-from
overflow_add-from c =
    omega (arith, place_within c.args.values.now c.loop-value.value-index c.value-item.result (omega arith) c.value-item.is)

pub loop-value-preserved : goal.loop-value-preserved
loop-value-preserved c =
    let xs = c.args.values.now in
    let k = c.loop-value.value-index in
    let b = c.value-item.result in
    record {
      place = omega (arith, next_place xs k b (omega arith) c.value-item.is);
      packed = packed_next xs k (number c.loop-value.bytes) (number c.write.new.bytes) b (omega arith) c.value-item.is
          (c.write.ensures ∙ ap (λ f. put (number c.loop-value.bytes) f b.width b.value) c.loop-value.invariant.place) c.loop-value.invariant.packed;
    }

pub returns : goal.returns
returns c = packed_all c.args.values.now c.loop-value.value-index (number c.loop-value.bytes) (omega arith) c.loop-value.invariant.packed
