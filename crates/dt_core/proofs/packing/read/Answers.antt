use Rattle.std.proofs.Common.{◌/◌, ◌%◌, ◌^◌, ap, ◌∙◌, arith}
use Rattle.dt_core.proofs.PackingLaws.{read_next}
use Rattle.dt_core.proofs.packing.read.Goals as goal

pub overflow_add-value : goal.overflow_add-value
overflow_add-value c =
    let p = c.piece_at-piece.result in
    let part = c.from-in-loop-done.ensures ∙ c.field-part.ensures ∙ ap (λ b. b / 2 ^ p.low % 2 ^ p.count) c.from.ensures in
    let next = read_next c.args.bytes.now c.args.from c.loop-done.done p.byte p.low p.count c.from-in-loop-done.result c.loop-done.value
    c.loop-done.invariant.value c.piece_at-piece.ensures.place c.piece_at-piece.ensures.within (omega arith) (omega arith)
    (λ k. omega (arith, c.type_inv.bytes k)) part in
    omega (arith, next.1)

pub loop-done-preserved : goal.loop-done-preserved
loop-done-preserved c =
    let p = c.piece_at-piece.result in
    let part = c.from-in-loop-done.ensures ∙ c.field-part.ensures ∙ ap (λ b. b / 2 ^ p.low % 2 ^ p.count) c.from.ensures in
    let next = read_next c.args.bytes.now c.args.from c.loop-done.done p.byte p.low p.count c.from-in-loop-done.result c.loop-done.value
    c.loop-done.invariant.value c.piece_at-piece.ensures.place c.piece_at-piece.ensures.within (omega arith) (omega arith)
    (λ k. omega (arith, c.type_inv.bytes k)) part in
    record { short = omega arith; value = next.0 }
