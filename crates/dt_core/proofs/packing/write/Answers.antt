use Rattle.std.proofs.Common.{set, arith, refl, ap, ◌∙◌, ◌<◌, length}
use Rattle.dt_core.specs.Packing.{number}
use Rattle.dt_core.proofs.ByteLaws.{bytes_after_set}
use Rattle.dt_core.proofs.PackingLaws.{write_none, write_next, write_all}
use Rattle.dt_core.proofs.packing.write.Goals as goal

pub loop-done-init : goal.loop-done-init
loop-done-init c = record {
  short = omega arith;
  fits = λ k. omega (arith, c.type_inv.bytes k);
  written = write_none (number c.args.bytes.now) c.args.from c.args.value.value;
}

pub loop-done-preserved : goal.loop-done-preserved
loop-done-preserved c =
    let p = c.piece_at-piece.result in
    let bs = c.loop-done.bytes in
    let l : p.byte < length bs = omega arith in
    record {
      short = omega arith;
      fits = bytes_after_set bs p.byte c.with_field.result l c.loop-done.invariant.fits (omega arith);
      written = ap (λ b. number (set bs p.byte b)) c.with_field.ensures
          ∙ write_next bs (number c.args.bytes.now) c.args.from c.loop-done.done p.byte p.low p.count c.field-part.result c.args.value.value
          c.loop-done.invariant.written c.piece_at-piece.ensures.place c.piece_at-piece.ensures.within l c.loop-done.invariant.fits
          (rw c.field-part.ensures (rw c.value.ensures refl));
    }

pub returns : goal.returns
returns c =
    write_all (number c.loop-done.bytes) (number c.args.bytes.now) c.args.from c.loop-done.done c.args.value.width c.args.value.value
    c.loop-done.invariant.written (omega arith) c.args.value.fits
