use Rattle.std.proofs.Common.{arith, sym, ◌∙◌, ◌≡◌, false, ap, length}
use Rattle.vl_lex.specs.Calls.Reading.{ends_attribute}
use Rattle.vl_lex.proofs.AttributeLaws.{close_start, close_next}
use Rattle.vl_lex.proofs.attributes.close_length.Goals as goal

pub loop-first-init : goal.loop-first-init
loop-first-init c = record { so_far = close_start c.args.bytes.now; within = omega arith }

pub loop-first-preserved : goal.loop-first-preserved
loop-first-preserved c =
    let e : ends_attribute c.loop-first.at c.loop-first.rest.now ≡ false = sym c.ends_attribute.ensures ∙ c.if-ends_attribute.false in
    let n = c.after_byte-at.ensures in
    let l = ap length c.in-Some.ensures in
    record {
      so_far = rw n (close_next c.args.bytes.now c.loop-first.rest.now c.in-Some.after.now c.loop-first.at c.in-Some.first c.in-Some.ensures c.loop-first.invariant.within e c.loop-first.invariant.so_far);
      within = omega (arith, l, c.loop-first.invariant.within);
    }
