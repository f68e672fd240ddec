use Rattle.std.proofs.Common.{◌+◌, ◌*◌, ◌^◌, ◌<◌, ℕ, drop, get_or, length, refl, ap₂, ◌∙◌, arith}
use Rattle.packed_rows.specs.Packed.{packed}
use Rattle.packed_rows.specs.Words.{place, written}
use Rattle.packed_rows.proofs.PackLaws.{sum_from, fits_from, packed_step}
use Rattle.packed_rows.proofs.pack.pack.Goals as goal

pub loop-k-preserved : goal.loop-k-preserved
loop-k-preserved c =
    let ws = c.args.widths.now in
    let xs = c.args.row.now in
    let k = c.loop-k.k in
    let was = c.loop-k.invariant in
    let put = c.put-held.ensures in
    let less : k < length xs = omega arith in
    let w = get_or ws k 0 in
    let x = get_or xs k 0 in
    record {
      held = put.held;
      put = omega (arith, put.place, sum_from ws k w c.loop-k-test.true refl, was.put);
      fit = (fits_from ws xs k w x c.loop-k-test.true less refl refl was.fit).1;
      size = omega (arith, was.size);
      whole = ap₂ (λ (n p : ℕ). n + 2 ^ p * packed (drop (k + 1) ws) (drop (k + 1) xs)) put.written put.place
          ∙ packed_step ws xs k w x (place c.loop-k.held) (written c.loop-k.words c.loop-k.held) (packed ws xs)
          c.loop-k-test.true less refl refl was.whole;
    }
