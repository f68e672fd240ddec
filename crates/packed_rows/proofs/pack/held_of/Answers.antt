use Rattle.std.proofs.Common.{◌≡◌, ◌+◌, ◌*◌, ◌^◌, ◌<◌, ℕ, drop, get_or, length, refl, ap₂, ◌∙◌, arith}
use Rattle.packed_rows.specs.Packed.{packed}
use Rattle.packed_rows.proofs.PackLaws.{fits_from, one_word, packed_step, sum_from}
use Rattle.packed_rows.proofs.pack.held_of.Goals as goal

pub overflow_cast-row : goal.overflow_cast-row
overflow_cast-row c =
    let ws = c.args.widths.now in
    let xs = c.args.row.now in
    let k = c.loop-k.k in
    let was = c.loop-k.invariant in
    let less : k < length xs = omega arith in
    let w = get_or ws k 0 in
    let x = get_or xs k 0 in
    let fit = (fits_from ws xs k w x c.loop-k-test.true less refl refl was.fit).0 in
    omega (arith, one_word x w (omega (arith, was.put, sum_from ws k w c.loop-k-test.true refl, c.requires.few)) fit)

pub loop-k-preserved : goal.loop-k-preserved
loop-k-preserved c =
    let ws = c.args.widths.now in
    let xs = c.args.row.now in
    let k = c.loop-k.k in
    let was = c.loop-k.invariant in
    let hold = c.hold-held.ensures in
    let h = c.loop-k.held in
    let less : k < length xs = omega arith in
    let w = get_or ws k 0 in
    let x = get_or xs k 0 in
    let turned : h.bits + x * 2 ^ h.count ≡ h.bits + 2 ^ h.count * x = omega arith in
    record {
      held = hold.held;
      first = hold.next ∙ was.first;
      put = omega (arith, hold.count, sum_from ws k w c.loop-k-test.true refl, was.put);
      fit = (fits_from ws xs k w x c.loop-k-test.true less refl refl was.fit).1;
      whole = ap₂ (λ (n p : ℕ). n + 2 ^ p * packed (drop (k + 1) ws) (drop (k + 1) xs)) (hold.bits ∙ turned) hold.count
          ∙ packed_step ws xs k w x h.count h.bits (packed ws xs) c.loop-k-test.true less refl refl was.whole;
    }
