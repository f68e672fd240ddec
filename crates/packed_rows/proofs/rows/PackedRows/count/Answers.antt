use Rattle.std.proofs.Common.{length, ap, arith}
use Rattle.packed_rows.specs.Kept.{Kept}
use Rattle.packed_rows.proofs.RowLaws.{length_rows}
use Rattle.packed_rows.proofs.rows.PackedRows.count.Goals as goal

pub returns-clause-count : goal.returns-clause-count
returns-clause-count c =
    let r = c.self.inside in
    omega (arith, ap (λ (k : Kept). length k.rows) c.self.view_is, length_rows r.widths.items r.each r.count r.words.items)

pub returns-clause-within : goal.returns-clause-within
returns-clause-within c = omega (arith, ap (λ (k : Kept). k.most) c.self.view_is, c.self.invariant.2)
