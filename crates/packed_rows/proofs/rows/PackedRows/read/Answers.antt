use Rattle.std.proofs.Common.{◌+◌, ◌-◌, ◌*◌, ℕ, List, length, take, drop, refl, sym, ap, subst, ◌∙◌, arith}
use Rattle.packed_rows.specs.Kept.{Kept}
use Rattle.packed_rows.specs.Packed.{Fits, unpacked, number}
use Rattle.packed_rows.proofs.PackLaws.{unpacked_fits}
use Rattle.packed_rows.proofs.RowLaws.{is_there, place_within, read_row}
use Rattle.packed_rows.proofs.rows.PackedRows.read.Goals as goal

pub overflow_mul-from : goal.overflow_mul-from
overflow_mul-from c =
    let r = c.self.inside in
    let k = c.args.number in
    let less = is_there r.widths.items r.words.items r.each r.count r.most k c.args.self.now (sym c.self.view_is) c.self.invariant.2 c.requires.there in
    omega (arith, place_within k r.most r.each (length r.words.items) less.1 c.self.invariant.1)

pub unpack_at-requires-clause-within : goal.unpack_at-requires-clause-within
unpack_at-requires-clause-within c =
    let r = c.self.inside in
    let k = c.args.number in
    let less = is_there r.widths.items r.words.items r.each r.count r.most k c.args.self.now (sym c.self.view_is) c.self.invariant.2 c.requires.there in
    omega (
      arith,
      place_within k r.most r.each (length r.words.items) less.1 c.self.invariant.1,
      ap length c.deref-2.ensures.value,
    )

pub returns-clause-row : goal.returns-clause-row
returns-clause-row c =
    let r = c.self.inside in
    let k = c.args.number in
    let less = is_there r.widths.items r.words.items r.each r.count r.most k c.args.self.now (sym c.self.view_is) c.self.invariant.2 c.requires.there in
    c.unpack_at.ensures
    ∙ ap (λ (ws : List ℕ). unpacked ws (number (take (k * r.each + r.each - k * r.each) (drop (k * r.each) c.deref-2.result.now)))) c.deref.ensures.value
    ∙ ap (λ (xs : List ℕ). unpacked r.widths.items (number (take (k * r.each + r.each - k * r.each) (drop (k * r.each) xs)))) c.deref-2.ensures.value
    ∙ read_row r.widths.items r.each r.count k (k * r.each) r.words.items c.args.self.now.rows less.0 (ap (λ (s : Kept). s.rows) (sym c.self.view_is)) refl

pub returns-clause-fit : goal.returns-clause-fit
returns-clause-fit c =
    let r = c.self.inside in
    let k = c.args.number in
    subst (λ (s : Kept). Fits s.widths c.unpack_at.new.row) c.self.view_is
    (subst (Fits r.widths.items) (sym (c.unpack_at.ensures
    ∙ ap (λ (ws : List ℕ). unpacked ws (number (take (k * r.each + r.each - k * r.each) (drop (k * r.each) c.deref-2.result.now)))) c.deref.ensures.value))
    (unpacked_fits r.widths.items (number (take (k * r.each + r.each - k * r.each) (drop (k * r.each) c.deref-2.result.now)))))
