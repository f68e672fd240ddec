use Rattle.std.proofs.Common.{◌+◌, ◌*◌, ℕ, List, length, take, drop, set, refl, sym, ap, subst, ◌∙◌, arith}
use Rattle.std.proofs.lemmas.List.{with_items_is}
use Rattle.packed_rows.specs.Kept.{Kept}
use Rattle.packed_rows.specs.Packed.{Fits, packed, rows_in}
use Rattle.packed_rows.proofs.PackLaws.{fits_length}
use Rattle.packed_rows.proofs.RowLaws.{is_there, place_within, replaced_row}
use Rattle.packed_rows.proofs.rows.PackedRows.replace.Goals as goal

pub overflow_mul-from : goal.overflow_mul-from
overflow_mul-from c =
    let r = c.self.inside in
    let k = c.args.number in
    let less = is_there r.widths.items r.words.items r.each r.count r.most k c.args.self.now (sym c.self.view_is) c.self.invariant.2 c.requires.there in
    omega (arith, place_within k r.most r.each (length r.words.items) less.1 c.self.invariant.1)

pub pack_at-requires-clause-within : goal.pack_at-requires-clause-within
pack_at-requires-clause-within c =
    let r = c.self.inside in
    let k = c.args.number in
    let less = is_there r.widths.items r.words.items r.each r.count r.most k c.args.self.now (sym c.self.view_is) c.self.invariant.2 c.requires.there in
    omega (
      arith,
      place_within k r.most r.each (length r.words.items) less.1 c.self.invariant.1,
      ap length c.deref_mut.ensures.value,
    )

pub pack_at-requires-clause-long : goal.pack_at-requires-clause-long
pack_at-requires-clause-long c =
    let r = c.self.inside in
    let fits = subst (λ (k : Kept). Fits k.widths c.args.row.now) (sym c.self.view_is) c.requires.fit in
    fits_length r.widths.items c.args.row.now fits ∙ ap length (sym c.deref.ensures.value)

pub invariant_of-self : goal.invariant_of-self
invariant_of-self c =
    let r = c.self.inside in
    let same = with_items_is r.words c.pack_at.new.words (omega arith) in
    (c.self.invariant.0, omega (arith, ap length same, c.self.invariant.1), c.self.invariant.2, c.self.invariant.3, c.self.invariant.4)

pub returns-clause-rows : goal.returns-clause-rows
returns-clause-rows c =
    let r = c.self.inside in
    let row = c.args.row.now in
    let k = c.args.number in
    let from = k * r.each in
    let less = is_there r.widths.items r.words.items r.each r.count r.most k c.args.self.now (sym c.self.view_is) c.self.invariant.2 c.requires.there in
    let fits = subst (λ (s : Kept). Fits s.widths row) (sym c.self.view_is) c.requires.fit in
    let before = c.pack_at.ensures.before ∙ ap (take from) c.deref_mut.ensures.value in
    let after = c.pack_at.ensures.after ∙ ap (drop (from + r.each)) c.deref_mut.ensures.value in
    let here = c.pack_at.ensures.row ∙ ap (λ (ws : List ℕ). packed ws row) c.deref.ensures.value in
    ap (rows_in r.widths.items r.each r.count) (with_items_is r.words c.pack_at.new.words (omega arith))
    ∙ replaced_row r.widths.items row r.each r.count k from r.words.items c.pack_at.new.words fits less.0 refl before after here
    ∙ ap (λ (s : Kept). set s.rows k row) c.self.view_is
