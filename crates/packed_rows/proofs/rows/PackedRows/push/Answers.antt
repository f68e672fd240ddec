use Rattle.std.proofs.Common.{◌+◌, ◌*◌, ◌++◌, ◌∷◌, [], ℕ, List, length, take, refl, sym, ap, subst, ◌∙◌, arith}
use Rattle.std.proofs.lemmas.List.{with_items_is}
use Rattle.packed_rows.specs.Kept.{Kept}
use Rattle.packed_rows.specs.Packed.{Fits, packed, rows_in}
use Rattle.packed_rows.proofs.PackLaws.{fits_length}
use Rattle.packed_rows.proofs.RowLaws.{has_room, place_within, pushed_row}
use Rattle.packed_rows.proofs.rows.PackedRows.push.Goals as goal

pub pack_at-requires-clause-within : goal.pack_at-requires-clause-within
pack_at-requires-clause-within c =
    let r = c.self.inside in
    let less = has_room r.widths.items r.words.items r.each r.count r.most c.args.self.now (sym c.self.view_is) c.requires.room in
    omega (
      arith,
      place_within r.count r.most r.each (length r.words.items) less c.self.invariant.1,
      ap length c.deref_mut.ensures.value,
    )

pub pack_at-requires-clause-long : goal.pack_at-requires-clause-long
pack_at-requires-clause-long c =
    let r = c.self.inside in
    let fits = subst (λ (k : Kept). Fits k.widths c.args.row.now) (sym c.self.view_is) c.requires.fit in
    fits_length r.widths.items c.args.row.now fits ∙ ap length (sym c.deref.ensures.value)

pub overflow_add-self : goal.overflow_add-self
overflow_add-self c =
    let r = c.self.inside in
    let less = has_room r.widths.items r.words.items r.each r.count r.most c.args.self.now (sym c.self.view_is) c.requires.room in
    omega (arith, less)

pub invariant_of-self : goal.invariant_of-self
invariant_of-self c =
    let r = c.self.inside in
    let less = has_room r.widths.items r.words.items r.each r.count r.most c.args.self.now (sym c.self.view_is) c.requires.room in
    let same = with_items_is r.words c.pack_at.new.words (omega arith) in
    (c.self.invariant.0, omega (arith, ap length same, c.self.invariant.1), omega (arith, less), c.self.invariant.3, c.self.invariant.4)

pub returns-clause-rows : goal.returns-clause-rows
returns-clause-rows c =
    let r = c.self.inside in
    let row = c.args.row.now in
    let from = r.count * r.each in
    let fits = subst (λ (k : Kept). Fits k.widths row) (sym c.self.view_is) c.requires.fit in
    let before = c.pack_at.ensures.before ∙ ap (take from) c.deref_mut.ensures.value in
    let here = c.pack_at.ensures.row ∙ ap (λ (ws : List ℕ). packed ws row) c.deref.ensures.value in
    ap (rows_in r.widths.items r.each (r.count + 1)) (with_items_is r.words c.pack_at.new.words (omega arith))
    ∙ pushed_row r.widths.items row r.each r.count from r.words.items c.pack_at.new.words fits refl before here
    ∙ ap (λ (k : Kept). k.rows ++ row ∷ []) c.self.view_is
