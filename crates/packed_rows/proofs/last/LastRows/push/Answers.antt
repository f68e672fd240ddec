use Rattle.std.proofs.Common.{◌≡◌, ℕ, ◌+◌, ◌++◌, ◌∷◌, [], length, ap, subst, ◌∙◌, arith}
use Rattle.std.specs.Prelude.{if◌then◌else◌, ◌==◌}
use Rattle.packed_rows.specs.Kept.{Kept, last_ones}
use Rattle.packed_rows.specs.Turned.{turned}
use Rattle.packed_rows.proofs.RingLaws.{turned_next}
use Rattle.packed_rows.proofs.last.LastRows.push.Goals as goal

pub returns-clause-rows : goal.returns-clause-rows
returns-clause-rows c =
    let a = c.self.inside in
    let full : length a.rows.rows ≡ a.rows.most = omega (arith, c.if-count-most.false, c.count.ensures.count, c.count.ensures.within, c.most.ensures) in
    subst (λ (k : Kept). turned c.place_after-self-inside.result c.replace.new.self.rows ≡ last_ones k.most (k.rows ++ c.args.row.now ∷ [])) c.self.view_is
    (turned_next a.next a.rows.most c.place_after-self-inside.result a.rows.rows c.replace.new.self.rows c.args.row.now
    c.self.invariant.within full c.replace.ensures.rows
    (c.place_after-self-inside.ensures ∙ ap (λ (k : ℕ). if a.next + 1 == k then 0 else a.next + 1) (c.most-2.ensures ∙ c.replace.ensures.most)))
