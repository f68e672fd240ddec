use Rattle.std.proofs.Common.{sym, ◌∙◌, arith, ◌++◌, ◌∷◌, [], ℕ}
use Rattle.std.proofs.lemmas.List.FromFn.{map-range_with_len_more}
use Rattle.gang_board.specs.Begins.{first_word}
use Rattle.gang_board.proofs.Makes.{pushed}
use Rattle.gang_board.proofs.begin.first_words.Goals as goal

pub loop-place-preserved : goal.loop-place-preserved
loop-place-preserved c =
    let f : ℕ → ℕ = first_word c.args.setup.now in let k = c.loop-place.place in
    pushed _ _ _ _ (sym c.is_err.ensures.value ∙ c.if-is_err.false) c.push.ensures.items
    ∙ (λ i. c.loop-place.invariant i ++ c.word_at.ensures i ∷ []) ∙ sym (map-range_with_len_more f 0 k k (omega arith))
