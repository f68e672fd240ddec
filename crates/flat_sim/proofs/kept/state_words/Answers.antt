use Rattle.std.proofs.Common.{ℕ, [], ◌∷◌, ap, ◌∙◌, Vec, Global, arith}
use Rattle.std.specs.Prelude.{map}
use Rattle.std.proofs.lemmas.List.{map-append}
use Rattle.held_state.proofs.Words.{kept_count}
use Rattle.flat_sim.proofs.Loops.{state_more}
use Rattle.flat_sim.proofs.kept.state_words.Goals as goal

pub bounds-words-k : goal.bounds-words-k
bounds-words-k c =
    omega (arith, c.loop-k-test.true, kept_count c.args.memories.now c.args.words.now c.requires)

pub loop-k-preserved : goal.loop-k-preserved
loop-k-preserved c =
    let items = λ (v : Vec ℕ Global). v.items in
    let x = c.in_ok-state_words_of.field-0 in
    state_more c.args.memories.now c.args.words.now (map items c.loop-k.state.items) (map items c.push.new.self.items)
    c.loop-k.k c.index-memories-k.result c.index-words-k.result x.items c.loop-k-test.true
    (kept_count c.args.memories.now c.args.words.now c.requires) c.index-memories-k.is c.index-words-k.is
    (ap (map items) c.in_ok-push.ensures.items ∙ map-append items c.loop-k.state.items (x ∷ [])) c.loop-k.invariant
    c.in_ok-state_words_of.ensures
