use Rattle.std.proofs.Common.{◌≡◌, ℕ, ◌<◌, List, length, sym, ap, ◌∙◌, subst, Vec, Global, arith}
use Rattle.std.specs.Prelude.{map, is_some, if◌then◌else◌}
use Rattle.std.proofs.lemmas.List.{length-map}
use Rattle.held_state.specs.States.{WordsFit}
use Rattle.flat_sim.proofs.Loops.{fit_count, fit_at, state_item, words_more}
use Rattle.flat_sim.proofs.kept.words_of.Goals as goal

pub bounds-state-k : goal.bounds-state-k
bounds-state-k c =
    let items = λ (v : Vec ℕ Global). v.items in
    omega (
      arith,
      c.loop-k-test.true,
      fit_count c.args.memories.now (map items c.args.state.now) c.requires.state,
      length-map c.args.state.now items,
    )

pub words_for-requires-clause-state : goal.words_for-requires-clause-state
words_for-requires-clause-state c =
    let items = λ (v : Vec ℕ Global). v.items in
    let ss : List (List ℕ) = map items c.args.state.now in
    let m = c.index-memories-k.result in
    let v = c.index-state-k.result in
    let count : length ss ≡ length c.args.memories.now = fit_count c.args.memories.now ss c.requires.state in
    let l : c.loop-k.k < length c.args.state.now =
    omega (arith, c.loop-k-test.true, count, length-map c.args.state.now items) in
    subst (λ s. WordsFit (is_some m.writer) m s) (sym c.deref.ensures.value)
    (fit_at c.args.memories.now ss c.loop-k.k m v.items c.requires.state c.loop-k-test.true c.index-memories-k.is
    (state_item c.args.state.now c.loop-k.k v l c.index-state-k.is))

pub loop-k-preserved : goal.loop-k-preserved
loop-k-preserved c =
    let items = λ (v : Vec ℕ Global). v.items in
    let ss : List (List ℕ) = map items c.args.state.now in
    let m = c.index-memories-k.result in
    let v = c.index-state-k.result in
    let w = c.in_ok-words_for.field-0 in
    let count : length ss ≡ length c.args.memories.now = fit_count c.args.memories.now ss c.requires.state in
    let l : c.loop-k.k < length c.args.state.now =
    omega (arith, c.loop-k-test.true, count, length-map c.args.state.now items) in
    words_more c.args.memories.now ss c.loop-k.words.items c.push.new.self.items c.loop-k.k m v.items w c.loop-k-test.true
    count c.index-memories-k.is (state_item c.args.state.now c.loop-k.k v l c.index-state-k.is) c.in_ok-push.ensures.items
    c.loop-k.invariant c.in_ok-words_for.ensures.kept
    (c.in_ok-words_for.ensures.same
    ∙ ap (λ s. if is_some m.writer then s else m.words) c.deref.ensures.value)
