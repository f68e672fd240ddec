use Rattle.std.proofs.Common.{◌≡◌, ◌^◌, ◌<◌, length, get_or, sym, ap, subst, ◌∙◌, arith}
use Rattle.step_program.specs.Values.{contents}
use Rattle.netlist.specs.Plain.{PlainMemory}
use Rattle.net_compile.specs.Cycle.{slot_at}
use Rattle.step_program.specs.Plan.{held}
use Rattle.state_changes.specs.Changes.{with_value}
use Rattle.state_changes.specs.declared.changes.Element.TheVariants as e
use Rattle.held_state.specs.Back.{ElementFits}
use Rattle.held_state.specs.Kept.{AreWords}
use Rattle.held_state.specs.Noting.{held_state}
use Rattle.held_state.specs.Slots.{with_number, Takes}
use Rattle.held_state.proofs.InPlace.{memory_wide}
use Rattle.held_state.proofs.UndoingLaws.{slot_takes, register_runs, register_back, Held, memory_at, is_held, word_runs, word_back}
use Rattle.held_state.proofs.Words.{kept_count}
use Rattle.held_state.proofs.undoing.undo.Goals as goal

pub put-requires-clause-takes : goal.put-requires-clause-takes
put-requires-clause-takes c =
    let f = c.args.flat.now in
    let n = c.args.change.old in
    let fits : ElementFits f (e.Register c.in-Register.number) n = subst (λ x. ElementFits f x n) c.in-Register.is c.requires.change in
    subst (λ ss. Takes (slot_at ss c.in-Register.number) n) (sym c.given.ensures)
    (slot_takes f c.args.compiled.now (held c.args.slots.now) c.args.words.now c.in-Register.number n c.requires.fits c.requires.compiles
    c.requires.can_run fits)

pub returns-in-Register-clause-can_run : goal.returns-in-Register-clause-can_run
returns-in-Register-clause-can_run c =
    let f = c.args.flat.now in
    let n = c.args.change.old in
    let k = c.in-Register.number in
    let x = held c.args.slots.now in
    let fits : ElementFits f (e.Register k) n = subst (λ y. ElementFits f y n) c.in-Register.is c.requires.change in
    register_runs f c.args.compiled.now x c.args.words.now k n c.requires.fits c.requires.compiles c.requires.can_run fits
    (held c.put.new.values) (c.put.ensures ∙ ap (λ ss. with_number x (slot_at ss k) n) c.given.ensures)

pub returns-in-Register-clause-state : goal.returns-in-Register-clause-state
returns-in-Register-clause-state c =
    let f = c.args.flat.now in
    let m = c.args.compiled.now in
    let n = c.args.change.old in
    let k = c.in-Register.number in
    let x = held c.args.slots.now in
    let fits : ElementFits f (e.Register k) n = subst (λ y. ElementFits f y n) c.in-Register.is c.requires.change in
    register_back f m x c.args.words.now k n c.requires.fits c.requires.compiles c.requires.can_run fits
    (held c.put.new.values) (c.put.ensures ∙ ap (λ ss. with_number x (slot_at ss k) n) c.given.ensures)
    ∙ ap (λ y. with_value (held_state f m x c.args.words.now) y n) (sym c.in-Register.is)

pub bounds-memories-number : goal.bounds-memories-number
bounds-memories-number c =
    let f = c.args.flat.now in
    let fits = subst (λ y. ElementFits f y c.args.change.old) c.in-Word.is c.requires.change in
    subst (λ ms. c.in-Word.memory < length ms) (sym c.memories.ensures.memories)
    (memory_at f c.in-Word.memory c.in-Word.place c.args.change.old fits)

pub bounds-words-number : goal.bounds-words-number
bounds-words-number c =
    let f = c.args.flat.now in
    let fits = subst (λ y. ElementFits f y c.args.change.old) c.in-Word.is c.requires.change in
    omega (
      arith,
      memory_at f c.in-Word.memory c.in-Word.place c.args.change.old fits,
      kept_count f.memories c.args.words.now c.requires.can_run.words,
    )

pub put_word-requires-clause-words : goal.put_word-requires-clause-words
put_word-requires-clause-words c =
    let f = c.args.flat.now in
    let m = c.in-Word.memory in
    let p = c.index-memories-number.result in
    let fits = subst (λ y. ElementFits f y c.args.change.old) c.in-Word.is c.requires.change in
    let is : p ≡ get_or f.memories m p = subst (λ ms. p ≡ get_or ms m p) c.memories.ensures.memories c.index-memories-number.is in
    let u : Held f c.args.words.now m c.in-Word.place c.args.change.old p c.index-words-number.result =
    is_held f c.args.words.now m c.in-Word.place c.args.change.old p c.index-words-number.result c.requires.can_run.words fits is
    c.index-words-number.is in
    let wide : c.memory.inside.width ≡ p.width = ap (λ (v : PlainMemory). v.width) c.memory.view_is in
    subst (λ w. AreWords w (get_or c.args.words.now m c.index-words-number.result)) (sym wide)
    (subst (λ v. AreWords p.width v) c.index-words-number.is u.kept.words)

pub put_word-requires-clause-place : goal.put_word-requires-clause-place
put_word-requires-clause-place c =
    let f = c.args.flat.now in
    let m = c.in-Word.memory in
    let p = c.index-memories-number.result in
    let fits = subst (λ y. ElementFits f y c.args.change.old) c.in-Word.is c.requires.change in
    let is : p ≡ get_or f.memories m p = subst (λ ms. p ≡ get_or ms m p) c.memories.ensures.memories c.index-memories-number.is in
    let u : Held f c.args.words.now m c.in-Word.place c.args.change.old p c.index-words-number.result =
    is_held f c.args.words.now m c.in-Word.place c.args.change.old p c.index-words-number.result c.requires.can_run.words fits is
    c.index-words-number.is in
    subst (λ v. c.in-Word.place < length (contents v)) c.index-words-number.is u.place

pub put_word-requires-clause-width : goal.put_word-requires-clause-width
put_word-requires-clause-width c =
    let f = c.args.flat.now in
    let m = c.in-Word.memory in
    let p = c.index-memories-number.result in
    let fits = subst (λ y. ElementFits f y c.args.change.old) c.in-Word.is c.requires.change in
    let is : p ≡ get_or f.memories m p = subst (λ ms. p ≡ get_or ms m p) c.memories.ensures.memories c.index-memories-number.is in
    let wide : c.memory.inside.width ≡ p.width = ap (λ (v : PlainMemory). v.width) c.memory.view_is in
    let h = memory_wide f m p c.requires.fits (memory_at f m c.in-Word.place c.args.change.old fits) is in
    omega (arith, h.1, wide)

pub put_word-requires-clause-number : goal.put_word-requires-clause-number
put_word-requires-clause-number c =
    let f = c.args.flat.now in
    let m = c.in-Word.memory in
    let p = c.index-memories-number.result in
    let fits = subst (λ y. ElementFits f y c.args.change.old) c.in-Word.is c.requires.change in
    let is : p ≡ get_or f.memories m p = subst (λ ms. p ≡ get_or ms m p) c.memories.ensures.memories c.index-memories-number.is in
    let u : Held f c.args.words.now m c.in-Word.place c.args.change.old p c.index-words-number.result =
    is_held f c.args.words.now m c.in-Word.place c.args.change.old p c.index-words-number.result c.requires.can_run.words fits is
    c.index-words-number.is in
    let wide : c.memory.inside.width ≡ p.width = ap (λ (v : PlainMemory). v.width) c.memory.view_is in
    subst (λ w. c.args.change.old < 2 ^ w) (sym wide) u.fits

pub returns-in-Word-clause-can_run : goal.returns-in-Word-clause-can_run
returns-in-Word-clause-can_run c =
    let f = c.args.flat.now in
    let m = c.in-Word.memory in
    let p = c.index-memories-number.result in
    let ws = c.args.words.now in
    let r = c.index-words-number.result in
    let fits = subst (λ y. ElementFits f y c.args.change.old) c.in-Word.is c.requires.change in
    let is : p ≡ get_or f.memories m p = subst (λ ms. p ≡ get_or ms m p) c.memories.ensures.memories c.index-memories-number.is in
    let u : Held f ws m c.in-Word.place c.args.change.old p (get_or ws m r) =
    subst (λ v. Held f ws m c.in-Word.place c.args.change.old p v) c.index-words-number.is
    (is_held f ws m c.in-Word.place c.args.change.old p r c.requires.can_run.words fits is c.index-words-number.is) in
    let wide : c.memory.inside.width ≡ p.width = ap (λ (v : PlainMemory). v.width) c.memory.view_is in
    word_runs f c.args.compiled.now (held c.args.slots.now) ws m c.in-Word.place c.args.change.old p (get_or ws m r) c.put_word.new.words
    c.requires.can_run u (subst (λ w. AreWords w c.put_word.new.words) wide c.put_word.ensures.words) c.put_word.ensures.value

pub returns-in-Word-clause-state : goal.returns-in-Word-clause-state
returns-in-Word-clause-state c =
    let f = c.args.flat.now in
    let m = c.in-Word.memory in
    let p = c.index-memories-number.result in
    let ws = c.args.words.now in
    let r = c.index-words-number.result in
    let fits = subst (λ y. ElementFits f y c.args.change.old) c.in-Word.is c.requires.change in
    let is : p ≡ get_or f.memories m p = subst (λ ms. p ≡ get_or ms m p) c.memories.ensures.memories c.index-memories-number.is in
    let u : Held f ws m c.in-Word.place c.args.change.old p (get_or ws m r) =
    subst (λ v. Held f ws m c.in-Word.place c.args.change.old p v) c.index-words-number.is
    (is_held f ws m c.in-Word.place c.args.change.old p r c.requires.can_run.words fits is c.index-words-number.is) in
    let wide : c.memory.inside.width ≡ p.width = ap (λ (v : PlainMemory). v.width) c.memory.view_is in
    word_back f c.args.compiled.now (held c.args.slots.now) ws m c.in-Word.place c.args.change.old p (get_or ws m r) c.put_word.new.words
    c.requires.can_run u (subst (λ w. AreWords w c.put_word.new.words) wide c.put_word.ensures.words) c.put_word.ensures.value
    ∙ ap (λ y. with_value (held_state f c.args.compiled.now (held c.args.slots.now) ws) y c.args.change.old) (sym c.in-Word.is)
