use Rattle.std.proofs.Common.{◌<◌, get_or, sym, ap, subst, arith, length, rules}
use Rattle.held_state.specs.Noting.{Adds, state_with}
use Rattle.held_state.proofs.InPlace.{memory_there}
use Rattle.held_state.proofs.NotingLaws.{write_lost, write_noted, word_in, place_in}
use Rattle.held_state.proofs.Words.{kept_count}
use Rattle.held_state.proofs.noting.note_write.Goals as goal

pub returns-in_default-clause-value : goal.returns-in_default-clause-value
returns-in_default-clause-value c =
    write_lost c.args.nodes.now.flat c.args.nodes.now.numbers c.args.write.now c.args.words.now c.requires.kept c.requires.write
    (search rules)

pub bounds-words-memory : goal.bounds-words-memory
bounds-words-memory c =
    let f = c.args.nodes.now.flat in
    omega (arith, memory_there f c.args.write.now c.requires.write, kept_count f.memories c.args.words.now c.requires.kept)

pub word_at-old-requires : goal.word_at-old-requires
word_at-old-requires c =
    let f = c.args.nodes.now.flat in
    place_in f c.args.nodes.now.numbers c.args.write.now c.args.words.now c.in-Some.place c.index-words-memory.result
    c.requires.kept c.requires.write c.in-Some.ensures.some

pub bounds-words-memory-2 : goal.bounds-words-memory-2
bounds-words-memory-2 c =
    let f = c.args.nodes.now.flat in
    omega (arith, memory_there f c.args.write.now c.requires.write, kept_count f.memories c.write_one.new.words c.write_one.ensures.kept)

pub word_at-new-requires : goal.word_at-new-requires
word_at-new-requires c =
    let f = c.args.nodes.now.flat in
    place_in f c.args.nodes.now.numbers c.args.write.now c.write_one.new.words c.in-Some.place c.index-words-memory-2.result
    c.write_one.ensures.kept c.requires.write c.in-Some.ensures.some

pub returns-clause-noted : goal.returns-clause-noted
returns-clause-noted c =
    let f = c.args.nodes.now.flat in
    let w = c.args.write.now in
    let ws = c.args.words.now in
    let out = c.write_one.new.words in
    let k = c.in-Some.place in
    let l : w.memory < length f.memories = memory_there f w c.requires.write in
    let old_is = word_in ws w.memory k (get_or ws w.memory c.index-words-memory.result) c.word_at-old.result
    (omega (arith, l, kept_count f.memories ws c.requires.kept)) (ap (get_or ws w.memory) c.index-words-memory.is) c.word_at-old.ensures in
    let new_is = word_in out w.memory k (get_or out w.memory c.index-words-memory-2.result) c.word_at-new.result
    (omega (arith, l, kept_count f.memories out c.write_one.ensures.kept)) (ap (get_or out w.memory) c.index-words-memory-2.is) c.word_at-new.ensures in
    λ ns. subst (λ cs. Adds f c.args.journal.now.fresh cs (state_with f ns ws) (state_with f ns out)) (sym c.note.ensures.fresh)
    (write_noted f c.args.nodes.now.numbers w ws out k c.word_at-old.result c.word_at-new.result c.args.journal.now.fresh
    c.requires.kept c.requires.write c.in-Some.ensures.some c.write_one.ensures.value old_is new_is ns)
