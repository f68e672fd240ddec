use Rattle.std.proofs.Common.{◌≡◌, get_or, ap, ◌∙◌, subst, arith}
use Rattle.netlist.specs.Fits.{IsWellFormed}
use Rattle.held_state.specs.Kept.{IsKept}
use Rattle.held_state.proofs.InPlace.{Written, is_written, wrote, memory_there, memory_wide}
use Rattle.held_state.proofs.Words.{kept_count}
use Rattle.held_state.proofs.writes.write_one.Goals as goal

pub bounds-words-place : goal.bounds-words-place
bounds-words-place c =
    let f = c.args.nodes.now.flat in
    omega (arith, memory_there f c.args.write.now c.requires.write, kept_count f.memories c.args.words.now c.requires.kept)

pub write_to-requires-clause-width : goal.write_to-requires-clause-width
write_to-requires-clause-width c =
    let f = c.args.nodes.now.flat in
    let w = c.args.write.now in
    let m = c.index-memories-place.result in
    let same : c.memories.result.now ≡ f.memories =
    c.memories.ensures.memories ∙ ap (λ v. v.flat.memories) c.nodes.view_is in
    let is : m ≡ get_or f.memories w.memory m = subst (λ ms. m ≡ get_or ms w.memory m) same c.index-memories-place.is in
    let fits = subst (λ v. IsWellFormed v.flat) c.nodes.view_is c.nodes.invariant.fits in
    memory_wide f w.memory m fits (memory_there f w c.requires.write) is

pub write_to-requires-clause-kept : goal.write_to-requires-clause-kept
write_to-requires-clause-kept c =
    let f = c.args.nodes.now.flat in
    let w = c.args.write.now in
    let m = c.index-memories-place.result in
    let same : c.memories.result.now ≡ f.memories =
    c.memories.ensures.memories ∙ ap (λ v. v.flat.memories) c.nodes.view_is in
    let is : m ≡ get_or f.memories w.memory m = subst (λ ms. m ≡ get_or ms w.memory m) same c.index-memories-place.is in
    let there : Written f w c.args.words.now m c.index-words-place.result =
    is_written f w c.args.words.now m c.index-words-place.result c.requires.kept c.requires.write
    (memory_there f w c.requires.write) is c.index-words-place.is in
    subst (λ v. IsKept m v) c.index-words-place.is there.kept

pub returns-clause-kept : goal.returns-clause-kept
returns-clause-kept c =
    let f = c.args.nodes.now.flat in
    let w = c.args.write.now in
    let m = c.index-memories-place.result in
    let same : c.memories.result.now ≡ f.memories =
    c.memories.ensures.memories ∙ ap (λ v. v.flat.memories) c.nodes.view_is in
    let is : m ≡ get_or f.memories w.memory m = subst (λ ms. m ≡ get_or ms w.memory m) same c.index-memories-place.is in
    let there : Written f w c.args.words.now m c.index-words-place.result =
    is_written f w c.args.words.now m c.index-words-place.result c.requires.kept c.requires.write
    (memory_there f w c.requires.write) is c.index-words-place.is in
    let old = get_or c.args.words.now w.memory c.index-words-place.result in
    let back = subst (λ v. Written f w c.args.words.now m v) c.index-words-place.is there in
    let done = wrote f c.args.nodes.now.numbers w c.args.words.now m old c.write_to.new.words c.requires.kept back
    c.write_to.ensures.words c.write_to.ensures.value in
    done.kept

pub returns-clause-value : goal.returns-clause-value
returns-clause-value c =
    let f = c.args.nodes.now.flat in
    let w = c.args.write.now in
    let m = c.index-memories-place.result in
    let same : c.memories.result.now ≡ f.memories =
    c.memories.ensures.memories ∙ ap (λ v. v.flat.memories) c.nodes.view_is in
    let is : m ≡ get_or f.memories w.memory m = subst (λ ms. m ≡ get_or ms w.memory m) same c.index-memories-place.is in
    let there : Written f w c.args.words.now m c.index-words-place.result =
    is_written f w c.args.words.now m c.index-words-place.result c.requires.kept c.requires.write
    (memory_there f w c.requires.write) is c.index-words-place.is in
    let old = get_or c.args.words.now w.memory c.index-words-place.result in
    let back = subst (λ v. Written f w c.args.words.now m v) c.index-words-place.is there in
    let done = wrote f c.args.nodes.now.numbers w c.args.words.now m old c.write_to.new.words c.requires.kept back
    c.write_to.ensures.words c.write_to.ensures.value in
    done.same
