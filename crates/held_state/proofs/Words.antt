-- The words of all memories, and those of a state.
use Rattle.std.proofs.Common.{◌≡◌, ℕ, zero, suc, Bool, true, false, List, [], ◌∷◌, ◌++◌, length, set, refl, sym, ap, ◌∙◌, subst, arith}
use Rattle.std.specs.Prelude.{map, is_some, if◌then◌else◌, slice_get, slice_index_or, Some}
use Rattle.netlist.specs.Plain.{PlainMemory}
use Rattle.netlist.specs.Run.{all_words, written_words}
use Rattle.step_program.specs.Values.{contents}
use Rattle.step_program.specs.declared.words.MemoryWords.{MemoryWords}
use Rattle.held_state.specs.Kept.{IsKept, AllKept, state_words}
use Rattle.held_state.specs.States.{WordsFit, MemoriesFit}

pub kept_pushed : (ms : List PlainMemory) (ws : List MemoryWords) (m : PlainMemory) (w : MemoryWords) → AllKept ms ws
    → IsKept m w → AllKept (ms ++ m ∷ []) (ws ++ w ∷ [])
kept_pushed [] [] m w h one = (one, tt)
kept_pushed [] (v ∷ ws) m w h one = absurd h
kept_pushed (n ∷ ms) [] m w h one = absurd h
kept_pushed (n ∷ ms) (v ∷ ws) m w h one = (h.0, kept_pushed ms ws m w h.1 one)

pub kept_count : (ms : List PlainMemory) (ws : List MemoryWords) → AllKept ms ws → length ws ≡ length ms
kept_count [] [] h = refl
kept_count [] (v ∷ ws) h = absurd h
kept_count (n ∷ ms) [] h = absurd h
kept_count (n ∷ ms) (v ∷ ws) h = ap suc (kept_count ms ws h.1)

-- the words of one memory
pub kept_at : (ms : List PlainMemory) (ws : List MemoryWords) (k : ℕ) (m : PlainMemory) (w : MemoryWords)
    → AllKept ms ws → slice_get ms k ≡ Some m → slice_get ws k ≡ Some w → IsKept m w
kept_at [] ws k m w h at there = absurd cc
kept_at (n ∷ ms) [] k m w h at there = absurd h
kept_at (n ∷ ms) (v ∷ ws) zero m w h at there =
    let a : n ≡ m = cc in
    let b : v ≡ w = cc in
    subst (λ x. IsKept x w) a (subst (λ y. IsKept n y) b h.0)
kept_at (n ∷ ms) (v ∷ ws) (suc k) m w h at there = kept_at ms ws k m w h.1 at there

-- with other words of one memory
pub kept_set : (ms : List PlainMemory) (ws : List MemoryWords) (k : ℕ) (m : PlainMemory) (w : MemoryWords)
    → AllKept ms ws → slice_get ms k ≡ Some m → IsKept m w → AllKept ms (set ws k w)
kept_set [] [] k m w h at one = tt
kept_set [] (v ∷ ws) k m w h at one = absurd h
kept_set (n ∷ ms) [] k m w h at one = absurd h
kept_set (n ∷ ms) (v ∷ ws) zero m w h at one = (let a : m ≡ n = cc in subst (λ x. IsKept x w) a one, h.1)
kept_set (n ∷ ms) (v ∷ ws) (suc k) m w h at one = (h.0, kept_set ms ws k m w h.1 at one)

-- ---- the state's

head_same : (b : Bool) (own words : List ℕ) → (b ≡ false → words ≡ own)
    → (if b then (if b then words else []) else own) ≡ words
head_same true own words h = refl
head_same false own words h = sym (h refl)

pub all_same : (ms : List PlainMemory) (ws : List MemoryWords) → AllKept ms ws
    → all_words ms (state_words ms (map contents ws)) ≡ map contents ws
all_same [] [] h = refl
all_same [] (v ∷ ws) h = absurd h
all_same (n ∷ ms) [] h = absurd h
all_same (n ∷ ms) (v ∷ ws) h =
    let here : (if is_some n.writer then (if is_some n.writer then contents v else []) else n.words) ≡ contents v =
    head_same (is_some n.writer) n.words (contents v) h.0.same in
    let more : all_words ms (state_words ms (map contents ws)) ≡ map contents ws = all_same ms ws h.1 in
    cc

pub first_same : (ms : List PlainMemory) → state_words ms (map (λ m. m.words) ms) ≡ map written_words ms
first_same [] = refl
first_same (m ∷ ms) = let more : state_words ms (map (λ m. m.words) ms) ≡ map written_words ms = first_same ms in cc

head_back : (b : Bool) (m : PlainMemory) (words : List ℕ) → WordsFit b m words
    → (if b then (if b then words else m.words) else []) ≡ words
head_back true m words h = refl
head_back false m words h = sym h

pub state_same : (ms : List PlainMemory) (state : List (List ℕ)) → MemoriesFit ms state
    → state_words ms (all_words ms state) ≡ state
state_same [] [] h = refl
state_same [] (w ∷ ws) h = absurd h
state_same (m ∷ ms) [] h = absurd h
state_same (m ∷ ms) (w ∷ ws) h =
    let here : (if is_some m.writer then (if is_some m.writer then w else m.words) else []) ≡ w =
    head_back (is_some m.writer) m w h.0 in
    let more : state_words ms (all_words ms ws) ≡ ws = state_same ms ws h.1 in
    cc

-- ---- a memory that is written

if_same : (b : Bool) (x : List ℕ) → (if b then x else x) ≡ x
if_same true x = refl
if_same false x = refl

if_true : (b : Bool) (x y : List ℕ) → b ≡ true → (if b then x else y) ≡ x
if_true true x y e = refl
if_true false x y e = absurd cc

pub state_at : (ms : List PlainMemory) (words : List (List ℕ)) (k : ℕ) (m : PlainMemory) → slice_get ms k ≡ Some m
    → is_some m.writer ≡ true → slice_index_or (state_words ms words) k [] ≡ slice_index_or words k []
state_at [] words k m at writer = absurd cc
state_at (n ∷ ms) [] zero m at writer = if_same (is_some n.writer) []
state_at (n ∷ ms) (w ∷ words) zero m at writer =
    let a : n ≡ m = cc in
    if_true (is_some n.writer) w [] (ap (λ x. is_some x.writer) a ∙ writer)
state_at (n ∷ ms) [] (suc k) m at writer = state_at ms [] k m at writer
state_at (n ∷ ms) (w ∷ words) (suc k) m at writer = state_at ms words k m at writer

pub state_set : (ms : List PlainMemory) (words : List (List ℕ)) (k : ℕ) (m : PlainMemory) (w : List ℕ)
    → length words ≡ length ms → slice_get ms k ≡ Some m → is_some m.writer ≡ true
    → state_words ms (set words k w) ≡ set (state_words ms words) k w
state_set [] words k m w c at writer = absurd cc
state_set (n ∷ ms) [] k m w c at writer = absurd (omega (arith, c))
state_set (n ∷ ms) (v ∷ words) zero m w c at writer =
    let a : n ≡ m = cc in
    let here : (if is_some n.writer then w else []) ≡ w =
    if_true (is_some n.writer) w [] (ap (λ x. is_some x.writer) a ∙ writer) in
    cc
state_set (n ∷ ms) (v ∷ words) (suc k) m w c at writer =
    let more : state_words ms (set words k w) ≡ set (state_words ms words) k w =
    state_set ms words k m w (omega (arith, c)) at writer in
    cc
