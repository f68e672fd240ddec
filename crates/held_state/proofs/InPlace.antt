-- Writes to memories.
use Rattle.std.proofs.Common.{◌≡◌, ℕ, zero, suc, ◌<◌, ◌≤◌, Bool, true, false, List, [], ◌∷◌, length, get_or, set, refl, sym, ap, ◌∙◌, subst, arith}
use Rattle.std.specs.Prelude.{map, is_some, if◌then◌else◌, slice_get, slice_index, slice_index_or, Option, Some, ℤ, pos, negsuc, ◌-ℤ◌}
use Rattle.std.specs.List.{AllByRecursion}
use Rattle.std.specs.Option.{option_map, unwrap_or}
use Rattle.std.proofs.lemmas.List.{length-set, get_or-map, map-set}
use Rattle.std.proofs.lemmas.Option.{slice_get_within, get_or_from_slice_get}
use Rattle.std.proofs.lemmas.Bool.{false≢true}
use Rattle.std.proofs.lemmas.List.Elements.{All-get_or}
use Rattle.bit_ops.specs.Operators as ops
use Rattle.netlist.specs.Plain.{PlainMemory}
use Rattle.netlist.specs.Design.{Flat}
use Rattle.netlist.specs.Fits.{IsWellFormed, IsWidth, MemoryFits, WriteFits, IsSomeOf}
use Rattle.netlist.specs.Run.{write_word, written, after_writes}
use Rattle.netlist.specs.Values.{index_at, least_index, word_place}
use Rattle.netlist.specs.declared.design.MemoryWrite.{MemoryWrite}
use Rattle.netlist.proofs.Puts.{some_with}
use Rattle.step_program.specs.Values.{contents}
use Rattle.step_program.specs.declared.words.MemoryWords.{MemoryWords}
use Rattle.held_state.specs.Kept.{AreWords, IsKept, AllKept, state_words}
use Rattle.held_state.specs.Writes.{IsOutside}
use Rattle.held_state.proofs.Words.{kept_at, kept_count, kept_set, state_at, state_set}

set_beyond : (xs : List ℕ) (k n : ℕ) → length xs ≤ k → set xs k n ≡ xs
set_beyond [] k n h = refl
set_beyond (x ∷ xs) zero n h = absurd (omega (arith, h))
set_beyond (x ∷ xs) (suc k) n h = ap (λ more. x ∷ more) (set_beyond xs k n (omega (arith, h)))

pub write_out : (whole : ℕ) (place : ℤ) (width n : ℕ) (words : List ℕ) (z : ℤ) → IsOutside (length words) z
    → write_word whole place width n words z ≡ words
write_out whole place width n words (pos k) h =
    set_beyond words k (ops.insert whole place width n (slice_index words k)) h
write_out whole place width n words (negsuc k) h = refl

one_state : (f : Flat) (xs : List ℕ) (w : MemoryWrite) (all : List (List ℕ)) → length all ≡ length f.memories
    → WriteFits (length f.blocks) f.memories f.nodes w
    → state_words f.memories (written f xs w all) ≡ written f xs w (state_words f.memories all)
one_state f xs w all c h =
    let m = some_with (slice_get f.memories w.memory) (λ m. IsSomeOf m.writer w.block) h.1 in
    let writer : is_some m.0.writer ≡ true = ap (λ o. is_some o) m.2 in
    let whole : ℕ = unwrap_or (option_map (λ m. m.width) (slice_get f.memories w.memory)) 0 in
    let now = λ (words : List ℕ). write_word whole (index_at f.nodes xs w.place) w.width (slice_index xs w.value) words
    (word_place f.memories w.memory (index_at f.nodes xs w.index)) in
    state_set f.memories all w.memory m.0 (now (slice_index_or all w.memory [])) c m.1 writer
    ∙ ap (λ words. set (state_words f.memories all) w.memory (now words))
    (sym (state_at f.memories all w.memory m.0 m.1 writer))

when_done : (f : Flat) (xs : List ℕ) (w : MemoryWrite) (all : List (List ℕ)) (b : Bool)
    → length all ≡ length f.memories → WriteFits (length f.blocks) f.memories f.nodes w
    → state_words f.memories (if b then written f xs w all else all)
    ≡ (if b then written f xs w (state_words f.memories all) else state_words f.memories all)
when_done f xs w all true c h = one_state f xs w all c h
when_done f xs w all false c h = refl

when_count : (f : Flat) (xs : List ℕ) (w : MemoryWrite) (all : List (List ℕ)) (b : Bool)
    → length (if b then written f xs w all else all) ≡ length all
when_count f xs w all true = length-set all w.memory _
when_count f xs w all false = refl

-- the writes change the state's memories as they change all
pub state_after : (f : Flat) (xs : List ℕ) (ws : List MemoryWrite) (all : List (List ℕ))
    → length all ≡ length f.memories → AllByRecursion (WriteFits (length f.blocks) f.memories f.nodes) ws
    → state_words f.memories (after_writes f xs ws all) ≡ after_writes f xs ws (state_words f.memories all)
state_after f xs [] all c h = refl
state_after f xs (w ∷ ws) all c h =
    let b : Bool = ops.holds (slice_index xs w.condition) in
    state_after f xs ws (if b then written f xs w all else all) (when_count f xs w all b ∙ c) h.1
    ∙ ap (λ memories. after_writes f xs ws memories) (when_done f xs w all b c h.0)

as_written : (place : ℤ) (width n : ℕ) (z : ℤ) (a b l k : ℕ) (x y : List ℕ) → a ≡ b → l ≡ k → x ≡ y
    → write_word a place width n x (z -ℤ pos l) ≡ write_word b place width n y (z -ℤ pos k)
as_written place width n z a b l k x y e f g =
    ap (λ c. write_word c place width n x (z -ℤ pos l)) e ∙ ap (λ c. write_word b place width n x (z -ℤ pos c)) f
    ∙ ap (λ c. write_word b place width n c (z -ℤ pos k)) g

-- a write to the words that are kept
pub record WroteOne (f : Flat) (xs : List ℕ) (w : MemoryWrite) (ws out : List MemoryWords) : Type 0 where
  pub kept : AllKept f.memories out
  pub same : map contents out ≡ written f xs w (map contents ws)

pub wrote_one : (f : Flat) (xs : List ℕ) (w : MemoryWrite) (ws : List MemoryWords) (m : PlainMemory)
    (old new : MemoryWords) → AllKept f.memories ws → slice_get f.memories w.memory ≡ Some m
    → slice_get ws w.memory ≡ Some old → IsKept m new
    → contents new ≡ write_word m.width (index_at f.nodes xs w.place) w.width (slice_index xs w.value) (contents old)
    (index_at f.nodes xs w.index -ℤ pos (least_index m)) → WroteOne f xs w ws (set ws w.memory new)
wrote_one f xs w ws m old new h at there one same =
    let whole : unwrap_or (option_map (λ (n : PlainMemory). n.width) (slice_get f.memories w.memory)) 0 ≡ m.width =
    ap (λ (o : Option PlainMemory). unwrap_or (option_map (λ (n : PlainMemory). n.width) o) 0) at in
    let least : unwrap_or (option_map least_index (slice_get f.memories w.memory)) 0 ≡ least_index m =
    ap (λ (o : Option PlainMemory). unwrap_or (option_map least_index o) 0) at in
    let was : slice_index_or (map contents ws) w.memory [] ≡ contents old =
    get_or-map contents ws w.memory old [] (slice_get_within ws w.memory old there)
    ∙ ap contents (get_or_from_slice_get ws w.memory old old there) in
    record {
      kept = kept_set f.memories ws w.memory m new h at one;
      same = map-set contents ws w.memory new
          ∙ ap (λ (x : List ℕ). set (map contents ws) w.memory x) (same
          ∙ sym (as_written (index_at f.nodes xs w.place) w.width (slice_index xs w.value)
          (index_at f.nodes xs w.index) _ _ _ _ _ _ whole least was));
    }

pub some_at : {X : Type 0} (xs : List X) (k : ℕ) (x : X) → k < length xs → x ≡ get_or xs k x → slice_get xs k ≡ Some x
some_at [] k x l is = absurd (omega (arith, l))
some_at (y ∷ ys) zero x l is = ap Some (sym is)
some_at (y ∷ ys) (suc k) x l is = some_at ys k x (omega (arith, l)) is

write_count : (whole : ℕ) (place : ℤ) (width n : ℕ) (words : List ℕ) (z : ℤ)
    → length (write_word whole place width n words z) ≡ length words
write_count whole place width n words (pos k) =
    length-set words k (ops.insert whole place width n (slice_index words k))
write_count whole place width n words (negsuc k) = refl

-- the memory that is written is there, and so are its words
pub record Written (f : Flat) (w : MemoryWrite) (ws : List MemoryWords) (m : PlainMemory) (old : MemoryWords) : Type 0 where
  pub memory : slice_get f.memories w.memory ≡ Some m
  pub words : slice_get ws w.memory ≡ Some old
  pub kept : IsKept m old
  pub writer : is_some m.writer ≡ true

pub is_written : (f : Flat) (w : MemoryWrite) (ws : List MemoryWords) (m : PlainMemory) (old : MemoryWords)
    → AllKept f.memories ws → WriteFits (length f.blocks) f.memories f.nodes w → w.memory < length f.memories
    → m ≡ get_or f.memories w.memory m → old ≡ get_or ws w.memory old → Written f w ws m old
is_written f w ws m old h fits l is there =
    let at : slice_get f.memories w.memory ≡ Some m = some_at f.memories w.memory m l is in
    let held : slice_get ws w.memory ≡ Some old =
    some_at ws w.memory old (omega (arith, l, kept_count f.memories ws h)) there in
    let n = some_with (slice_get f.memories w.memory) (λ (x : PlainMemory). IsSomeOf x.writer w.block) fits.1 in
    let same : n.0 ≡ m = let e : Some n.0 ≡ Some m = sym n.1 ∙ at in cc in
    record {
      memory = at;
      words = held;
      kept = kept_at f.memories ws w.memory m old h at held;
      writer = ap (λ (x : PlainMemory). is_some x.writer) (sym same) ∙ ap (λ (o : Option ℕ). is_some o) n.2;
    }

pub wrote : (f : Flat) (xs : List ℕ) (w : MemoryWrite) (ws : List MemoryWords) (m : PlainMemory)
    (old new : MemoryWords) → AllKept f.memories ws → Written f w ws m old → AreWords m.width new
    → contents new ≡ write_word m.width (index_at f.nodes xs w.place) w.width (slice_index xs w.value) (contents old)
    (index_at f.nodes xs w.index -ℤ pos (least_index m)) → WroteOne f xs w ws (set ws w.memory new)
wrote f xs w ws m old new h there words same =
    wrote_one f xs w ws m old new h there.memory there.words (record {
      words = words;
      count = ap (λ (x : List ℕ). length x) same
          ∙ write_count m.width (index_at f.nodes xs w.place) w.width (slice_index xs w.value) (contents old)
          (index_at f.nodes xs w.index -ℤ pos (least_index m)) ∙ there.kept.count;
      same = λ e. absurd (false≢true (sym e ∙ there.writer));
    }) same

pub memory_there : (f : Flat) (w : MemoryWrite) → WriteFits (length f.blocks) f.memories f.nodes w
    → w.memory < length f.memories
memory_there f w fits =
    let n = some_with (slice_get f.memories w.memory) (λ (x : PlainMemory). IsSomeOf x.writer w.block) fits.1 in
    slice_get_within f.memories w.memory n.0 n.1

pub memory_wide : (f : Flat) (k : ℕ) (m : PlainMemory) → IsWellFormed f → k < length f.memories
    → m ≡ get_or f.memories k m → IsWidth m.width
memory_wide f k m h l is =
    subst (λ (x : PlainMemory). IsWidth x.width) (sym is)
    (All-get_or (MemoryFits (length f.blocks)) f.memories k m l h.memories.each).0
