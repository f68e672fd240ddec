-- Notes of what a cycle changes.
use Rattle.std.proofs.Common.{◌≡◌, ℕ, zero, suc, ◌+◌, ◌<◌, ◌≤◌, ◌^◌, Bool, true, false, List, [], ◌∷◌, ◌++◌, length, take, drop, get_or, set, refl, sym, ap, ◌∙◌, subst, append-nil, drop_of_length-le, arith}
use Rattle.std.specs.Prelude.{map, is_some, ◌==◌, if◌then◌else◌, slice_get, slice_index, slice_index_or, Option, Some, IsSomeAnd, ℤ}
use Rattle.std.specs.Option.{option_map, unwrap_or}
use Rattle.std.specs.List.{All}
use Rattle.std.proofs.lemmas.Bool.Decides.{nat_tests}
use Rattle.std.proofs.Math.Seq.{take_all, drop-cons}
use Rattle.std.proofs.lemmas.List.{length-map, get_or-map, set-get_or, get_or-set_same}
use Rattle.std.proofs.lemmas.Option.{slice_get_within}
use Rattle.std.proofs.lemmas.List.Elements.{All-nil, All-cons, All-get_or}
use Rattle.bit_ops.specs.Operators as ops
use Rattle.netlist.specs.Plain.{PlainMemory}
use Rattle.netlist.specs.Design.{Flat}
use Rattle.netlist.specs.Fits.{WriteFits, IsSomeOf}
use Rattle.netlist.specs.Run.{State, write_word, written, after_writes}
use Rattle.netlist.specs.Values.{index_at}
use Rattle.netlist.specs.declared.design.MemoryWrite.{MemoryWrite}
use Rattle.netlist.specs.declared.design.RegisterPart.{RegisterPart}
use Rattle.netlist.proofs.Puts.{some_with}
use Rattle.state_changes.specs.Changes.{value_in, with_value, undone}
use Rattle.state_changes.specs.declared.changes.Element.{Element}
use Rattle.state_changes.specs.declared.changes.Element.TheVariants as e
use Rattle.state_changes.specs.declared.changes.Change.{Change}
use Rattle.state_changes.proofs.UndoLaws.{value_back}
use Rattle.step_program.specs.Values.{contents}
use Rattle.step_program.specs.declared.words.MemoryWords.{MemoryWords}
use Rattle.held_state.specs.Back.{ElementFits, ChangeFits, LeadsBack}
use Rattle.held_state.specs.Kept.{AllKept, state_words}
use Rattle.held_state.specs.Moves.{next_numbers}
use Rattle.held_state.specs.Noting.{with_note, Adds, AddsWords, AddsRegisters, state_with, goal_of, GoesTo, GoesOutside}
use Rattle.held_state.specs.States.{RegistersFit}
use Rattle.held_state.specs.Writes.{IsOutside}
use Rattle.held_state.proofs.InPlace.{write_out}
use Rattle.held_state.proofs.Words.{kept_count, state_at, state_set}

-- ---- one note

-- an element that takes its own value
value_same : (s : State) (x : Element) → with_value s x (value_in s x) ≡ s
value_same s (e.Register k) =
    ap (λ (ns : List ℕ). record { registers = ns; memories = s.memories }) (set-get_or s.registers k 0)
value_same s (e.Word m k) =
    ap (λ (ms : List (List ℕ)). record { registers = s.registers; memories = ms })
    (ap (λ (ws : List ℕ). set s.memories m ws) (set-get_or (get_or s.memories m []) k 0) ∙ set-get_or s.memories m [])

one_by : (f : Flat) (x : Element) (old new : ℕ) (cs : List Change) (s : State) (b : Bool) → (b ≡ true → old ≡ new)
    → value_in s x ≡ old → ElementFits f x old
    → Adds f cs (if b then cs else record { element = x; old = old } ∷ cs) s (with_value s x new)
one_by f x old new cs s true same is fits = record {
  fit = λ h. h;
  undoes = ap (undone cs) (ap (λ (n : ℕ). with_value s x n) (sym (same refl)) ∙ ap (λ (n : ℕ). with_value s x n) (sym is)
      ∙ value_same s x);
}
one_by f x old new cs s false same is fits = record {
  fit = λ h. All-cons (ChangeFits f) (record { element = x; old = old }) cs fits h;
  undoes = ap (λ (n : ℕ). undone cs (with_value (with_value s x new) x n)) (sym is) ∙ ap (undone cs) (value_back s x new);
}

same_number : (a b : ℕ) → (a == b) ≡ true → a ≡ b
same_number a b h = grind (arith, nat_tests, h)

-- an element that takes another value, or its own one
pub adds_one : (f : Flat) (x : Element) (old new : ℕ) (cs : List Change) (s : State) → value_in s x ≡ old
    → ElementFits f x old → Adds f cs (with_note x old new cs) s (with_value s x new)
adds_one f x old new cs s is fits = one_by f x old new cs s (old == new) (same_number old new) is fits

pub adds_none : (f : Flat) (cs : List Change) (s : State) → Adds f cs cs s s
adds_none f cs s = record { fit = λ h. h; undoes = refl }

pub adds_more : (f : Flat) (as' bs cs : List Change) (s t u : State) → Adds f as' bs s t → Adds f bs cs t u
    → Adds f as' cs s u
adds_more f as' bs cs s t u p q = record { fit = λ h. q.fit (p.fit h); undoes = q.undoes ∙ p.undoes }

-- notes in front of none lead back
pub leads_back : (f : Flat) (cs : List Change) (s t : State) → Adds f [] cs s t → LeadsBack f cs t s
leads_back f cs s t h = record { fit = h.fit (All-nil (ChangeFits f)); back = h.undoes }

-- ---- words

-- a memory has so many words as it had at first, of its width
pub words_of : (ms : List PlainMemory) (ws : List MemoryWords) (k : ℕ) (m : PlainMemory) → AllKept ms ws
    → slice_get ms k ≡ Some m
    → (length (get_or (map contents ws) k []) ≡ length m.words) × All (λ x. x < 2 ^ m.width) (get_or (map contents ws) k [])
words_of [] ws k m h at = absurd cc
words_of (n ∷ ms) [] k m h at = absurd h
words_of (n ∷ ms) (v ∷ ws) zero m h at =
    let a : n ≡ m = cc in
    subst (λ (x : PlainMemory). (length (contents v) ≡ length x.words) × All (λ y. y < 2 ^ x.width) (contents v)) a
    (h.0.count, h.0.words.fit)
words_of (n ∷ ms) (v ∷ ws) (suc k) m h at = words_of ms ws k m h.1 at

-- a word as it stands in the words of all memories
pub word_in : (ws : List MemoryWords) (m k : ℕ) (r : MemoryWords) (n : ℕ) → m < length ws → r ≡ get_or ws m r
    → n ≡ slice_index (contents r) k → n ≡ slice_index (slice_index_or (map contents ws) m []) k
word_in [] m k r n l is h = absurd (omega (arith, l))
word_in (w ∷ ws) zero k r n l is h = h ∙ ap (λ (x : MemoryWords). slice_index (contents x) k) is
word_in (w ∷ ws) (suc m) k r n l is h = word_in ws m k r n (omega (arith, l)) is h

-- the place to which a write goes is one of its memory's words
pub place_in : (f : Flat) (xs : List ℕ) (w : MemoryWrite) (ws : List MemoryWords) (k : ℕ) (d : MemoryWords)
    → AllKept f.memories ws → WriteFits (length f.blocks) f.memories f.nodes w → GoesTo f xs w k
    → k < length (contents (get_or ws w.memory d))
place_in f xs w ws k d kept fits goes =
    let p = some_with (slice_get f.memories w.memory) (λ (x : PlainMemory). IsSomeOf x.writer w.block) fits.1 in
    let short : k < length p.0.words =
    subst (λ (o : Option PlainMemory). IsSomeAnd o (λ x. k < length x.words)) p.1 goes.1 in
    let held = words_of f.memories ws w.memory p.0 kept p.1 in
    let inside : w.memory < length ws =
    omega (arith, kept_count f.memories ws kept, slice_get_within f.memories w.memory p.0 p.1) in
    let same : length (get_or (map contents ws) w.memory []) ≡ length (contents (get_or ws w.memory d)) =
    ap length (get_or-map contents ws w.memory d [] inside) in
    omega (arith, short, held.0, same)

-- another word of a memory that some block writes, in the state
pub word_set : (f : Flat) (ns : List ℕ) (ws out : List MemoryWords) (m k v : ℕ) (p : PlainMemory)
    → AllKept f.memories ws → slice_get f.memories m ≡ Some p → is_some p.writer ≡ true
    → map contents out ≡ set (map contents ws) m (set (get_or (map contents ws) m []) k v)
    → state_with f ns out ≡ with_value (state_with f ns ws) (e.Word m k) v
word_set f ns ws out m k v p kept at writer same =
    let all : List (List ℕ) = map contents ws in
    let count : length all ≡ length f.memories = length-map ws contents ∙ kept_count f.memories ws kept in
    let words : state_words f.memories (map contents out)
    ≡ set (state_words f.memories all) m (set (get_or (state_words f.memories all) m []) k v) =
    ap (λ (x : List (List ℕ)). state_words f.memories x) same
    ∙ state_set f.memories all m p (set (get_or all m []) k v) count at writer
    ∙ ap (λ (x : List ℕ). set (state_words f.memories all) m (set x k v)) (sym (state_at f.memories all m p at writer)) in
    ap (λ (x : List (List ℕ)). record { registers = ns; memories = x }) words

-- a write that goes to a word: its note
pub write_noted : (f : Flat) (xs : List ℕ) (w : MemoryWrite) (ws out : List MemoryWords) (k old new : ℕ) (cs : List Change)
    → AllKept f.memories ws → WriteFits (length f.blocks) f.memories f.nodes w → GoesTo f xs w k
    → map contents out ≡ written f xs w (map contents ws)
    → old ≡ slice_index (slice_index_or (map contents ws) w.memory []) k
    → new ≡ slice_index (slice_index_or (map contents out) w.memory []) k
    → AddsWords f cs (with_note (e.Word w.memory k) old new cs) ws out
write_noted f xs w ws out k old new cs kept fits goes same was is ns =
    let all : List (List ℕ) = map contents ws in
    let m : ℕ = w.memory in
    let p = some_with (slice_get f.memories m) (λ (x : PlainMemory). IsSomeOf x.writer w.block) fits.1 in
    let writer : is_some p.0.writer ≡ true = ap (λ (o : Option ℕ). is_some o) p.2 in
    let short : k < length p.0.words =
    subst (λ (o : Option PlainMemory). IsSomeAnd o (λ x. k < length x.words)) p.1 goes.1 in
    let held = words_of f.memories ws m p.0 kept p.1 in
    let there : k < length (get_or all m []) = omega (arith, short, held.0) in
    let inside : m < length all =
    omega (arith, length-map ws contents, kept_count f.memories ws kept, slice_get_within f.memories m p.0 p.1) in
    let whole : ℕ = unwrap_or (option_map (λ (x : PlainMemory). x.width) (slice_get f.memories m)) 0 in
    let v : ℕ = ops.insert whole (index_at f.nodes xs w.place) w.width (slice_index xs w.value) (slice_index (get_or all m []) k) in
    let put : map contents out ≡ set all m (set (get_or all m []) k v) =
    same ∙ ap (λ (z : ℤ). set all m (write_word whole (index_at f.nodes xs w.place) w.width (slice_index xs w.value)
    (get_or all m []) z)) goes.0 in
    let new_is : new ≡ v =
    is ∙ ap (λ (x : List (List ℕ)). slice_index (slice_index_or x m []) k) put
    ∙ ap (λ (x : List ℕ). get_or x k 0) (get_or-set_same all m (set (get_or all m []) k v) [] inside)
    ∙ get_or-set_same (get_or all m []) k v 0 there in
    let after : state_with f ns out ≡ with_value (state_with f ns ws) (e.Word m k) new =
    word_set f ns ws out m k v p.0 kept p.1 writer put
    ∙ ap (λ (n : ℕ). with_value (state_with f ns ws) (e.Word m k) n) (sym new_is) in
    let value : value_in (state_with f ns ws) (e.Word m k) ≡ old =
    ap (λ (x : List ℕ). get_or x k 0) (state_at f.memories all m p.0 p.1 writer) ∙ sym was in
    let old_fits : old < 2 ^ p.0.width =
    subst (λ (n : ℕ). n < 2 ^ p.0.width) (sym was) (All-get_or (λ x. x < 2 ^ p.0.width) (get_or all m []) k 0 there held.1) in
    let element : ElementFits f (e.Word m k) old =
    subst (λ (o : Option PlainMemory). IsSomeAnd o (λ x. (is_some x.writer ≡ true) × (k < length x.words) × (old < 2 ^ x.width)))
    (sym p.1) (writer, short, old_fits) in
    subst (λ (s : State). Adds f cs (with_note (e.Word m k) old new cs) (state_with f ns ws) s) (sym after)
    (adds_one f (e.Word m k) old new cs (state_with f ns ws) value element)

-- one that goes to no word changes none
pub write_lost : (f : Flat) (xs : List ℕ) (w : MemoryWrite) (ws : List MemoryWords) → AllKept f.memories ws
    → WriteFits (length f.blocks) f.memories f.nodes w → GoesOutside f xs w
    → map contents ws ≡ written f xs w (map contents ws)
write_lost f xs w ws kept fits out =
    let all : List (List ℕ) = map contents ws in
    let m : ℕ = w.memory in
    let p = some_with (slice_get f.memories m) (λ (x : PlainMemory). IsSomeOf x.writer w.block) fits.1 in
    let held = words_of f.memories ws m p.0 kept p.1 in
    let beyond : IsOutside (length (get_or all m [])) (goal_of f xs w) =
    subst (λ (n : ℕ). IsOutside n (goal_of f xs w)) (sym held.0)
    (subst (λ (o : Option PlainMemory). IsSomeAnd o (λ x. IsOutside (length x.words) (goal_of f xs w))) p.1 out) in
    let whole : ℕ = unwrap_or (option_map (λ (x : PlainMemory). x.width) (slice_get f.memories m)) 0 in
    sym (ap (λ (x : List ℕ). set all m x)
    (write_out whole (index_at f.nodes xs w.place) w.width (slice_index xs w.value) (get_or all m []) (goal_of f xs w) beyond)
    ∙ set-get_or all m [])

-- ---- register parts

-- the first i numbers are the new ones
pub mixed_at : (new old : List ℕ) (i : ℕ) → length new ≡ length old → get_or (take i new ++ drop i old) i 0 ≡ get_or old i 0
mixed_at new old zero c = refl
mixed_at [] [] (suc i) c = refl
mixed_at [] (o ∷ old) (suc i) c = absurd (omega (arith, c))
mixed_at (n ∷ new) [] (suc i) c = absurd (omega (arith, c))
mixed_at (n ∷ new) (o ∷ old) (suc i) c = mixed_at new old i (omega (arith, c))

mixed_next : (new old : List ℕ) (i : ℕ) → length new ≡ length old → i < length new
    → set (take i new ++ drop i old) i (get_or new i 0) ≡ take (suc i) new ++ drop (suc i) old
mixed_next [] old i c l = absurd (omega (arith, l))
mixed_next (n ∷ new) [] i c l = absurd (omega (arith, c))
mixed_next (n ∷ new) (o ∷ old) zero c l = refl
mixed_next (n ∷ new) (o ∷ old) (suc i) c l =
    ap (λ (x : List ℕ). n ∷ x) (mixed_next new old i (omega (arith, c)) (omega (arith, l)))

register_fits : (ps : List RegisterPart) (ns : List ℕ) (i : ℕ) → RegistersFit ps ns → i < length ps
    → IsSomeAnd (slice_get ps i) (λ p. get_or ns i 0 < 2 ^ p.range.width)
register_fits [] ns i h l = absurd (omega (arith, l))
register_fits (p ∷ ps) [] i h l = absurd h
register_fits (p ∷ ps) (n ∷ ns) zero h l = h.0
register_fits (p ∷ ps) (n ∷ ns) (suc i) h l = register_fits ps ns i h.1 (omega (arith, l))

-- one register part more
pub register_noted : (f : Flat) (first cs ds : List Change) (was next : List ℕ) (i old new : ℕ) → length next ≡ length was
    → length was ≡ length f.registers → RegistersFit f.registers was → i < length f.registers → old ≡ get_or was i 0
    → new ≡ get_or next i 0 → ds ≡ with_note (e.Register i) old new cs
    → AddsRegisters f first cs was (take i next ++ drop i was)
    → AddsRegisters f first ds was (take (i + 1) next ++ drop (i + 1) was)
register_noted f first cs ds was next i old new c d fits l old_is new_is noted h words =
    let s : State = record { registers = take i next ++ drop i was; memories = words } in
    let t : State = record { registers = was; memories = words } in
    let one : suc i ≡ i + 1 = omega arith in
    let value : value_in s (e.Register i) ≡ old = mixed_at next was i c ∙ sym old_is in
    let element : ElementFits f (e.Register i) old =
    subst (λ (n : ℕ). IsSomeAnd (slice_get f.registers i) (λ p. n < 2 ^ p.range.width)) (sym old_is)
    (register_fits f.registers was i fits l) in
    let after : with_value s (e.Register i) new
    ≡ record { registers = take (i + 1) next ++ drop (i + 1) was; memories = words } =
    ap (λ (n : ℕ). with_value s (e.Register i) n) new_is
    ∙ ap (λ (ns : List ℕ). record { registers = ns; memories = words })
    (mixed_next next was i c (omega (arith, l, c, d)) ∙ ap (λ (j : ℕ). take j next ++ drop j was) one) in
    let step : Adds f cs ds s (record { registers = take (i + 1) next ++ drop (i + 1) was; memories = words }) =
    subst (λ (xs : List Change). Adds f cs xs s (record { registers = take (i + 1) next ++ drop (i + 1) was; memories = words }))
    (sym noted) (subst (λ (u : State). Adds f cs (with_note (e.Register i) old new cs) s u) after
    (adds_one f (e.Register i) old new cs s value element)) in
    adds_more f first cs ds t s (record { registers = take (i + 1) next ++ drop (i + 1) was; memories = words }) (h words) step

-- the next number of a register part
pub next_at : (f : Flat) (xs : List ℕ) (ps : List RegisterPart) (k : ℕ) (d : RegisterPart) (n : ℕ) → ps ≡ f.registers
    → k < length f.registers → n ≡ get_or xs (get_or ps k d).next 0 → n ≡ get_or (next_numbers f xs) k 0
next_at f xs ps k d n same l is =
    is ∙ ap (λ (qs : List RegisterPart). get_or xs (get_or qs k d).next 0) same
    ∙ sym (get_or-map (λ (p : RegisterPart). get_or xs p.next 0) f.registers k d 0 l)

-- all of them
pub registers_done : (f : Flat) (first cs : List Change) (was next : List ℕ) (k : ℕ) → length next ≤ k → length was ≤ k
    → AddsRegisters f first cs was (take k next ++ drop k was) → AddsRegisters f first cs was next
registers_done f first cs was next k a b h =
    let whole : take k next ++ drop k was ≡ next =
    ap (λ (ns : List ℕ). ns ++ drop k was) (take_all k next a) ∙ ap (λ (ns : List ℕ). next ++ ns) (drop_of_length-le was {i = k} b)
    ∙ append-nil next in
    subst (λ (ns : List ℕ). AddsRegisters f first cs was ns) whole h

-- the notes of a cycle's words and register parts lead back from its next state
pub cycle_noted : (f : Flat) (as' bs cs : List Change) (ws out : List MemoryWords) (was next now : List ℕ) → as' ≡ []
    → AddsWords f as' bs ws out → AddsRegisters f bs cs was next → now ≡ next
    → LeadsBack f cs (state_with f now out) (state_with f was ws)
cycle_noted f as' bs cs ws out was next now none words registers is =
    let first : Adds f as' cs (state_with f was ws) (state_with f next out) =
    adds_more f as' bs cs (state_with f was ws) (state_with f was out) (state_with f next out) (words was)
    (registers (state_words f.memories (map contents out))) in
    let all : Adds f [] cs (state_with f was ws) (state_with f now out) =
    subst (λ (ns : List ℕ). Adds f [] cs (state_with f was ws) (state_with f ns out)) (sym is)
    (subst (λ (xs : List Change). Adds f xs cs (state_with f was ws) (state_with f next out)) none first) in
    leads_back f cs (state_with f was ws) (state_with f now out) all

-- ---- one write more

one_done : (f : Flat) (xs : List ℕ) (ws : List MemoryWrite) (i : ℕ) (d : MemoryWrite) (before after : List (List ℕ)) (b : Bool)
    → i < length ws → b ≡ ops.holds (slice_index xs (get_or ws i d).condition)
    → after ≡ (if b then written f xs (get_or ws i d) before else before)
    → after_writes f xs (drop (i + 1) ws) after ≡ after_writes f xs (drop i ws) before
one_done f xs ws i d before after b l holds is =
    let one : i + 1 ≡ suc i = omega arith in
    ap (λ (k : ℕ). after_writes f xs (drop k ws) after) one
    ∙ ap (after_writes f xs (drop (suc i) ws)) (is ∙ ap (λ (h : Bool). if h then written f xs (get_or ws i d) before else before) holds)
    ∙ sym (ap (λ (rest : List MemoryWrite). after_writes f xs rest before) (drop-cons ws i d l))

-- it was done, or it was not
pub write_done : (f : Flat) (xs : List ℕ) (ws : List MemoryWrite) (i : ℕ) (d : MemoryWrite) (before after : List (List ℕ)) (b : Bool)
    → i < length ws → b ≡ ops.holds (slice_index xs (get_or ws i d).condition) → b ≡ true
    → after ≡ written f xs (get_or ws i d) before
    → after_writes f xs (drop (i + 1) ws) after ≡ after_writes f xs (drop i ws) before
write_done f xs ws i d before after true l holds yes' is = one_done f xs ws i d before after true l holds is
write_done f xs ws i d before after false l holds yes' is = absurd cc

pub write_passed : (f : Flat) (xs : List ℕ) (ws : List MemoryWrite) (i : ℕ) (d : MemoryWrite) (before after : List (List ℕ)) (b : Bool)
    → i < length ws → b ≡ ops.holds (slice_index xs (get_or ws i d).condition) → b ≡ false → after ≡ before
    → after_writes f xs (drop (i + 1) ws) after ≡ after_writes f xs (drop i ws) before
write_passed f xs ws i d before after false l holds no' is = one_done f xs ws i d before after false l holds is
write_passed f xs ws i d before after true l holds no' is = absurd cc
