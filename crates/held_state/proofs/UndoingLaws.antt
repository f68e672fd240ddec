-- Changes undone in the slots and in the words.
use Rattle.std.proofs.Common.{◌≡◌, ◌≢◌, ℕ, zero, suc, ◌+◌, ◌<◌, ◌^◌, true, List, [], ◌∷◌, length, take, get_or, set, refl, sym, ap, ◌∙◌, subst, arith}
use Rattle.std.specs.Prelude.{map, is_some, slice_get, Option, Some, IsSomeAnd}
use Rattle.std.proofs.lemmas.Bool.{false≢true}
use Rattle.std.proofs.lemmas.List.{get_or-take, length-take-le, length-set, get_or-map, map-set}
use Rattle.std.proofs.lemmas.Option.{slice_get_within, get_or_from_slice_get}
use Rattle.netlist.specs.Plain.{PlainMemory}
use Rattle.netlist.specs.Design.{Flat}
use Rattle.netlist.specs.Fits.{IsWellFormed}
use Rattle.netlist.specs.Run.{State}
use Rattle.netlist.specs.declared.design.RegisterPart.{RegisterPart}
use Rattle.netlist.proofs.Puts.{some_with}
use Rattle.net_compile.specs.Cycle.{slot_at}
use Rattle.net_compile.specs.Compiles.{Machine, Compiles}
use Rattle.std.specs.List.{All}
use Rattle.state_changes.specs.Changes.{with_value, undone}
use Rattle.state_changes.specs.declared.changes.Change.{Change}
use Rattle.state_changes.specs.declared.changes.Element.TheVariants as e
use Rattle.step_program.specs.Values.{Slots, slot_value, contents}
use Rattle.step_program.specs.Fits.{IsSlot}
use Rattle.step_program.specs.declared.step.Slot.{Slot}
use Rattle.step_program.specs.declared.step.Slot.TheVariants as at
use Rattle.step_program.specs.declared.words.MemoryWords.{MemoryWords}
use Rattle.held_state.specs.Back.{ElementFits, ChangeFits}
use Rattle.held_state.specs.Kept.{AreWords, IsKept, AllKept}
use Rattle.held_state.specs.Moves.{register_numbers}
use Rattle.held_state.specs.Noting.{state_with, held_state, CanRun}
use Rattle.held_state.specs.Slots.{numbers, with_number, Takes}
use Rattle.held_state.specs.States.{RegistersFit}
use Rattle.held_state.proofs.InPlace.{some_at}
use Rattle.held_state.proofs.Machines.{in_taken, all_wider, apart_taken, all_apart, ready_after}
use Rattle.held_state.proofs.NotingLaws.{word_set}
use Rattle.held_state.proofs.Puts.{AllIn, AllApart, one_there, one_other, kept_numbers}
use Rattle.held_state.proofs.Takes.{state_takes}
use Rattle.held_state.proofs.GivenLaws.{all_in, slot_count}
use Rattle.held_state.proofs.Words.{kept_at, kept_count, kept_set}

-- ---- register parts

-- another number in one of the slots
set_number : (x : Slots) (ss : List Slot) (k n : ℕ) → AllIn (length x.narrow) (length x.wide) ss → AllApart ss
    → k < length ss → numbers (with_number x (slot_at ss k) n) ss ≡ set (numbers x ss) k n
set_number x [] k n i a l = absurd (omega (arith, l))
set_number x (s ∷ ss) zero n i a l =
    let here : slot_value (with_number x s n) s ≡ n = one_there x s n (i 0 (omega arith)) in
    let more : numbers (with_number x s n) ss ≡ numbers x ss =
    kept_numbers x (s ∷ []) ss (n ∷ []) (λ j k' g h. apart_first s ss a j k' g h) in
    cc
  where
    apart_first : (s : Slot) (ss : List Slot) → AllApart (s ∷ ss) → (j k : ℕ) → j < length ss → k < length (s ∷ [])
        → slot_at ss j ≢ slot_at (s ∷ []) k
    apart_first s ss a j zero g h e = a 0 (suc j) (omega arith) (omega (arith, g)) (sym e)
    apart_first s ss a j (suc k) g h e = absurd (omega (arith, h))
set_number x (s ∷ ss) (suc k) n i a l =
    let here : slot_value (with_number x (slot_at ss k) n) s ≡ slot_value x s =
    one_other x (slot_at ss k) s n (a 0 (suc k) (omega arith) (omega (arith, l))) in
    let more : numbers (with_number x (slot_at ss k) n) ss ≡ set (numbers x ss) k n =
    set_number x ss k n (λ j g. i (suc j) (omega (arith, g))) (λ j h less g. a (suc j) (suc h) (omega (arith, less)) (omega (arith, g)))
    (omega (arith, l)) in
    cc

fit_set : (ps : List RegisterPart) (ns : List ℕ) (k n : ℕ) → RegistersFit ps ns
    → IsSomeAnd (slice_get ps k) (λ p. n < 2 ^ p.range.width) → RegistersFit ps (set ns k n)
fit_set [] [] k n h one = tt
fit_set [] (x ∷ ns) k n h one = absurd h
fit_set (p ∷ ps) [] k n h one = absurd h
fit_set (p ∷ ps) (x ∷ ns) zero n h one = (one, h.1)
fit_set (p ∷ ps) (x ∷ ns) (suc k) n h one = (h.0, fit_set ps ns k n h.1 one)

part_there : (ps : List RegisterPart) (k n : ℕ) → IsSomeAnd (slice_get ps k) (λ p. n < 2 ^ p.range.width) → k < length ps
part_there [] k n h = absurd h
part_there (p ∷ ps) zero n h = omega arith
part_there (p ∷ ps) (suc k) n h = let l = part_there ps k n h in omega (arith, l)

set_same : (ns : List ℕ) (k n : ℕ) → k < length ns → get_or (set ns k n) k 0 ≡ n
set_same [] k n l = absurd (omega (arith, l))
set_same (x ∷ ns) zero n l = refl
set_same (x ∷ ns) (suc k) n l = set_same ns k n (omega (arith, l))

module _ (f : Flat) (m : Machine) (x : Slots) (ws : List MemoryWords) (k n : ℕ) (w : IsWellFormed f) (c : Compiles f m)
    (h : CanRun f m x ws) (fits : ElementFits f (e.Register k) n) where
  all : length m.front.slots ≡ length f.registers + length f.inputs
  all = slot_count f m c

  there : k < length f.registers
  there = part_there f.registers k n fits

  abbrev front : List Slot
  front = take (length f.registers) m.front.slots

  inside : AllIn m.plan.narrow m.plan.wide front
  inside = in_taken m.plan.narrow m.plan.wide m.front.slots (length f.registers) (omega (arith, all)) (all_in f m c)

  long : length front ≡ length f.registers
  long = length-take-le (length f.registers) m.front.slots (omega (arith, all))

  -- the slot of a register part, which takes the number
  pub slot_there : k < length m.front.slots
  slot_there = omega (arith, there, all)

  slot_is : slot_at front k ≡ slot_at m.front.slots k
  slot_is = get_or-take (length f.registers) m.front.slots k (at.Narrow 0) there

  other_fits : RegistersFit f.registers (set (register_numbers f m x) k n)
  other_fits = fit_set f.registers (register_numbers f m x) k n h.registers fits

  pub slot_in : IsSlot (length x.narrow) (length x.wide) (slot_at m.front.slots k)
  slot_in = subst (λ s. IsSlot (length x.narrow) (length x.wide) s) slot_is (all_wider m.plan x h.ready front inside k (omega (arith, there, long)))

  pub slot_takes : Takes (slot_at m.front.slots k) n
  slot_takes =
      let ns : List ℕ = set (register_numbers f m x) k n in
      let t = state_takes f m x ns w c h.ready other_fits in
      let count : k < length ns = omega (arith, t.count, there, long) in
      let number : get_or ns k 0 ≡ n =
      set_same (register_numbers f m x) k n (omega (arith, count, length-set (register_numbers f m x) k n)) in
      subst (λ s. Takes s n) slot_is (subst (λ v. Takes (slot_at front k) v) number (t.takes k count))

  number_set : register_numbers f m (with_number x (slot_at m.front.slots k) n) ≡ set (register_numbers f m x) k n
  number_set =
      ap (λ (s : Slot). numbers (with_number x s n) front) (sym slot_is)
      ∙ set_number x front k n (all_wider m.plan x h.ready front inside)
      (apart_taken m.front.slots (length f.registers) (omega (arith, all)) (all_apart f m c)) (omega (arith, there, long))

  one_in : AllIn m.plan.narrow m.plan.wide (slot_at m.front.slots k ∷ [])
  one_in zero l = all_in f m c k slot_there
  one_in (suc j) l = absurd (omega (arith, l))

  pub register_runs : (y : Slots) → y ≡ with_number x (slot_at m.front.slots k) n → CanRun f m y ws
  register_runs y is = subst (λ z. CanRun f m z ws) (sym is) (record {
    ready = ready_after m.plan x (slot_at m.front.slots k ∷ []) (n ∷ []) h.ready one_in;
    registers = subst (λ ns. RegistersFit f.registers ns) (sym number_set) other_fits;
    words = h.words;
  })

  pub register_back : (y : Slots) → y ≡ with_number x (slot_at m.front.slots k) n
      → held_state f m y ws ≡ with_value (held_state f m x ws) (e.Register k) n
  register_back y is =
      ap (λ (z : Slots). held_state f m z ws) is ∙ ap (λ (ns : List ℕ). state_with f ns ws) number_set

-- ---- words

-- the memory of a word
pub record Held (f : Flat) (ws : List MemoryWords) (m k n : ℕ) (p : PlainMemory) (old : MemoryWords) : Type 0 where
  pub memory : slice_get f.memories m ≡ Some p
  pub words : slice_get ws m ≡ Some old
  pub kept : IsKept p old
  pub writer : is_some p.writer ≡ true
  pub place : k < length (contents old)
  pub fits : n < 2 ^ p.width

pub memory_at : (f : Flat) (m k n : ℕ) → ElementFits f (e.Word m k) n → m < length f.memories
memory_at f m k n h =
    let p = some_with (slice_get f.memories m) (λ (x : PlainMemory). (is_some x.writer ≡ true) × (k < length x.words) × (n < 2 ^ x.width)) h in
    slice_get_within f.memories m p.0 p.1

pub is_held : (f : Flat) (ws : List MemoryWords) (m k n : ℕ) (p : PlainMemory) (old : MemoryWords) → AllKept f.memories ws
    → ElementFits f (e.Word m k) n → p ≡ get_or f.memories m p → old ≡ get_or ws m old → Held f ws m k n p old
is_held f ws m k n p old kept h is there =
    let l : m < length f.memories = memory_at f m k n h in
    let at : slice_get f.memories m ≡ Some p = some_at f.memories m p l is in
    let held : slice_get ws m ≡ Some old = some_at ws m old (omega (arith, l, kept_count f.memories ws kept)) there in
    let one : IsKept p old = kept_at f.memories ws m p old kept at held in
    let u = subst (λ (o : Option PlainMemory). IsSomeAnd o (λ x. (is_some x.writer ≡ true) × (k < length x.words) × (n < 2 ^ x.width))) at h in
    record {
      memory = at;
      words = held;
      kept = one;
      writer = u.0;
      place = omega (arith, u.1, one.count);
      fits = u.2;
    }

module _ (f : Flat) (m : Machine) (x : Slots) (ws : List MemoryWords) (memory k n : ℕ) (p : PlainMemory) (old new : MemoryWords)
    (h : CanRun f m x ws) (u : Held f ws memory k n p old) (words : AreWords p.width new)
    (same : contents new ≡ set (contents old) k n) where
  kept_new : IsKept p new
  kept_new = record {
    words = words;
    count = ap length same ∙ length-set (contents old) k n ∙ u.kept.count;
    same = λ e. absurd (false≢true (sym e ∙ u.writer));
  }

  pub word_runs : CanRun f m x (set ws memory new)
  word_runs = record {
    ready = h.ready;
    registers = h.registers;
    words = kept_set f.memories ws memory p new h.words u.memory kept_new;
  }

  was : get_or (map contents ws) memory [] ≡ contents old
  was = get_or-map contents ws memory old [] (slice_get_within ws memory old u.words)
      ∙ ap contents (get_or_from_slice_get ws memory old old u.words)

  pub word_back : held_state f m x (set ws memory new) ≡ with_value (held_state f m x ws) (e.Word memory k) n
  word_back =
      word_set f (register_numbers f m x) ws (set ws memory new) memory k n p h.words u.memory u.writer
      (map-set contents ws memory new ∙ ap (λ (v : List ℕ). set (map contents ws) memory v)
      (same ∙ ap (λ (v : List ℕ). set v k n) (sym was)))

-- ---- one note after another

pub first_fits : (f : Flat) (cs ds : List Change) (x : Change) → cs ≡ x ∷ ds → All (ChangeFits f) cs → ChangeFits f x
first_fits f cs ds x e h = let all : All (ChangeFits f) (x ∷ ds) = subst (All (ChangeFits f)) e h in all 0 x (omega arith)

pub rest_fits : (f : Flat) (cs ds : List Change) (x : Change) → cs ≡ x ∷ ds → All (ChangeFits f) cs → All (ChangeFits f) ds
rest_fits f cs ds x e h =
    let all : All (ChangeFits f) (x ∷ ds) = subst (All (ChangeFits f)) e h in
    λ k d l. all (suc k) d (omega (arith, l))

-- the newest note is undone first
pub undone_one : (cs ds : List Change) (x : Change) (s t : State) → cs ≡ x ∷ ds → t ≡ with_value s x.element x.old
    → undone ds t ≡ undone cs s
undone_one cs ds x s t e is = ap (undone ds) is ∙ ap (λ (xs : List Change). undone xs s) (sym e)
