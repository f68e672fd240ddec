-- Given slots, one after another.
use Rattle.std.proofs.Common.{◌≡◌, ◌≢◌, ℕ, ◌+◌, ◌^◌, ◌<◌, ◌≤◌, inl, inr, List, [], ◌∷◌, ◌++◌, length, refl, sym, ap, ◌∙◌, subst, arith}
use Rattle.std.specs.Prelude.{Some, slice_get, slice_index}
use Rattle.std.proofs.lemmas.Bool.{cases_lt, le-leb, lt-leb}
use Rattle.std.proofs.lemmas.List.{length_push, get_or_push, get_or_append_left, get_or-append-add, get_or-map, length-map}
use Rattle.std.proofs.lemmas.Option.{slice_get_within, get_or_from_slice_get}
use Rattle.netlist.specs.Design.{Flat}
use Rattle.netlist.specs.Fits.{IsWidth}
use Rattle.netlist.specs.Run.{all_words}
use Rattle.netlist.specs.declared.design.RegisterPart.{RegisterPart}
use Rattle.step_program.specs.Values.{slot_value, is_narrow_width}
use Rattle.step_program.specs.Fits.{IsSlot, is_narrow_slot, narrow_steps, wide_steps}
use Rattle.step_program.specs.Draft.{Draft, IsGiven}
use Rattle.step_program.specs.declared.step.Slot.{Slot}
use Rattle.step_program.specs.declared.step.Slot.TheVariants as at
use Rattle.step_program.proofs.AfterLaws.{after_keeps, slot_wider}
use Rattle.net_compile.specs.Cycle.{Front, Cycle, HasSlots, slot_at, given_widths, register_widths, input_widths, signal_width}
use Rattle.net_compile.specs.Stands.{Begins, Stands}
use Rattle.net_compile.specs.Pieces.{SourceFits, source_number}
use Rattle.net_compile.specs.declared.pieces.Source.TheVariants as source
use Rattle.net_compile.proofs.Standing.{given_of}

-- ---- one slot more

-- what holds of each slot and its width, and of one more
one_more_each : (ws : List ℕ) (slots : List Slot) (w : ℕ) (slot : Slot) (P : Slot → ℕ → Type 0)
    → length slots ≡ length ws → ((k : ℕ) → k < length ws → P (slot_at slots k) (slice_index ws k)) → P slot w
    → (k : ℕ) → k < length (ws ++ w ∷ []) → P (slot_at (slots ++ slot ∷ []) k) (slice_index (ws ++ w ∷ []) k)
one_more_each ws slots w slot P count old new k l = elim (cases_lt k (length ws)) [
  | inl less ↦
      subst (λ s. P s (slice_index (ws ++ w ∷ []) k))
      (sym (get_or_append_left slots (slot ∷ []) (at.Narrow 0) k (omega (arith, less, count))))
      (subst (λ v. P (slot_at slots k) v) (sym (get_or_append_left ws (w ∷ []) 0 k less)) (old k less))
  | inr from ↦
      (let here : length ws ≡ k = omega (arith, length_push ws w) in
      subst (λ s. P s (slice_index (ws ++ w ∷ []) k)) (sym (get_or_push slots slot (at.Narrow 0) k (count ∙ here)))
      (subst (λ v. P slot v) (sym (get_or_push ws w 0 k here)) new))
]

one_more_apart : (ws : List ℕ) (front : Front) (w : ℕ) (slot : Slot) → HasSlots ws front
    → ((s : Slot) → IsSlot front.narrow front.wide s → s ≢ slot)
    → (j k : ℕ) → j < k → k < length (ws ++ w ∷ [])
    → slot_at (front.slots ++ slot ∷ []) j ≢ slot_at (front.slots ++ slot ∷ []) k
one_more_apart ws front w slot h other j k less l e =
    let below : j < length ws = omega (arith, length_push ws w) in
    let j_is : slot_at (front.slots ++ slot ∷ []) j ≡ slot_at front.slots j =
    get_or_append_left front.slots (slot ∷ []) (at.Narrow 0) j (omega (arith, below, h.count)) in
    elim (cases_lt k (length ws)) [
      | inl old ↦
          h.apart j k less old (sym j_is ∙ e
          ∙ get_or_append_left front.slots (slot ∷ []) (at.Narrow 0) k (omega (arith, old, h.count)))
      | inr from ↦
          (let here : length ws ≡ k = omega (arith, length_push ws w) in
          other (slot_at front.slots j) (h.within j below)
          (sym j_is ∙ e ∙ get_or_push front.slots slot (at.Narrow 0) k (h.count ∙ here)))
    ]

more : (ws : List ℕ) (front : Front) (w n m : ℕ) (slot : Slot) → HasSlots ws front → IsSlot n m slot
    → is_narrow_slot slot ≡ is_narrow_width w → ((s : Slot) → IsSlot front.narrow front.wide s → IsSlot n m s)
    → ((s : Slot) → IsSlot front.narrow front.wide s → s ≢ slot)
    → HasSlots (ws ++ w ∷ []) (record { narrow = n; wide = m; slots = front.slots ++ slot ∷ [] })
more ws front w n m slot h here kind stays other = record {
  count = length_push front.slots slot ∙ ap (λ k. k + 1) h.count ∙ sym (length_push ws w);
  within = one_more_each ws front.slots w slot (λ s v. IsSlot n m s) h.count (λ k l. stays (slot_at front.slots k)
      (h.within k l)) here;
  kind = one_more_each ws front.slots w slot (λ s v. is_narrow_slot s ≡ is_narrow_width v) h.count h.kind kind;
  apart = one_more_apart ws front w slot h other;
}

narrow_stays : (n m : ℕ) (s : Slot) → IsSlot n m s → IsSlot (n + 1) m s
narrow_stays n m (at.Narrow k) h = omega arith
narrow_stays n m (at.Wide k) h = h

narrow_other : (n m : ℕ) (s : Slot) → IsSlot n m s → s ≢ at.Narrow n
narrow_other n m (at.Narrow k) h e = let same : k ≡ n = cc in omega arith
narrow_other n m (at.Wide k) h e = absurd cc

wide_stays : (n m : ℕ) (s : Slot) → IsSlot n m s → IsSlot n (m + 1) s
wide_stays n m (at.Narrow k) h = h
wide_stays n m (at.Wide k) h = omega arith

wide_other : (n m : ℕ) (s : Slot) → IsSlot n m s → s ≢ at.Wide m
wide_other n m (at.Narrow k) h e = absurd cc
wide_other n m (at.Wide k) h e = let same : k ≡ m = cc in omega arith

pub more_narrow : (ws : List ℕ) (n m : ℕ) (slots : List Slot) (w : ℕ)
    → HasSlots ws (record { narrow = n; wide = m; slots = slots }) → w ≤ 64
    → HasSlots (ws ++ w ∷ []) (record { narrow = n + 1; wide = m; slots = slots ++ at.Narrow n ∷ [] })
more_narrow ws n m slots w h l =
    more ws (record { narrow = n; wide = m; slots = slots }) w (n + 1) m (at.Narrow n) h (omega arith)
    (sym (le-leb w 64 l)) (narrow_stays n m) (narrow_other n m)

pub more_wide : (ws : List ℕ) (n m : ℕ) (slots : List Slot) (w : ℕ)
    → HasSlots ws (record { narrow = n; wide = m; slots = slots }) → 64 < w
    → HasSlots (ws ++ w ∷ []) (record { narrow = n; wide = m + 1; slots = slots ++ at.Wide m ∷ [] })
more_wide ws n m slots w h l =
    more ws (record { narrow = n; wide = m; slots = slots }) w n (m + 1) (at.Wide m) h (omega arith)
    (sym (lt-leb w 64 l)) (wide_stays n m) (wide_other n m)

pub no_slots : HasSlots [] (record { narrow = 0; wide = 0; slots = [] })
no_slots = record {
  count = refl;
  within = λ k l. absurd (omega arith);
  kind = λ k l. absurd (omega arith);
  apart = λ j k less l. absurd (omega arith);
}

-- ---- numbers in given slots

-- a given slot holds what it was given, whatever steps come
pub given_stands : (f : Flat) (front : Front) (d : Draft) (k w : ℕ) (slot : Slot) (v : Cycle f front → ℕ)
    → HasSlots (given_widths f) front → Begins front d → slice_get front.slots k ≡ Some slot
    → slice_index (given_widths f) k ≡ w → IsWidth w
    → ((c : Cycle f front) → slot_value c.given (slot_at front.slots k) ≡ v c)
    → ((c : Cycle f front) → v c < 2 ^ w) → Stands f front d slot w v
given_stands f front d k w slot v h b is width wide value fits =
    let l : k < length (given_widths f) = omega (arith, slice_get_within front.slots k slot is, h.count) in
    let at_k : slot_at front.slots k ≡ slot = get_or_from_slice_get front.slots k slot (at.Narrow 0) is in
    let there : IsSlot d.narrow d.wide slot =
    subst (λ s. IsSlot d.narrow d.wide s) at_k (subst (λ n. IsSlot n d.wide (slot_at front.slots k)) (sym b.narrow)
    (subst (λ m. IsSlot front.narrow m (slot_at front.slots k)) (sym b.wide) (h.within k l))) in
    record {
      there = record {
        placed = slot_wider d.narrow d.wide (narrow_steps d.steps) (wide_steps d.steps) slot there;
        kind = subst (λ s. is_narrow_slot s ≡ is_narrow_width w) at_k (h.kind k l ∙ ap is_narrow_width width);
      };
      wide = wide;
      value = λ c.
          let i : IsGiven d.narrow d.wide c.given = given_of f front d b c in
          after_keeps (all_words f.memories c.state.memories) c.given d.steps d.narrow d.wide slot
          (record { narrow = i.narrow; wide = i.wide }) there
          ∙ ap (λ s. slot_value c.given s) (sym at_k) ∙ value c;
      fits = fits;
    }

abbrev pub blank : RegisterPart
blank = record { range = record { signal = 0; low = 0; width = 0 }; block = 0; next = 0; initial = 0 }

pub register_stands : (f : Flat) (front : Front) (d : Draft) (k w : ℕ) (slot : Slot) → HasSlots (given_widths f) front
    → Begins front d → slice_get front.slots k ≡ Some slot → IsWidth w → SourceFits f w (source.Register k)
    → Stands f front d slot w (source_number f front (source.Register k))
register_stands f front d k w slot h b is wide fits =
    let count : length (register_widths f.registers) ≡ length f.registers =
    length-map f.registers (λ p. p.range.width) in
    let width : slice_index (given_widths f) k ≡ w =
    get_or_append_left (register_widths f.registers) (input_widths f.signals f.inputs) 0 k (omega (arith, fits.0, count))
    ∙ get_or-map (λ p. p.range.width) f.registers k blank 0 fits.0 ∙ fits.1 blank in
    given_stands f front d k w slot (source_number f front (source.Register k)) h b is width wide
    (λ c. c.holds.registers k fits.0)
    (λ c. subst (λ v. slice_index c.state.registers k < 2 ^ v) (fits.1 blank) (c.state_fits.registers k blank fits.0))

pub input_stands : (f : Flat) (front : Front) (d : Draft) (k w : ℕ) (slot : Slot) → HasSlots (given_widths f) front
    → Begins front d → slice_get front.slots (length f.registers + k) ≡ Some slot → IsWidth w
    → SourceFits f w (source.Input k) → Stands f front d slot w (source_number f front (source.Input k))
input_stands f front d k w slot h b is wide fits =
    let count : length (register_widths f.registers) ≡ length f.registers =
    length-map f.registers (λ p. p.range.width) in
    let width : slice_index (given_widths f) (length f.registers + k) ≡ w =
    ap (λ n. slice_index (given_widths f) (n + k)) (sym count)
    ∙ get_or-append-add (register_widths f.registers) (input_widths f.signals f.inputs) k 0
    ∙ get_or-map (λ n. signal_width f.signals n) f.inputs k 0 0 fits.0 ∙ fits.1 in
    given_stands f front d (length f.registers + k) w slot (source_number f front (source.Input k)) h b is width wide
    (λ c. c.holds.inputs k fits.0)
    (λ c. subst (λ v. slice_index c.row k < 2 ^ v) fits.1 (c.row_fits k fits.0))
