-- Programs as they are put together: one more constant or step, and what is left.
use Rattle.std.proofs.Common.{◌≡◌, ℕ, ◌+◌, ◌-◌, ◌^◌, ◌<◌, ◌≤◌, Bool, true, false, List, [], ◌∷◌, ◌++◌, length, set, drop, refl, sym, ap, ◌∙◌, subst, inl, inr, arith, append-nil, append_assoc}
use Rattle.std.specs.Prelude.{◌⊎◌, slice_index, slice_index_or, slice_set}
use Rattle.std.proofs.lemmas.List.{get_or-set_same, get_or-set_other, length-set, length-append, drop_more, drop_all}
use Rattle.std.proofs.lemmas.Bool.{cases_eq, cases_lt, le-leb, lt-leb}
use Rattle.step_program.specs.Values.{Slots, slot_value, placed, after, is_narrow, step_value}
use Rattle.step_program.specs.Fits.{IsSlot, is_narrow_slot, next_slot, StepFits, StepsFit, narrow_one, wide_one, narrow_steps, wide_steps}
use Rattle.step_program.specs.Draft.{Draft, IsGiven, IsPlaced, value_in, narrow_count, wide_count}
use Rattle.step_program.specs.Table.{Table, stands, IsSet, with_place}
use Rattle.step_program.specs.Plan.{Plan, narrow_front, wide_front, narrow_total, wide_total, started, ran, Carries}
use Rattle.step_program.specs.Renamed as names
use Rattle.step_program.specs.Renamed.{Reads}
use Rattle.step_program.specs.Running.{slots, all_steps}
use Rattle.step_program.specs.Arranging.{slot_number, steps_of, AreNext, IsStart, IsFaithful, plan_so_far, IsArranged, Takes, AddsNarrow, AddsWide, AddsStep, Places, IsFresh, Owns, AllOwn, HasEntries, IsOpening, IsWhole, IsConstant, AreEntries, draft_from}
use Rattle.step_program.specs.declared.step.Slot.{Slot}
use Rattle.step_program.specs.declared.step.Slot.TheVariants as at
use Rattle.step_program.specs.declared.step.Step.{Step}
use Rattle.step_program.specs.declared.entry.Entry.{Entry}
use Rattle.step_program.specs.declared.numbers.Numbers.{Numbers}
use Rattle.step_program.specs.declared.arranger.Arranger.{Arranger}
use Rattle.step_program.proofs.AfterLaws.{after-append, narrow_steps-append, wide_steps-append, HasCounts, after_counts, after_keeps, put_keeps, put_value, slot_wider, next_there, both_fit}
use Rattle.step_program.proofs.Owning.{slot_at, entries_of}
use Rattle.step_program.proofs.Renames.{value_renamed, reads_map, reads_both, reads_there, fits_renamed, kind_renamed}

-- ---- tables

-- the slot of this kind and number
abbrev numbered : Slot → ℕ → Slot
numbered (at.Narrow k) n = at.Narrow n
numbered (at.Wide k) n = at.Wide n

next_numbered : (slot : Slot) (b : Bool) (n m : ℕ) → is_narrow_slot slot ≡ b
    → numbered slot (slot_number (next_slot b n m)) ≡ next_slot b n m
next_numbered (at.Narrow k) true n m e = refl
next_numbered (at.Narrow k) false n m e = absurd cc
next_numbered (at.Wide k) true n m e = absurd cc
next_numbered (at.Wide k) false n m e = refl

-- a slot is the one that is given a number, or is as before
record Apart (t : Table) (slot s : Slot) (n : ℕ) : Type 0 where
  place : stands (with_place t slot n) s ≡ stands t s
  before : IsSet (with_place t slot n) s → IsSet t s

abbrev Placing : Table → Slot → Slot → ℕ → Type 0
Placing t slot s n = ((s ≡ slot) × (stands (with_place t slot n) s ≡ numbered slot n)) ⊎ Apart t slot s n

placing : (t : Table) (slot s : Slot) (n : ℕ) → IsSlot (length t.narrow) (length t.wide) slot → Placing t slot s n
placing t (at.Narrow k) (at.Narrow j) n h =
    elim (cases_eq j k) [
      | inl same ↦ inl (ap at.Narrow same, ap (λ i. at.Narrow (slice_index (slice_set t.narrow k n) i)) same ∙ ap at.Narrow (get_or-set_same t.narrow k n 0 h))
      | inr other ↦
          let e : slice_index (slice_set t.narrow k n) j ≡ slice_index t.narrow j = get_or-set_other t.narrow k j n 0 other in
          inr (record { place = ap at.Narrow e; before = λ l. subst (λ i. i < 2 ^ 32 - 1) e l })
    ]
placing t (at.Narrow k) (at.Wide j) n h = inr (record { place = refl; before = λ l. l })
placing t (at.Wide k) (at.Narrow j) n h = inr (record { place = refl; before = λ l. l })
placing t (at.Wide k) (at.Wide j) n h =
    elim (cases_eq j k) [
      | inl same ↦ inl (ap at.Wide same, ap (λ i. at.Wide (slice_index (slice_set t.wide k n) i)) same ∙ ap at.Wide (get_or-set_same t.wide k n 0 h))
      | inr other ↦
          let e : slice_index (slice_set t.wide k n) j ≡ slice_index t.wide j = get_or-set_other t.wide k j n 0 other in
          inr (record { place = ap at.Wide e; before = λ l. subst (λ i. i < 2 ^ 32 - 1) e l })
    ]

-- what is set stays set, and the slot is set now
pub set_still : (t : Table) (slot s : Slot) (n : ℕ) → n < 2 ^ 32 - 1 → IsSlot (length t.narrow) (length t.wide) slot
    → IsSet t s → IsSet (with_place t slot n) s
set_still t (at.Narrow k) (at.Narrow j) n room h l =
    elim (cases_eq j k) [
      | inl same ↦
          let e : slice_index (slice_set t.narrow k n) j ≡ n =
          ap (slice_index (slice_set t.narrow k n)) same ∙ get_or-set_same t.narrow k n 0 h in
          subst (λ i. i < 2 ^ 32 - 1) (sym e) room
      | inr other ↦ subst (λ i. i < 2 ^ 32 - 1) (sym (get_or-set_other t.narrow k j n 0 other)) l
    ]
set_still t (at.Narrow k) (at.Wide j) n room h l = l
set_still t (at.Wide k) (at.Narrow j) n room h l = l
set_still t (at.Wide k) (at.Wide j) n room h l =
    elim (cases_eq j k) [
      | inl same ↦
          let e : slice_index (slice_set t.wide k n) j ≡ n =
          ap (slice_index (slice_set t.wide k n)) same ∙ get_or-set_same t.wide k n 0 h in
          subst (λ i. i < 2 ^ 32 - 1) (sym e) room
      | inr other ↦ subst (λ i. i < 2 ^ 32 - 1) (sym (get_or-set_other t.wide k j n 0 other)) l
    ]

pub set_now : (t : Table) (slot : Slot) (n : ℕ) → n < 2 ^ 32 - 1 → IsSlot (length t.narrow) (length t.wide) slot
    → IsSet (with_place t slot n) slot
set_now t (at.Narrow k) n room h = subst (λ i. i < 2 ^ 32 - 1) (sym (get_or-set_same t.narrow k n 0 h)) room
set_now t (at.Wide k) n room h = subst (λ i. i < 2 ^ 32 - 1) (sym (get_or-set_same t.wide k n 0 h)) room

narrow_length : (t : Table) (slot : Slot) (n : ℕ) → length (with_place t slot n).narrow ≡ length t.narrow
narrow_length t (at.Narrow k) n = length-set t.narrow k n
narrow_length t (at.Wide k) n = refl

wide_length : (t : Table) (slot : Slot) (n : ℕ) → length (with_place t slot n).wide ≡ length t.wide
wide_length t (at.Narrow k) n = refl
wide_length t (at.Wide k) n = length-set t.wide k n

-- a slot of the draft lies within the table
pub within_table : (d : Draft) (p : Plan) (t : Table) (slot : Slot) → IsFaithful d p t → IsPlaced d slot
    → IsSlot (length t.narrow) (length t.wide) slot
within_table d p t slot h i = slot_at _ _ _ _ slot (sym h.narrow_table) (sym h.wide_table) i

-- ---- the program's slots

pub ran_counts : (p : Plan) (words : List (List ℕ)) (given : Slots) → IsGiven p.narrow p.wide given
    → HasCounts (ran p words given) (narrow_total p) (wide_total p)
ran_counts p words given g =
    after_counts words (started p given) p.steps (narrow_front p) (wide_front p) (record {
      narrow = length-append given.narrow p.narrow_constants ∙ ap (λ k. k + length p.narrow_constants) g.narrow;
      wide = length-append given.wide p.wide_constants ∙ ap (λ k. k + length p.wide_constants) g.wide;
    })

pub given_of : (d : Draft) (p : Plan) (t : Table) (given : Slots) → IsFaithful d p t → IsGiven d.narrow d.wide given
    → IsGiven p.narrow p.wide given
given_of d p t given h g = record { narrow = g.narrow ∙ sym h.narrow; wide = g.wide ∙ sym h.wide }

-- a program does this one thing more: it puts the value of a slot of the draft into the slot that comes next
pub record OneMore (d : Draft) (p p' : Plan) (slot : Slot) (b : Bool) : Type 0 where
  pub narrow : p'.narrow ≡ p.narrow
  pub wide : p'.wide ≡ p.wide
  pub fits : StepsFit (narrow_front p') (wide_front p') p'.steps
  pub more_narrow : narrow_total p' ≡ narrow_total p + narrow_one b
  pub more_wide : wide_total p' ≡ wide_total p + wide_one b
  pub runs : (words : List (List ℕ)) (given : Slots) → IsGiven d.narrow d.wide given
      → ran p' words given ≡ placed b (value_in d words given slot) (ran p words given)

pub faithful_on : (d : Draft) (p p' : Plan) (t : Table) (slot : Slot) (b : Bool) → IsFaithful d p t
    → OneMore d p p' slot b → IsPlaced d slot → is_narrow_slot slot ≡ b
    → slot_number (next_slot b (narrow_total p) (wide_total p)) < 2 ^ 32 - 1
    → IsFaithful d p' (with_place t slot (slot_number (next_slot b (narrow_total p) (wide_total p))))
faithful_on d p p' t slot b h m placed_slot kind room =
    let n : ℕ = narrow_total p in let w : ℕ = wide_total p in
    let new : Slot = next_slot b n w in let number : ℕ = slot_number new in
    let here = within_table d p t slot h placed_slot in
    let is_new : numbered slot number ≡ new = next_numbered slot b n w kind in
    let wider : (s : Slot) → IsSlot (n + narrow_one b) (w + wide_one b) s → IsSlot (narrow_total p') (wide_total p') s =
    λ s i. slot_at _ _ _ _ s (sym m.more_narrow) (sym m.more_wide) i in record {
      narrow = m.narrow ∙ h.narrow;
      wide = m.wide ∙ h.wide;
      narrow_table = narrow_length t slot number ∙ h.narrow_table;
      wide_table = wide_length t slot number ∙ h.wide_table;
      fits = m.fits;
      given = λ s i. set_still t slot s number room here (h.given s i);
      within = λ s i l. elim (placing t slot s number here) [
        | inl e ↦ subst (IsSlot (narrow_total p') (wide_total p')) (sym (e.1 ∙ is_new)) (wider new (next_there b n w))
        | inr a ↦ subst (IsSlot (narrow_total p') (wide_total p')) (sym a.place)
            (wider (stands t s) (slot_wider n w (narrow_one b) (wide_one b) (stands t s) (h.within s i (a.before l))))
      ];
      value = λ words given s g i l.
          let v : ℕ = value_in d words given slot in
          let counts : HasCounts (ran p words given) n w = ran_counts p words given (given_of d p t given h g) in
          ap (λ x. slot_value x (stands (with_place t slot number) s)) (m.runs words given g)
          ∙ elim (placing t slot s number here) [
            | inl e ↦ ap (slot_value (placed b v (ran p words given))) (e.1 ∙ is_new)
                ∙ put_value b v (ran p words given) n w counts ∙ ap (value_in d words given) (sym e.0)
            | inr a ↦ ap (slot_value (placed b v (ran p words given))) a.place
                ∙ put_keeps b v (ran p words given) n w (stands t s) counts (h.within s i (a.before l))
                ∙ h.value words given s g i (a.before l)
          ];
    }

-- ---- a step more

abbrev pub with_last : Plan → Step → Plan
with_last p s = record {
  narrow = p.narrow;
  wide = p.wide;
  narrow_constants = p.narrow_constants;
  wide_constants = p.wide_constants;
  steps = p.steps ++ s ∷ [];
}

step_more : (d : Draft) (p : Plan) (t : Table) (e : Entry) → IsFaithful d p t → Owns d e → Reads (IsSet t) e.step
    → OneMore d p (with_last p (names.step t e.step)) e.slot (is_narrow e.step)
step_more d p t e h own set =
    let s : Step = names.step t e.step in
    let b : Bool = is_narrow e.step in
    let kind : is_narrow s ≡ b = kind_renamed t e.step in
    let one : narrow_one (is_narrow s) ≡ narrow_one b = ap narrow_one kind in
    let other : wide_one (is_narrow s) ≡ wide_one b = ap wide_one kind in
    let nn = narrow_steps-append p.steps (s ∷ []) in let mm = wide_steps-append p.steps (s ∷ []) in
    let reads = reads_both (IsPlaced d) (IsSet t) e.step (reads_there (narrow_count d) (wide_count d) e.step own.fits) set in
    let fits : StepFits (narrow_total p) (wide_total p) s =
    fits_renamed (narrow_count d) (wide_count d) (narrow_total p) (wide_total p) t e.step own.fits
    (reads_map (λ k. IsPlaced d k × IsSet t k) (λ k. IsSlot (narrow_total p) (wide_total p) (stands t k)) e.step
    (λ k r. h.within k r.0 r.1) reads) in record {
      narrow = refl;
      wide = refl;
      fits = both_fit (narrow_front p) (wide_front p) p.steps (s ∷ []) (narrow_total p) (wide_total p) refl refl h.fits
          (fits, tt);
      more_narrow = omega arith;
      more_wide = omega arith;
      runs = λ words given g.
          let now : Slots = ran p words given in
          let value : step_value words now s ≡ value_in d words given e.slot =
          value_renamed words now (after words given d.steps) t e.step
          (reads_map (λ k. IsPlaced d k × IsSet t k)
          (λ k. slot_value now (stands t k) ≡ slot_value (after words given d.steps) k) e.step
          (λ k r. h.value words given k g r.0 r.1) reads)
          ∙ sym (own.value words given g) in
          after-append words (started p given) p.steps (s ∷ [])
          ∙ ap (λ c. placed c (step_value words now s) now) kind ∙ ap (λ v. placed b v now) value;
    }

-- ---- a constant more, where there are no steps yet

abbrev with_constants : Plan → List ℕ → List ℕ → Plan
with_constants p narrow wide = record {
  narrow = p.narrow;
  wide = p.wide;
  narrow_constants = p.narrow_constants ++ narrow;
  wide_constants = p.wide_constants ++ wide;
  steps = p.steps;
}

-- without steps
no_steps : (p : Plan) (words : List (List ℕ)) (given : Slots) → p.steps ≡ [] → ran p words given ≡ started p given
no_steps p words given e = ap (after words (started p given)) e

narrow_more : (d : Draft) (p : Plan) (t : Table) (slot : Slot) (value : ℕ) → IsFaithful d p t → p.steps ≡ []
    → ((words : List (List ℕ)) (given : Slots) → IsGiven d.narrow d.wide given → value_in d words given slot ≡ value)
    → OneMore d p (with_constants p (value ∷ []) []) slot true
narrow_more d p t slot value h none is =
    let p' : Plan = with_constants p (value ∷ []) [] in
    let no = ap narrow_steps none in let nw = ap wide_steps none in
    let l = length-append p.narrow_constants (value ∷ []) in
    let m : length (p.wide_constants ++ []) ≡ length p.wide_constants = ap length (append-nil p.wide_constants) in record {
      narrow = refl;
      wide = refl;
      fits = subst (StepsFit (narrow_front p') (wide_front p')) (sym none) tt;
      more_narrow = omega arith;
      more_wide = omega arith;
      runs = λ words given g.
          no_steps p' words given none
          ∙ ap (λ xs. slots xs (given.wide ++ (p.wide_constants ++ [])))
          (sym (append_assoc given.narrow p.narrow_constants (value ∷ [])))
          ∙ ap (λ ys. slots (given.narrow ++ p.narrow_constants ++ value ∷ []) (given.wide ++ ys)) (append-nil p.wide_constants)
          ∙ ap (λ v. placed true v (started p given)) (sym (is words given g))
          ∙ ap (placed true (value_in d words given slot)) (sym (no_steps p words given none));
    }

wide_more : (d : Draft) (p : Plan) (t : Table) (slot : Slot) (value : ℕ) → IsFaithful d p t → p.steps ≡ []
    → ((words : List (List ℕ)) (given : Slots) → IsGiven d.narrow d.wide given → value_in d words given slot ≡ value)
    → OneMore d p (with_constants p [] (value ∷ [])) slot false
wide_more d p t slot value h none is =
    let p' : Plan = with_constants p [] (value ∷ []) in
    let no = ap narrow_steps none in let nw = ap wide_steps none in
    let l = length-append p.wide_constants (value ∷ []) in
    let m : length (p.narrow_constants ++ []) ≡ length p.narrow_constants = ap length (append-nil p.narrow_constants) in record {
      narrow = refl;
      wide = refl;
      fits = subst (StepsFit (narrow_front p') (wide_front p')) (sym none) tt;
      more_narrow = omega arith;
      more_wide = omega arith;
      runs = λ words given g.
          no_steps p' words given none
          ∙ ap (λ ys. slots (given.narrow ++ (p.narrow_constants ++ [])) ys)
          (sym (append_assoc given.wide p.wide_constants (value ∷ [])))
          ∙ ap (λ xs. slots (given.narrow ++ xs) (given.wide ++ p.wide_constants ++ value ∷ [])) (append-nil p.narrow_constants)
          ∙ ap (λ v. placed false v (started p given)) (sym (is words given g))
          ∙ ap (placed false (value_in d words given slot)) (sym (no_steps p words given none));
    }

-- ---- the arranger

-- a slot was taken for what the program does more
taken : (d : Draft) (a a' : Arranger) (slot : Slot) (b : Bool) → IsArranged d a → Takes a a' slot b
    → OneMore d (plan_so_far a) (plan_so_far a') slot b → IsPlaced d slot → is_narrow_slot slot ≡ b → IsArranged d a'
taken d a a' slot b h k m placed_slot kind =
    let p : Plan = plan_so_far a in
    let same : slot_number (next_slot b a.next.narrow a.next.wide) ≡ slot_number (next_slot b (narrow_total p) (wide_total p)) =
    λ i. slot_number (next_slot b (h.narrow i) (h.wide i)) in
    let tn = m.more_narrow in let tw = m.more_wide in let hn = h.narrow in let hw = h.wide in
    let kn = k.narrow in let kw = k.wide in record {
      faithful = subst (IsFaithful d (plan_so_far a')) (sym (k.placement ∙ ap (with_place a.placement slot) same))
          (faithful_on d p (plan_so_far a') a.placement slot b h.faithful m placed_slot kind
          (subst (λ i. i < 2 ^ 32 - 1) same k.room));
      narrow = omega arith;
      wide = omega arith;
    }

pub step_added : (d : Draft) (a a' : Arranger) (e : Entry) → IsArranged d a → AddsStep a a' e → Owns d e
    → Reads (IsSet a.placement) e.step → IsArranged d a'
step_added d a a' e h k own set =
    let p : Plan = plan_so_far a in
    let same : with_last p (names.step a.placement e.step) ≡ plan_so_far a' = λ i. record {
      narrow = (sym k.takes.given i).narrow;
      wide = (sym k.takes.given i).wide;
      narrow_constants = sym k.narrow i;
      wide_constants = sym k.wide i;
      steps = sym k.steps i;
    } in
    taken d a a' e.slot (is_narrow e.step) h k.takes
    (subst (λ q. OneMore d p q e.slot (is_narrow e.step)) same (step_more d p a.placement e h.faithful own set))
    own.placed own.kind

pub narrow_added : (d : Draft) (a a' : Arranger) (slot : Slot) (value : ℕ) → IsOpening d a → AddsNarrow a a' slot value
    → IsPlaced d slot → is_narrow_slot slot ≡ true
    → ((words : List (List ℕ)) (given : Slots) → IsGiven d.narrow d.wide given → value_in d words given slot ≡ value)
    → IsOpening d a'
narrow_added d a a' slot value h k placed_slot kind is =
    let p : Plan = plan_so_far a in
    let same : with_constants p (value ∷ []) [] ≡ plan_so_far a' = λ i. record {
      narrow = (sym k.takes.given i).narrow;
      wide = (sym k.takes.given i).wide;
      narrow_constants = sym k.narrow i;
      wide_constants = (append-nil p.wide_constants ∙ sym k.wide) i;
      steps = sym k.steps i;
    } in record {
      arranged = taken d a a' slot true h.arranged k.takes
          (subst (λ q. OneMore d p q slot true) same
          (narrow_more d p a.placement slot value h.arranged.faithful h.steps is)) placed_slot kind;
      steps = k.steps ∙ h.steps;
    }

pub wide_added : (d : Draft) (a a' : Arranger) (slot : Slot) (value : ℕ) → IsOpening d a → AddsWide a a' slot value
    → IsPlaced d slot → is_narrow_slot slot ≡ false
    → ((words : List (List ℕ)) (given : Slots) → IsGiven d.narrow d.wide given → value_in d words given slot ≡ value)
    → IsOpening d a'
wide_added d a a' slot value h k placed_slot kind is =
    let p : Plan = plan_so_far a in
    let same : with_constants p [] (value ∷ []) ≡ plan_so_far a' = λ i. record {
      narrow = (sym k.takes.given i).narrow;
      wide = (sym k.takes.given i).wide;
      narrow_constants = (append-nil p.narrow_constants ∙ sym k.narrow) i;
      wide_constants = sym k.wide i;
      steps = sym k.steps i;
    } in record {
      arranged = taken d a a' slot false h.arranged k.takes
          (subst (λ q. OneMore d p q slot false) same
          (wide_more d p a.placement slot value h.arranged.faithful h.steps is)) placed_slot kind;
      steps = k.steps ∙ h.steps;
    }

-- a constant's slot has its value, and is narrow where its width is at most 64
constant_value : (d : Draft) (e : Entry) (w v : ℕ) → IsConstant e.step w v → Owns d e → (words : List (List ℕ))
    (given : Slots) → IsGiven d.narrow d.wide given → value_in d words given e.slot ≡ v
constant_value d e w v is own words given g =
    own.value words given g ∙ ap (step_value words (after words given d.steps)) is

pub narrow_hoisted : (d : Draft) (a a' : Arranger) (e : Entry) (w v v' : ℕ) → IsConstant e.step w v → w ≤ 64 → v' ≡ v
    → Owns d e → IsOpening d a → AddsNarrow a a' e.slot v' → IsOpening d a'
narrow_hoisted d a a' e w v v' is few same own h k =
    narrow_added d a a' e.slot v' h k own.placed (own.kind ∙ ap is_narrow is ∙ le-leb w 64 few)
    (λ words given g. constant_value d e w v is own words given g ∙ sym same)

pub wide_hoisted : (d : Draft) (a a' : Arranger) (e : Entry) (w v : ℕ) → IsConstant e.step w v → 64 < w → Owns d e
    → IsOpening d a → AddsWide a a' e.slot v → IsOpening d a'
wide_hoisted d a a' e w v is many own h k =
    wide_added d a a' e.slot v h k own.placed (own.kind ∙ ap is_narrow is ∙ lt-leb w 64 many)
    (constant_value d e w v is own)

-- ---- the given slots alone

-- a number that is no placeholder is its own
own_number : (given total k : ℕ) (numbers : List ℕ) → IsStart given total numbers → k < total
    → slice_index numbers k < 2 ^ 32 - 1 → (k < given) × (slice_index numbers k ≡ k)
own_number given total k numbers h l set =
    elim (cases_lt k given) [
      | inl low ↦ (low, h.own k low l)
      | inr high ↦ let e = h.none k high l in absurd (omega arith)
    ]

-- a slot that is set is given, and stands at its own number
record Own (d : Draft) (t : Table) (s : Slot) : Type 0 where
  given : IsSlot d.narrow d.wide s
  place : stands t s ≡ s

set_own : (d : Draft) (t : Table) (s : Slot) → IsStart d.narrow (narrow_count d) t.narrow
    → IsStart d.wide (wide_count d) t.wide → IsPlaced d s → IsSet t s → Own d t s
set_own d t (at.Narrow k) n w i l =
    let o = own_number d.narrow (narrow_count d) k t.narrow n i l in record { given = o.0; place = ap at.Narrow o.1 }
set_own d t (at.Wide k) n w i l =
    let o = own_number d.wide (wide_count d) k t.wide w i l in record { given = o.0; place = ap at.Wide o.1 }

given_set : (d : Draft) (t : Table) (s : Slot) → IsStart d.narrow (narrow_count d) t.narrow → IsStart d.wide (wide_count d) t.wide → IsSlot d.narrow d.wide s → IsSet t s
given_set d t (at.Narrow k) n w i = let f = n.few in let c : k < narrow_count d = omega arith in let e = n.own k i c in omega arith
given_set d t (at.Wide k) n w i = let f = w.few in let c : k < wide_count d = omega arith in let e = w.own k i c in omega arith

-- a program without constants and steps
abbrev bare : Draft → Plan
bare d = record { narrow = d.narrow; wide = d.wide; narrow_constants = []; wide_constants = []; steps = [] }

bare_faithful : (d : Draft) (t : Table) → IsStart d.narrow (narrow_count d) t.narrow → IsStart d.wide (wide_count d) t.wide → IsFaithful d (bare d) t
bare_faithful d t n w = record {
  narrow = refl;
  wide = refl;
  narrow_table = n.count;
  wide_table = w.count;
  fits = tt;
  given = λ s i. given_set d t s n w i;
  within = λ s i l. let o = set_own d t s n w i l in
      subst (IsSlot (narrow_total (bare d)) (wide_total (bare d))) (sym o.place)
      (slot_at _ _ _ _ s (omega arith) (omega arith) o.given);
  value = λ words given s g i l. let o = set_own d t s n w i l in
      ap (slot_value (ran (bare d) words given)) o.place
      ∙ ap (λ x. slot_value x s) (λ i. slots (append-nil given.narrow i) (append-nil given.wide i))
      ∙ sym (after_keeps words given d.steps d.narrow d.wide s (record { narrow = g.narrow; wide = g.wide }) o.given);
}

pub fresh_opens : (given total : Numbers) (entries : List Entry) (a : Arranger) → IsFresh given total a
    → AreEntries given total entries → IsOpening (draft_from given entries) a
fresh_opens given total entries a h e =
    let d : Draft = draft_from given entries in
    let same : bare d ≡ plan_so_far a = λ i. record {
      narrow = (sym h.given i).narrow;
      wide = (sym h.given i).wide;
      narrow_constants = sym h.narrow i;
      wide_constants = sym h.wide i;
      steps = all_steps (sym h.steps i);
    } in
    let n : IsStart given.narrow (narrow_count d) a.placement.narrow =
    subst (λ k. IsStart given.narrow k a.placement.narrow) e.narrow h.placement.narrow in
    let w : IsStart given.wide (wide_count d) a.placement.wide =
    subst (λ k. IsStart given.wide k a.placement.wide) e.wide h.placement.wide in
    let zero_n : narrow_total (bare d) ≡ given.narrow = omega arith in
    let zero_w : wide_total (bare d) ≡ given.wide = omega arith in record {
      arranged = record {
        faithful = subst (λ p. IsFaithful d p a.placement) same (bare_faithful d a.placement n w);
        narrow = ap (λ k. k.narrow) h.next ∙ sym zero_n ∙ ap narrow_total same;
        wide = ap (λ k. k.wide) h.next ∙ sym zero_w ∙ ap wide_total same;
      };
      steps = ap all_steps h.steps;
    }

-- ---- all entries

-- the slots before n and m are set, and these entries are left
pub record Progress (d : Draft) (a : Arranger) (rest : List Entry) : Type 0 where
  pub n : ℕ
  pub m : ℕ
  pub arranged : IsArranged d a
  pub set : (s : Slot) → IsSlot n m s → IsSet a.placement s
  pub next : AreNext n m rest
  pub fits : StepsFit n m (steps_of rest)
  pub narrow : n + narrow_steps (steps_of rest) ≡ narrow_count d
  pub wide : m + wide_steps (steps_of rest) ≡ wide_count d

pub progress_starts : (d : Draft) (a : Arranger) (entries : List Entry) → HasEntries d entries → IsArranged d a
    → Progress d a entries
progress_starts d a entries h arranged = record {
  n = d.narrow;
  m = d.wide;
  arranged = arranged;
  set = arranged.faithful.given;
  next = h.slots;
  fits = h.fits;
  narrow = ap (λ s. d.narrow + narrow_steps s) (sym h.steps);
  wide = ap (λ s. d.wide + wide_steps s) (sym h.steps);
}

-- a slot before the next numbers stands before these, or is the one that came next
abbrev Before : Bool → ℕ → ℕ → Slot → Type 0
Before b n m s = IsSlot n m s ⊎ (s ≡ next_slot b n m)

last_or_before : (b : Bool) (n m : ℕ) (s : Slot) → IsSlot (n + narrow_one b) (m + wide_one b) s → Before b n m s
last_or_before true n m (at.Narrow k) h =
    elim (cases_lt k n) [ inl low ↦ inl low | inr high ↦ let e : k ≡ n = omega arith in inr (ap at.Narrow e) ]
last_or_before true n m (at.Wide k) h = let l : k < m = omega arith in inl l
last_or_before false n m (at.Narrow k) h = let l : k < n = omega arith in inl l
last_or_before false n m (at.Wide k) h =
    elim (cases_lt k m) [ inl low ↦ inl low | inr high ↦ let e : k ≡ m = omega arith in inr (ap at.Wide e) ]

-- with the slots before set and this one set, so are those before the next
progress_next : (d : Draft) (a a' : Arranger) (x : Entry) (more : List Entry) (p : Progress d a (x ∷ more))
    → IsArranged d a' → ((s : Slot) → IsSlot p.n p.m s → IsSet a'.placement s) → IsSet a'.placement x.slot
    → Progress d a' more
progress_next d a a' x more p arranged still now =
    let b : Bool = is_narrow x.step in let pn = p.narrow in let pw = p.wide in record {
      n = p.n + narrow_one b;
      m = p.m + wide_one b;
      arranged = arranged;
      set = λ s i. elim (last_or_before b p.n p.m s i) [
        | inl before ↦ still s before
        | inr last ↦ subst (IsSet a'.placement) (p.next.0 ∙ sym last) now
      ];
      next = p.next.1;
      fits = p.fits.1;
      narrow = omega arith;
      wide = omega arith;
    }

pub progress_on : (d : Draft) (a a' : Arranger) (x : Entry) (more : List Entry) → Progress d a (x ∷ more) → Owns d x
    → Places a a' x → Progress d a' more
progress_on d a a' x more p own (inl same) =
    subst (λ c. Progress d c more) (sym same.1) (progress_next d a a x more p p.arranged p.set same.0)
progress_on d a a' x more p own (inr added) =
    let k = added.takes in
    let b : Bool = is_narrow x.step in
    let number : ℕ = slot_number (next_slot b a.next.narrow a.next.wide) in
    let reads = reads_map (IsSlot p.n p.m) (IsSet a.placement) x.step p.set (reads_there p.n p.m x.step p.fits.0) in
    let here = within_table d (plan_so_far a) a.placement x.slot p.arranged.faithful own.placed in
    progress_next d a a' x more p (step_added d a a' x p.arranged added own reads)
    (λ s i. subst (λ t. IsSet t s) (sym k.placement) (set_still a.placement x.slot s number k.room here (p.set s i)))
    (subst (λ t. IsSet t x.slot) (sym k.placement) (set_now a.placement x.slot number k.room here))

pub progress_ends : (d : Draft) (a : Arranger) → Progress d a [] → IsWhole d a
progress_ends d a p =
    let pn = p.narrow in let pw = p.wide in
    let en : narrow_count d ≡ p.n = omega arith in let em : wide_count d ≡ p.m = omega arith in
    record { arranged = p.arranged; all = λ s i. p.set s (slot_at _ _ _ _ s en em i) }

-- ---- the program

pub carries : (d : Draft) (a : Arranger) → IsWhole d a → Carries d (plan_so_far a) a.placement
carries d a h = let f = h.arranged.faithful in record {
  narrow = f.narrow;
  wide = f.wide;
  within = λ s i. f.within s i (h.all s i);
  value = λ words given s g i. f.value words given s g i (h.all s i);
}

pub progress_at : (d : Draft) (a a' : Arranger) (entries : List Entry) (i : ℕ) (e : Entry) → HasEntries d entries
    → i < length entries → Progress d a (drop i entries) → Places a a' (slice_index_or entries i e)
    → Progress d a' (drop (i + 1) entries)
progress_at d a a' entries i e h l p places =
    progress_on d a a' (slice_index_or entries i e) (drop (i + 1) entries)
    (subst (Progress d a) (drop_more entries i e l) p) (h.owns i e l) places

-- after the last entry
pub progress_all : (d : Draft) (a : Arranger) (entries : List Entry) (i : ℕ) → length entries ≤ i
    → Progress d a (drop i entries) → IsWhole d a
progress_all d a entries i l p = progress_ends d a (subst (Progress d a) (drop_all i entries l) p)

-- ---- all of it

pub arranged_whole : (given total : Numbers) (entries : List Entry) (a b c e : Arranger) → AreEntries given total entries
    → IsFresh given total a → ((d : Draft) → AllOwn d entries → IsOpening d a → IsOpening d b)
    → ((d : Draft) → AllOwn d entries → IsArranged d b → IsArranged d c)
    → ((d : Draft) → HasEntries d entries → IsArranged d c → IsWhole d e) → IsWhole (draft_from given entries) e
arranged_whole given total entries a b c e h fresh hoisted early placed =
    let d : Draft = draft_from given entries in
    let has : HasEntries d entries = entries_of given total entries h in
    placed d has (early d has.owns (hoisted d has.owns (fresh_opens given total entries a fresh h)).arranged)
