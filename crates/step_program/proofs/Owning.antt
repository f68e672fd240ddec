-- Drafts: a step that is put in, and what each entry's slot has.
use Rattle.std.proofs.Common.{◌≡◌, ℕ, zero, suc, ◌+◌, Bool, true, false, List, [], ◌∷◌, ◌++◌, refl, sym, ap, ◌∙◌, subst, arith, append_assoc}
use Rattle.step_program.specs.Values.{Slots, slot_value, placed, after, is_narrow, step_value}
use Rattle.step_program.specs.Fits.{IsSlot, is_narrow_slot, next_slot, StepFits, StepsFit, narrow_one, wide_one, narrow_steps, wide_steps}
use Rattle.step_program.specs.Draft.{Draft, IsGiven, IsPlaced, Fits, HasStep, narrow_count, wide_count}
use Rattle.step_program.specs.Arranging.{IsNext, IsAmong, steps_of, draft_from, AreNext, AreEntries, Owns, AllOwn, HasEntries}
use Rattle.step_program.specs.declared.step.Slot.{Slot}
use Rattle.step_program.specs.declared.step.Step.{Step}
use Rattle.step_program.specs.declared.entry.Entry.{Entry}
use Rattle.step_program.specs.declared.numbers.Numbers.{Numbers}
use Rattle.step_program.specs.declared.numbers.Next.{Next}
use Rattle.step_program.proofs.AfterLaws.{after-append, narrow_steps-append, wide_steps-append, HasCounts, placed_counts, after_counts, put_keeps, put_value, after_keeps, next_there, slot_wider, both_fit}
use Rattle.step_program.proofs.Renames.{value_same, reads_map, reads_there, fits_wider}

given_counts : (n m : ℕ) (given : Slots) → IsGiven n m given → HasCounts given n m
given_counts n m given h = record { narrow = h.narrow; wide = h.wide }

-- the slots after the draft's steps
pub draft_counts : (d : Draft) (words : List (List ℕ)) (given : Slots) → IsGiven d.narrow d.wide given
    → HasCounts (after words given d.steps) (narrow_count d) (wide_count d)
draft_counts d words given h = after_counts words given d.steps d.narrow d.wide (given_counts d.narrow d.wide given h)

pub next_kind : (b : Bool) (n m : ℕ) → is_narrow_slot (next_slot b n m) ≡ b
next_kind true n m = refl
next_kind false n m = refl

-- ---- a step that is put in

abbrev pub with_step : Draft → Step → Draft
with_step d s = record { narrow = d.narrow; wide = d.wide; steps = d.steps ++ s ∷ [] }

one_narrow : (d : Draft) (s : Step) → narrow_count (with_step d s) ≡ narrow_count d + narrow_one (is_narrow s)
one_narrow d s = let e = narrow_steps-append d.steps (s ∷ []) in omega arith

one_wide : (d : Draft) (s : Step) → wide_count (with_step d s) ≡ wide_count d + wide_one (is_narrow s)
one_wide d s = let e = wide_steps-append d.steps (s ∷ []) in omega arith

-- a slot of so many is one of as many
pub slot_at : (n n' m m' : ℕ) (slot : Slot) → n ≡ n' → m ≡ m' → IsSlot n m slot → IsSlot n' m' slot
slot_at n n' m m' slot e f h = subst (λ k. IsSlot n' k slot) f (subst (λ k. IsSlot k m slot) e h)

pub puts_step : (d : Draft) (s : Step) → HasStep d (with_step d s) s (next_slot (is_narrow s) (narrow_count d) (wide_count d))
puts_step d s =
    let b : Bool = is_narrow s in let n : ℕ = narrow_count d in let m : ℕ = wide_count d in
    let e : n + narrow_one b ≡ narrow_count (with_step d s) = sym (one_narrow d s) in
    let f : m + wide_one b ≡ wide_count (with_step d s) = sym (one_wide d s) in record {
      narrow = refl;
      wide = refl;
      placed = slot_at _ _ _ _ (next_slot b n m) e f (next_there b n m);
      kind = next_kind b n m;
      value = λ words given g.
          let now : Slots = after words given d.steps in
          ap (λ t. slot_value t (next_slot b n m)) (after-append words given d.steps (s ∷ []))
          ∙ put_value b (step_value words now s) now n m (draft_counts d words given g);
      still_placed = λ k h. slot_at _ _ _ _ k e f (slot_wider n m (narrow_one b) (wide_one b) k h);
      same = λ words given k g h.
          let now : Slots = after words given d.steps in
          ap (λ t. slot_value t k) (after-append words given d.steps (s ∷ []))
          ∙ put_keeps b (step_value words now s) now n m k (draft_counts d words given g) h;
    }

-- ---- entries

-- an entry after some steps has its step's value in the whole draft
own_one : (d : Draft) (done : List Step) (n m : ℕ) (x : Entry) (more : List Step) → d.steps ≡ done ++ x.step ∷ more
    → n ≡ d.narrow + narrow_steps done → m ≡ d.wide + wide_steps done → x.slot ≡ next_slot (is_narrow x.step) n m
    → StepFits n m x.step → Owns d x
own_one d done n m x more split en em next fits =
    let b : Bool = is_narrow x.step in
    let slot : Slot = next_slot b n m in
    let nn : narrow_steps d.steps ≡ narrow_steps done + (narrow_one b + narrow_steps more) =
    ap narrow_steps split ∙ narrow_steps-append done (x.step ∷ more) in
    let mm : wide_steps d.steps ≡ wide_steps done + (wide_one b + wide_steps more) =
    ap wide_steps split ∙ wide_steps-append done (x.step ∷ more) in
    let here_n : (n + narrow_one b) + narrow_steps more ≡ narrow_count d = omega arith in
    let here_m : (m + wide_one b) + wide_steps more ≡ wide_count d = omega arith in
    let low_n : n + (narrow_one b + narrow_steps more) ≡ narrow_count d = omega arith in
    let low_m : m + (wide_one b + wide_steps more) ≡ wide_count d = omega arith in
    let reads = reads_there n m x.step fits in record {
      placed = subst (IsPlaced d) (sym next)
          (slot_at _ _ _ _ slot here_n here_m (slot_wider (n + narrow_one b) (m + wide_one b) (narrow_steps more)
          (wide_steps more) slot (next_there b n m)));
      kind = ap is_narrow_slot next ∙ next_kind b n m;
      fits = fits_wider n m (narrow_count d) (wide_count d) x.step fits
          (reads_map (IsSlot n m) (IsSlot (narrow_count d) (wide_count d)) x.step
          (λ k h. slot_at _ _ _ _ k low_n low_m (slot_wider n m (narrow_one b + narrow_steps more)
          (wide_one b + wide_steps more) k h)) reads);
      value = λ words given g.
          let before : Slots = after words given done in
          let v : ℕ = step_value words before x.step in
          let whole : after words given d.steps ≡ after words (placed b v before) more =
          ap (after words given) split ∙ after-append words given done (x.step ∷ more) in
          let counts : HasCounts before n m = subst (λ k. HasCounts before k m) (sym en)
          (subst (λ k. HasCounts before (d.narrow + narrow_steps done) k) (sym em)
          (after_counts words given done d.narrow d.wide (given_counts d.narrow d.wide given g))) in
          let all : after words given d.steps ≡ after words before (x.step ∷ more) = whole in
          let kept : slot_value (after words (placed b v before) more) slot ≡ slot_value (placed b v before) slot =
          after_keeps words (placed b v before) more (n + narrow_one b) (m + wide_one b) slot
          (placed_counts b v before n m counts) (next_there b n m) in
          let same : step_value words before x.step ≡ step_value words (after words given d.steps) x.step =
          value_same words before (after words given d.steps) x.step
          (reads_map (IsSlot n m) (λ k. slot_value before k ≡ slot_value (after words given d.steps) k) x.step
          (λ k h. sym (ap (λ t. slot_value t k) all ∙ after_keeps words before (x.step ∷ more) n m k counts h)) reads) in
          ap (λ t. slot_value t x.slot) whole ∙ ap (slot_value (after words (placed b v before) more)) next ∙ kept
          ∙ put_value b v before n m counts ∙ same;
    }

own_from : (d : Draft) (done : List Step) (n m : ℕ) (rest : List Entry) → d.steps ≡ done ++ steps_of rest
    → n ≡ d.narrow + narrow_steps done → m ≡ d.wide + wide_steps done → AreNext n m rest
    → StepsFit n m (steps_of rest) → AllOwn d rest
own_from d done n m [] split en em next fits k e l = absurd (omega arith)
own_from d done n m (x ∷ more) split en em next fits zero e l =
    own_one d done n m x (steps_of more) split en em next.0 fits.0
own_from d done n m (x ∷ more) split en em next fits (suc k) e l =
    let b : Bool = is_narrow x.step in
    let nn = narrow_steps-append done (x.step ∷ []) in let mm = wide_steps-append done (x.step ∷ []) in
    let en' : n + narrow_one b ≡ d.narrow + narrow_steps (done ++ x.step ∷ []) = omega arith in
    let em' : m + wide_one b ≡ d.wide + wide_steps (done ++ x.step ∷ []) = omega arith in
    own_from d (done ++ x.step ∷ []) (n + narrow_one b) (m + wide_one b) more
    (split ∙ sym (append_assoc done (x.step ∷ []) (steps_of more))) en' em' next.1 fits.1 k e (omega arith)

pub entries_of : (given next : Numbers) (entries : List Entry) → AreEntries given next entries
    → HasEntries (draft_from given entries) entries
entries_of given next entries h = record {
  steps = refl;
  slots = h.slots;
  fits = h.fits;
  owns = own_from (draft_from given entries) [] given.narrow given.wide entries refl (omega arith) (omega arith) h.slots
      h.fits;
}

-- ---- one more entry

next_more : (n m : ℕ) (entries : List Entry) (x : Entry) (n' m' : ℕ) → n' ≡ n + narrow_steps (steps_of entries)
    → m' ≡ m + wide_steps (steps_of entries) → AreNext n m entries → x.slot ≡ next_slot (is_narrow x.step) n' m'
    → AreNext n m (entries ++ x ∷ [])
next_more n m [] x n' m' e f h is =
    let e' : n' ≡ n = omega arith in let f' : m' ≡ m = omega arith in
    (is ∙ ap (λ k. next_slot (is_narrow x.step) k m') e' ∙ ap (λ k. next_slot (is_narrow x.step) n k) f', tt)
next_more n m (y ∷ more) x n' m' e f h is =
    let e' : n' ≡ (n + narrow_one (is_narrow y.step)) + narrow_steps (steps_of more) = omega arith in
    let f' : m' ≡ (m + wide_one (is_narrow y.step)) + wide_steps (steps_of more) = omega arith in
    (h.0, next_more (n + narrow_one (is_narrow y.step)) (m + wide_one (is_narrow y.step)) more x n' m' e' f' h.1 is)

steps_more : (entries : List Entry) (x : Entry) → steps_of (entries ++ x ∷ []) ≡ steps_of entries ++ x.step ∷ []
steps_more [] x = refl
steps_more (y ∷ more) x = ap (λ t. y.step ∷ t) (steps_more more x)

pub one_more : (given next : Numbers) (entries : List Entry) (x : Entry) (then : Numbers) → AreEntries given next entries
    → StepFits next.narrow next.wide x.step → x.slot ≡ next_slot (is_narrow x.step) next.narrow next.wide
    → then.narrow ≡ next.narrow + narrow_one (is_narrow x.step) → then.wide ≡ next.wide + wide_one (is_narrow x.step)
    → AreEntries given then (entries ++ x ∷ [])
one_more given next entries x then h fits slot en em =
    let e = steps_more entries x in
    let n = narrow_steps-append (steps_of entries) (x.step ∷ []) in
    let m = wide_steps-append (steps_of entries) (x.step ∷ []) in
    let nn : narrow_steps (steps_of (entries ++ x ∷ [])) ≡ narrow_steps (steps_of entries ++ x.step ∷ []) =
    ap narrow_steps e in
    let mm : wide_steps (steps_of (entries ++ x ∷ [])) ≡ wide_steps (steps_of entries ++ x.step ∷ []) =
    ap wide_steps e in
    let hn = h.narrow in let hm = h.wide in record {
      fits = subst (StepsFit given.narrow given.wide) (sym e) (both_fit given.narrow given.wide (steps_of entries)
          (x.step ∷ []) next.narrow next.wide h.narrow h.wide h.fits (fits, tt));
      slots = next_more given.narrow given.wide entries x next.narrow next.wide h.narrow h.wide h.slots slot;
      narrow = omega arith;
      wide = omega arith;
    }

pub draft_more : (given : Numbers) (entries : List Entry) (x : Entry)
    → draft_from given (entries ++ x ∷ []) ≡ with_step (draft_from given entries) x.step
draft_more given entries x =
    λ i. record { narrow = given.narrow; wide = given.wide; steps = steps_more entries x i }

-- the entry that is put in: the entries are a draft's again, and the draft has the step
pub entry_fits : (given next : Numbers) (entries items : List Entry) (s : Step) (b : Bool) (new : Next)
    → AreEntries given next entries → Fits (draft_from given entries) s → b ≡ is_narrow s
    → IsNext b next.narrow next.wide new → items ≡ entries ++ record { step = s; slot = new.slot } ∷ []
    → AreEntries given new.then items
entry_fits given next entries items s b new h fits is k e =
    let x : Entry = record { step = s; slot = new.slot } in
    let here : StepFits next.narrow next.wide s =
    subst (λ n. StepFits n next.wide s) (sym h.narrow) (subst (λ m. StepFits (narrow_count (draft_from given entries)) m s) (sym h.wide) fits) in
    subst (AreEntries given new.then) (sym e)
    (one_more given next entries x new.then h here (k.slot ∙ ap (λ c. next_slot c next.narrow next.wide) is)
    (k.narrow ∙ ap (λ c. next.narrow + narrow_one c) is) (k.wide ∙ ap (λ c. next.wide + wide_one c) is))

pub entry_has : (given next : Numbers) (entries items : List Entry) (s : Step) (b : Bool) (new : Next)
    → AreEntries given next entries → b ≡ is_narrow s
    → IsNext b next.narrow next.wide new → items ≡ entries ++ record { step = s; slot = new.slot } ∷ []
    → HasStep (draft_from given entries) (draft_from given items) s new.slot
entry_has given next entries items s b new h is k e =
    let x : Entry = record { step = s; slot = new.slot } in
    let d : Draft = draft_from given entries in
    let same : with_step d s ≡ draft_from given items = sym (ap (draft_from given) e ∙ draft_more given entries x) in
    let slot : next_slot (is_narrow s) (narrow_count d) (wide_count d) ≡ new.slot =
    (λ i. next_slot (sym is i) (sym h.narrow i) (sym h.wide i)) ∙ sym k.slot in
    subst (λ q. HasStep d q s new.slot) same (subst (HasStep d (with_step d s) s) slot (puts_step d s))

-- a step that stands among the entries has its value in its slot already
pub found_has : (given next : Numbers) (entries : List Entry) (s : Step) (slot : Slot) → AreEntries given next entries
    → IsAmong entries s slot → HasStep (draft_from given entries) (draft_from given entries) s slot
found_has given next entries s slot h (k, l, e) =
    let d : Draft = draft_from given entries in
    let x : Entry = record { step = s; slot = slot } in
    let own : Owns d x = subst (Owns d) e ((entries_of given next entries h).owns k x l) in record {
      narrow = refl;
      wide = refl;
      placed = own.placed;
      kind = own.kind;
      value = own.value;
      still_placed = λ i p. p;
      same = λ words g i p q. refl;
    }
