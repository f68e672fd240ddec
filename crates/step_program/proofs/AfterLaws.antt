-- Steps one after another.
use Rattle.std.proofs.Common.{◌≡◌, ℕ, ◌+◌, Bool, true, false, List, [], ◌∷◌, ◌++◌, length, refl, sym, ap, ◌∙◌, subst, arith}
use Rattle.std.proofs.lemmas.List.{get_or_append_left, get_or_push, length_push}
use Rattle.step_program.specs.Values.{Slots, slot_value, placed, after, is_narrow, step_value}
use Rattle.step_program.specs.Fits.{IsSlot, StepsFit, narrow_one, wide_one, next_slot, narrow_steps, wide_steps}
use Rattle.step_program.specs.declared.step.Slot.{Slot}
use Rattle.step_program.specs.declared.step.Slot.TheVariants as at
use Rattle.step_program.specs.declared.step.Step.{Step}

pub after-append : (words : List (List ℕ)) (slots : Slots) (xs ys : List Step)
    → after words slots (xs ++ ys) ≡ after words (after words slots xs) ys
after-append words slots [] ys = refl
after-append words slots (x ∷ xs) ys =
    after-append words (placed (is_narrow x) (step_value words slots x) slots) xs ys

pub narrow_steps-append : (xs ys : List Step) → narrow_steps (xs ++ ys) ≡ narrow_steps xs + narrow_steps ys
narrow_steps-append [] ys = omega arith
narrow_steps-append (x ∷ xs) ys = let h = narrow_steps-append xs ys in omega arith

pub wide_steps-append : (xs ys : List Step) → wide_steps (xs ++ ys) ≡ wide_steps xs + wide_steps ys
wide_steps-append [] ys = omega arith
wide_steps-append (x ∷ xs) ys = let h = wide_steps-append xs ys in omega arith

-- ---- steps fit

pub fits_at : (n n' m m' : ℕ) (steps : List Step) → n ≡ n' → m ≡ m' → StepsFit n m steps → StepsFit n' m' steps
fits_at n n' m m' steps e f h = subst (λ k. StepsFit n' k steps) f (subst (λ k. StepsFit k m steps) e h)

pub first_fits : (n m : ℕ) (xs ys : List Step) → StepsFit n m (xs ++ ys) → StepsFit n m xs
first_fits n m [] ys h = tt
first_fits n m (x ∷ xs) ys h =
    (h.0, first_fits (n + narrow_one (is_narrow x)) (m + wide_one (is_narrow x)) xs ys h.1)

pub rest_fits : (n m : ℕ) (xs ys : List Step) (n' m' : ℕ) → n' ≡ n + narrow_steps xs → m' ≡ m + wide_steps xs
    → StepsFit n m (xs ++ ys) → StepsFit n' m' ys
rest_fits n m [] ys n' m' e f h =
    let e' : n ≡ n' = omega arith in let f' : m ≡ m' = omega arith in fits_at n n' m m' ys e' f' h
rest_fits n m (x ∷ xs) ys n' m' e f h =
    let e' : n' ≡ (n + narrow_one (is_narrow x)) + narrow_steps xs = omega arith in
    let f' : m' ≡ (m + wide_one (is_narrow x)) + wide_steps xs = omega arith in
    rest_fits (n + narrow_one (is_narrow x)) (m + wide_one (is_narrow x)) xs ys n' m' e' f' h.1

pub both_fit : (n m : ℕ) (xs ys : List Step) (n' m' : ℕ) → n' ≡ n + narrow_steps xs → m' ≡ m + wide_steps xs
    → StepsFit n m xs → StepsFit n' m' ys → StepsFit n m (xs ++ ys)
both_fit n m [] ys n' m' e f g h =
    let e' : n' ≡ n = omega arith in let f' : m' ≡ m = omega arith in fits_at n' n m' m ys e' f' h
both_fit n m (x ∷ xs) ys n' m' e f g h =
    let e' : n' ≡ (n + narrow_one (is_narrow x)) + narrow_steps xs = omega arith in
    let f' : m' ≡ (m + wide_one (is_narrow x)) + wide_steps xs = omega arith in
    (g.0, both_fit (n + narrow_one (is_narrow x)) (m + wide_one (is_narrow x)) xs ys n' m' e' f' g.1 h)

-- ---- slots

-- there are n narrow slots and m wide ones
pub record HasCounts (slots : Slots) (n m : ℕ) : Type 0 where
  pub narrow : length slots.narrow ≡ n
  pub wide : length slots.wide ≡ m

pub placed_counts : (b : Bool) (v : ℕ) (slots : Slots) (n m : ℕ) → HasCounts slots n m
    → HasCounts (placed b v slots) (n + narrow_one b) (m + wide_one b)
placed_counts true v slots n m h = record {
  narrow = length_push slots.narrow v ∙ ap (λ k. k + 1) h.narrow;
  wide = h.wide ∙ omega arith;
}
placed_counts false v slots n m h = record {
  narrow = h.narrow ∙ omega arith;
  wide = length_push slots.wide v ∙ ap (λ k. k + 1) h.wide;
}

pub after_counts : (words : List (List ℕ)) (slots : Slots) (steps : List Step) (n m : ℕ) → HasCounts slots n m
    → HasCounts (after words slots steps) (n + narrow_steps steps) (m + wide_steps steps)
after_counts words slots [] n m h = record { narrow = h.narrow ∙ omega arith; wide = h.wide ∙ omega arith }
after_counts words slots (x ∷ xs) n m h =
    let v : ℕ = step_value words slots x in
    let more = after_counts words (placed (is_narrow x) v slots) xs (n + narrow_one (is_narrow x))
    (m + wide_one (is_narrow x)) (placed_counts (is_narrow x) v slots n m h) in
    record { narrow = more.narrow ∙ omega arith; wide = more.wide ∙ omega arith }

pub slot_there : (slots : Slots) (n m : ℕ) (slot : Slot) → HasCounts slots n m → IsSlot n m slot
    → IsSlot (length slots.narrow) (length slots.wide) slot
slot_there slots n m slot h i = subst (λ k. IsSlot (length slots.narrow) k slot) (sym h.wide)
    (subst (λ k. IsSlot k m slot) (sym h.narrow) i)

-- more slots
pub slot_wider : (n m n' m' : ℕ) (slot : Slot) → IsSlot n m slot → IsSlot (n + n') (m + m') slot
slot_wider n m n' m' (at.Narrow k) h = omega arith
slot_wider n m n' m' (at.Wide k) h = omega arith

placed_keeps : (b : Bool) (v : ℕ) (slots : Slots) (slot : Slot) → IsSlot (length slots.narrow) (length slots.wide) slot
    → slot_value (placed b v slots) slot ≡ slot_value slots slot
placed_keeps true v slots (at.Narrow k) h = get_or_append_left slots.narrow (v ∷ []) 0 k h
placed_keeps true v slots (at.Wide k) h = refl
placed_keeps false v slots (at.Narrow k) h = refl
placed_keeps false v slots (at.Wide k) h = get_or_append_left slots.wide (v ∷ []) 0 k h

pub put_keeps : (b : Bool) (v : ℕ) (slots : Slots) (n m : ℕ) (slot : Slot) → HasCounts slots n m → IsSlot n m slot
    → slot_value (placed b v slots) slot ≡ slot_value slots slot
put_keeps b v slots n m slot c h = placed_keeps b v slots slot (slot_there slots n m slot c h)

-- a slot that is there stays
pub after_keeps : (words : List (List ℕ)) (slots : Slots) (steps : List Step) (n m : ℕ) (slot : Slot)
    → HasCounts slots n m → IsSlot n m slot → slot_value (after words slots steps) slot ≡ slot_value slots slot
after_keeps words slots [] n m slot c h = refl
after_keeps words slots (x ∷ xs) n m slot c h =
    let v : ℕ = step_value words slots x in
    after_keeps words (placed (is_narrow x) v slots) xs (n + narrow_one (is_narrow x)) (m + wide_one (is_narrow x)) slot
    (placed_counts (is_narrow x) v slots n m c)
    (slot_wider n m (narrow_one (is_narrow x)) (wide_one (is_narrow x)) slot h)
    ∙ put_keeps (is_narrow x) v slots n m slot c h

pub put_value : (b : Bool) (v : ℕ) (slots : Slots) (n m : ℕ) → HasCounts slots n m
    → slot_value (placed b v slots) (next_slot b n m) ≡ v
put_value true v slots n m c = get_or_push slots.narrow v 0 n c.narrow
put_value false v slots n m c = get_or_push slots.wide v 0 m c.wide

pub next_there : (b : Bool) (n m : ℕ) → IsSlot (n + narrow_one b) (m + wide_one b) (next_slot b n m)
next_there true n m = omega arith
next_there false n m = omega arith
