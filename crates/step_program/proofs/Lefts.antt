-- Loops over steps: what is left to do leads to the same slots.
use Rattle.std.proofs.Common.{◌≡◌, ℕ, ◌+◌, ◌<◌, ◌≤◌, true, false, List, [], ◌∷◌, ◌++◌, length, take, drop, get_or, set, refl, sym, ap, ◌∙◌, subst, arith}
use Rattle.std.proofs.lemmas.List.{take_more_set, take_all, drop_more}
use Rattle.step_program.specs.Values.{Slots, placed, after, is_narrow, step_value}
use Rattle.step_program.specs.Fits.{StepsFit, narrow_one, wide_one, narrow_steps, wide_steps}
use Rattle.step_program.specs.Running.{slots, front, AllFit, filled, Does, Fills, run_steps, all_steps}
use Rattle.step_program.specs.declared.runs.Run.{Run}
use Rattle.step_program.specs.declared.step.Step.{Step}
use Rattle.step_program.proofs.AfterLaws.{after-append, narrow_steps-append, wide_steps-append, first_fits, rest_fits}

-- with n narrow slots and m wide ones done, the rest leads to these slots, and to so many of each kind
pub record Left (words : List (List ℕ)) (n m : ℕ) (xs ys : List ℕ) (rest : List Step) (all_narrow all_wide : ℕ)
    (goal : Slots) : Type 0 where
  pub fits : StepsFit n m rest
  pub narrow : n + narrow_steps rest ≡ all_narrow
  pub wide : m + wide_steps rest ≡ all_wide
  pub value : after words (front n m xs ys) rest ≡ goal

pub left_start : (words : List (List ℕ)) (n m : ℕ) (narrow wide : List ℕ) (steps : List Step) → StepsFit n m steps
    → Left words n m narrow wide steps (n + narrow_steps steps) (m + wide_steps steps)
    (after words (front n m narrow wide) steps)
left_start words n m narrow wide steps h = record { fits = h; narrow = refl; wide = refl; value = refl }

-- some of them are done
pub left_on : (words : List (List ℕ)) (n m n' m' : ℕ) (narrow wide narrow' wide' : List ℕ) (xs rest steps : List Step)
    (all_narrow all_wide : ℕ) (goal : Slots) → steps ≡ xs ++ rest
    → Left words n m narrow wide steps all_narrow all_wide goal
    → Does words xs n m n' m' narrow wide narrow' wide' → Left words n' m' narrow' wide' rest all_narrow all_wide goal
left_on words n m n' m' narrow wide narrow' wide' xs rest steps all_narrow all_wide goal split h d =
    let a : narrow_steps steps ≡ narrow_steps xs + narrow_steps rest = ap narrow_steps split ∙ narrow_steps-append xs rest in
    let b : wide_steps steps ≡ wide_steps xs + wide_steps rest = ap wide_steps split ∙ wide_steps-append xs rest in
    let en = h.narrow in let fn = h.wide in let dn = d.narrow in let dw = d.wide in record {
      fits = rest_fits n m xs rest n' m' d.narrow d.wide (subst (StepsFit n m) split h.fits);
      narrow = omega arith;
      wide = omega arith;
      value = ap (λ t. after words t rest) d.value ∙ sym (after-append words (front n m narrow wide) xs rest)
          ∙ ap (after words (front n m narrow wide)) (sym split) ∙ h.value;
    }

-- what may be done next
pub left_fits : (words : List (List ℕ)) (n m : ℕ) (narrow wide : List ℕ) (xs rest steps : List Step)
    (all_narrow all_wide : ℕ) (goal : Slots) → steps ≡ xs ++ rest
    → Left words n m narrow wide steps all_narrow all_wide goal → StepsFit n m xs
left_fits words n m narrow wide xs rest steps all_narrow all_wide goal split h =
    first_fits n m xs rest (subst (StepsFit n m) split h.fits)

pub left_room : (words : List (List ℕ)) (n m : ℕ) (narrow wide : List ℕ) (xs rest steps : List Step)
    (all_narrow all_wide : ℕ) (goal : Slots) (most_narrow most_wide : ℕ) → steps ≡ xs ++ rest
    → Left words n m narrow wide steps all_narrow all_wide goal
    → all_narrow ≡ most_narrow → all_wide ≡ most_wide
    → (n + narrow_steps xs ≤ most_narrow) × (m + wide_steps xs ≤ most_wide)
left_room words n m narrow wide xs rest steps all_narrow all_wide goal most_narrow most_wide split h a b =
    let e : narrow_steps steps ≡ narrow_steps xs + narrow_steps rest = ap narrow_steps split ∙ narrow_steps-append xs rest in
    let f : wide_steps steps ≡ wide_steps xs + wide_steps rest = ap wide_steps split ∙ wide_steps-append xs rest in
    let en = h.narrow in let fn = h.wide in (omega arith, omega arith)

-- the next run, and those after it
pub runs_next : (runs : List Run) (i : ℕ) (r : Run) → i < length runs → r ≡ get_or runs i r
    → all_steps (drop i runs) ≡ run_steps r ++ all_steps (drop (i + 1) runs)
runs_next runs i r h is =
    ap all_steps (drop_more runs i r h) ∙ ap (λ x. run_steps x ++ all_steps (drop (i + 1) runs)) (sym is)

-- nothing is left
pub left_done : (words : List (List ℕ)) (n m n' m' : ℕ) (narrow wide narrow' wide' : List ℕ) (steps : List Step)
    → Left words n' m' narrow' wide' [] (n + narrow_steps steps) (m + wide_steps steps)
    (after words (front n m narrow wide) steps)
    → Does words steps n m n' m' narrow wide narrow' wide'
left_done words n m n' m' narrow wide narrow' wide' steps h =
    let en = h.narrow in let fn = h.wide in record { narrow = omega arith; wide = omega arith; value = h.value }

-- nothing is left, and no slot is
pub left_all : (words : List (List ℕ)) (n m : ℕ) (narrow wide : List ℕ) (all_narrow all_wide : ℕ) (goal : Slots)
    → Left words n m narrow wide [] all_narrow all_wide goal → all_narrow ≡ length narrow → all_wide ≡ length wide
    → slots narrow wide ≡ goal
left_all words n m narrow wide all_narrow all_wide goal h e f =
    let en = h.narrow in let fn = h.wide in
    let a : length narrow ≤ n = omega arith in let b : length wide ≤ m = omega arith in
    sym (ap (λ xs. slots xs (take m wide)) (take_all n narrow a) ∙ ap (λ xs. slots narrow xs) (take_all m wide b)) ∙ h.value

-- ---- a narrow run is done

pub does_fills : (words : List (List ℕ)) (steps : List Step) (n m n' : ℕ) (narrow wide narrow' : List ℕ)
    → Fills steps n n' narrow narrow' → Does words steps n m n' m narrow wide narrow' wide
does_fills words steps n m n' narrow wide narrow' h =
    let w = h.wide in record { narrow = h.narrow; wide = omega arith; value = h.value words (take m wide) }

-- ---- one value is put

pub does_narrow : (words : List (List ℕ)) (s : Step) (n m : ℕ) (narrow wide : List ℕ) (v : ℕ) → is_narrow s ≡ true
    → v ≡ step_value words (front n m narrow wide) s → n < length narrow
    → Does words (s ∷ []) n m (n + 1) m narrow wide (set narrow n v) wide
does_narrow words s n m narrow wide v e is room =
    let one : narrow_one (is_narrow s) ≡ 1 = ap narrow_one e in
    let none : wide_one (is_narrow s) ≡ 0 = ap wide_one e in record {
      narrow = omega arith;
      wide = omega arith;
      value = ap (λ xs. slots xs (take m wide)) (take_more_set narrow n v room)
          ∙ ap (λ u. slots (take n narrow ++ u ∷ []) (take m wide)) is
          ∙ sym (ap (λ b. placed b (step_value words (front n m narrow wide) s) (front n m narrow wide)) e);
    }

pub does_wide : (words : List (List ℕ)) (s : Step) (n m : ℕ) (narrow wide : List ℕ) (v : ℕ) → is_narrow s ≡ false
    → v ≡ step_value words (front n m narrow wide) s → m < length wide
    → Does words (s ∷ []) n m n (m + 1) narrow wide narrow (set wide m v)
does_wide words s n m narrow wide v e is room =
    let none : narrow_one (is_narrow s) ≡ 0 = ap narrow_one e in
    let one : wide_one (is_narrow s) ≡ 1 = ap wide_one e in record {
      narrow = omega arith;
      wide = omega arith;
      value = ap (λ ys. slots (take n narrow) ys) (take_more_set wide m v room)
          ∙ ap (λ u. slots (take n narrow) (take m wide ++ u ∷ [])) is
          ∙ sym (ap (λ b. placed b (step_value words (front n m narrow wide) s) (front n m narrow wide)) e);
    }

-- ---- a loop over steps of one kind

pub record FillLeft {S : Type 0} (reads : ℕ → S → Type 0) (gives : List ℕ → S → ℕ) (n : ℕ) (narrow : List ℕ)
    (rest : List S) (all : ℕ) (goal : List ℕ) : Type 0 where
  pub fits : AllFit reads n rest
  pub count : n + length rest ≡ all
  pub value : filled gives (take n narrow) rest ≡ goal

pub fill_on : {S : Type 0} (reads : ℕ → S → Type 0) (gives : List ℕ → S → ℕ) (n : ℕ) (narrow : List ℕ) (x : S)
    (rest : List S) (all : ℕ) (goal : List ℕ) (v : ℕ) → FillLeft reads gives n narrow (x ∷ rest) all goal
    → v ≡ gives (take n narrow) x → n < length narrow
    → FillLeft reads gives (n + 1) (set narrow n v) rest all goal
fill_on reads gives n narrow x rest all goal v h is room =
    let c = h.count in record {
      fits = h.fits.1;
      count = omega arith;
      value = ap (λ ys. filled gives ys rest) (take_more_set narrow n v room ∙ ap (λ u. take n narrow ++ u ∷ []) is) ∙ h.value;
    }
