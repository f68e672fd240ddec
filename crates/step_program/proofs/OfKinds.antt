-- Steps of one kind, whose values are narrow.
use Rattle.std.proofs.Common.{◌≡◌, ℕ, ◌+◌, ◌≤◌, true, List, [], ◌∷◌, ◌++◌, length, take, map, refl, sym, ap, ◌∙◌, subst, arith}
use Rattle.step_program.specs.Values.{Slots, placed, after, is_narrow, step_value, and_value, or_value, xor_value, pick_value, test_value, join_value, take_value, sum_value}
use Rattle.step_program.specs.Fits.{TwoFits, PickFits, TestFits, JoinFits, TakeFits, SumFits, StepFits, StepsFit, narrow_one, wide_one, narrow_steps, wide_steps}
use Rattle.step_program.specs.Running.{slots, AllFit, filled, Fills}
use Rattle.step_program.specs.declared.fast.And.{And}
use Rattle.step_program.specs.declared.fast.Or.{Or}
use Rattle.step_program.specs.declared.fast.Xor.{Xor}
use Rattle.step_program.specs.declared.step.Step.{Step}
use Rattle.step_program.specs.declared.step.Step.TheVariants as s

pub record OfKind {S : Type 0} (make : S → Step) (reads : ℕ → S → Type 0) (gives : List ℕ → S → ℕ) : Type 0 where
  pub narrow : (x : S) → is_narrow (make x) ≡ true
  pub fits : (n m : ℕ) (x : S) → StepFits n m (make x) → reads n x
  pub value : (words : List (List ℕ)) (at : Slots) (x : S) → step_value words at (make x) ≡ gives at.narrow x

pub all_fit : {S : Type 0} (make : S → Step) (reads : ℕ → S → Type 0) (gives : List ℕ → S → ℕ)
    → OfKind make reads gives → (n m : ℕ) (xs : List S) → StepsFit n m (map make xs) → AllFit reads n xs
all_fit make reads gives k n m [] h = tt
all_fit make reads gives k n m (x ∷ xs) h =
    let more = all_fit make reads gives k (n + narrow_one (is_narrow (make x))) (m + wide_one (is_narrow (make x))) xs h.1 in
    (k.fits n m x h.0, subst (λ b. AllFit reads (n + narrow_one b) xs) (k.narrow x) more)

pub counted : {S : Type 0} (make : S → Step) (reads : ℕ → S → Type 0) (gives : List ℕ → S → ℕ)
    → OfKind make reads gives → (xs : List S) → narrow_steps (map make xs) ≡ length xs
counted make reads gives k [] = refl
counted make reads gives k (x ∷ xs) =
    let one : narrow_one (is_narrow (make x)) ≡ 1 = ap narrow_one (k.narrow x) in
    let more = counted make reads gives k xs in
    omega arith

pub none_wide : {S : Type 0} (make : S → Step) (reads : ℕ → S → Type 0) (gives : List ℕ → S → ℕ)
    → OfKind make reads gives → (xs : List S) → wide_steps (map make xs) ≡ 0
none_wide make reads gives k [] = refl
none_wide make reads gives k (x ∷ xs) =
    let none : wide_one (is_narrow (make x)) ≡ 0 = ap wide_one (k.narrow x) in
    let more = none_wide make reads gives k xs in
    omega arith

filled_after : {S : Type 0} (make : S → Step) (reads : ℕ → S → Type 0) (gives : List ℕ → S → ℕ)
    → OfKind make reads gives → (words : List (List ℕ)) (wide ys : List ℕ) (xs : List S)
    → slots (filled gives ys xs) wide ≡ after words (slots ys wide) (map make xs)
filled_after make reads gives k words wide ys [] = refl
filled_after make reads gives k words wide ys (x ∷ xs) =
    let v : ℕ = step_value words (slots ys wide) (make x) in
    let put : placed (is_narrow (make x)) v (slots ys wide) ≡ slots (ys ++ gives ys x ∷ []) wide =
    ap (λ b. placed b v (slots ys wide)) (k.narrow x)
    ∙ ap (λ u. slots (ys ++ u ∷ []) wide) (k.value words (slots ys wide) x) in
    filled_after make reads gives k words wide (ys ++ gives ys x ∷ []) xs
    ∙ sym (ap (λ t. after words t (map make xs)) put)

pub room_of : {S : Type 0} (make : S → Step) (reads : ℕ → S → Type 0) (gives : List ℕ → S → ℕ)
    → OfKind make reads gives → (xs : List S) (n most : ℕ) → n + narrow_steps (map make xs) ≤ most → n + length xs ≤ most
room_of make reads gives k xs n most h = let e = counted make reads gives k xs in omega arith

pub fills : {S : Type 0} (make : S → Step) (reads : ℕ → S → Type 0) (gives : List ℕ → S → ℕ)
    → OfKind make reads gives → (xs : List S) (n n' : ℕ) (narrow narrow' : List ℕ) → n' ≡ n + length xs
    → take n' narrow' ≡ filled gives (take n narrow) xs → Fills (map make xs) n n' narrow narrow'
fills make reads gives k xs n n' narrow narrow' e f = record {
  narrow = e ∙ ap (λ j. n + j) (sym (counted make reads gives k xs));
  wide = none_wide make reads gives k xs;
  value = λ words wide. ap (λ ys. slots ys wide) f ∙ filled_after make reads gives k words wide (take n narrow) xs;
}

-- ---- the kinds

pub ands : OfKind (λ (x : And). s.And x.of) (λ n x. TwoFits n x.of) (λ xs x. and_value xs x.of)
ands = record { narrow = λ x. refl; fits = λ n m x h. h; value = λ words at x. refl }

pub ors : OfKind (λ (x : Or). s.Or x.of) (λ n x. TwoFits n x.of) (λ xs x. or_value xs x.of)
ors = record { narrow = λ x. refl; fits = λ n m x h. h; value = λ words at x. refl }

pub xors : OfKind (λ (x : Xor). s.Xor x.of) (λ n x. TwoFits n x.of) (λ xs x. xor_value xs x.of)
xors = record { narrow = λ x. refl; fits = λ n m x h. h; value = λ words at x. refl }

pub picks : OfKind s.Pick PickFits pick_value
picks = record { narrow = λ x. refl; fits = λ n m x h. h; value = λ words at x. refl }

pub tests : OfKind s.Test TestFits test_value
tests = record { narrow = λ x. refl; fits = λ n m x h. h; value = λ words at x. refl }

pub joins : OfKind s.Join JoinFits join_value
joins = record { narrow = λ x. refl; fits = λ n m x h. h; value = λ words at x. refl }

pub takes : OfKind s.Take TakeFits take_value
takes = record { narrow = λ x. refl; fits = λ n m x h. h; value = λ words at x. refl }

pub sums : OfKind s.Sum SumFits sum_value
sums = record { narrow = λ x. refl; fits = λ n m x h. h; value = λ words at x. refl }

-- ---- a run of a kind, whose steps are those of this list

pub may_fill : {S : Type 0} (make : S → Step) (reads : ℕ → S → Type 0) (gives : List ℕ → S → ℕ)
    → OfKind make reads gives → (steps : List Step) (xs items : List S) (n : ℕ) → steps ≡ map make items → xs ≡ items
    → ((m : ℕ) × StepsFit n m steps) → AllFit reads n xs
may_fill make reads gives k steps xs items n e f h =
    subst (AllFit reads n) (sym f) (all_fit make reads gives k n h.0 items (subst (StepsFit n h.0) e h.1))

pub has_room : {S : Type 0} (make : S → Step) (reads : ℕ → S → Type 0) (gives : List ℕ → S → ℕ)
    → OfKind make reads gives → (steps : List Step) (xs items : List S) (n most : ℕ) → steps ≡ map make items
    → xs ≡ items → n + narrow_steps steps ≤ most → n + length xs ≤ most
has_room make reads gives k steps xs items n most e f h =
    let a : narrow_steps steps ≡ length items = ap narrow_steps e ∙ counted make reads gives k items in
    let b : length xs ≡ length items = ap length f in
    omega arith

pub has_filled : {S : Type 0} (make : S → Step) (reads : ℕ → S → Type 0) (gives : List ℕ → S → ℕ)
    → OfKind make reads gives → (steps : List Step) (xs items : List S) (n n' : ℕ) (old new : List ℕ)
    → steps ≡ map make items → xs ≡ items → n' ≡ n + length xs
    → take n' new ≡ filled gives (take n old) xs → Fills steps n n' old new
has_filled make reads gives k steps xs items n n' old new e f count value =
    subst (λ s. Fills s n n' old new) (sym e)
    (fills make reads gives k items n n' old new (count ∙ ap (λ l. n + length l) f)
    (value ∙ ap (filled gives (take n old)) f))
