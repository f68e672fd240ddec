-- What private functions promise each other: programs that run. This project's own.
use Rattle.std.specs.Prelude.{◌≡◌, ℕ, ◌+◌, ◌≤◌, Bool, true, false, List, [], ◌∷◌, ◌++◌, take, map, ℤ, pos, negsuc}
use Rattle.step_program.specs.Values.{Slots, after}
use Rattle.step_program.specs.Fits.{narrow_steps, wide_steps}
use Rattle.step_program.specs.declared.rare.Whole.{Whole}
use Rattle.step_program.specs.declared.rare.Whole.TheVariants as z
use Rattle.step_program.specs.declared.runs.GateRun.{GateRun}
use Rattle.step_program.specs.declared.runs.GateRun.TheVariants as g
use Rattle.step_program.specs.declared.runs.WordRun.{WordRun}
use Rattle.step_program.specs.declared.runs.WordRun.TheVariants as w
use Rattle.step_program.specs.declared.runs.RestRun.{RestRun}
use Rattle.step_program.specs.declared.runs.RestRun.TheVariants as e
use Rattle.step_program.specs.declared.runs.Run.{Run}
use Rattle.step_program.specs.declared.runs.Run.TheVariants as run
use Rattle.step_program.specs.declared.step.Rare.{Rare}
use Rattle.step_program.specs.declared.step.Step.{Step}
use Rattle.step_program.specs.declared.step.Step.TheVariants as s

-- ---- numbers

abbrev pub whole_of : Whole → ℤ
whole_of (z.Up n) = pos n
whole_of (z.Below n) = negsuc n

-- so far from 0 that no bit of a vector lies there
abbrev pub IsFar : ℤ → Type 0
IsFar (pos n) = 128 ≤ n
IsFar (negsuc n) = 128 ≤ n

-- ---- slots

abbrev pub slots : List ℕ → List ℕ → Slots
slots narrow wide = record { narrow = narrow; wide = wide }

-- so many slots of each kind
abbrev pub front : ℕ → ℕ → List ℕ → List ℕ → Slots
front n m narrow wide = slots (take n narrow) (take m wide)

-- ---- steps of one kind

-- each step fits the slots before it
abbrev pub AllFit : {S : Type 0} → (ℕ → S → Type 0) → ℕ → List S → Type 0
AllFit fits n [] = Unit {0}
AllFit fits n (x ∷ more) = fits n x × AllFit fits (n + 1) more

-- the numbers, and after them the steps' values in turn
abbrev pub filled : {S : Type 0} → (List ℕ → S → ℕ) → List ℕ → List S → List ℕ
filled gives xs [] = xs
filled gives xs (x ∷ more) = filled gives (xs ++ gives xs x ∷ []) more

-- ---- runs

abbrev pub gate_steps : GateRun → List Step
gate_steps (g.Ands xs) = map (λ x. s.And x.of) xs.items
gate_steps (g.Ors xs) = map (λ x. s.Or x.of) xs.items
gate_steps (g.Picks xs) = map s.Pick xs.items

abbrev pub word_steps : WordRun → List Step
word_steps (w.Tests xs) = map s.Test xs.items
word_steps (w.Joins xs) = map s.Join xs.items
word_steps (w.Takes xs) = map s.Take xs.items

abbrev pub rare_steps : List Rare → List Step
rare_steps xs = map s.Rare xs

abbrev pub rest_steps : RestRun → List Step
rest_steps (e.Sums xs) = map s.Sum xs.items
rest_steps (e.Xors xs) = map (λ x. s.Xor x.of) xs.items
rest_steps (e.Rares xs) = rare_steps xs.items

abbrev pub run_steps : Run → List Step
run_steps (run.Gate x) = gate_steps x
run_steps (run.Word x) = word_steps x
run_steps (run.Rest x) = rest_steps x

abbrev pub all_steps : List Run → List Step
all_steps [] = []
all_steps (x ∷ more) = run_steps x ++ all_steps more

-- the step was added after the others, or they are as before
abbrev pub Grown : Bool → List Step → Step → List Step → Type 0
Grown true old step new = new ≡ old ++ step ∷ []
Grown false old step new = new ≡ old

-- the steps' values were put after the first slots of each kind: n of the one before and n' after, so m and m'
pub record Does (words : List (List ℕ)) (steps : List Step) (n m n' m' : ℕ) (xs ys xs' ys' : List ℕ) : Type 0 where
  pub narrow : n' ≡ n + narrow_steps steps
  pub wide : m' ≡ m + wide_steps steps
  pub value : front n' m' xs' ys' ≡ after words (front n m xs ys) steps

-- the same of steps whose values are narrow, whatever stands in the wide slots
pub record Fills (steps : List Step) (n n' : ℕ) (xs xs' : List ℕ) : Type 0 where
  pub narrow : n' ≡ n + narrow_steps steps
  pub wide : wide_steps steps ≡ 0
  pub value : (words : List (List ℕ)) (ys : List ℕ)
      → slots (take n' xs') ys ≡ after words (slots (take n xs) ys) steps
