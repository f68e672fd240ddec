-- Labels of driven parts that rise from each part to those that it reads. This project's own.
use Rattle.std.specs.Prelude.{◌≡◌, ℕ, ◌<◌, ◌≤◌, ◌+◌, List, length, slice_index, slice_index_or, Option, Some, None}
use Rattle.netlist.specs.Design.{Flat}
use Rattle.netlist.specs.Graph.{ReadsPart}
use Rattle.comb_order.specs.Distance.{ComesBack}

-- a part that is read has the higher label
pub record AreRising (f : Flat) (labels : List ℕ) : Type 0 where
  pub count : length labels ≡ length f.driven
  pub each : (p q : ℕ) → ReadsPart f p q → slice_index labels p < slice_index labels q

-- labels are n at most; a part that is read has no lower label, and the higher one where it has a number below n
pub record RiseBelow (f : Flat) (n : ℕ) (labels : List ℕ) : Type 0 where
  pub count : length labels ≡ length f.driven
  pub few : (p : ℕ) → slice_index labels p ≤ n
  pub each : (p q : ℕ) → ReadsPart f p q → slice_index labels p ≤ slice_index labels q
  pub higher : (p q : ℕ) → q < n → ReadsPart f p q → slice_index labels p < slice_index labels q

-- a label after a pass: it is one more where the part doesn't come back
abbrev pub Raised : List ℕ → Option ℕ → ℕ → ℕ → Type 0
Raised ranks first old new = (ComesBack ranks first → new ≡ old) × ((ComesBack ranks first → ⊥) → new ≡ old + 1)

-- each label after a pass
abbrev pub AreRaised : List ℕ → List (Option ℕ) → List ℕ → List ℕ → Type 0
AreRaised ranks firsts old new = (p : ℕ) → p < length old
    → Raised ranks (slice_index_or firsts p None) (slice_index old p) (slice_index new p)

-- a part's label is lower than that of what it reads first
abbrev pub StepsUp : List ℕ → Option ℕ → ℕ → Type 0
StepsUp labels None p = Unit {0}
StepsUp labels (Some q) p = slice_index labels p < slice_index labels q

-- a part's label is no higher than that of what it reads first
abbrev pub NeverFalls : List ℕ → Option ℕ → ℕ → Type 0
NeverFalls labels None p = Unit {0}
NeverFalls labels (Some q) p = slice_index labels p ≤ slice_index labels q

-- the parts below n step up, or don't fall
abbrev pub StepUpBelow : List ℕ → List (Option ℕ) → ℕ → Type 0
StepUpBelow labels firsts n = (p : ℕ) → p < n → StepsUp labels (slice_index_or firsts p None) p

abbrev pub NoneFallsBelow : List ℕ → List (Option ℕ) → ℕ → Type 0
NoneFallsBelow labels firsts n = (p : ℕ) → p < n → NeverFalls labels (slice_index_or firsts p None) p
