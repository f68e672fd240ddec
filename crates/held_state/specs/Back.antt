-- Going back: notes of what changed, which lead from a state to the one before. This project's own.
use Rattle.std.specs.Prelude.{◌≡◌, ℕ, zero, suc, ◌^◌, ◌<◌, true, List, [], ◌∷◌, length, take, slice_get, slice_index_or, is_some, IsSomeAnd}
use Rattle.std.specs.List.{All}
use Rattle.netlist.specs.Design.{Flat}
use Rattle.netlist.specs.Run.{State}
use Rattle.state_changes.specs.Changes.{undone}
use Rattle.state_changes.specs.declared.changes.Element.{Element}
use Rattle.state_changes.specs.declared.changes.Element.TheVariants as e
use Rattle.state_changes.specs.declared.changes.Change.{Change}

-- the element is a register part, or a word of a memory that some block writes, and the number is below 2^width
abbrev pub ElementFits : Flat → Element → ℕ → Type 0
ElementFits f (e.Register k) n = IsSomeAnd (slice_get f.registers k) (λ p. n < 2 ^ p.range.width)
ElementFits f (e.Word m k) n = IsSomeAnd (slice_get f.memories m)
    (λ x. (is_some x.writer ≡ true) × (k < length x.words) × (n < 2 ^ x.width))

abbrev pub ChangeFits : Flat → Change → Type 0
ChangeFits f c = ElementFits f c.element c.old

-- the notes, undone from a state, give the state before it
pub record LeadsBack (f : Flat) (notes : List Change) (after before : State) : Type 0 where
  pub fit : All (ChangeFits f) notes
  pub back : undone notes after ≡ before

-- the notes of these cycles, the newest first, lead from the state of a cycle to that of the one before, and so on
abbrev pub GoesBack : Flat → (ℕ → State) → ℕ → List (List Change) → Type 0
GoesBack f states t [] = Unit {0}
GoesBack f states zero (notes ∷ more) = ⊥
GoesBack f states (suc t) (notes ∷ more) = LeadsBack f notes (states (suc t)) (states t) × GoesBack f states t more

-- what was noted in the newest cycle
abbrev pub newest : List (List Change) → List Change
newest cycles = slice_index_or cycles 0 []

-- a cycle was noted, beside at most so many that are kept: its notes lead back
pub record Notes (f : Flat) (before after : State) (most : ℕ) (old new : List (List Change)) : Type 0 where
  pub notes : List Change
  pub leads : LeadsBack f notes after before
  pub kept : new ≡ take most (notes ∷ old)
