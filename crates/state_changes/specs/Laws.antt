-- That what is noted can be undone. This project's own.
use Rattle.std.specs.Prelude.{◌≡◌, ℕ, List, [], ◌∷◌}
use Rattle.netlist.specs.Run.{State}
use Rattle.state_changes.specs.Changes.{value_in, with_value, undone}
use Rattle.state_changes.specs.declared.changes.Element.{Element}
use Rattle.state_changes.specs.declared.changes.Change.{Change}

-- an element is given a value
pub record Set : Type 0 where
  pub element : Element
  pub value : ℕ

-- the state after these, one after another
abbrev pub after_sets : List Set → State → State
after_sets [] s = s
after_sets (x ∷ xs) s = after_sets xs (with_value s x.element x.value)

-- what is noted meanwhile, in front of earlier changes: each element with its value before it is set
abbrev pub noted : List Change → List Set → State → List Change
noted cs [] s = cs
noted cs (x ∷ xs) s = noted (record { element = x.element; old = value_in s x.element } ∷ cs) xs (with_value s x.element x.value)

-- undone, it gives the state from which the earlier changes are undone
abbrev pub Undoes : Type 0
Undoes = (cs : List Change) (xs : List Set) (s : State) → undone (noted cs xs s) (after_sets xs s) ≡ undone cs s
