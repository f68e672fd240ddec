-- Going back over changes.
use Rattle.std.proofs.Common.{◌≡◌, ℕ, List, [], ◌∷◌, ◌++◌, length, set, get_or, refl, ap, ◌∙◌, inl, inr}
use Rattle.std.proofs.lemmas.Bool.{cases_lt}
use Rattle.std.proofs.lemmas.List.{set-set, set-get_or, set_past, get_or-set_same}
use Rattle.netlist.specs.Run.{State}
use Rattle.state_changes.specs.Changes.{value_in, with_value, undone}
use Rattle.state_changes.specs.Laws.{Undoes}
use Rattle.state_changes.specs.declared.changes.Element.{Element}
use Rattle.state_changes.specs.declared.changes.Element.TheVariants as e
use Rattle.state_changes.specs.declared.changes.Change.{Change}

-- a place of a list takes its value again
set_back : {X : Type 0} (xs : List X) (k : ℕ) (x d : X) → set (set xs k x) k (get_or xs k d) ≡ xs
set_back xs k x d = set-set xs k x (get_or xs k d) ∙ set-get_or xs k d

-- a place of one of many lists
set_back_in : (ms : List (List ℕ)) (m k n : ℕ)
    → set (set ms m (set (get_or ms m []) k n)) m (set (get_or (set ms m (set (get_or ms m []) k n)) m []) k (get_or (get_or ms m []) k 0)) ≡ ms
set_back_in ms m k n =
    let ws : List ℕ = get_or ms m [] in
    let xs : List ℕ = set ws k n in
    elim (cases_lt m (length ms)) [
      | inl h ↦ ap (λ (ys : List ℕ). set (set ms m xs) m (set ys k (get_or ws k 0))) (get_or-set_same ms m xs [] h)
          ∙ ap (λ (ys : List ℕ). set (set ms m xs) m ys) (set_back ws k n 0) ∙ set_back ms m xs []
      | inr h ↦ let none : set ms m xs ≡ ms = set_past ms m xs h in
          ap (λ (ls : List (List ℕ)). set ls m (set (get_or ls m []) k (get_or ws k 0))) none
          ∙ set_past ms m (set (get_or ms m []) k (get_or ws k 0)) h
    ]

-- an element takes its value again
pub value_back : (s : State) (x : Element) (n : ℕ) → with_value (with_value s x n) x (value_in s x) ≡ s
value_back s (e.Register k) n = ap (λ (rs : List ℕ). record { registers = rs; memories = s.memories }) (set_back s.registers k n 0)
value_back s (e.Word m k) n =
    ap (λ (ms : List (List ℕ)). record { registers = s.registers; memories = ms }) (set_back_in s.memories m k n)

pub undoes : Undoes
undoes cs [] s = refl
undoes cs (x ∷ xs) s =
    undoes (record { element = x.element; old = value_in s x.element } ∷ cs) xs (with_value s x.element x.value)
    ∙ ap (undone cs) (value_back s x.element x.value)

-- changes after others
pub undone_more : (xs ys : List Change) (s : State) → undone (xs ++ ys) s ≡ undone ys (undone xs s)
undone_more [] ys s = refl
undone_more (x ∷ xs) ys s = undone_more xs ys (with_value s x.element x.old)
