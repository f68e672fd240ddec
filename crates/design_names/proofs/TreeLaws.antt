-- The tree of scopes, and the signals of a scope, as lists in which each thing leads to the next.
use Rattle.std.proofs.Common.{◌≡◌, ℕ, suc, ◌+◌, Bool, true, false, List, [], ◌∷◌, drop, map, refl, sym, ap, ◌∙◌, arith}
use Rattle.std.specs.Prelude.{Option, Some, None, if◌then◌else◌}
use Rattle.std.proofs.lemmas.List.{drop-drop, drop-map}
use Rattle.netlist.specs.declared.design.Scope.{Scope}
use Rattle.netlist.specs.declared.design.Signal.{Signal}
use Rattle.design_names.specs.Tree.{branch, Branches, no_branches, next_branch, is_in, children, branches, children_from, branch_at, signals_from}
use Rattle.design_names.specs.Links.{first_in, first_from}

abbrev pub parents : List Scope → List (Option ℕ)
parents scopes = map (λ (s : Scope). s.parent) scopes

abbrev pub owners : List Signal → List (Option ℕ)
owners signals = map (λ (s : Signal). s.scope) signals

-- ---- scopes

none_by : (b : Bool) (n : ℕ) (rest : Option ℕ) (x more : Branches) → (if b then Some n else rest) ≡ None
    → (rest ≡ None → more ≡ no_branches) → (if b then x else more) ≡ no_branches
none_by true n rest x more e h = absurd cc
none_by false n rest x more e h = h e

no_children : (k n : ℕ) (ss : List Scope) → first_in k n (parents ss) ≡ None → children k ss (branches n ss) ≡ no_branches
no_children k n [] e = refl
no_children k n (s ∷ ss) e =
    none_by (is_in k s.parent) n (first_in k (n + 1) (parents ss))
    (next_branch (branch n (children n ss (branches (n + 1) ss))) (children k ss (branches (n + 1) ss)))
    (children k ss (branches (n + 1) ss)) e (no_children k (n + 1) ss)

-- the first child, and those after it, of scopes that are numbered from n on
record Begins (k n i : ℕ) (ss : List Scope) (all : Branches) : Type 0 where
  place : ℕ
  number : i ≡ n + place
  is : all ≡ next_branch (branch i (children i (drop (suc place) ss) (branches (i + 1) (drop (suc place) ss))))
      (children k (drop (suc place) ss) (branches (i + 1) (drop (suc place) ss)))

begins_by : (b : Bool) (k n i : ℕ) (s : Scope) (ss : List Scope) → (if b then Some n else first_in k (n + 1) (parents ss)) ≡ Some i
    → (first_in k (n + 1) (parents ss) ≡ Some i → Begins k (n + 1) i ss (children k ss (branches (n + 1) ss)))
    → Begins k n i (s ∷ ss) (if b then next_branch (branch n (children n ss (branches (n + 1) ss)))
    (children k ss (branches (n + 1) ss)) else children k ss (branches (n + 1) ss))
begins_by true k n i s ss e more =
    let same : n ≡ i = cc in
    record {
      place = 0;
      number = omega (arith, same);
      is = ap (λ (m : ℕ). next_branch (branch m (children m ss (branches (m + 1) ss))) (children k ss (branches (m + 1) ss))) same;
    }
begins_by false k n i s ss e more =
    let b = more e in record { place = suc b.place; number = omega (arith, b.number); is = b.is }

first_child : (k n i : ℕ) (ss : List Scope) → first_in k n (parents ss) ≡ Some i
    → Begins k n i ss (children k ss (branches n ss))
first_child k n i [] e = absurd cc
first_child k n i (s ∷ ss) e = begins_by (is_in k s.parent) k n i s ss e (first_child k (n + 1) i ss)

from_drop : (k j : ℕ) (ss : List Scope) → first_in k j (parents (drop j ss)) ≡ first_from (parents ss) k j
from_drop k j ss = ap (first_in k j) (sym (drop-map (λ (s : Scope). s.parent) j ss))

pub children_end : (scopes : List Scope) (k j : ℕ) → first_from (parents scopes) k j ≡ None
    → children_from scopes k j ≡ no_branches
children_end scopes k j e = no_children k j (drop j scopes) (from_drop k j scopes ∙ e)

pub children_begin : (scopes : List Scope) (k j i : ℕ) → first_from (parents scopes) k j ≡ Some i
    → children_from scopes k j ≡ next_branch (branch_at scopes i) (children_from scopes k (i + 1))
children_begin scopes k j i e =
    let b = first_child k j i (drop j scopes) (from_drop k j scopes ∙ e) in
    let one : j + suc b.place ≡ i + 1 = omega (arith, b.number) in
    let left : drop (suc b.place) (drop j scopes) ≡ drop (i + 1) scopes =
    drop-drop (suc b.place) j scopes ∙ ap (λ (n : ℕ). drop n scopes) one in
    b.is ∙ ap (λ (ss : List Scope). next_branch (branch i (children i ss (branches (i + 1) ss))) (children k ss (branches (i + 1) ss))) left

-- ---- signals

no_signal_by : (b : Bool) (n : ℕ) (rest : Option ℕ) (x more : List ℕ) → (if b then Some n else rest) ≡ None
    → (rest ≡ None → more ≡ []) → (if b then x else more) ≡ []
no_signal_by true n rest x more e h = absurd cc
no_signal_by false n rest x more e h = h e

no_signals : (k n : ℕ) (ss : List Signal) → first_in k n (owners ss) ≡ None → signals_from k n ss ≡ []
no_signals k n [] e = refl
no_signals k n (s ∷ ss) e =
    no_signal_by (is_in k s.scope) n (first_in k (n + 1) (owners ss)) (n ∷ signals_from k (n + 1) ss)
    (signals_from k (n + 1) ss) e (no_signals k (n + 1) ss)

record Leads (k n i : ℕ) (ss : List Signal) (all : List ℕ) : Type 0 where
  place : ℕ
  number : i ≡ n + place
  is : all ≡ i ∷ signals_from k (i + 1) (drop (suc place) ss)

leads_by : (b : Bool) (k n i : ℕ) (s : Signal) (ss : List Signal) → (if b then Some n else first_in k (n + 1) (owners ss)) ≡ Some i
    → (first_in k (n + 1) (owners ss) ≡ Some i → Leads k (n + 1) i ss (signals_from k (n + 1) ss))
    → Leads k n i (s ∷ ss) (if b then n ∷ signals_from k (n + 1) ss else signals_from k (n + 1) ss)
leads_by true k n i s ss e more =
    let same : n ≡ i = cc in
    record { place = 0; number = omega (arith, same); is = ap (λ (m : ℕ). m ∷ signals_from k (m + 1) ss) same }
leads_by false k n i s ss e more =
    let b = more e in record { place = suc b.place; number = omega (arith, b.number); is = b.is }

first_signal : (k n i : ℕ) (ss : List Signal) → first_in k n (owners ss) ≡ Some i → Leads k n i ss (signals_from k n ss)
first_signal k n i [] e = absurd cc
first_signal k n i (s ∷ ss) e = leads_by (is_in k s.scope) k n i s ss e (first_signal k (n + 1) i ss)

signals_drop : (k j : ℕ) (ss : List Signal) → first_in k j (owners (drop j ss)) ≡ first_from (owners ss) k j
signals_drop k j ss = ap (first_in k j) (sym (drop-map (λ (s : Signal). s.scope) j ss))

pub signals_end : (signals : List Signal) (k j : ℕ) → first_from (owners signals) k j ≡ None
    → signals_from k j (drop j signals) ≡ []
signals_end signals k j e = no_signals k j (drop j signals) (signals_drop k j signals ∙ e)

pub signals_begin : (signals : List Signal) (k j i : ℕ) → first_from (owners signals) k j ≡ Some i
    → signals_from k j (drop j signals) ≡ i ∷ signals_from k (i + 1) (drop (i + 1) signals)
signals_begin signals k j i e =
    let b = first_signal k j i (drop j signals) (signals_drop k j signals ∙ e) in
    let one : j + suc b.place ≡ i + 1 = omega (arith, b.number) in
    let left : drop (suc b.place) (drop j signals) ≡ drop (i + 1) signals =
    drop-drop (suc b.place) j signals ∙ ap (λ (n : ℕ). drop n signals) one in
    b.is ∙ ap (λ (ss : List Signal). i ∷ signals_from k (i + 1) ss) left
