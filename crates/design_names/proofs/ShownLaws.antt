-- The variables of the tree are the shown signals, and the outline has them in this order.
use Rattle.std.proofs.Common.{◌≡◌, ℕ, suc, zero, ◌+◌, ◌<◌, ◌≤◌, Bool, true, false, List, [], ◌∷◌, ◌++◌, length, drop, map, refl, sym, ap, ◌∙◌, arith, append_assoc, append-nil}
use Rattle.std.proofs.lemmas.List.{map-append}
use Rattle.std.specs.Prelude.{if◌then◌else◌}
use Rattle.std.specs.List.{All}
use Rattle.std.proofs.lemmas.List.Elements.{All-append, All-cons}
use Rattle.netlist.specs.Design.{Flat}
use Rattle.netlist.specs.Fits.{IsWellFormed}
use Rattle.netlist.specs.declared.design.Scope as declared
use Rattle.netlist.specs.declared.design.Signal.{Signal}
use Rattle.design_names.specs.Variables.{Variable, variables_of, variables_below}
use Rattle.design_names.specs.Tree.{Branch, branch, Branches, no_branches, next_branch, is_in, children, branches, flat_tree, signals_from, signals_in}
use Rattle.design_names.specs.Shown.{named, all_named, variable_at, signals_of, signals_below, flat_order, flat_scope}
use Rattle.design_names.specs.Outline.{outline, outlines, flat_outline, entry_signal, entry_signals, EntryFits}
use Rattle.design_names.specs.declared.outline.Entry.{Entry}
use Rattle.design_names.specs.declared.outline.Entry.TheVariants as entry

-- ---- variables

mutual
  variables_are : (f : Flat) (b : Branch) → variables_of (named f b) ≡ map (variable_at f) (signals_of f b)
  variables_are f (branch k below) =
      ap (λ (xs : List Variable). map (variable_at f) (signals_in f k) ++ xs) (below_are f below)
      ∙ sym (map-append (variable_at f) (signals_in f k) (signals_below f below))

  below_are : (f : Flat) (bs : Branches) → variables_below (all_named f bs) ≡ map (variable_at f) (signals_below f bs)
  below_are f no_branches = refl
  below_are f (next_branch b bs) =
      ap (λ (xs : List Variable). xs ++ variables_below (all_named f bs)) (variables_are f b)
      ∙ ap (λ (xs : List Variable). map (variable_at f) (signals_of f b) ++ xs) (below_are f bs)
      ∙ sym (map-append (variable_at f) (signals_of f b) (signals_below f bs))

pub all_shown : (f : Flat) → variables_of (flat_scope f) ≡ map (variable_at f) (flat_order f)
all_shown f = variables_are f (flat_tree f)

-- ---- the signals of the outline

signals_append : (xs ys : List Entry) → entry_signals (xs ++ ys) ≡ entry_signals xs ++ entry_signals ys
signals_append [] ys = refl
signals_append (x ∷ xs) ys =
    ap (λ (zs : List ℕ). entry_signal x ++ zs) (signals_append xs ys)
    ∙ sym (append_assoc (entry_signal x) (entry_signals xs) (entry_signals ys))

only_signals : (ks : List ℕ) → entry_signals (map entry.Signal ks) ≡ ks
only_signals [] = refl
only_signals (k ∷ ks) = ap (λ (xs : List ℕ). k ∷ xs) (only_signals ks)

mutual
  outlined : (f : Flat) (b : Branch) → entry_signals (outline f b) ≡ signals_of f b
  outlined f (branch k below) =
      signals_append (map entry.Signal (signals_in f k)) (outlines f below ++ entry.End ∷ [])
      ∙ ap (λ (xs : List ℕ). xs ++ entry_signals (outlines f below ++ entry.End ∷ [])) (only_signals (signals_in f k))
      ∙ ap (λ (xs : List ℕ). signals_in f k ++ xs)
      (signals_append (outlines f below) (entry.End ∷ []) ∙ append-nil (entry_signals (outlines f below)) ∙ all_outlined f below)

  all_outlined : (f : Flat) (bs : Branches) → entry_signals (outlines f bs) ≡ signals_below f bs
  all_outlined f no_branches = refl
  all_outlined f (next_branch b bs) =
      signals_append (outline f b) (outlines f bs)
      ∙ ap (λ (xs : List ℕ). xs ++ entry_signals (outlines f bs)) (outlined f b)
      ∙ ap (λ (xs : List ℕ). signals_of f b ++ xs) (all_outlined f bs)

pub order_outlined : (f : Flat) → entry_signals (flat_outline f) ≡ flat_order f
order_outlined f = outlined f (flat_tree f)

-- ---- what is named is there

-- each scope of a branch is below n
abbrev mutual
  Below : ℕ → Branch → Type 0
  Below n (branch k below) = (k < n) × AllBelow n below

  AllBelow : ℕ → Branches → Type 0
  AllBelow n no_branches = Unit {0}
  AllBelow n (next_branch b bs) = Below n b × AllBelow n bs

abbrev EachBelow : ℕ → List Branch → Type 0
EachBelow n [] = Unit {0}
EachBelow n (b ∷ bs) = Below n b × EachBelow n bs

chosen_below : (t : Bool) (n : ℕ) (b : Branch) (bs : Branches) → Below n b → AllBelow n bs
    → AllBelow n (if t then next_branch b bs else bs)
chosen_below true n b bs h g = (h, g)
chosen_below false n b bs h g = g

children_below : (n k : ℕ) (ss : List declared.Scope) (bs : List Branch) → EachBelow n bs → AllBelow n (children k ss bs)
children_below n k [] bs h = tt
children_below n k (s ∷ ss) [] h = tt
children_below n k (s ∷ ss) (b ∷ bs) h =
    chosen_below (is_in k s.parent) n b (children k ss bs) h.0 (children_below n k ss bs h.1)

branches_below : (n j : ℕ) (ss : List declared.Scope) → j + length ss ≤ n → EachBelow n (branches j ss)
branches_below n j [] h = tt
branches_below n j (s ∷ ss) h =
    let more : EachBelow n (branches (j + 1) ss) = branches_below n (j + 1) ss (omega arith) in
    let less : j < n = omega arith in
    ((less, children_below n j ss (branches (j + 1) ss) more), more)

rest_short : (j : ℕ) (ss : List declared.Scope) → j ≤ length ss → j + length (drop j ss) ≤ length ss
rest_short zero ss h = omega arith
rest_short (suc j) [] h = absurd (omega arith)
rest_short (suc j) (s ∷ ss) h = let k : j + length (drop j ss) ≤ length ss = rest_short j ss (omega arith) in omega arith

tree_below : (f : Flat) → 0 < length f.scopes → Below (length f.scopes) (flat_tree f)
tree_below f some =
    let short : 1 + length (drop 1 f.scopes) ≤ length f.scopes = rest_short 1 f.scopes (omega arith) in (
      some,
      children_below (length f.scopes) 0 (drop 1 f.scopes) (branches 1 (drop 1 f.scopes))
          (branches_below (length f.scopes) 1 (drop 1 f.scopes) short),
    )

one_there : (t : Bool) (n : ℕ) (P : ℕ → Type 0) (xs : List ℕ) → P n → All P xs → All P (if t then n ∷ xs else xs)
one_there true n P xs p h = All-cons P n xs p h
one_there false n P xs p h = h

signals_there : (n k j : ℕ) (ss : List Signal) → j + length ss ≤ n → All (λ i. i < n) (signals_from k j ss)
signals_there n k j [] h = λ i d g. absurd (omega arith)
signals_there n k j (s ∷ ss) h =
    one_there (is_in k s.scope) j (λ i. i < n) (signals_from k (j + 1) ss) (omega arith)
    (signals_there n k (j + 1) ss (omega arith))

all_signals_there : (f : Flat) (k : ℕ) → All (λ i. i < length f.signals) (signals_in f k)
all_signals_there f k = signals_there (length f.signals) k 0 f.signals (omega arith)

mutual
  shown_there : (f : Flat) (b : Branch) → All (λ k. k < length f.signals) (signals_of f b)
  shown_there f (branch k below) =
      All-append (λ k. k < length f.signals) (signals_in f k) (signals_below f below) (all_signals_there f k)
      (below_there f below)

  below_there : (f : Flat) (bs : Branches) → All (λ k. k < length f.signals) (signals_below f bs)
  below_there f no_branches = λ i d g. absurd (omega arith)
  below_there f (next_branch b bs) =
      All-append (λ k. k < length f.signals) (signals_of f b) (signals_below f bs) (shown_there f b) (below_there f bs)

pub order_there : (f : Flat) → All (λ k. k < length f.signals) (flat_order f)
order_there f = shown_there f (flat_tree f)

signal_entries : (f : Flat) (ks : List ℕ) → All (λ k. k < length f.signals) ks → All (EntryFits f) (map entry.Signal ks)
signal_entries f [] h = λ i d g. absurd (omega arith)
signal_entries f (k ∷ ks) h =
    All-cons (EntryFits f) (entry.Signal k) (map entry.Signal ks) (h 0 k (omega arith))
    (signal_entries f ks (λ i d g. h (suc i) d (omega arith)))

an_end : (f : Flat) → All (EntryFits f) (entry.End ∷ [])
an_end f = All-cons (EntryFits f) entry.End [] tt (λ i d g. absurd (omega arith))

mutual
  outline_there : (f : Flat) (b : Branch) → Below (length f.scopes) b → All (EntryFits f) (outline f b)
  outline_there f (branch k below) h =
      All-cons (EntryFits f) (entry.Scope k) (map entry.Signal (signals_in f k) ++ (outlines f below ++ entry.End ∷ [])) h.0
      (All-append (EntryFits f) (map entry.Signal (signals_in f k)) (outlines f below ++ entry.End ∷ [])
      (signal_entries f (signals_in f k) (all_signals_there f k))
      (All-append (EntryFits f) (outlines f below) (entry.End ∷ []) (outlines_there f below h.1) (an_end f)))

  outlines_there : (f : Flat) (bs : Branches) → AllBelow (length f.scopes) bs → All (EntryFits f) (outlines f bs)
  outlines_there f no_branches h = λ i d g. absurd (omega arith)
  outlines_there f (next_branch b bs) h =
      All-append (EntryFits f) (outline f b) (outlines f bs) (outline_there f b h.0) (outlines_there f bs h.1)

pub outline_fits : (f : Flat) → IsWellFormed f → All (EntryFits f) (flat_outline f)
outline_fits f w = outline_there f (flat_tree f) (tree_below f w.top)
