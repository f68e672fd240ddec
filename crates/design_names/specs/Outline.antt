-- The outline of a numbered design: its scopes and signals one after another, as the header of a waveform has them.
-- This project's own.
use Rattle.std.specs.Prelude.{ℕ, ◌<◌, List, [], ◌∷◌, ◌++◌, map, length}
use Rattle.netlist.specs.Design.{Flat}
use Rattle.design_names.specs.Tree.{Branch, branch, Branches, no_branches, next_branch, flat_tree, signals_in}
use Rattle.design_names.specs.declared.outline.Entry.{Entry}
use Rattle.design_names.specs.declared.outline.Entry.TheVariants as entry

-- a scope, its signals, what stands in it, and its end
abbrev mutual
  pub outline : Flat → Branch → List Entry
  outline f (branch k below) =
      entry.Scope k ∷ (map entry.Signal (signals_in f k) ++ (outlines f below ++ entry.End ∷ []))

  pub outlines : Flat → Branches → List Entry
  outlines f no_branches = []
  outlines f (next_branch b bs) = outline f b ++ outlines f bs

abbrev pub flat_outline : Flat → List Entry
flat_outline f = outline f (flat_tree f)

-- the signal of an entry, if it has one, and those of all entries
abbrev pub entry_signal : Entry → List ℕ
entry_signal (entry.Scope k) = []
entry_signal (entry.Signal k) = k ∷ []
entry_signal entry.End = []

abbrev pub entry_signals : List Entry → List ℕ
entry_signals [] = []
entry_signals (x ∷ xs) = entry_signal x ++ entry_signals xs

-- what an entry names is there
abbrev pub EntryFits : Flat → Entry → Type 0
EntryFits f (entry.Scope k) = k < length f.scopes
EntryFits f (entry.Signal k) = k < length f.signals
EntryFits f entry.End = Unit {0}
