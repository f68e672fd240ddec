-- Of some modules those that none instantiates.
use Rattle.std.proofs.Common.{◌≡◌, ℕ, Bool, true, false, not, if◌then◌else◌, List, [], ◌∷◌, map, filter, Option, refl, ap}
use Rattle.std.specs.Borrow.{Bor}
use Rattle.vl_tree.specs.Syntax as t
use Rattle.vl_tree.specs.declared.item.Module as code
use Rattle.vl_design.specs.Walk.{is_instantiated}
use Rattle.vl_top.specs.Names.{HoldsUsed, is_unused, tree_of}

one_kept : (b c : Bool) (m : Bor code.Module) (ms : List (Bor code.Module)) (ts : List t.Module) → b ≡ c → map tree_of ms ≡ ts
    → map tree_of (if b then m ∷ ms else ms) ≡ (if c then tree_of m ∷ ts else ts)
one_kept true true m ms ts e h = ap (λ y. tree_of m ∷ y) h
one_kept false false m ms ts e h = h
one_kept true false m ms ts e h = absurd cc
one_kept false true m ms ts e h = absurd cc

pub unused_roots : (find : List ℕ → Option ℕ) (src : t.Source) → HoldsUsed find src → (ms : List (Bor code.Module))
    → map tree_of (filter (is_unused find) ms) ≡ filter (λ m. not (is_instantiated src m)) (map tree_of ms)
unused_roots find src h [] = refl
unused_roots find src h (m ∷ ms) =
    one_kept (is_unused find m) (not (is_instantiated src (tree_of m))) m (filter (is_unused find) ms) _ (ap not (h (tree_of m).name.text)) (unused_roots find src h ms)
