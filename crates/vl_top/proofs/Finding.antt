-- The first module of each name, with one module more in front; and the first modules, with one more behind.
use Rattle.std.proofs.Common.{◌≡◌, ℕ, ◌+◌, ◌<◌, Bool, true, false, ◌||◌, List, [], ◌∷◌, ◌++◌, length, drop, get_or, map, Option, Some, is_some, refl, sym, ap, ◌∙◌}
use Rattle.std.proofs.lemmas.List.{drop_more}
use Rattle.std.specs.Prelude.{bytes_eq, cond, if◌then◌else◌}
use Rattle.std.specs.Option.{option_map}
use Rattle.std.specs.Borrow.{Bor}
use Rattle.vl_tree.specs.Syntax as t
use Rattle.vl_tree.specs.declared.item.Module as code
use Rattle.vl_tree.specs.SyntaxView as view
use Rattle.vl_design.specs.Scopes.{module_at}
use Rattle.vl_design.specs.Walk.{has_module, first_of_name}
use Rattle.vl_top.specs.Names.{FindsModules, SetsModule, tree_of}
use Rattle.vl_views.proofs.ItemViews.{modules-drop}

module _ (ms : List code.Module) (j i : ℕ) (up : j + 1 ≡ i) (m : code.Module) (below : j < length ms) (is : m ≡ get_or ms j m) where
  one_more : map view.module_tree (drop j ms) ≡ view.module_tree m ∷ map view.module_tree (drop i ms)
  one_more = modules-drop ms j m below is ∙ ap (λ k. view.module_tree m ∷ map view.module_tree (drop k ms)) up

  pub finds_more : (name : List ℕ) → name ≡ (view.module_tree m).name.text → (old new : List ℕ → Option (Bor code.Module))
      → FindsModules old (map view.module_tree (drop i ms)) → SetsModule old new name (view.module_tree m)
      → FindsModules new (map view.module_tree (drop j ms))
  finds_more name named old new was now x =
      now x ∙ (λ k. if bytes_eq (named k) x then Some (view.module_tree m) else was x k) ∙ ap (λ ps. module_at ps x) (sym one_more)

pub borrowed-drop : (all : List (Bor code.Module)) (i : ℕ) (a : Bor code.Module) → i < length all → a ≡ get_or all i a
    → map tree_of (drop i all) ≡ tree_of a ∷ map tree_of (drop (i + 1) all)
borrowed-drop all i a below is = ap (map tree_of) (drop_more all i a below) ∙ ap (λ y. tree_of y ∷ map tree_of (drop (i + 1) all)) (sym is)

-- an update of what is found
pub sets : (same : Bool) (m : t.Module) (one : Bor code.Module) (old : Option (Bor code.Module)) → tree_of one ≡ m
    → option_map tree_of (cond same (Some one) old) ≡ (if same then Some m else option_map tree_of old)
sets true m one old e = ap Some e
sets false m one old e = refl

-- ---- names that were noted, and the first modules

pub noted : (same b : Bool) (old : Option ℕ) → is_some old ≡ b → is_some (cond same (Some 0) old) ≡ (same || b)
noted true b old e = refl
noted false b old e = e

one_behind : (firsts more : List t.Module) (m : t.Module) → (firsts ++ m ∷ []) ++ more ≡ firsts ++ (m ∷ more)
one_behind [] more m = refl
one_behind (a ∷ firsts) more m = ap (λ ms. a ∷ ms) (one_behind firsts more m)

-- a module whose name stood before
pub skipped : (before rest : t.Source) (m : t.Module) (firsts all : List t.Module) → has_module before m.name.text ≡ true
    → firsts ++ first_of_name before (m ∷ rest) ≡ all → firsts ++ first_of_name (m ∷ before) rest ≡ all
skipped before rest m firsts all seen h =
    ap (λ b. firsts ++ ((if b then [] else m ∷ []) ++ first_of_name (m ∷ before) rest)) (sym seen) ∙ h

-- a module that is the first of its name
pub taken : (before rest : t.Source) (m : t.Module) (firsts all : List t.Module) → has_module before m.name.text ≡ false
    → firsts ++ first_of_name before (m ∷ rest) ≡ all → (firsts ++ m ∷ []) ++ first_of_name (m ∷ before) rest ≡ all
taken before rest m firsts all new h =
    one_behind firsts (first_of_name (m ∷ before) rest) m
    ∙ ap (λ b. firsts ++ ((if b then [] else m ∷ []) ++ first_of_name (m ∷ before) rest)) (sym new) ∙ h

-- a module that was looked at
pub stepped : (before rest : t.Source) (m : t.Module) (old new all : List t.Module) (known : Bool) → known ≡ has_module before m.name.text
    → new ≡ (if known then old else old ++ m ∷ []) → old ++ first_of_name before (m ∷ rest) ≡ all → new ++ first_of_name (m ∷ before) rest ≡ all
stepped before rest m old new all true k n h = ap (λ ms. ms ++ first_of_name (m ∷ before) rest) n ∙ skipped before rest m old all (sym k) h
stepped before rest m old new all false k n h = ap (λ ms. ms ++ first_of_name (m ∷ before) rest) n ∙ taken before rest m old all (sym k) h
