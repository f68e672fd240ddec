-- One port more in front: the numbers of the names, and whether the names are distinct.
use Rattle.std.proofs.Common.{◌≡◌, ℕ, ◌+◌, ◌<◌, Bool, cond, not, ◌&&◌, List, ◌∷◌, length, drop, get_or, map, Option, Some, sym, ap, ◌∙◌, is_some}
use Rattle.std.specs.Prelude.{bytes_eq}
use Rattle.vl_tree.specs.declared.tree.Port as code
use Rattle.vl_tree.specs.Tree.{Text}
use Rattle.vl_tree.specs.View.{port}
use Rattle.vl_meaning.specs.Objects.{port_name, port_named, place_from}
use Rattle.vl_meaning.specs.Faults.{are_distinct}
use Rattle.vl_scope.proofs.Places.{is_some-place_from}
use Rattle.vl_scope.proofs.Views.{ports-drop}

module _ (ports : List code.Port) (j i : ℕ) (up : j + 1 ≡ i) (p : code.Port) (below : j < length ports) (is : p ≡ get_or ports j p)
    (name : Text) (named : name ≡ port_name (port p)) where
  one_more : map port (drop j ports) ≡ port p ∷ map port (drop i ports)
  one_more = ports-drop ports j p below is ∙ ap (λ k. port p ∷ map port (drop k ports)) up

  -- the name has its number now, and the others keep theirs
  pub numbers_more : (x : Text) (old new : Option ℕ) → old ≡ place_from i (map port (drop i ports)) x → new ≡ cond (bytes_eq name x) (Some j) old
      → new ≡ place_from j (map port (drop j ports)) x
  numbers_more x old new was now =
      now ∙ (λ t. cond (bytes_eq (named t) x) (Some j) (was t))
      ∙ ap (λ k. cond (bytes_eq (port_name (port p)) x) (Some j) (place_from k (map port (drop i ports)) x)) (sym up)
      ∙ ap (λ ps. place_from j ps x) (sym one_more)

  -- the names are distinct where this one is new, and the others were distinct
  pub distinct_more : (is_new was now : Bool) (old : Option ℕ) → old ≡ place_from i (map port (drop i ports)) name → is_new ≡ not (is_some old)
      → was ≡ are_distinct (map port (drop i ports)) → now ≡ (is_new && was) → now ≡ are_distinct (map port (drop j ports))
  distinct_more is_new was now old found new others both =
      let fresh = ap not (ap is_some found ∙ is_some-place_from i (map port (drop i ports)) name) in
      both ∙ (λ t. new t && others t) ∙ (λ t. fresh t && are_distinct (map port (drop i ports)))
      ∙ ap (λ n. not (is_some (port_named (map port (drop i ports)) n)) && are_distinct (map port (drop i ports))) named
      ∙ ap are_distinct (sym one_more)
