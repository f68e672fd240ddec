-- What a set of paths holds, as paths are added.
use Rattle.std.proofs.Common.{◌≡◌, ℕ, Bool, true, false, ◌&&◌, ◌||◌, List, [], ◌∷◌, ◌++◌, append-nil, Option, Some, refl, sym, ap, subst, ◌∙◌}
use Rattle.std.specs.Prelude.{bytes_eq}
use Rattle.std.specs.List.{list_any}
use Rattle.std.proofs.lemmas.List.Folds.{list_any-append}
use Rattle.vl_value.specs.Paths.{Text, Path, same_path, below}
use Rattle.vl_design.specs.Scopes.{Scope}
use Rattle.vl_scopes.specs.Plain.{path_at}
use Rattle.vl_paths.specs.declared.numbers.PathNumbers.{PathNumbers}
use Rattle.vl_paths.specs.declared.set.PathSet.{PathSet}
use Rattle.vl_paths.specs.Numbers.{number_of, StandsFor}
use Rattle.vl_paths.specs.Sets.{HasNone, Adds, HoldsPaths}
use Rattle.vl_paths.proofs.Deciding.{same_below}

or_turned : (a b : Bool) → (a || b) ≡ (b || (a || false))
or_turned true true = refl
or_turned true false = refl
or_turned false true = refl
or_turned false false = refl

-- no path
pub none_held : (n : PathNumbers) (set : PathSet) (ss : List Scope) → HasNone set → HoldsPaths n set ss []
none_held n set ss none k x = none (number_of n k) x

-- one more
pub added : (n : PathNumbers) (old new : PathSet) (ss : List Scope) (ps : List Path) (r : Option ℕ) (p : Path) (x : Text)
    → StandsFor n ss r p → Adds r x old new → HoldsPaths n old ss ps → HoldsPaths n new ss (ps ++ below p x ∷ [])
added n old new ss ps r p x stands adds held k y =
    let q : Path = path_at ss (Some k) in
    adds (number_of n k) y
    ∙ (λ i. (stands k i && bytes_eq x y) || held k y i)
    ∙ ap (λ b. b || list_any (same_path (below q y)) ps) (sym (same_below p q x y))
    ∙ or_turned (same_path (below q y) (below p x)) (list_any (same_path (below q y)) ps)
    ∙ sym (list_any-append (same_path (below q y)) ps (below p x ∷ []))

-- none more
pub none_added : (n : PathNumbers) (set : PathSet) (ss : List Scope) (ps : List Path) → HoldsPaths n set ss ps → HoldsPaths n set ss (ps ++ [])
none_added n set ss ps held = subst (HoldsPaths n set ss) (sym (append-nil ps)) held
