-- Sets of paths whose order is turned, and clock names of one scope more.
use Rattle.std.proofs.Common.{◌≡◌, ℕ, ◌+◌, ◌<◌, ◌≤◌, Bool, true, false, ◌||◌, List, [], ◌∷◌, ◌++◌, append-nil, length, drop, get_or, arith, refl, sym, ap, subst, ◌∙◌}
use Rattle.std.specs.Prelude.{Option, Some, None, slice_get}
use Rattle.std.proofs.lemmas.List.{drop_all, drop_more}
use Rattle.std.proofs.lemmas.List.Folds.{list_any-append}
use Rattle.std.proofs.lemmas.Option.{get_or_from_slice_get, slice_get_within}
use Rattle.vl_value.specs.Paths.{Text, Path, same_path, below}
use Rattle.vl_design.specs.Scopes.{Level, Scope, levels}
use Rattle.vl_design.specs.Objects.{sight}
use Rattle.vl_design.specs.LoopVariables.{is_path_in, paths_in}
use Rattle.vl_design.specs.Clocks.{clocked_in, clocks_at_top, from_inside}
use Rattle.vl_paths.specs.declared.numbers.PathNumbers.{PathNumbers}
use Rattle.vl_paths.specs.declared.set.PathSet.{PathSet}
use Rattle.vl_paths.specs.Numbers.{AreNumbers, number_of}
use Rattle.vl_paths.specs.Sets.{HasNone, HoldsPaths}
use Rattle.vl_paths.proofs.Holding.{none_held}
use Rattle.vl_scopes.specs.Plain.{levels_at, made_of, path_at, plain_scope, plain_scopes}
use Rattle.vl_scopes.specs.declared.scope.Scope as code
use Rattle.vl_loop_paths.specs.Adding.{AddsPaths}
use Rattle.vl_sight.specs.Levels.{lower_than}
use Rattle.vl_sight.proofs.Standing.{before_scope, outer_levels, plain_count, scope_is}
use Rattle.vl_top_clocks.specs.Passing.{AddsClocks, IsPassedUp}

or_turned : (a b : Bool) → (a || b) ≡ (b || a)
or_turned true true = refl
or_turned true false = refl
or_turned false true = refl
or_turned false false = refl

in_turned : (ps qs : List Path) (p : Path) → is_path_in (ps ++ qs) p ≡ is_path_in (qs ++ ps) p
in_turned ps qs p =
    list_any-append (same_path p) ps qs ∙ or_turned (is_path_in ps p) (is_path_in qs p) ∙ sym (list_any-append (same_path p) qs ps)

pub turned : (n : PathNumbers) (set : PathSet) (ss : List Scope) (ps qs : List Path)
    → HoldsPaths n set ss (ps ++ qs) → HoldsPaths n set ss (qs ++ ps)
turned n set ss ps qs h k x = h k x ∙ in_turned ps qs (below (path_at ss (Some k)) x)

-- added in front
pub in_front : (n : PathNumbers) (ss : List Scope) (ps qs : List Path) (old new : PathSet) → AreNumbers n ss → AddsPaths n ss qs old new
    → HoldsPaths n old ss ps → HoldsPaths n new ss (qs ++ ps)
in_front n ss ps qs old new are adds held = turned n new ss ps qs (adds ps are held)

none_seen : (xs : List Text) → paths_in (sight []) xs ≡ []
none_seen [] = refl
none_seen (x ∷ xs) = none_seen xs

pub adds_none : (n : PathNumbers) (ss : List Scope) (w : Option ℕ) (xs : List Text) (set : PathSet) → w ≡ None
    → AddsPaths n ss (paths_in (sight (levels_at ss w)) xs) set set
adds_none n ss w xs set e ps are held =
    subst (λ qs. HoldsPaths n set ss (ps ++ qs))
    (sym (ap (λ v. paths_in (sight (levels_at ss v)) xs) e ∙ none_seen xs))
    (subst (HoldsPaths n set ss) (sym (append-nil ps)) held)

abbrev levels_of : Option Scope → List Level
levels_of r = elim r [ Some x ↦ levels x | None ↦ [] ]

-- the clock names of one scope: its own, and then those that it passes up
pub of_scope : (n : PathNumbers) (ss : List Scope) (k : ℕ) (c : code.Scope) (old own new : PathSet) (clocked passed : List Text)
    → AddsPaths n ss (paths_in (sight (levels_at ss (Some k))) clocked) old own
    → ((s : Scope) → s.items ≡ made_of c.origin → paths_in (sight (levels s)) clocked ≡ clocked_in (sight (levels s)) s.items)
    → IsPassedUp ss k (number_of n k) c own passed
    → AddsPaths n ss (paths_in (sight (levels_at ss (lower_than k c.within))) passed) own new
    → AddsClocks n ss k c old new
of_scope n ss k c old own new clocked passed adds_own clocks_are passes adds_passed before at around are ps held =
    let s = plain_scope before c in
    let mine : List Path = clocked_in (sight (levels s)) s.items in
    let inner : List Path = mine ++ ps in
    let own_is : paths_in (sight (levels_at ss (Some k))) clocked ≡ mine =
    ap (λ (o : Option Scope). paths_in (sight (levels_of o)) clocked) at ∙ clocks_are s refl in
    let first : HoldsPaths n own ss inner =
    in_front n ss ps mine old own are (subst (λ qs. AddsPaths n ss qs old own) own_is adds_own) held in
    let up_is : paths_in (sight (levels_at ss (lower_than k c.within))) passed ≡ from_inside inner s =
    ap (λ ls. paths_in (sight ls) passed) (sym around) ∙ passes before at inner n refl first in
    in_front n ss inner (from_inside inner s) own new are (subst (λ qs. AddsPaths n ss qs own new) up_is adds_passed) first

-- ---- scopes from the last to the first

pub dropped : (ss : List Scope) (k : ℕ) (s : Scope) → slice_get ss k ≡ Some s → drop k ss ≡ s ∷ drop (k + 1) ss
dropped ss k s at =
    drop_more ss k s (slice_get_within ss k s at) ∙ ap (λ x. x ∷ drop (k + 1) ss) (get_or_from_slice_get ss k s s at)

pub one_further : (n : PathNumbers) (old new : PathSet) (cs : List code.Scope) (j k : ℕ) (c : code.Scope) → j + 1 ≡ k → j < length cs
    → c ≡ get_or cs j c → AddsClocks n (plain_scopes cs) j c old new
    → (AreNumbers n (plain_scopes cs) → HoldsPaths n old (plain_scopes cs) (clocks_at_top (drop k (plain_scopes cs))))
    → AreNumbers n (plain_scopes cs) → HoldsPaths n new (plain_scopes cs) (clocks_at_top (drop j (plain_scopes cs)))
one_further n old new cs j k c up below is adds was are =
    let ss = plain_scopes cs in
    let at = scope_is cs j c below is in
    let left : drop j ss ≡ plain_scope (before_scope cs j) c ∷ drop k ss =
    dropped ss j _ at ∙ ap (λ i. plain_scope (before_scope cs j) c ∷ drop i ss) up in
    subst (λ qs. HoldsPaths n new ss (clocks_at_top qs)) (sym left)
    (adds (before_scope cs j) at (outer_levels cs j c.within below) are (clocks_at_top (drop k ss)) (was are))

pub none_left : (n : PathNumbers) (set : PathSet) (cs : List code.Scope) (k : ℕ) → length cs ≤ k → HasNone set
    → HoldsPaths n set (plain_scopes cs) (clocks_at_top (drop k (plain_scopes cs)))
none_left n set cs k all none =
    subst (λ qs. HoldsPaths n set (plain_scopes cs) (clocks_at_top qs)) (sym (drop_all k (plain_scopes cs) (few cs k all)))
    (none_held n set (plain_scopes cs) none)
  where
    few : (cs : List code.Scope) (k : ℕ) → length cs ≤ k → length (plain_scopes cs) ≤ k
    few cs k h = let count : length (plain_scopes cs) ≡ length cs = plain_count cs in omega arith
