-- Paths that are added to a set, one after another.
use Rattle.std.proofs.Common.{◌≡◌, ℕ, ◌+◌, ◌<◌, List, [], ◌∷◌, ◌++◌, append-nil, append_assoc, length, get_or, take, map, Option, Some, None, refl, sym, ap, subst, ◌∙◌}
use Rattle.std.specs.Prelude.{slice_get, OnOk, Result, Ok, Err}
use Rattle.std.specs.Borrow.{Bor}
use Rattle.std.proofs.lemmas.List.{map_more}
use Rattle.vl_tree.specs.SyntaxView as view
use Rattle.vl_tree.specs.declared.expression.Name.{Name}
use Rattle.vl_value.specs.Paths.{Text, Path, below}
use Rattle.vl_value.specs.Constant.{Sight}
use Rattle.vl_design.specs.Lists.{each_of}
use Rattle.vl_design.specs.Scopes.{Scope, levels}
use Rattle.vl_design.specs.Objects.{sight}
use Rattle.vl_design.specs.LoopVariables.{object_path, paths_in}
use Rattle.vl_loops.specs.Loops.{Loops, looped_by_loops, sight_inside}
use Rattle.vl_loops.specs.Statements.{texts}
use Rattle.vl_paths.specs.declared.numbers.PathNumbers.{PathNumbers}
use Rattle.vl_paths.specs.declared.set.PathSet.{PathSet}
use Rattle.vl_paths.specs.Sets.{HoldsPaths}
use Rattle.vl_paths.specs.Numbers.{number_of, StandsFor, IsInside}
use Rattle.vl_paths.specs.Sets as sets
use Rattle.vl_paths.proofs.Holding.{added}
use Rattle.vl_paths.proofs.Pushed.{stands_for_own}
use Rattle.vl_scopes.specs.Plain.{path_at}
use Rattle.vl_sight.specs.Seen as seen
use Rattle.vl_loop_paths.specs.Adding.{AddsPaths, sight_of, looped_at}

pub none_more : (n : PathNumbers) (ss : List Scope) (set : PathSet) → AddsPaths n ss [] set set
none_more n ss set ps a held = subst (HoldsPaths n set ss) (sym (append-nil ps)) held

pub both_more : (n : PathNumbers) (ss : List Scope) (qs rs all : List Path) (a b c : PathSet)
    → AddsPaths n ss qs a b → AddsPaths n ss rs b c → all ≡ qs ++ rs → AddsPaths n ss all a c
both_more n ss qs rs all a b c first second e ps are held =
    subst (HoldsPaths n c ss) (append_assoc ps qs rs ∙ ap (λ y. ps ++ y) (sym e)) (second (ps ++ qs) are (first ps are held))

pub each_joined : {A B : Type 0} (f : A → List B) (xs ys : List A) → each_of f (xs ++ ys) ≡ each_of f xs ++ each_of f ys
each_joined f [] ys = refl
each_joined f (x ∷ xs) ys = ap (λ y. f x ++ y) (each_joined f xs ys) ∙ sym (append_assoc (f x) (each_of f xs) (each_of f ys))

-- those of one more behind
pub each_more : {A B : Type 0} (f : A → List B) (xs : List A) (x : A) → each_of f (xs ++ x ∷ []) ≡ each_of f xs ++ f x
each_more f xs x = each_joined f xs (x ∷ []) ∙ ap (λ y. each_of f xs ++ y) (append-nil (f x))

-- those of what was gone through, one further
pub each_further : {A B C : Type 0} (f : B → List C) (g : A → B) (xs : List A) (k : ℕ) (x : A) → k < length xs → x ≡ get_or xs k x
    → each_of f (map g (take (k + 1) xs)) ≡ each_of f (map g (take k xs)) ++ f (g x)
each_further f g xs k x below is =
    ap (each_of f) (map_more g xs k x below ∙ ap (λ y. map g (take k xs) ++ g y ∷ []) (sym is))
    ∙ each_more f (map g (take k xs)) (g x)

-- what holds of an Ok
pub on_ok : {A E : Type 0} {P Q : Type 0} (r : Result A E) → (P → Q) → OnOk r P → OnOk r Q
on_ok (Ok a) f p = f p
on_ok (Err e) f p = p

-- ---- the loops of a scope by its number are its own

same_inside : (ss : List Scope) (k : ℕ) (s : Scope) → slice_get ss k ≡ Some s → (f : Option Text) → sight_of ss k f ≡ sight_inside s f
same_inside ss k s at None = ap (λ (o : Option Scope). sight (elim o [ Some x ↦ levels x | None ↦ [] ])) at
same_inside ss k s at (Some f) =
    ap {B = Sight} (λ (o : Option Scope) (x : Text). elim o [ Some y ↦ seen.function_sight y f x | None ↦ None ]) at

same_loops : (ss : List Scope) (k : ℕ) (s : Scope) → slice_get ss k ≡ Some s → (l : Loops) → looped_at ss k l ≡ looped_by_loops s l
same_loops ss k s at l = ap (λ (y : Sight). paths_in y l.names) (same_inside ss k s at l.inside)

pub own_loops : (ss : List Scope) (k : ℕ) (s : Scope) → slice_get ss k ≡ Some s → (ls : List Loops)
    → each_of (looped_at ss k) ls ≡ each_of (looped_by_loops s) ls
own_loops ss k s at ls = ap (λ (f : Loops → List Path). each_of f ls) (λ i l. same_loops ss k s at l i)

-- ---- one path more

-- below the path of a scope
pub own_added : (n : PathNumbers) (ss : List Scope) (k : ℕ) (x : Text) (m : ℕ) (old new : PathSet) → m ≡ number_of n k → sets.Adds (Some m) x old new
    → AddsPaths n ss (below (path_at ss (Some k)) x ∷ []) old new
own_added n ss k x m old new is adds ps are held =
    added n old new ss ps (Some m) (path_at ss (Some k)) x (subst (λ j. StandsFor n ss (Some j) (path_at ss (Some k))) (sym is) (stands_for_own n ss are k)) adds held

-- below that of a function
pub inside_added : (n : PathNumbers) (ss : List Scope) (k : ℕ) (f x : Text) (r : Option ℕ) (old new : PathSet) → IsInside n k f r → sets.Adds r x old new
    → AddsPaths n ss (below (below (path_at ss (Some k)) f) x ∷ []) old new
inside_added n ss k f x r old new is adds ps are held =
    added n old new ss ps r (below (path_at ss (Some k)) f) x (is ss are) adds held

-- the paths of one name more
pub name_added : (n : PathNumbers) (ss : List Scope) (look : Sight) (names : List (Bor Name)) (i : ℕ) (x : Bor Name) (own : List Path) (a b c : PathSet)
    → i < length names → x ≡ get_or names i x → object_path (look (view.name x.now).text) ≡ own
    → AddsPaths n ss (paths_in look (texts (take i names))) a b → AddsPaths n ss own b c
    → AddsPaths n ss (paths_in look (texts (take (i + 1) names))) a c
name_added n ss look names i x own a b c below is e first second =
    both_more n ss (paths_in look (texts (take i names))) own (paths_in look (texts (take (i + 1) names))) a b c first second
    (each_further (λ (y : Text). object_path (look y)) (λ (y : Bor Name). (view.name y.now).text) names i x below is ∙ ap (λ ps. paths_in look (texts (take i names)) ++ ps) e)
