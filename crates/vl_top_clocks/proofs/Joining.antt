-- Names of joins that are passed up.
use Rattle.std.proofs.Common.{◌≡◌, ℕ, Bool, true, false, ◌&&◌, List, [], ◌∷◌, ◌++◌, append-nil, refl, sym, ap, ◌∙◌}
use Rattle.std.specs.Prelude.{Option, Some, None, if◌then◌else◌, slice_get}
use Rattle.vl_tree.specs.Syntax as t
use Rattle.vl_value.specs.Paths.{Text, Path, below}
use Rattle.vl_value.specs.Constant.{Sight}
use Rattle.vl_design.specs.Lists.{each_of}
use Rattle.vl_design.specs.Scopes.{Level, Scope, Origin, instance_of, block}
use Rattle.vl_design.specs.Objects.{objects, object_at, sight}
use Rattle.vl_design.specs.LoopVariables.{is_path_in, object_path, paths_in}
use Rattle.vl_design.specs.Clocks.{connected, is_input, passed_up}
use Rattle.vl_clocks.proofs.Clocked.{each_joined}
use Rattle.vl_joins.specs.Joins.{Join, passed_by}
use Rattle.vl_paths.specs.declared.numbers.PathNumbers.{PathNumbers}
use Rattle.vl_paths.specs.declared.set.PathSet.{PathSet}
use Rattle.vl_paths.specs.Numbers.{number_of}
use Rattle.vl_paths.specs.Sets.{has, HoldsPaths}
use Rattle.vl_scopes.specs.Plain.{levels_at, path_at, plain_origin, plain_scope}
use Rattle.vl_scopes.specs.declared.scope.Scope as code
use Rattle.vl_sight.specs.Levels.{is_input_at}
use Rattle.vl_top_clocks.specs.Passing.{IsPassedUp, is_passed, name_at, names_at}

and_turned : (a b : Bool) → (a && b) ≡ (b && a)
and_turned true true = refl
and_turned true false = refl
and_turned false true = refl
and_turned false false = refl

-- a port passes a clock name up exactly where its scope says so
passes_so : (n : PathNumbers) (ss : List Scope) (k : ℕ) (s : Scope) (clocks : PathSet) (inner : List Path) (x : Text)
    → slice_get ss k ≡ Some s → HoldsPaths n clocks ss inner
    → is_passed ss k (number_of n k) clocks x ≡ (is_input (object_at (objects s.level) x) && is_path_in inner (below s.level.path x))
passes_so n ss k s clocks inner x at held =
    let input : is_input_at ss k x ≡ is_input (object_at (objects s.level) x) =
    ap (λ (o : Option Scope). elim o [ Some y ↦ is_input (object_at (objects y.level) x) | None ↦ false ]) at in
    let path : path_at ss (Some k) ≡ s.level.path = ap (λ (o : Option Scope). elim o [ Some y ↦ y.level.path | None ↦ [] ]) at in
    let clock : has clocks (number_of n k) x ≡ is_path_in inner (below s.level.path x) =
    held k x ∙ ap (λ p. is_path_in inner (below p x)) path in
    (λ i. clock i && input i)
    ∙ and_turned (is_path_in inner (below s.level.path x)) (is_input (object_at (objects s.level) x))

by_flag : (b : Bool) (s : Sight) (x : Text) → paths_in s (if b then x ∷ [] else []) ≡ (if b then object_path (s x) else [])
by_flag true s x = append-nil (object_path (s x))
by_flag false s x = refl

pub passed_so : (n : PathNumbers) (ss : List Scope) (k : ℕ) (s : Scope) (clocks : PathSet) (inner : List Path) (g : Sight) (js : List Join)
    → slice_get ss k ≡ Some s → HoldsPaths n clocks ss inner
    → paths_in g (names_at ss k (number_of n k) clocks js) ≡ each_of (passed_by inner s.level g) js
passed_so n ss k s clocks inner g [] at held = refl
passed_so n ss k s clocks inner g (j ∷ js) at held =
    each_joined (λ x. object_path (g x)) (name_at ss k (number_of n k) clocks j) (names_at ss k (number_of n k) clocks js)
    ∙ (λ i. (by_flag (is_passed ss k (number_of n k) clocks j.port) g j.name
    ∙ ap (λ b. if b then object_path (g j.name) else []) (passes_so n ss k s clocks inner j.port at held)) i
    ++ passed_so n ss k s clocks inner g js at held i)

-- ---- of a scope by what makes it

abbrev from_origin : List Path → Level → Origin → List Path
from_origin inner l o = elim o [
  | instance_of m (Some j) ↦ passed_up inner l (sight j.outer) (connected m j.binds)
  | _ ↦ []
]

pub of_instance : (ss : List Scope) (k m : ℕ) (c : code.Scope) (clocks : PathSet) (js : List Join) (xs : List Text) (parent : t.Module)
    (binds : Option t.Binds)
    → ((before : List Scope) → plain_origin before c.within c.origin
    ≡ instance_of parent (Some (record { outer = levels_at before c.within; binds = binds })))
    → ((inner : List Path) (l : Level) (g : Sight) → each_of (passed_by inner l g) js ≡ passed_up inner l g (connected parent binds))
    → xs ≡ names_at ss k m clocks js → IsPassedUp ss k m c clocks xs
of_instance ss k m c clocks js xs parent binds origin joined e before at inner n num held =
    let g = sight (levels_at before c.within) in let s = plain_scope before c in
    ap (paths_in g) (e ∙ ap (λ y. names_at ss k y clocks js) num)
    ∙ passed_so n ss k s clocks inner g js at held
    ∙ joined inner s.level g
    ∙ sym (ap (from_origin inner s.level) (origin before))
