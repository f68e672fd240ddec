-- Numbers of scopes: of one more, and which scopes have one.
use Rattle.std.proofs.Common.{◌≡◌, ℕ, zero, suc, ◌+◌, ◌<◌, true, false, List, [], ◌∷◌, ◌++◌, length, get_or, drop, Option, Some, None, arith, refl, sym, ap, subst, ◌∙◌, inl, inr}
use Rattle.std.specs.Prelude.{◌⊎◌, ◌==◌, slice_get, option_to_list}
use Rattle.std.specs.Option.{option_map}
use Rattle.std.specs.List.{list_any}
use Rattle.std.proofs.lemmas.Bool.{cases_Bool}
use Rattle.std.proofs.lemmas.Bool.Decides.{same_from_decides, Decides-eqb, Decides-like}
use Rattle.std.proofs.lemmas.List.{drop_more, get_or_append_left, get_or_push, length_push, get_or_past}
use Rattle.std.proofs.lemmas.Option.{slice_get_cases}
use Rattle.vl_value.specs.Paths.{Text, Path, Step, named, same_path, below}
use Rattle.vl_design.specs.Scopes.{Scope}
use Rattle.vl_scopes.specs.Plain.{plain_scope, plain_step, scopes_after, path_at}
use Rattle.vl_scopes.specs.declared.scope.Scope as code
use Rattle.vl_paths.specs.declared.key.Key.TheVariants.{Top, Below}
use Rattle.vl_paths.specs.declared.key.LastStep.TheVariants as l
use Rattle.vl_paths.specs.declared.numbers.PathNumbers.{PathNumbers}
use Rattle.vl_paths.specs.Keys.{IsNumberOf, GoesOn}
use Rattle.vl_paths.specs.Numbers.{number_of, number_within, AreNumbers, StandsFor, IsInside}
use Rattle.vl_paths.proofs.Deciding.{same_path-decides, same_key}
use Rattle.vl_paths.proofs.Table.{key_found, path_at_key}

-- what is left, one further
pub scopes-drop : (before : List Scope) (all : List code.Scope) (k : ℕ) (s : code.Scope) → k < length all → s ≡ get_or all k s
    → scopes_after before (drop k all) ≡ scopes_after (before ++ plain_scope before s ∷ []) (drop (k + 1) all)
scopes-drop before all k s below is = ap (scopes_after before) (drop_more all k s below ∙ ap (λ y. y ∷ drop (k + 1) all) (sym is))

-- an element of a list with one more
pub pushed_at : {A : Type 0} (xs : List A) (y x : A) (k : ℕ) → slice_get (xs ++ y ∷ []) k ≡ Some x
    → ((k < length xs) × (slice_get xs k ≡ Some x)) ⊎ ((length xs ≡ k) × (y ≡ x))
pushed_at [] y x zero e = inr (refl, cc)
pushed_at [] y x (suc k) e = absurd cc
pushed_at (z ∷ xs) y x zero e = inl (omega arith, e)
pushed_at (z ∷ xs) y x (suc k) e = elim (pushed_at xs y x k e) [
  | inl h ↦ let b : k < length xs = h.0 in inl (omega arith, h.1)
  | inr h ↦ inr (ap suc h.0, h.1)
]

last_of : {A : Type 0} (xs : List A) (y : A) → slice_get (xs ++ y ∷ []) (length xs) ≡ Some y
last_of [] y = refl
last_of (x ∷ xs) y = last_of xs y

kept_more : {A : Type 0} (xs ys : List A) (k : ℕ) (x : A) → slice_get xs k ≡ Some x → slice_get (xs ++ ys) k ≡ Some x
kept_more [] ys k x e = absurd cc
kept_more (z ∷ xs) ys zero x e = e
kept_more (z ∷ xs) ys (suc k) x e = kept_more xs ys k x e

kept_after : (before : List Scope) (cs : List code.Scope) (k : ℕ) (x : Scope) → slice_get before k ≡ Some x
    → slice_get (scopes_after before cs) k ≡ Some x
kept_after before [] k x e = e
kept_after before (c ∷ cs) k x e = kept_after (before ++ plain_scope before c ∷ []) cs k x (kept_more before (plain_scope before c ∷ []) k x e)

-- a scope that was passed, among all
pub scope_at : (before : List Scope) (one : Scope) (cs : List code.Scope) → slice_get (scopes_after (before ++ one ∷ []) cs) (length before) ≡ Some one
scope_at before one cs = kept_after (before ++ one ∷ []) cs (length before) one (last_of before one)

-- the path of a scope by its number
pub path_of : (ss : List Scope) (k : ℕ) (x : Scope) → slice_get ss k ≡ Some x → path_at ss (Some k) ≡ x.level.path
path_of ss k x at = ap (λ o. elim o [ Some y ↦ y.level.path | None ↦ [] ]) at

no_path : (ss : List Scope) (k : ℕ) → slice_get ss k ≡ None → path_at ss (Some k) ≡ []
no_path ss k at = ap (λ (o : Option Scope). elim o [ Some y ↦ y.level.path | None ↦ [] ]) at

-- each number of a scope is that of a path
pub numbered : (n : PathNumbers) (ss : List Scope) (a : AreNumbers n ss) (k : ℕ) → IsNumberOf a.paths (path_at ss (Some k)) (number_of n k)
numbered n ss a k = elim (slice_get_cases ss k).1 [
  | inl h ↦ subst (λ p. IsNumberOf a.paths p (number_of n k)) (sym (path_of ss k h.0 h.2)) (a.each k h.0 h.2)
  | inr h ↦ let past : number_of n k ≡ 0 = get_or_past n.of_scopes.items k 0 (omega (arith, a.count, h.0)) in
      subst (λ p. IsNumberOf a.paths p (number_of n k)) (sym (no_path ss k h.1))
      (subst (λ m. IsNumberOf a.paths [] m) (sym past) a.table.top)
]

within_is : (n : PathNumbers) (ss : List Scope) (a : AreNumbers n ss) (k : Option ℕ)
    → IsNumberOf a.paths (path_at ss k) (number_within n.of_scopes.items k)
within_is n ss a None = a.table.top
within_is n ss a (Some k) = numbered n ss a k

-- one scope more
pub pushed : (old new : PathNumbers) (s : code.Scope) (r : ℕ) (before : List Scope) → AreNumbers old before
    → GoesOn (number_within old.of_scopes.items s.within) (option_to_list (option_map plain_step s.step)) r old.keys.keys new.keys.keys
    → new.of_scopes.items ≡ old.of_scopes.items ++ r ∷ [] → AreNumbers new (before ++ plain_scope before s ∷ [])
pushed old new s r before a goes e =
    let w = within_is old before a s.within in
    let g = goes a.paths a.table w.0 in
    let steps : List Step = option_to_list (option_map plain_step s.step) in
    let one : Scope = plain_scope before s in
    record {
      paths = g.0;
      table = g.1;
      count = ap length e ∙ length_push old.of_scopes.items r ∙ ap (λ n. n + 1) a.count ∙ sym (length_push before one);
      each = λ k x at. subst (λ ms. IsNumberOf g.0 x.level.path (get_or ms k 0)) (sym e) (elim (pushed_at before one x k at) [
        | inl h ↦ subst (λ m. IsNumberOf g.0 x.level.path m)
            (sym (get_or_append_left old.of_scopes.items (r ∷ []) 0 k (omega (arith, a.count, h.0))))
            (g.2 (get_or old.of_scopes.items k 0) x.level.path (a.each k x h.1))
        | inr h ↦ subst (λ m. IsNumberOf g.0 x.level.path m) (sym (get_or_push old.of_scopes.items r 0 k (a.count ∙ h.0)))
            (g.3.0, g.3.1 ∙ ap (λ p. p ++ steps) w.1 ∙ ap (λ (y : Scope). y.level.path) h.1)
      ]);
    }

-- ---- which scopes have a number

-- that of a path stands for it
pub stands : (n : PathNumbers) (ss : List Scope) (a : AreNumbers n ss) (m : ℕ) (p : Path) → IsNumberOf a.paths p m → StandsFor n ss (Some m) p
stands n ss a m p h k =
    let j = number_of n k in
    let q = path_at ss (Some k) in
    let own = numbered n ss a k in
    same_from_decides (m == j) (same_path p q) (Decides-eqb m j)
    (Decides-like (same_path p q)
    (λ e. a.table.apart m j h.0 own.0 (h.1 ∙ e ∙ sym own.1))
    (λ e. sym h.1 ∙ ap (λ i. get_or a.paths i []) e ∙ own.1)
    (same_path-decides p q))

-- and so that of a scope for its path
pub stands_for_own : (n : PathNumbers) (ss : List Scope) → AreNumbers n ss → (k : ℕ) → StandsFor n ss (Some (number_of n k)) (path_at ss (Some k))
stands_for_own n ss a k = stands n ss a (number_of n k) (path_at ss (Some k)) (numbered n ss a k)

-- ---- the body of a function

-- a key that is there
pub inside_there : (n : PathNumbers) (k : ℕ) (f : Text) (i : ℕ) → i < length n.keys.keys
    → same_key (Below (number_of n k) (l.Named f)) (get_or n.keys.keys i Top) ≡ true → IsInside n k f (Some i)
inside_there n k f i low there ss a =
    let own = numbered n ss a k in
    let h = path_at_key n.keys.keys a.paths i (number_of n k) (l.Named f) a.table low there in
    stands n ss a i (below (path_at ss (Some k)) f) (h.0, h.1 ∙ ap (λ p. p ++ named f ∷ []) own.1)

-- one that isn't
pub inside_none : (n : PathNumbers) (k : ℕ) (f : Text)
    → list_any (same_key (Below (number_of n k) (l.Named f))) n.keys.keys ≡ false → IsInside n k f None
inside_none n k f none ss a j =
    let own = numbered n ss a k in
    let other = numbered n ss a j in
    let p : Path = below (path_at ss (Some k)) f in
    let q : Path = path_at ss (Some j) in
    elim (cases_Bool (same_path p q)) as (λ _. false ≡ same_path p q) [
      | inr differs ↦ sym differs
      | inl is ↦
          let found : list_any (same_key (Below (number_of n k) (l.Named f))) n.keys.keys ≡ true =
          key_found n.keys.keys a.paths (number_of n j) (number_of n k) (l.Named f) a.table other.0 own.0
          (other.1 ∙ sym ((same_path-decides p q).0 is) ∙ ap (λ y. y ++ named f ∷ []) (sym own.1)) in
          let never : true ≡ false = sym found ∙ none in cc
    ]
