-- What has one path stands at one place.
use Rattle.std.proofs.Common.{◌≡◌, ℕ, zero, suc, ◌+◌, ◌<◌, List, [], ◌∷◌, ◌++◌, length, map, append_assoc, refl, sym, subst, ap, ◌∙◌, arith}
use Rattle.std.proofs.lemmas.List.{map-append}
use Rattle.std.specs.Prelude.{Some, slice_get, IsTrue}
use Rattle.vl_value.specs.Paths.{Path, same_path}
use Rattle.vl_design.specs.Lists.{each_of}
use Rattle.vl_design.specs.Scopes.{Scope}
use Rattle.vl_design.specs.Objects.{counted}
use Rattle.vl_design.specs.LoopVariables.{loop_variables, signals_of}
use Rattle.vl_design.specs.ObjectFaults.{scope_faults, limit_faults}
use Rattle.vl_design.specs.Design.{Design, design_of, scopes, Signal, signal_in, signals, Memory, memory_in, memories, Callable, callables, locals_of, locals}
use Rattle.vl_store.specs.Stores.{PathsAreDistinct}
use Rattle.vl_design_laws.proofs.Elaborated.{none_joined, is_of, no_hierarchy_fault, no_object_fault}
use Rattle.vl_path_laws.specs.Laws.{StandOnce, all_paths, AreApart, PathsLaw}
use Rattle.vl_scope_paths.proofs.Apart.{Each, each_both, each_joined, Between, Pairwise, pairwise_joined, one_place}
use Rattle.vl_scope_paths.proofs.Steps.{UnlikePaths, is_not, paths_turned}
use Rattle.vl_scope_paths.proofs.Opened.{path_of}
use Rattle.vl_scope_paths.proofs.Heard.{IsClean, Scoped, all_scoped}
use Rattle.vl_path_laws.proofs.Holders.{Free, all_free}
use Rattle.vl_path_laws.proofs.Things.{signal_paths, memory_paths, callables_in, callable_paths, variable_paths, local_paths, signals_of_scope, memories_of_scope, callables_of_scope, variables_of_scope, own_signals, own_memories, own_callables, own_variables, signals_variables, signals_memories, signals_callables, memories_callables, memories_variables, callables_variables, once, never_both, locals_once, never_locals}

unlike_true : (p r : Path) → UnlikePaths p r → IsTrue (same_path p r) → ⊥
unlike_true p r h t = is_not (same_path p r) h t

-- ---- lists of lists

each_over : {A B C : Type 0} (g : B → List C) (f : A → List B) (xs : List A) → each_of g (each_of f xs) ≡ each_of (λ x. each_of g (f x)) xs
each_over g f [] = refl
each_over {B = B} {C = C} g f (x ∷ xs) = joined (f x) (each_of f xs) ∙ ap (λ ys. each_of g (f x) ++ ys) (each_over g f xs)
  where
    joined : (ys zs : List B) → each_of g (ys ++ zs) ≡ each_of g ys ++ each_of g zs
    joined [] zs = refl
    joined (y ∷ ys) zs = ap (λ ws. g y ++ ws) (joined ys zs) ∙ sym (append_assoc (g y) (each_of g ys) (each_of g zs))

map_over : {A B C : Type 0} (g : B → C) (f : A → List B) (xs : List A) → map g (each_of f xs) ≡ each_of (λ x. map g (f x)) xs
map_over g f [] = refl
map_over g f (x ∷ xs) = map-append g (f x) (each_of f xs) ∙ ap (λ ys. map g (f x) ++ ys) (map_over g f xs)

map_map : {A B C : Type 0} (g : B → C) (f : A → B) (xs : List A) → map g (map f xs) ≡ map (λ x. g (f x)) xs
map_map g f [] = refl
map_map g f (x ∷ xs) = ap (λ ys. g (f x) ∷ ys) (map_map g f xs)

each_alike : {A B : Type 0} (f g : A → List B) → ((x : A) → f x ≡ g x) → (xs : List A) → each_of f xs ≡ each_of g xs
each_alike f g e [] = refl
each_alike f g e (x ∷ xs) = (λ i. e x i ++ each_alike f g e xs i)

-- ---- the paths of a design, kind by kind

module _ (ss : List Scope) where
  abbrev loops : List Path
  loops = loop_variables ss

  signals_are : map (λ (x : Signal). x.path) (signals ss) ≡ each_of (signal_paths loops) ss
  signals_are = map_over (λ (x : Signal). x.path) (λ s. map (signal_in s) (signals_of loops s)) ss
      ∙ each_alike (λ s. map (λ (x : Signal). x.path) (map (signal_in s) (signals_of loops s))) (signal_paths loops)
      (λ s. map_map (λ (x : Signal). x.path) (signal_in s) (signals_of loops s)) ss

  memories_are : map (λ (y : Memory). y.path) (memories ss) ≡ each_of (memory_paths loops) ss
  memories_are = map_over (λ (y : Memory). y.path) (λ s. each_of (memory_in (path_of s)) (counted s.level)) ss

  callables_are : map (λ (c : Callable). c.path) (callables ss) ≡ each_of (callable_paths loops) ss
  callables_are = map_over (λ (c : Callable). c.path) (callables_in loops) ss

  locals_are : locals ss ≡ each_of (variable_paths loops) ss ++ each_of (local_paths loops) ss
  locals_are = ap (λ ps. each_of (variable_paths loops) ss ++ ps) (each_over locals_of (callables_in loops) ss)

  -- ---- none of them twice

  module _ (clean : Each IsClean ss) (free : Pairwise Free ss) where
    beside : (xs ys zs : List Path) → Between UnlikePaths xs ys → Between UnlikePaths xs zs → Between UnlikePaths xs (ys ++ zs)
    beside xs ys zs h k = each_both (λ p. Each (UnlikePaths p) ys) (λ p. Each (UnlikePaths p) zs) (λ p. Each (UnlikePaths p) (ys ++ zs))
        (λ p. each_joined (UnlikePaths p) ys zs) xs h k

    abbrev signals_here : List Path
    signals_here = each_of (signal_paths loops) ss

    abbrev memories_here : List Path
    memories_here = each_of (memory_paths loops) ss

    abbrev callables_here : List Path
    callables_here = each_of (callable_paths loops) ss

    abbrev variables_here : List Path
    variables_here = each_of (variable_paths loops) ss

    abbrev locals_here : List Path
    locals_here = each_of (local_paths loops) ss

    all_differ : Pairwise UnlikePaths (signals_here ++ (memories_here ++ (callables_here ++ (variables_here ++ locals_here))))
    all_differ =
        let s = signals_of_scope loops in let m = memories_of_scope loops in let c = callables_of_scope loops in let v = variables_of_scope loops in
        let vf = pairwise_joined UnlikePaths variables_here locals_here (once loops ss clean free (variable_paths loops) v (own_variables loops)) (locals_once loops ss clean free)
        (never_locals loops ss clean free (variable_paths loops) v) in
        let cv = never_both loops ss clean free (callable_paths loops) (variable_paths loops) c v (callables_variables loops) in
        let cvf = pairwise_joined UnlikePaths callables_here (variables_here ++ locals_here) (once loops ss clean free (callable_paths loops) c (own_callables loops)) vf
        (beside callables_here variables_here locals_here cv (never_locals loops ss clean free (callable_paths loops) c)) in
        let mc = never_both loops ss clean free (memory_paths loops) (callable_paths loops) m c (memories_callables loops) in
        let mv = never_both loops ss clean free (memory_paths loops) (variable_paths loops) m v (memories_variables loops) in
        let mcvf = pairwise_joined UnlikePaths memories_here (callables_here ++ (variables_here ++ locals_here)) (once loops ss clean free (memory_paths loops) m (own_memories loops)) cvf
        (beside memories_here callables_here (variables_here ++ locals_here) mc (beside memories_here variables_here locals_here mv (never_locals loops ss clean free (memory_paths loops) m))) in
        let sm = never_both loops ss clean free (signal_paths loops) (memory_paths loops) s m (signals_memories loops) in
        let sc = never_both loops ss clean free (signal_paths loops) (callable_paths loops) s c (signals_callables loops) in
        let sv = never_both loops ss clean free (signal_paths loops) (variable_paths loops) s v (λ x k. signals_variables loops x x) in
        pairwise_joined UnlikePaths signals_here (memories_here ++ (callables_here ++ (variables_here ++ locals_here))) (once loops ss clean free (signal_paths loops) s (own_signals loops)) mcvf
        (beside signals_here memories_here (callables_here ++ (variables_here ++ locals_here)) sm (beside signals_here callables_here (variables_here ++ locals_here) sc (beside signals_here variables_here locals_here sv (never_locals loops ss clean free (signal_paths loops) s))))

    listed : all_paths (design_of ss) ≡ signals_here ++ (memories_here ++ (callables_here ++ (variables_here ++ locals_here)))
    listed = λ i. signals_are i ++ (memories_are i ++ (callables_are i ++ locals_are i))

    pub paths_differ : Pairwise UnlikePaths (all_paths (design_of ss))
    paths_differ = subst (Pairwise UnlikePaths) (sym listed) all_differ

-- ---- by places

get_map : {A B : Type 0} (f : A → B) (xs : List A) (i : ℕ) (x : A) → slice_get xs i ≡ Some x → slice_get (map f xs) i ≡ Some (f x)
get_map f [] i x e = absurd cc
get_map f (y ∷ xs) zero x e = let s : y ≡ x = cc in (λ j. Some (f (s j)))
get_map f (y ∷ xs) (suc i) x e = get_map f xs i x e

get_left : (xs ys : List Path) (i : ℕ) (p : Path) → slice_get xs i ≡ Some p → slice_get (xs ++ ys) i ≡ Some p
get_left [] ys i p e = absurd cc
get_left (x ∷ xs) ys zero p e = e
get_left (x ∷ xs) ys (suc i) p e = get_left xs ys i p e

get_right : (xs ys : List Path) (i : ℕ) (p : Path) → slice_get ys i ≡ Some p → slice_get (xs ++ ys) (length xs + i) ≡ Some p
get_right [] ys i p e = let z : 0 + i ≡ i = omega arith in ap (slice_get ys) z ∙ e
get_right (x ∷ xs) ys i p e = let z : length (x ∷ xs) + i ≡ suc (length xs + i) = omega arith in ap (slice_get (x ∷ (xs ++ ys))) z ∙ get_right xs ys i p e

within : {A : Type 0} (xs : List A) (i : ℕ) (x : A) → slice_get xs i ≡ Some x → i < length xs
within [] i x e = absurd cc
within (y ∷ xs) zero x e = omega arith
within (y ∷ xs) (suc i) x e = let h = within xs i x e in omega (arith, h)

stand_once : (ps : List Path) → Pairwise UnlikePaths ps → StandOnce ps
stand_once ps h i j p r e f t = one_place UnlikePaths paths_turned ps h i j p r e f (λ u. unlike_true p r u t)

module _ (d : Design) (all : StandOnce (all_paths d)) where
  abbrev signal_paths_of : List Path
  signal_paths_of = map (λ (x : Signal). x.path) d.signals

  abbrev others_of : List Path
  others_of = map (λ (c : Callable). c.path) d.callables ++ d.locals

  abbrev memory_paths_of : List Path
  memory_paths_of = map (λ (y : Memory). y.path) d.memories

  signal_at : (i : ℕ) (x : Signal) → slice_get d.signals i ≡ Some x → slice_get (all_paths d) i ≡ Some x.path
  signal_at i x e = get_left signal_paths_of (memory_paths_of ++ others_of) i x.path (get_map (λ (x : Signal). x.path) d.signals i x e)

  memory_at : (i : ℕ) (y : Memory) → slice_get d.memories i ≡ Some y → slice_get (all_paths d) (length signal_paths_of + i) ≡ Some y.path
  memory_at i y e = get_right signal_paths_of (memory_paths_of ++ others_of) i y.path
      (get_left memory_paths_of others_of i y.path (get_map (λ (y : Memory). y.path) d.memories i y e))

  -- a signal stands before each memory
  before_memories : (i j : ℕ) (x : Signal) → slice_get d.signals i ≡ Some x → i ≡ length signal_paths_of + j → ⊥
  before_memories i j x e s = let l = within signal_paths_of i x.path (get_map (λ (x : Signal). x.path) d.signals i x e) in absurd (omega (arith, l, s))

  objects_are_distinct : PathsAreDistinct d
  objects_are_distinct = record {
    signals = λ i j x y e f t. all i j x.path y.path (signal_at i x e) (signal_at j y f) t;
    memories = λ i j x y e f t.
        let s = all (length signal_paths_of + i) (length signal_paths_of + j) x.path y.path (memory_at i x e) (memory_at j y f) t in omega (arith, s);
    apart = λ i j x y e f. (
      (λ t. before_memories i j x e (all i (length signal_paths_of + j) x.path y.path (signal_at i x e) (memory_at j y f) t)),
      (λ t. before_memories i j x e (sym (all (length signal_paths_of + j) i y.path x.path (memory_at j y f) (signal_at i x e) t))),
    );
  }

are_apart : (ss : List Scope) → Scoped ss → AreApart (design_of ss)
are_apart ss (clean, related) =
    let free = all_free ss clean related in
    let all = stand_once (all_paths (design_of ss)) (paths_differ ss clean free) in
    record {
      all = all;
      objects = objects_are_distinct (design_of ss) all;
    }

pub paths_law : PathsLaw
paths_law q src top d is =
    let n = none_joined (each_of scope_faults (scopes q src top)) (limit_faults q (scopes q src top)) (no_object_fault q src top d is) in
    subst AreApart (is_of q src top d is) (are_apart (scopes q src top) (all_scoped q src top (no_hierarchy_fault q src top d is) n.0))
