-- Signals that are counted, scope by scope.
use Rattle.std.proofs.Common.{◌≡◌, ℕ, ◌+◌, ◌<◌, Bool, true, false, not, List, [], ◌∷◌, ◌++◌, append_assoc, length, get_or, take, map, filter, Some, refl, sym, ap, ◌∙◌}
use Rattle.std.specs.Prelude.{slice_get, if◌then◌else◌}
use Rattle.std.proofs.lemmas.List.{map-append, map_more}
use Rattle.std.proofs.lemmas.List.Elements.{filter_agree, filter-append}
use Rattle.vl_tree.specs.Syntax.{Place}
use Rattle.vl_value.specs.Paths.{Path, below}
use Rattle.vl_design.specs.Lists.{each_of}
use Rattle.vl_design.specs.Scopes.{Scope}
use Rattle.vl_design.specs.Objects.{Object, objects}
use Rattle.vl_design.specs.LoopVariables.{signals_of, is_path_in}
use Rattle.vl_design.specs.ObjectFaults.{beyond, places_of}
use Rattle.vl_objects.specs.declared.object.Object as code
use Rattle.vl_objects.specs.Plain.{plain_object}
use Rattle.vl_limits.specs.declared.limit.Limit.{Limit}
use Rattle.vl_limits.specs.Counting.{Adds, further}
use Rattle.vl_paths.specs.declared.numbers.PathNumbers.{PathNumbers}
use Rattle.vl_paths.specs.declared.set.PathSet.{PathSet}
use Rattle.vl_paths.specs.Numbers.{number_of}
use Rattle.vl_paths.specs.Sets.{HoldsPaths}
use Rattle.vl_paths.proofs.Pushed.{path_of}
use Rattle.vl_loop_paths.specs.Signals.{is_signal}
use Rattle.vl_loop_paths.proofs.Added.{each_more}

-- the signals of a scope by its number
pub own_signals : (n : PathNumbers) (loops : PathSet) (ss : List Scope) (ps : List Path) (k : ℕ) (s : Scope) → slice_get ss k ≡ Some s
    → HoldsPaths n loops ss ps → filter (is_signal loops (number_of n k)) (objects s.level) ≡ signals_of ps s
own_signals n loops ss ps k s at held =
    filter_agree (is_signal loops (number_of n k)) (λ (o : Object). not (is_path_in ps (below s.level.path o.name.text)))
    (λ o. ap not (held k o.name.text ∙ ap (λ p. is_path_in ps (below p o.name.text)) (path_of ss k s at)))
    (objects s.level)

abbrev pub ones : List Object → List (Place × ℕ)
ones os = places_of (λ o. 1) os

-- so many were counted before
abbrev pub HasCounted : Limit → ℕ → List Path → List Scope → Type 0
HasCounted l most ps before = (cs : List (Place × ℕ)) → further l cs ≡ beyond most 0 (ones (each_of (signals_of ps) before) ++ cs)

-- and those of one scope more
pub more_counted : (old new : Limit) (most : ℕ) (ps : List Path) (before : List Scope) (s : Scope) (own : List Object)
    → own ≡ signals_of ps s → Adds (ones own) old new → HasCounted old most ps before → HasCounted new most ps (before ++ s ∷ [])
more_counted old new most ps before s own is adds counted cs =
    adds cs ∙ ap (λ os. further old (ones os ++ cs)) is ∙ counted (ones (signals_of ps s) ++ cs)
    ∙ ap (beyond most 0) (
    sym (append_assoc (ones (each_of (signals_of ps) before)) (ones (signals_of ps s)) cs)
    ∙ ap (λ y. y ++ cs) (sym (map-append (λ (o : Object). (o.name.place, 1)) (each_of (signals_of ps) before) (signals_of ps s)))
    ∙ ap (λ os. ones os ++ cs) (sym (each_more (signals_of ps) before s))
    )

-- one object more
pub one_counted : (was old new : Limit) (os : List code.Object) (k : ℕ) (o : code.Object) → k < length os → o ≡ get_or os k o
    → Adds (((plain_object o).name.place, 1) ∷ []) old new → Adds (ones (map plain_object (take k os))) was old
    → Adds (ones (map plain_object (take (k + 1) os))) was new
one_counted was old new os k o below is one before cs =
    one cs ∙ before (((plain_object o).name.place, 1) ∷ cs)
    ∙ ap (further was) (
    sym (append_assoc (ones (map plain_object (take k os))) (((plain_object o).name.place, 1) ∷ []) cs)
    ∙ ap (λ y. y ++ cs) (sym (map-append (λ (p : Object). (p.name.place, 1)) (map plain_object (take k os)) (plain_object o ∷ [])))
    ∙ ap (λ ps. ones ps ++ cs) (sym (map_more plain_object os k o below ∙ ap (λ y. map plain_object (take k os) ++ plain_object y ∷ []) (sym is)))
    )

-- one more that is a signal or not
pub one_kept : (keeps : Object → Bool) (os : List code.Object) (k : ℕ) (o : code.Object) (old new : List code.Object) → k < length os → o ≡ get_or os k o
    → map plain_object new ≡ map plain_object old ++ (if not (keeps (plain_object o)) then [] else plain_object o ∷ [])
    → map plain_object old ≡ filter keeps (map plain_object (take k os))
    → map plain_object new ≡ filter keeps (map plain_object (take (k + 1) os))
one_kept keeps os k o old new below is one before =
    one ∙ (λ i. before i ++ unless (keeps (plain_object o)) (plain_object o) (filter_one keeps (plain_object o)) i)
    ∙ sym (filter-append keeps (map plain_object (take k os)) (plain_object o ∷ []))
    ∙ ap (filter keeps) (sym (map_more plain_object os k o below ∙ ap (λ y. map plain_object (take k os) ++ plain_object y ∷ []) (sym is)))
  where
    filter_one : (p : Object → Bool) (x : Object) → filter p (x ∷ []) ≡ (if p x then x ∷ [] else [])
    filter_one p x = refl

    unless : (b : Bool) (x : Object) → filter keeps (x ∷ []) ≡ (if b then x ∷ [] else []) → (if not b then [] else x ∷ []) ≡ filter keeps (x ∷ [])
    unless true x e = sym e
    unless false x e = sym e

pub twice : (b : Bool) → not (not b) ≡ b
twice true = refl
twice false = refl
