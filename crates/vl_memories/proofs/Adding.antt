-- Scopes by number, and what is listed of one after another.
use Rattle.std.proofs.Common.{◌≡◌, ℕ, zero, suc, ◌+◌, ◌<◌, Bool, List, [], ◌∷◌, ◌++◌, append-nil, append_assoc, length, map, get_or, arith, refl, sym, ap, ◌∙◌}
use Rattle.std.proofs.lemmas.List.{map-append}
use Rattle.std.specs.Prelude.{Some, None, slice_get}
use Rattle.vl_design.specs.Lists.{each_of}
use Rattle.vl_design.specs.Declarations.{Declared}
use Rattle.vl_design.specs.Scopes.{Scope}
use Rattle.vl_declares.specs.Plain.{all_plain}
use Rattle.vl_scopes.specs.Plain.{plain_scope, scopes_after, plain_scopes}
use Rattle.vl_scopes.specs.declared.scope.Scope as code
use Rattle.vl_memories.specs.Numbered.{or_none, scope_at, one_if}

-- ---- the first ones of a function

abbrev pub first : {B : Type 0} → ℕ → (ℕ → List B) → List B
first zero g = []
first (suc k) g = first k g ++ g k

first_shifted : {B : Type 0} (k : ℕ) (g : ℕ → List B) → first (suc k) g ≡ g 0 ++ first k (λ j. g (suc j))
first_shifted zero g = sym (append-nil (g 0))
first_shifted (suc k) g = ap (λ xs. xs ++ g (suc k)) (first_shifted k g) ∙ append_assoc (g 0) (first k (λ j. g (suc j))) (g (suc k))

first_alike : {B : Type 0} (k : ℕ) (g h : ℕ → List B) → ((j : ℕ) → j < k → g j ≡ h j) → first k g ≡ first k h
first_alike zero g h e = refl
first_alike (suc k) g h e = (λ i. first_alike k g h (λ j l. e j (omega (arith, l))) i ++ e k (omega arith) i)

-- what is listed of each is what is listed of each number
each_by_number : {B : Type 0} (g : Scope → List B) (ss : List Scope) → first (length ss) (λ j. g (scope_at ss j)) ≡ each_of g ss
each_by_number g [] = refl
each_by_number g (s ∷ ss) = first_shifted (length ss) (λ j. g (scope_at (s ∷ ss) j)) ∙ ap (λ xs. g s ++ xs) (each_by_number g ss)

-- ---- scopes of the program, by number

abbrev pub declared_at : List code.Scope → ℕ → List Declared
declared_at cs j = elim (slice_get cs j) [ Some c ↦ all_plain c.declared.items | None ↦ [] ]

longer : (xs : List Scope) (s : Scope) → length (xs ++ s ∷ []) ≡ suc (length xs)
longer [] s = refl
longer (x ∷ xs) s = ap suc (longer xs s)

get_front : (xs ys : List Scope) (i : ℕ) → i < length xs → slice_get (xs ++ ys) i ≡ slice_get xs i
get_front [] ys i l = absurd (omega arith)
get_front (x ∷ xs) ys zero l = refl
get_front (x ∷ xs) ys (suc i) l = get_front xs ys i (omega (arith, l))

get_last : (xs : List Scope) (s : Scope) → slice_get (xs ++ s ∷ []) (length xs) ≡ Some s
get_last [] s = refl
get_last (x ∷ xs) s = get_last xs s

kept : (before : List Scope) (cs : List code.Scope) (i : ℕ) → i < length before → slice_get (scopes_after before cs) i ≡ slice_get before i
kept before [] i l = refl
kept before (c ∷ cs) i l =
    let n = longer before (plain_scope before c) in
    kept (before ++ plain_scope before c ∷ []) cs i (omega (arith, l, n)) ∙ get_front before (plain_scope before c ∷ []) i l

declared_after : (before : List Scope) (cs : List code.Scope) (j m : ℕ) → m ≡ length before + j → j < length cs
    → (scope_at (scopes_after before cs) m).level.declared ≡ declared_at cs j
declared_after before [] j m e l = absurd (omega arith)
declared_after before (c ∷ cs) zero m e l =
    let s = plain_scope before c in
    let n = longer before s in
    let at : m ≡ length before = omega (arith, e) in
    ap (λ o. (or_none o).level.declared)
    (ap (slice_get (scopes_after (before ++ s ∷ []) cs)) at ∙ kept (before ++ s ∷ []) cs (length before) (omega (arith, n)) ∙ get_last before s)
declared_after before (c ∷ cs) (suc j) m e l =
    let n = longer before (plain_scope before c) in
    declared_after (before ++ plain_scope before c ∷ []) cs j m (omega (arith, e, n)) (omega (arith, l))

as_many : (before : List Scope) (cs : List code.Scope) → length (scopes_after before cs) ≡ length before + length cs
as_many before [] = omega arith
as_many before (c ∷ cs) =
    let n = longer before (plain_scope before c) in
    let e = as_many (before ++ plain_scope before c ∷ []) cs in omega (arith, n, e)

-- what is listed of the declarations of each scope
pub all_listed : {B : Type 0} (h : Scope → List Declared → List B) (cs : List code.Scope)
    → first (length cs) (λ j. h (scope_at (plain_scopes cs) j) (declared_at cs j)) ≡ each_of (λ (s : Scope). h s s.level.declared) (plain_scopes cs)
all_listed h cs =
    let ss = plain_scopes cs in
    let n = as_many [] cs in
    let m : length cs ≡ length ss = omega (arith, n) in
    first_alike (length cs) (λ j. h (scope_at ss j) (declared_at cs j)) (λ j. h (scope_at ss j) (scope_at ss j).level.declared)
    (λ j l. ap (h (scope_at ss j)) (sym (declared_after [] cs j j (omega arith) l)))
    ∙ ap (λ k. first k (λ j. h (scope_at ss j) (scope_at ss j).level.declared)) m
    ∙ each_by_number (λ (s : Scope). h s s.level.declared) ss

-- one scope more
pub one_scope : (cs : List code.Scope) (k : ℕ) (c : code.Scope) → k < length cs → declared_at cs k ≡ all_plain (get_or cs k c).declared.items
one_scope [] k c l = absurd (omega arith)
one_scope (d ∷ cs) zero c l = refl
one_scope (d ∷ cs) (suc k) c l = one_scope cs k c (omega (arith, l))

-- ---- those that are picked

each_joined : {A B : Type 0} (f : A → List B) (xs ys : List A) → each_of f (xs ++ ys) ≡ each_of f xs ++ each_of f ys
each_joined f [] ys = refl
each_joined f (x ∷ xs) ys = ap (λ y. f x ++ y) (each_joined f xs ys) ∙ sym (append_assoc (f x) (each_of f xs) (each_of f ys))

-- what was listed, and what is left
pub picked_on : {B : Type 0} (f : Declared → List B) (old new : List B) (t : Bool) (d : Declared) (more : List Declared) (all : List B)
    → new ≡ old ++ each_of f (one_if t d) → old ++ each_of f (one_if t d ++ more) ≡ all → new ++ each_of f more ≡ all
picked_on f old new t d more all e h =
    ap (λ xs. xs ++ each_of f more) e ∙ append_assoc old (each_of f (one_if t d)) (each_of f more)
    ∙ ap (λ xs. old ++ xs) (sym (each_joined f (one_if t d) more)) ∙ h

-- one was pushed
pub pushed : {A B : Type 0} (f : A → B) (old new : List A) (x : A) → new ≡ old ++ x ∷ [] → map f new ≡ map f old ++ f x ∷ []
pushed f old new x e = ap (map f) e ∙ map-append f old (x ∷ [])
