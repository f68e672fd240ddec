-- From scope to scope outward, and in the body of a function.
use Rattle.std.proofs.Common.{◌≡◌, ℕ, suc, Bool, true, false, ◌&&◌, List, [], ◌∷◌, ◌++◌, refl, sym, ap, subst, ◌∙◌}
use Rattle.std.proofs.lemmas.Option.{same_Some}
use Rattle.std.proofs.lemmas.Slice.Eq.{bytes_eq-Decides}
use Rattle.std.specs.Option.{option_map}
use Rattle.std.specs.Prelude.{Option, Some, None, if◌then◌else◌, option_and_then, slice_get}
use Rattle.vl_value.specs.Paths.{Text, Path, below}
use Rattle.vl_value.specs.Things.{Shape, Thing, signal}
use Rattle.vl_design.specs.Declarations.{Declared, Local, Routine, port, object, memory, parameter, genvar, routine, inner, is_named}
use Rattle.vl_design.specs.Scopes.{Level, Scope, levels}
use Rattle.vl_design.specs.Objects.{counted, first_named, either, sight, level_thing, local_shape, local_thing, own_thing}
use Rattle.vl_design.specs.LoopVariables.{is_routine}
use Rattle.vl_scopes.specs.Plain.{levels_at, path_at}
use Rattle.vl_sight.specs.Firsts.{Finds, first_of, is_local}
use Rattle.vl_sight.specs.Named.{routine_in}
use Rattle.vl_sight.specs.Levels.{own_level}
use Rattle.vl_sight.specs.Seen.{thing_at, sight_inside}
use Rattle.vl_sight.specs.Bodies.{IsBody, routine_at, routine_with, locals_in, own_in, own_sight}
use Rattle.vl_sight.specs.declared.body.Body.{Body}
use Rattle.vl_sight.proofs.Naming.{local_is}

-- ---- outward

-- how many steps are left at most
abbrev pub steps_left : Option ℕ → ℕ
steps_left None = 0
steps_left (Some k) = suc k

by_scope : (o : Option Scope) (x : Text) (rest : List Level)
    → sight ((elim o [ Some s ↦ s.level ∷ [] | None ↦ [] ]) ++ rest) x
    ≡ either (elim o [ Some s ↦ level_thing s.level x | None ↦ None ]) (sight rest x)
by_scope None x rest = refl
by_scope (Some s) x rest = refl

-- a scope that has nothing under the name
pub passed_over : (ss : List Scope) (k : ℕ) (x : Text) (next : Option ℕ)
    → levels_at ss (Some k) ≡ own_level ss k ++ levels_at ss next → None ≡ thing_at ss k x
    → sight (levels_at ss (Some k)) x ≡ sight (levels_at ss next) x
passed_over ss k x next outer none =
    ap (λ ls. sight ls x) outer ∙ by_scope (slice_get ss k) x (levels_at ss next)
    ∙ ap (λ t. either t (sight (levels_at ss next) x)) (sym none)

by_found : (o : Option Scope) (x : Text) (t : Thing) → Some t ≡ (elim o [ Some s ↦ level_thing s.level x | None ↦ None ])
    → Some t ≡ sight (elim o [ Some s ↦ levels s | None ↦ [] ]) x
by_found None x t e = absurd cc
by_found (Some s) x t e = ap (λ y. either y (sight s.outer x)) e

pub found_here : (ss : List Scope) (k : ℕ) (x : Text) (t : Thing) → Some t ≡ thing_at ss k x → Some t ≡ sight (levels_at ss (Some k)) x
found_here ss k x t e = by_found (slice_get ss k) x t e

-- ---- what a function has itself

pub body_is : (r : Option Routine) (b : Body) → IsBody r b → IsBody (routine_with b) b
body_is r b h = record {
  function = refl;
  locals = subst (λ q. Finds is_local (locals_in q) (locals_in q) b.locals) (sym h.function) h.locals;
}

with_shape : (p : Path) (l : Option Local) (sh : Shape) → Some sh ≡ option_map local_shape l
    → Some (signal p sh) ≡ option_map (λ (a : Local). signal p (local_shape a)) l
with_shape p None sh e = absurd cc
with_shape p (Some a) sh e = ap (λ y. Some (signal p y)) (same_Some sh (local_shape a) e)

without_shape : (p : Path) (l : Option Local) → None ≡ option_map local_shape l
    → None ≡ option_map (λ (a : Local). signal p (local_shape a)) l
without_shape p None e = refl
without_shape p (Some a) e = absurd cc

pub own_local : (p : Path) (f x : Text) (r : Option Routine) (l : Option Local) (sh : Shape)
    → l ≡ first_of (is_local x) (locals_in r) → own_in r f → Some sh ≡ option_map local_shape l
    → Some (signal (below (below p f) x) sh) ≡ own_sight p r x
own_local p f x None l sh found named e = absurd (let n : Some sh ≡ option_map local_shape None = e ∙ ap (option_map local_shape) found in cc)
own_local p f x (Some r) l sh found named e =
    let q = below p r.result.name.text in
    ap (λ y. either y (own_thing p r x))
    (ap (λ g. Some (signal (below (below p g) x) sh)) (sym named)
    ∙ with_shape (below q x) (first_of (is_local x) r.locals) sh (e ∙ ap (option_map local_shape) found)
    ∙ sym (local_is q x r.locals))

pub own_itself : (p : Path) (x : Text) (r : Option Routine) (l : Option Local) (t : Option Thing)
    → l ≡ first_of (is_local x) (locals_in r) → None ≡ option_map local_shape l
    → t ≡ option_and_then (λ q. own_thing p q x) r → t ≡ own_sight p r x
own_itself p x None l t found e h = h
own_itself p x (Some r) l t found e h =
    let q = below p r.result.name.text in
    h ∙ ap (λ y. either y (own_thing p r x))
    (without_shape (below q x) (first_of (is_local x) r.locals) (e ∙ ap (option_map local_shape) found)
    ∙ sym (local_is q x r.locals))

-- ---- the function of a name

named_so : (b c : Bool) → (b && c) ≡ true → b ≡ true
named_so true c e = refl
named_so false c e = absurd cc

by_first : (f : Declared → Bool) (x : Text) (d : Declared) (o : Option Declared) (b : Bool) → (is_named x d && f d) ≡ b
    → ((a : Declared) → o ≡ Some a → is_named x a ≡ true)
    → (a : Declared) → (if b then Some d else o) ≡ Some a → is_named x a ≡ true
by_first f x d o true e h a is = ap (is_named x) (sym (same_Some d a is)) ∙ named_so (is_named x d) (f d) e
by_first f x d o false e h a is = h a is

first_has_name : (f : Declared → Bool) (x : Text) (ds : List Declared) (a : Declared) → first_named f x ds ≡ Some a → is_named x a ≡ true
first_has_name f x [] a e = absurd cc
first_has_name f x (d ∷ ds) a e = by_first f x d (first_named f x ds) (is_named x d && f d) refl (first_has_name f x ds) a e

by_declared : (f : Text) (o : Option Declared) → ((a : Declared) → o ≡ Some a → is_named f a ≡ true) → own_in (option_and_then routine_in o) f
by_declared f None h = tt
by_declared f (Some (routine r)) h = (bytes_eq-Decides r.result.name.text f).0 (h (routine r) refl)
by_declared f (Some (port w k l)) h = tt
by_declared f (Some (object k l)) h = tt
by_declared f (Some (memory l w)) h = tt
by_declared f (Some (parameter y v)) h = tt
by_declared f (Some (genvar y)) h = tt
by_declared f (Some (inner y)) h = tt

by_owner : (f : Text) (o : Option Scope)
    → own_in (elim o [ Some s ↦ option_and_then routine_in (first_named is_routine f (counted s.level)) | None ↦ None ]) f
by_owner f None = tt
by_owner f (Some s) = by_declared f (first_named is_routine f (counted s.level)) (first_has_name is_routine f (counted s.level))

pub routine_named : (ss : List Scope) (k : ℕ) (f : Text) → own_in (routine_at ss k f) f
routine_named ss k f = by_owner f (slice_get ss k)

-- ---- in its body

either_joined : {A : Type 0} (a b c : Option A) → either (either a b) c ≡ either a (either b c)
either_joined None b c = refl
either_joined (Some a) b c = refl

abbrev sight_of : Scope → Option Declared → Text → Option Thing
sight_of s o = elim o [ Some (routine r) ↦ Rattle.vl_design.specs.Objects.body_sight s.level s.outer r | _ ↦ sight (levels s) ]

by_routine : (s : Scope) (x : Text) (o : Option Declared)
    → either (own_sight s.level.path (option_and_then routine_in o) x) (sight (levels s) x) ≡ sight_of s o x
by_routine s x None = refl
by_routine s x (Some (routine r)) =
    either_joined (local_thing (below s.level.path r.result.name.text) r.locals x) (own_thing s.level.path r x) (sight (levels s) x)
by_routine s x (Some (port w k l)) = refl
by_routine s x (Some (object k l)) = refl
by_routine s x (Some (memory l w)) = refl
by_routine s x (Some (parameter y v)) = refl
by_routine s x (Some (genvar y)) = refl
by_routine s x (Some (inner y)) = refl

by_around : (f x : Text) (o : Option Scope)
    → either (own_sight (elim o [ Some s ↦ s.level.path | None ↦ [] ])
    (elim o [ Some s ↦ option_and_then routine_in (first_named is_routine f (counted s.level)) | None ↦ None ]) x)
    (sight (elim o [ Some s ↦ levels s | None ↦ [] ]) x)
    ≡ (elim o [ Some s ↦ Rattle.vl_sight.specs.Seen.function_sight s f x | None ↦ None ])
by_around f x None = refl
by_around f x (Some s) = by_routine s x (first_named is_routine f (counted s.level))

pub inside_is : (ss : List Scope) (k : ℕ) (f x : Text)
    → either (own_sight (path_at ss (Some k)) (routine_at ss k f) x) (sight (levels_at ss (Some k)) x) ≡ sight_inside ss k f x
inside_is ss k f x = by_around f x (slice_get ss k)

-- ---- answers of the body, and then of what is around it

pub inside_first : (ss : List Scope) (k : ℕ) (f x : Text) (t : Thing) → Some t ≡ own_sight (path_at ss (Some k)) (routine_at ss k f) x
    → Some t ≡ sight_inside ss k f x
inside_first ss k f x t e = ap (λ y. either y (sight (levels_at ss (Some k)) x)) e ∙ inside_is ss k f x

pub inside_second : (ss : List Scope) (k : ℕ) (f x : Text) (r : Option Thing) → None ≡ own_sight (path_at ss (Some k)) (routine_at ss k f) x
    → r ≡ sight (levels_at ss (Some k)) x → r ≡ sight_inside ss k f x
inside_second ss k f x r none e =
    e ∙ ap (λ y. either y (sight (levels_at ss (Some k)) x)) none ∙ inside_is ss k f x

-- what the body has is what its function has
pub own_at : (ss : List Scope) (k : ℕ) (f x : Text) (b : Body) (r : Option Thing) → IsBody (routine_at ss k f) b
    → (IsBody (routine_with b) b → own_in (routine_with b) f → r ≡ own_sight (path_at ss (Some k)) (routine_with b) x)
    → r ≡ own_sight (path_at ss (Some k)) (routine_at ss k f) x
own_at ss k f x b r h own =
    own (body_is (routine_at ss k f) b h) (subst (λ q. own_in q f) (sym h.function) (routine_named ss k f))
    ∙ ap (λ q. own_sight (path_at ss (Some k)) q x) h.function
