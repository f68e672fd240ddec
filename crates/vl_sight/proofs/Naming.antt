-- What the names of a scope find is what it has under a name.
use Rattle.std.proofs.Common.{◌≡◌, Bool, true, false, ◌&&◌, List, [], ◌∷◌, map, refl, sym, ap, subst, ◌∙◌}
use Rattle.std.proofs.lemmas.Slice.Eq.{bytes_eq-Decides}
use Rattle.std.specs.Option.{option_map}
use Rattle.std.specs.Prelude.{Option, Some, None, if◌then◌else◌, option_and_then, bytes_eq}
use Rattle.vl_value.specs.Paths.{Text, Path, below}
use Rattle.vl_value.specs.Things.{Thing, signal}
use Rattle.vl_design.specs.Declarations.{Declared, Local, port, object, memory, parameter, genvar, routine, inner, is_named}
use Rattle.vl_design.specs.Scopes.{Level}
use Rattle.vl_design.specs.Objects.{Object, counted, counted_behind, objects, objects_of, object_at, first_named, is_in_sight, declared_thing, signal_thing, either, local_thing, local_shape}
use Rattle.vl_design.specs.LoopVariables.{is_routine}
use Rattle.vl_declares.specs.Plain.{all_plain}
use Rattle.vl_declares.specs.declared.declared.Declared as code
use Rattle.vl_repeats.specs.Flags.{flags_behind, picked}
use Rattle.vl_repeats.proofs.Repeating.{picked_behind}
use Rattle.vl_objects.specs.Plain.{plain_object}
use Rattle.vl_scopes.specs.declared.scope.Scope as code_scope
use Rattle.vl_sight.specs.Firsts.{Finds, first_of, has_name, is_local, passes_named}
use Rattle.vl_sight.specs.Named.{HasNames, counted_in, objects_in, level_in, declared_by, function_by, object_by, thing_by}
use Rattle.vl_sight.specs.declared.names.Names.{Names}
use Rattle.vl_sight.specs.declared.first.Wanted.TheVariants as w

-- ---- the first of a name in the words of `vl_design`

pub first_is : (f : Declared → Bool) (x : Text) (ds : List Declared) → first_named f x ds ≡ first_of (λ a. is_named x a && f a) ds
first_is f x [] = refl
first_is f x (d ∷ ds) = ap (λ o. if is_named x d && f d then Some d else o) (first_is f x ds)

pub object_is : (x : Text) (os : List Object) → object_at os x ≡ first_of (has_name x) os
object_is x [] = refl
object_is x (o ∷ os) = ap (λ r. if has_name x o then Some o else r) (object_is x os)

same_text : (x y : Text) → bytes_eq x y ≡ true → x ≡ y
same_text x y = (bytes_eq-Decides x y).0

-- ---- nets and variables

by_name : (p : Path) (x : Text) (o : Object) (r : Option Object) (b : Bool) → bytes_eq o.name.text x ≡ b
    → option_map (λ (a : Object). signal (below p x) a.shape) r ≡ signal_thing p r
    → option_map (λ (a : Object). signal (below p x) a.shape) (if b then Some o else r) ≡ signal_thing p (if b then Some o else r)
by_name p x o r true e h = ap (λ y. Some (signal (below p y) o.shape)) (sym (same_text o.name.text x e))
by_name p x o r false e h = h

pub signal_is : (p : Path) (x : Text) (os : List Object)
    → option_map (λ (a : Object). signal (below p x) a.shape) (object_at os x) ≡ signal_thing p (object_at os x)
signal_is p x [] = refl
signal_is p x (o ∷ os) = by_name p x o (object_at os x) (bytes_eq o.name.text x) refl (signal_is p x os)

-- ---- a declaration in sight

in_sight : (b : Bool) (d : Declared) → (b && is_in_sight d) ≡ true → is_in_sight d ≡ true
in_sight true d e = e
in_sight false d e = absurd cc

by_first : (x : Text) (d : Declared) (r : Option Declared) (b : Bool) → (is_named x d && is_in_sight d) ≡ b
    → ((a : Declared) → r ≡ Some a → is_in_sight a ≡ true)
    → (a : Declared) → (if b then Some d else r) ≡ Some a → is_in_sight a ≡ true
by_first x d r true e h a is = ap is_in_sight (sym (Rattle.std.proofs.lemmas.Option.same_Some d a is)) ∙ in_sight (is_named x d) d e
by_first x d r false e h a is = h a is

pub first_in_sight : (x : Text) (ds : List Declared) (a : Declared) → first_named is_in_sight x ds ≡ Some a → is_in_sight a ≡ true
first_in_sight x [] a e = absurd cc
first_in_sight x (d ∷ ds) a e =
    by_first x d (first_named is_in_sight x ds) (is_named x d && is_in_sight d) refl (first_in_sight x ds) a e

by_declared : (l : Level) (x : Text) (r : Option Declared) → ((a : Declared) → r ≡ Some a → is_in_sight a ≡ true)
    → option_and_then (thing_by l.path x (object_at (objects l) x)) r ≡ declared_thing l x r
by_declared l x None h = refl
by_declared l x (Some (port w k d)) h = signal_is l.path x (objects l)
by_declared l x (Some (object k d)) h = signal_is l.path x (objects l)
by_declared l x (Some (memory d ws)) h = refl
by_declared l x (Some (parameter y v)) h = refl
by_declared l x (Some (routine r)) h = refl
by_declared l x (Some (genvar y)) h = absurd (let e : false ≡ true = h (genvar y) refl in cc)
by_declared l x (Some (inner y)) h = absurd (let e : false ≡ true = h (inner y) refl in cc)

pub object_found : (c : code_scope.Scope) (n : Names) (x : Text) → HasNames c n → object_by n x ≡ object_at (objects_in c) x
object_found c n x h =
    h.numbers x ∙ sym (object_is x (map plain_object n.objects.items)) ∙ ap (λ os. object_at os x) h.objects

pub declared_found : (c : code_scope.Scope) (n : Names) (x : Text) → HasNames c n
    → declared_by n (all_plain c.declared.items) x ≡ first_named is_in_sight x (counted_in c)
declared_found c n x h = h.declared x ∙ sym (first_is is_in_sight x (counted_in c))

pub thing_found : (c : code_scope.Scope) (n : Names) (p : Path) (x : Text) → HasNames c n
    → option_and_then (thing_by p x (object_by n x)) (declared_by n (all_plain c.declared.items) x)
    ≡ declared_thing (level_in p c) x (first_named is_in_sight x (counted (level_in p c)))
thing_found c n p x h =
    (λ i. option_and_then (thing_by p x (object_found c n x h i)) (declared_found c n x h i))
    ∙ by_declared (level_in p c) x (first_named is_in_sight x (counted_in c)) (first_in_sight x (counted_in c))

-- ---- one or the other

pub either_first : {A : Type 0} (a : A) (o r : Option A) → Some a ≡ o → Some a ≡ either o r
either_first a o r e = ap (λ y. either y r) e

pub either_second : {A : Type 0} (q o r : Option A) → None ≡ o → q ≡ r → q ≡ either o r
either_second q o r e h = h ∙ ap (λ y. either y r) e

-- ---- inputs and variables of a function

by_local : (p : Path) (x : Text) (l : Local) (b : Bool) (q : Option Thing) (r : Option Local)
    → q ≡ option_map (λ (a : Local). signal (below p x) (local_shape a)) r
    → (if b then Some (signal (below p x) (local_shape l)) else q)
    ≡ option_map (λ (a : Local). signal (below p x) (local_shape a)) (if b then Some l else r)
by_local p x l true q r h = refl
by_local p x l false q r h = h

pub local_is : (p : Path) (x : Text) (ls : List Local)
    → local_thing p ls x ≡ option_map (λ (a : Local). signal (below p x) (local_shape a)) (first_of (is_local x) ls)
local_is p x [] = refl
local_is p x (l ∷ ls) = by_local p x l (bytes_eq l.name.text x) (local_thing p ls x) (first_of (is_local x) ls) (local_is p x ls)

-- ---- the names of a scope, as they are made

pub are_names : (c : code_scope.Scope) (n : Names) (all : List code.Declared) (flags : List Bool) (os : List Object)
    → all ≡ c.declared.items → flags ≡ flags_behind [] (all_plain all)
    → Finds (passes_named w.InSight) (all_plain all) (picked flags (all_plain all)) n.declared
    → Finds (passes_named w.Functions) (all_plain all) (picked flags (all_plain all)) n.functions
    → map plain_object n.objects.items ≡ objects_of (counted_behind [] (all_plain all)) (counted_behind [] (all_plain all))
    → os ≡ map plain_object n.objects.items → Finds has_name os os n.numbers → HasNames c n
are_names c n all flags os whole are declared functions objects_are same numbers =
    let counted_is : picked flags (all_plain all) ≡ counted_behind [] (all_plain all) =
    ap (λ bs. picked bs (all_plain all)) are ∙ picked_behind [] (all_plain all) in
    record {
      declared = subst (λ ds. Finds (passes_named w.InSight) (all_plain ds) (counted_behind [] (all_plain ds)) n.declared) whole
          (subst (λ ds. Finds (passes_named w.InSight) (all_plain all) ds n.declared) counted_is declared);
      functions = subst (λ ds. Finds (passes_named w.Functions) (all_plain ds) (counted_behind [] (all_plain ds)) n.functions) whole
          (subst (λ ds. Finds (passes_named w.Functions) (all_plain all) ds n.functions) counted_is functions);
      objects = objects_are ∙ ap (λ ds. objects_of (counted_behind [] (all_plain ds)) (counted_behind [] (all_plain ds))) whole;
      numbers = subst (λ o. Finds has_name o o n.numbers) same numbers;
    }

pub function_found : (c : code_scope.Scope) (n : Names) (x : Text) → HasNames c n
    → function_by n (all_plain c.declared.items) x ≡ first_named is_routine x (counted_in c)
function_found c n x h = h.functions x ∙ sym (first_is is_routine x (counted_in c))
