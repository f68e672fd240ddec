-- In a scope that declares no name twice no two nets, variables or memories have one name.
use Rattle.std.proofs.Common.{◌≡◌, Bool, true, false, ◌&&◌, ◌||◌, ◌⊎◌, inl, inr, List, [], ◌∷◌, ◌++◌, map, refl, sym, subst, ap, ◌∙◌}
use Rattle.std.specs.Prelude.{not, filter, bytes_eq, if◌then◌else◌}
use Rattle.std.specs.List.{list_any}
use Rattle.vl_tree.specs.declared.fault.FaultKind.TheVariants.{Duplicate}
use Rattle.vl_value.specs.Paths.{Text}
use Rattle.vl_value.specs.Order.{at}
use Rattle.vl_design.specs.Lists.{each_of}
use Rattle.vl_design.specs.Declarations.{Declared, name_of, is_named}
use Rattle.vl_design.specs.Declarations as d
use Rattle.vl_design.specs.Scopes.{Level}
use Rattle.vl_design.specs.Objects.{is_bare_port, is_plain_object, may_unite, counts_behind, counted_behind, counted, has_bare_port, Object, object_of, objects_of, objects}
use Rattle.vl_design.specs.ObjectFaults.{repeated_faults, same_names, united_faults}
use Rattle.vl_design_laws.proofs.Elaborated.{none_joined}
use Rattle.vl_scope_paths.proofs.Apart.{Each, each_so, each_all, each_map, Between, between_by, between_each, Pairwise, pairwise_with, pairwise_so, pairwise_map, pairwise_each}
use Rattle.vl_scope_paths.proofs.Steps.{itself, not_so, is_not, texts_turned, both_hold}
use Rattle.vl_scope_paths.proofs.Labels.{text_of, UnlikeNames, UnlikeTexts, label, labels, Rel, names_differ}

-- ---- each declaration counts

united_then : (a b : Declared) (u : Bool) → (if u then united_faults a b else at (name_of b).place Duplicate ∷ []) ≡ [] → u ≡ true
united_then a b true h = refl
united_then a b false h = absurd cc

counts : (cs : List Declared) (b : Declared) → repeated_faults cs b ≡ [] → counts_behind cs b ≡ true
counts [] b h = refl
counts (a ∷ []) b h = united_then a b (may_unite a b) h
counts (a ∷ (c ∷ cs)) b h = absurd cc

pub all_count : (before ds : List Declared) → same_names before ds ≡ [] → counted_behind before ds ≡ ds
all_count before [] h = refl
all_count before (b ∷ ds) h =
    let n = none_joined (repeated_faults (filter (is_named (text_of b)) before) b) (same_names (before ++ b ∷ []) ds) h in
    (λ i. (if counts (filter (is_named (text_of b)) before) b n.0 i then b ∷ [] else []) ++ all_count (before ++ b ∷ []) ds n.1 i)

-- ---- which declarations give an object of their own

module _ (ds : List Declared) where
  abbrev gives : Declared → Bool
  gives (d.object k l) = not (has_bare_port l.name.text ds)
  gives _ = true

  -- a direction alone is one of those of its name
  abbrev Stands : Declared → Type 0
  Stands a = is_bare_port a ≡ true → has_bare_port (text_of a) ds ≡ true

  abbrev Gives : Declared → Type 0
  Gives a = (gives a ≡ true) × Stands a

  not_true : (b : Bool) → not b ≡ true → b ≡ false
  not_true true h = absurd cc
  not_true false h = refl

  gives_alone : (b : Declared) → is_plain_object b ≡ true → gives b ≡ true → has_bare_port (text_of b) ds ≡ false
  gives_alone (d.object k l) p g = not_true (has_bare_port l.name.text ds) g
  gives_alone (d.port w k l) p g = absurd cc
  gives_alone (d.memory l ws) p g = absurd cc
  gives_alone (d.parameter x w) p g = absurd cc
  gives_alone (d.genvar x) p g = absurd cc
  gives_alone (d.routine r) p g = absurd cc
  gives_alone (d.inner x) p g = absurd cc

  either_holds : (a b c e : Bool) → ((a && b) || (c && e)) ≡ true → ((a ≡ true) × (b ≡ true)) ⊎ ((c ≡ true) × (e ≡ true))
  either_holds true true c e h = inl (refl, refl)
  either_holds true false c e h = inr (both_hold c e h)
  either_holds false b c e h = inr (both_hold c e h)

  never_unite : (a b : Declared) → Gives a → Gives b → text_of a ≡ text_of b → may_unite a b ≡ false
  never_unite a b (g, s) (h, t) same =
      not_so (may_unite a b) (λ u. on (either_holds (is_bare_port a) (is_plain_object b) (is_plain_object a) (is_bare_port b) u))
    where
      on : ((is_bare_port a ≡ true) × (is_plain_object b ≡ true)) ⊎ ((is_plain_object a ≡ true) × (is_bare_port b ≡ true)) → ⊥
      on (inl (p, q)) = is_not (has_bare_port (text_of a) ds) (ap (λ x. has_bare_port x ds) same ∙ gives_alone b q h) (s p)
      on (inr (p, q)) = is_not (has_bare_port (text_of b) ds) (ap (λ x. has_bare_port x ds) (sym same) ∙ gives_alone a p g) (t q)

-- each stands among those of its name
any_here : {A : Type 0} (f : A → Bool) (x : A) (xs : List A) → f x ≡ true → list_any f (x ∷ xs) ≡ true
any_here f x xs h = ap (λ b. b || list_any f xs) h

any_later : {A : Type 0} (f : A → Bool) (x : A) (xs : List A) → list_any f xs ≡ true → list_any f (x ∷ xs) ≡ true
any_later f x xs h = on (f x) h
  where
    on : (b : Bool) → list_any f xs ≡ true → (b || list_any f xs) ≡ true
    on true h = refl
    on false h = h

each_any : {A : Type 0} (f : A → A → Bool) (xs : List A) → Each (λ a. f a a ≡ true → list_any (f a) xs ≡ true) xs
each_any f [] = tt
each_any f (x ∷ xs) = (
  any_here (f x) x xs,
  each_so (λ a. f a a ≡ true → list_any (f a) xs ≡ true) (λ a. f a a ≡ true → list_any (f a) (x ∷ xs) ≡ true)
      (λ a go h. any_later (f a) x xs (go h)) xs (each_any f xs),
)

abbrev is_bare_of : Declared → Declared → Bool
is_bare_of a c = is_named (text_of a) c && is_bare_port c

all_stand : (ds : List Declared) → Each (Stands ds) ds
all_stand ds = each_so (λ a. is_bare_of a a ≡ true → list_any (is_bare_of a) ds ≡ true) (Stands ds)
    (λ a go h. go (ap (λ b. b && is_bare_port a) (itself (text_of a)) ∙ h)) ds (each_any is_bare_of ds)

-- two that give objects have different names
abbrev Unequal : List Declared → Declared → Declared → Type 0
Unequal ds a b = gives ds a ≡ true → gives ds b ≡ true → UnlikeNames a b

turned : (ds : List Declared) (a b : Declared) → Unequal ds a b → Unequal ds b a
turned ds a b h g k = texts_turned (text_of a) (text_of b) (h k g)

all_unequal : (ds : List Declared) → same_names [] ds ≡ [] → Pairwise (Unequal ds) ds
all_unequal ds h =
    pairwise_so (λ a b. Rel (Gives ds) (never_unite ds) a b × (Stands ds a × Stands ds b)) (Unequal ds)
    (λ a b r g k. r.0 (g, r.1.0) (k, r.1.1)) ds
    (pairwise_with (Rel (Gives ds) (never_unite ds)) (Stands ds) ds (all_stand ds) (names_differ (Gives ds) (never_unite ds) [] ds h))

-- ---- nets and variables

abbrev Owns : List Declared → Declared → Object → Type 0
Owns ds a o = (o.name.text ≡ text_of a) × (gives ds a ≡ true)

by_bare : (b : Bool) (ds : List Declared) (a : Declared) (o : Object) → (not b ≡ gives ds a) → o.name.text ≡ text_of a → Each (Owns ds a) (if b then [] else o ∷ [])
by_bare true ds a o e f = tt
by_bare false ds a o e f = ((f, sym e), tt)

owned : (ds : List Declared) (a : Declared) → Each (Owns ds a) (object_of ds a)
owned ds (d.port w k l) = ((refl, refl), tt)
owned ds (d.object k l) = by_bare (has_bare_port l.name.text ds) ds (d.object k l) _ refl refl
owned ds (d.memory l ws) = tt
owned ds (d.parameter x w) = tt
owned ds (d.genvar x) = tt
owned ds (d.routine r) = tt
owned ds (d.inner x) = tt

abbrev pub UnlikeObjects : Object → Object → Type 0
UnlikeObjects o p = bytes_eq o.name.text p.name.text ≡ false

one_by_bare : (b : Bool) (o : Object) → Pairwise UnlikeObjects (if b then [] else o ∷ [])
one_by_bare true o = tt
one_by_bare false o = (tt, tt)

one_object : (ds : List Declared) (a : Declared) → Pairwise UnlikeObjects (object_of ds a)
one_object ds (d.port w k l) = (tt, tt)
one_object ds (d.object k l) = one_by_bare (has_bare_port l.name.text ds) _
one_object ds (d.memory l ws) = tt
one_object ds (d.parameter x w) = tt
one_object ds (d.genvar x) = tt
one_object ds (d.routine r) = tt
one_object ds (d.inner x) = tt

two_objects : (ds : List Declared) (a b : Declared) → Unequal ds a b → Between UnlikeObjects (object_of ds a) (object_of ds b)
two_objects ds a b u = between_by UnlikeObjects (Owns ds a) (Owns ds b)
    (λ o p e f. (λ i. bytes_eq (e.0 i) (f.0 i)) ∙ u e.1 f.1) (object_of ds a) (object_of ds b) (owned ds a) (owned ds b)

each_object : (ds more : List Declared) → objects_of ds more ≡ each_of (object_of ds) more
each_object ds [] = refl
each_object ds (a ∷ more) = ap (λ os. object_of ds a ++ os) (each_object ds more)

-- those of a scope
module _ (l : Level) (clean : same_names [] l.declared ≡ []) where
  abbrev own : List Declared
  own = l.declared

  all : counted l ≡ own
  all = all_count [] own clean

  pub listed : objects l ≡ each_of (object_of own) own
  listed = ap (λ cs. objects_of cs cs) all ∙ each_object own own

  pub objects_differ : Pairwise UnlikeObjects (objects l)
  objects_differ = subst (Pairwise UnlikeObjects) (sym listed)
      (pairwise_each UnlikeObjects (object_of own) (Unequal own) (two_objects own) own
      (each_all (λ a. Pairwise UnlikeObjects (object_of own a)) own (one_object own)) (all_unequal own clean))

-- ---- functions

abbrev pub routine_name : Declared → List Text
routine_name (d.routine r) = r.result.name.text ∷ []
routine_name _ = []

abbrev pub routine_names : List Declared → List Text
routine_names ds = each_of routine_name ds

-- a name of a declaration that stands by itself
abbrev IsNamed : List Declared → Declared → Text → Type 0
IsNamed ds a x = (x ≡ text_of a) × (gives ds a ≡ true)

named_routine : (ds : List Declared) (a : Declared) → Each (IsNamed ds a) (routine_name a)
named_routine ds (d.routine r) = ((refl, refl), tt)
named_routine ds (d.memory m ws) = tt
named_routine ds (d.port w k m) = tt
named_routine ds (d.object k m) = tt
named_routine ds (d.parameter x w) = tt
named_routine ds (d.genvar x) = tt
named_routine ds (d.inner x) = tt

named_label : (ds : List Declared) (a : Declared) → Each (IsNamed ds a) (label a)
named_label ds (d.inner x) = ((refl, refl), tt)
named_label ds (d.routine r) = tt
named_label ds (d.memory m ws) = tt
named_label ds (d.port w k m) = tt
named_label ds (d.object k m) = tt
named_label ds (d.parameter x w) = tt
named_label ds (d.genvar x) = tt

abbrev object_name : List Declared → Declared → List Text
object_name ds a = map (λ (o : Object). o.name.text) (object_of ds a)

named_object : (ds : List Declared) (a : Declared) → Each (IsNamed ds a) (object_name ds a)
named_object ds a = each_map (λ (o : Object). o.name.text) (IsNamed ds a) (object_of ds a) (owned ds a)

abbrev memory_name : Declared → List Text
memory_name (d.memory m ws) = m.name.text ∷ []
memory_name _ = []

named_memory : (ds : List Declared) (a : Declared) → Each (IsNamed ds a) (memory_name a)
named_memory ds (d.memory m ws) = ((refl, refl), tt)
named_memory ds (d.routine r) = tt
named_memory ds (d.port w k m) = tt
named_memory ds (d.object k m) = tt
named_memory ds (d.parameter x w) = tt
named_memory ds (d.genvar x) = tt
named_memory ds (d.inner x) = tt

names_apart : (f g : Declared → List Text) (ds : List Declared) (own : (a : Declared) → Each (IsNamed ds a) (f a)) (its : (a : Declared) → Each (IsNamed ds a) (g a))
    (a b : Declared) → Unequal ds a b → Between UnlikeTexts (f a) (g b)
names_apart f g ds own its a b u = between_by UnlikeTexts (IsNamed ds a) (IsNamed ds b)
    (λ x y e k. (λ i. bytes_eq (e.0 i) (k.0 i)) ∙ u e.1 k.1) (f a) (g b) (own a) (its b)

-- names of two kinds, of which one declaration has one at most
two_kinds : (f g : Declared → List Text) (ds : List Declared) (own : (a : Declared) → Each (IsNamed ds a) (f a)) (its : (a : Declared) → Each (IsNamed ds a) (g a))
    → ((a : Declared) → Between UnlikeTexts (f a) (g a)) → same_names [] ds ≡ [] → Between UnlikeTexts (each_of f ds) (each_of g ds)
two_kinds f g ds own its alone clean = between_each UnlikeTexts f g (Unequal ds) (turned ds) (names_apart f g ds own its) ds
    (each_all (λ a. Between UnlikeTexts (f a) (g a)) ds alone) (all_unequal ds clean)

routine_or_label : (a : Declared) → Between UnlikeTexts (routine_name a) (label a)
routine_or_label (d.routine r) = (tt, tt)
routine_or_label (d.inner x) = tt
routine_or_label (d.memory m ws) = tt
routine_or_label (d.port w k m) = tt
routine_or_label (d.object k m) = tt
routine_or_label (d.parameter x w) = tt
routine_or_label (d.genvar x) = tt

pub routines_no_labels : (ds : List Declared) → same_names [] ds ≡ [] → Between UnlikeTexts (routine_names ds) (labels ds)
routines_no_labels ds = two_kinds routine_name label ds (named_routine ds) (named_label ds) routine_or_label

one_routine : (a : Declared) → Pairwise UnlikeTexts (routine_name a)
one_routine (d.routine r) = (tt, tt)
one_routine (d.inner x) = tt
one_routine (d.memory m ws) = tt
one_routine (d.port w k m) = tt
one_routine (d.object k m) = tt
one_routine (d.parameter x w) = tt
one_routine (d.genvar x) = tt

pub routines_differ : (ds : List Declared) → same_names [] ds ≡ [] → Pairwise UnlikeTexts (routine_names ds)
routines_differ ds clean = pairwise_each UnlikeTexts routine_name (Unequal ds) (names_apart routine_name routine_name ds (named_routine ds) (named_routine ds)) ds
    (each_all (λ a. Pairwise UnlikeTexts (routine_name a)) ds one_routine) (all_unequal ds clean)

-- ---- names of one scope, kind by kind

abbrev pub memory_names : List Declared → List Text
memory_names ds = each_of memory_name ds

abbrev pub object_names : List Object → List Text
object_names os = map (λ (o : Object). o.name.text) os

map_joined : {A B : Type 0} (f : A → B) (xs ys : List A) → map f (xs ++ ys) ≡ map f xs ++ map f ys
map_joined f [] ys = refl
map_joined f (x ∷ xs) ys = ap (λ zs. f x ∷ zs) (map_joined f xs ys)

names_of_each : (ds more : List Declared) → object_names (each_of (object_of ds) more) ≡ each_of (object_name ds) more
names_of_each ds [] = refl
names_of_each ds (a ∷ more) = map_joined (λ (o : Object). o.name.text) (object_of ds a) (each_of (object_of ds) more)
    ∙ ap (λ xs. object_name ds a ++ xs) (names_of_each ds more)

one_memory_name : (a : Declared) → Pairwise UnlikeTexts (memory_name a)
one_memory_name (d.memory m ws) = (tt, tt)
one_memory_name (d.routine r) = tt
one_memory_name (d.inner x) = tt
one_memory_name (d.port w k m) = tt
one_memory_name (d.object k m) = tt
one_memory_name (d.parameter x w) = tt
one_memory_name (d.genvar x) = tt

memory_or_routine : (a : Declared) → Between UnlikeTexts (memory_name a) (routine_name a)
memory_or_routine (d.memory m ws) = (tt, tt)
memory_or_routine (d.routine r) = tt
memory_or_routine (d.inner x) = tt
memory_or_routine (d.port w k m) = tt
memory_or_routine (d.object k m) = tt
memory_or_routine (d.parameter x w) = tt
memory_or_routine (d.genvar x) = tt

object_or_memory : (ds : List Declared) (a : Declared) → Between UnlikeTexts (object_name ds a) (memory_name a)
object_or_memory ds (d.memory m ws) = tt
object_or_memory ds (d.routine r) = tt
object_or_memory ds (d.inner x) = tt
object_or_memory ds (d.port w k m) = (tt, tt)
object_or_memory ds (d.object k m) = each_all (λ x. Each (UnlikeTexts x) []) (object_name ds (d.object k m)) (λ x. tt)
object_or_memory ds (d.parameter x w) = tt
object_or_memory ds (d.genvar x) = tt

object_or_routine : (ds : List Declared) (a : Declared) → Between UnlikeTexts (object_name ds a) (routine_name a)
object_or_routine ds (d.memory m ws) = tt
object_or_routine ds (d.routine r) = tt
object_or_routine ds (d.inner x) = tt
object_or_routine ds (d.port w k m) = (tt, tt)
object_or_routine ds (d.object k m) = each_all (λ x. Each (UnlikeTexts x) []) (object_name ds (d.object k m)) (λ x. tt)
object_or_routine ds (d.parameter x w) = tt
object_or_routine ds (d.genvar x) = tt

pub record NamesApart (l : Level) : Type 0 where
  pub of_objects : Pairwise UnlikeTexts (object_names (objects l))
  pub of_memories : Pairwise UnlikeTexts (memory_names (counted l))
  pub of_routines : Pairwise UnlikeTexts (routine_names (counted l))
  pub objects_memories : Between UnlikeTexts (object_names (objects l)) (memory_names (counted l))
  pub objects_routines : Between UnlikeTexts (object_names (objects l)) (routine_names (counted l))
  pub memories_routines : Between UnlikeTexts (memory_names (counted l)) (routine_names (counted l))

pub names_apart_in : (l : Level) → same_names [] l.declared ≡ [] → NamesApart l
names_apart_in l clean =
    let ds = l.declared in
    let all : counted l ≡ ds = all_count [] ds clean in
    let os : object_names (objects l) ≡ each_of (object_name ds) ds = ap object_names (listed l clean) ∙ names_of_each ds ds in
    record {
      of_objects = pairwise_map (λ (o : Object). o.name.text) UnlikeTexts (objects l) (objects_differ l clean);
      of_memories = subst (λ cs. Pairwise UnlikeTexts (memory_names cs)) (sym all)
          (pairwise_each UnlikeTexts memory_name (Unequal ds) (names_apart memory_name memory_name ds (named_memory ds) (named_memory ds)) ds
          (each_all (λ a. Pairwise UnlikeTexts (memory_name a)) ds one_memory_name) (all_unequal ds clean));
      of_routines = subst (λ cs. Pairwise UnlikeTexts (routine_names cs)) (sym all) (routines_differ ds clean);
      objects_memories = subst (λ xs. Between UnlikeTexts xs (memory_names (counted l))) (sym os) (subst (λ cs. Between UnlikeTexts (each_of (object_name ds) ds) (memory_names cs)) (sym all)
          (two_kinds (object_name ds) memory_name ds (named_object ds) (named_memory ds) (object_or_memory ds) clean));
      objects_routines = subst (λ xs. Between UnlikeTexts xs (routine_names (counted l))) (sym os) (subst (λ cs. Between UnlikeTexts (each_of (object_name ds) ds) (routine_names cs)) (sym all)
          (two_kinds (object_name ds) routine_name ds (named_object ds) (named_routine ds) (object_or_routine ds) clean));
      memories_routines = subst (λ cs. Between UnlikeTexts (memory_names cs) (routine_names cs)) (sym all)
          (two_kinds memory_name routine_name ds (named_memory ds) (named_routine ds) memory_or_routine clean);
    }
