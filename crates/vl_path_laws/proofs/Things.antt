-- All that has a path, kind by kind: signals, memories, functions, loop variables and variables of functions.
use Rattle.std.proofs.Common.{◌≡◌, Bool, true, false, ◌||◌, inl, inr, List, [], ◌∷◌, map, refl, sym, subst, ap, ◌∙◌}
use Rattle.std.specs.Prelude.{not, bytes_eq, if◌then◌else◌}
use Rattle.std.specs.List.{list_any}
use Rattle.vl_value.specs.Paths.{Text, Path, same_path, below}
use Rattle.vl_value.specs.Order.{at}
use Rattle.vl_tree.specs.declared.fault.FaultKind.TheVariants.{Duplicate}
use Rattle.vl_design.specs.Lists.{each_of, stands_in}
use Rattle.vl_design.specs.Declarations.{Declared, Local, Routine}
use Rattle.vl_design.specs.Declarations as d
use Rattle.vl_design.specs.Scopes.{Scope}
use Rattle.vl_design.specs.Objects.{counted, Object, objects}
use Rattle.vl_design.specs.LoopVariables.{is_path_in, signals_of}
use Rattle.vl_design.specs.ObjectFaults.{declaration_faults, same_locals, routine_locals, local_faults}
use Rattle.vl_design.specs.Design.{Memory, memory_in, Callable, callable_in, locals_of, loop_variables_in}
use Rattle.vl_design_laws.proofs.Elaborated.{none_joined}
use Rattle.vl_scope_paths.proofs.Apart.{Each, each_so, each_all, each_map, each_mapped, each_each, each_kept, Between, between_by, between_each, Pairwise, pairwise_map, pairwise_kept, pairwise_so, pairwise_with, pairwise_unmapped, pairwise_each, between_turned, each_passes, each_fails}
use Rattle.vl_scope_paths.proofs.Steps.{UnlikePaths, paths_turned, below_differs, name_differs, same_paths, not_so, is_not, texts_turned}
use Rattle.vl_scope_paths.proofs.Labels.{UnlikeTexts}
use Rattle.vl_scope_paths.proofs.Opened.{path_of, Has}
use Rattle.vl_scope_paths.proofs.Heard.{IsClean, names_clean, declarations_clean}
use Rattle.vl_path_laws.proofs.Objects.{all_count, object_names, memory_names, routine_names, NamesApart, names_apart_in}
use Rattle.vl_path_laws.proofs.Holders.{FunctionsUnlike, Free, free_turned, own_free}

-- ---- paths of names

pub paths_unlike : (p : Path) (xs ys : List Text) → Between UnlikeTexts xs ys → Between UnlikePaths (map (below p) xs) (map (below p) ys)
paths_unlike p xs ys b = each_map (below p) (λ q. Each (UnlikePaths q) (map (below p) ys)) xs
    (each_so (λ x. Each (UnlikeTexts x) ys) (λ x. Each (UnlikePaths (below p x)) (map (below p) ys))
    (λ x k. each_map (below p) (UnlikePaths (below p x)) ys (each_so (UnlikeTexts x) (λ y. UnlikePaths (below p x) (below p y)) (λ y u. name_differs p x y u) ys k)) xs b)

pub paths_pairwise : (p : Path) (xs : List Text) → Pairwise UnlikeTexts xs → Pairwise UnlikePaths (map (below p) xs)
paths_pairwise p xs h = pairwise_map (below p) UnlikePaths xs (pairwise_so UnlikeTexts (λ x y. UnlikePaths (below p x) (below p y)) (name_differs p) xs h)

-- ---- names that don't stand among others

not_told : (b : Bool) (l : Local) → (if b then at l.name.place Duplicate ∷ [] else []) ≡ [] → b ≡ false
not_told true l h = absurd cc
not_told false l h = refl

both_false : (a b : Bool) → (a || b) ≡ false → (a ≡ false) × (b ≡ false)
both_false true b h = absurd cc
both_false false b h = (refl, h)

never_there : (xs : List Text) (y : Text) → stands_in xs y ≡ false → Each (λ x. UnlikeTexts x y) xs
never_there [] y h = tt
never_there (x ∷ xs) y h =
    let n = both_false (bytes_eq y x) (list_any (bytes_eq y) xs) h in (texts_turned y x n.0, never_there xs y n.1)

module _ (loops : List Path) where
  -- ---- kind by kind

  abbrev pub signal_paths : Scope → List Path
  signal_paths s = map (λ (o : Object). below (path_of s) o.name.text) (signals_of loops s)

  abbrev pub memory_paths : Scope → List Path
  memory_paths s = map (λ (y : Memory). y.path) (each_of (memory_in (path_of s)) (counted s.level))

  abbrev pub callables_in : Scope → List Callable
  callables_in s = each_of (callable_in s) (counted s.level)

  abbrev pub callable_paths : Scope → List Path
  callable_paths s = map (λ (c : Callable). c.path) (callables_in s)

  abbrev pub variable_paths : Scope → List Path
  variable_paths s = loop_variables_in loops s

  abbrev pub local_paths : Scope → List Path
  local_paths s = each_of locals_of (callables_in s)

  -- all nets and variables
  abbrev object_paths : Scope → List Path
  object_paths s = map (below (path_of s)) (object_names (objects s.level))

  -- ---- where each stands

  abbrev pub IsOf : Scope → Path → Type 0
  IsOf s p = (x : Text) × (p ≡ below (path_of s) x)

  abbrev pub IsIn : Scope → Path → Type 0
  IsIn s p = (f : Text) × (Has (routine_names s.level.declared) f × ((x : Text) × (p ≡ below (below (path_of s) f) x)))

  below_of : (s : Scope) (xs : List Text) → Each (IsOf s) (map (below (path_of s)) xs)
  below_of s xs = each_map (below (path_of s)) (IsOf s) xs (each_all (λ x. IsOf s (below (path_of s) x)) xs (λ x. (x, refl)))

  pub signals_of_scope : (s : Scope) → Each (IsOf s) (signal_paths s)
  signals_of_scope s = each_map (λ (o : Object). below (path_of s) o.name.text) (IsOf s) (signals_of loops s)
      (each_all (λ (o : Object). IsOf s (below (path_of s) o.name.text)) (signals_of loops s) (λ o. (o.name.text, refl)))

  memories_named : (s : Scope) (ds : List Declared) → map (λ (y : Memory). y.path) (each_of (memory_in (path_of s)) ds) ≡ map (below (path_of s)) (memory_names ds)
  memories_named s [] = refl
  memories_named s (d.memory l ws ∷ ds) = ap (λ ps. below (path_of s) l.name.text ∷ ps) (memories_named s ds)
  memories_named s (d.port w k l ∷ ds) = memories_named s ds
  memories_named s (d.object k l ∷ ds) = memories_named s ds
  memories_named s (d.parameter x w ∷ ds) = memories_named s ds
  memories_named s (d.genvar x ∷ ds) = memories_named s ds
  memories_named s (d.routine r ∷ ds) = memories_named s ds
  memories_named s (d.inner x ∷ ds) = memories_named s ds

  callables_named : (s : Scope) (ds : List Declared) → map (λ (c : Callable). c.path) (each_of (callable_in s) ds) ≡ map (below (path_of s)) (routine_names ds)
  callables_named s [] = refl
  callables_named s (d.routine r ∷ ds) = ap (λ ps. below (path_of s) r.result.name.text ∷ ps) (callables_named s ds)
  callables_named s (d.memory l ws ∷ ds) = callables_named s ds
  callables_named s (d.port w k l ∷ ds) = callables_named s ds
  callables_named s (d.object k l ∷ ds) = callables_named s ds
  callables_named s (d.parameter x w ∷ ds) = callables_named s ds
  callables_named s (d.genvar x ∷ ds) = callables_named s ds
  callables_named s (d.inner x ∷ ds) = callables_named s ds

  pub memories_of_scope : (s : Scope) → Each (IsOf s) (memory_paths s)
  memories_of_scope s = subst (Each (IsOf s)) (sym (memories_named s (counted s.level))) (below_of s (memory_names (counted s.level)))

  pub callables_of_scope : (s : Scope) → Each (IsOf s) (callable_paths s)
  callables_of_scope s = subst (Each (IsOf s)) (sym (callables_named s (counted s.level))) (below_of s (routine_names (counted s.level)))

  objects_named : (p : Path) (os : List Object) → map (λ (o : Object). below p o.name.text) os ≡ map (below p) (object_names os)
  objects_named p [] = refl
  objects_named p (o ∷ os) = ap (λ ps. below p o.name.text ∷ ps) (objects_named p os)

  pub variables_of_scope : (s : Scope) → Each (IsOf s) (variable_paths s)
  variables_of_scope s = each_kept (IsOf s) (is_path_in loops) (map (λ (o : Object). below (path_of s) o.name.text) (objects s.level))
      (subst (Each (IsOf s)) (sym (objects_named (path_of s) (objects s.level))) (below_of s (object_names (objects s.level))))

  -- ---- in one scope

  -- loop variables and signals
  signals_are_none : (s : Scope) → Each (λ p. is_path_in loops p ≡ false) (signal_paths s)
  signals_are_none s = each_map (λ (o : Object). below (path_of s) o.name.text) (λ p. is_path_in loops p ≡ false) (signals_of loops s)
      (each_fails (λ (o : Object). is_path_in loops (below (path_of s) o.name.text)) (objects s.level))

  variables_are_some : (s : Scope) → Each (λ p. is_path_in loops p ≡ true) (variable_paths s)
  variables_are_some s = each_passes (is_path_in loops) (map (λ (o : Object). below (path_of s) o.name.text) (objects s.level))

  other_paths : (p r : Path) → is_path_in loops p ≡ false → is_path_in loops r ≡ true → UnlikePaths p r
  other_paths p r h k = not_so (same_path p r) (λ t. is_not (is_path_in loops p) h (ap (is_path_in loops) (same_paths p r t) ∙ k))

  pub signals_variables : (s r : Scope) → Between UnlikePaths (signal_paths s) (variable_paths r)
  signals_variables s r = between_by UnlikePaths (λ p. is_path_in loops p ≡ false) (λ p. is_path_in loops p ≡ true) other_paths
      (signal_paths s) (variable_paths r) (signals_are_none s) (variables_are_some r)

  -- of nets and variables those that are signals, and those that aren't
  signals_kept : (Q : Path → Type 0) (s : Scope) → Each Q (object_paths s) → Each Q (signal_paths s)
  signals_kept Q s h = each_map (λ (o : Object). below (path_of s) o.name.text) Q (signals_of loops s)
      (each_kept (λ (o : Object). Q (below (path_of s) o.name.text)) (λ (o : Object). not (is_path_in loops (below (path_of s) o.name.text))) (objects s.level)
      (each_mapped (λ (o : Object). below (path_of s) o.name.text) Q (objects s.level) (subst (Each Q) (sym (objects_named (path_of s) (objects s.level))) h)))

  variables_kept : (Q : Path → Type 0) (s : Scope) → Each Q (object_paths s) → Each Q (variable_paths s)
  variables_kept Q s h = each_kept Q (is_path_in loops) (map (λ (o : Object). below (path_of s) o.name.text) (objects s.level))
      (subst (Each Q) (sym (objects_named (path_of s) (objects s.level))) h)

  module _ (s : Scope) (clean : IsClean s) where
    names : NamesApart s.level
    names = names_apart_in s.level (names_clean s clean)

    objects_pairwise : Pairwise UnlikePaths (map (λ (o : Object). below (path_of s) o.name.text) (objects s.level))
    objects_pairwise = subst (Pairwise UnlikePaths) (sym (objects_named (path_of s) (objects s.level)))
        (paths_pairwise (path_of s) (object_names (objects s.level)) names.of_objects)

    pub own_signals : Pairwise UnlikePaths (signal_paths s)
    own_signals = pairwise_map (λ (o : Object). below (path_of s) o.name.text) UnlikePaths (signals_of loops s)
        (pairwise_kept (λ (o p : Object). UnlikePaths (below (path_of s) o.name.text) (below (path_of s) p.name.text))
        (λ (o : Object). not (is_path_in loops (below (path_of s) o.name.text))) (objects s.level)
        (pairwise_unmapped (λ (o : Object). below (path_of s) o.name.text) UnlikePaths (objects s.level) objects_pairwise))

    pub own_variables : Pairwise UnlikePaths (variable_paths s)
    own_variables = pairwise_kept UnlikePaths (is_path_in loops) (map (λ (o : Object). below (path_of s) o.name.text) (objects s.level)) objects_pairwise

    pub own_memories : Pairwise UnlikePaths (memory_paths s)
    own_memories = subst (Pairwise UnlikePaths) (sym (memories_named s (counted s.level)))
        (paths_pairwise (path_of s) (memory_names (counted s.level)) names.of_memories)

    pub own_callables : Pairwise UnlikePaths (callable_paths s)
    own_callables = subst (Pairwise UnlikePaths) (sym (callables_named s (counted s.level)))
        (paths_pairwise (path_of s) (routine_names (counted s.level)) names.of_routines)

    objects_memories : Each (λ p. Each (UnlikePaths p) (memory_paths s)) (object_paths s)
    objects_memories = subst (λ ps. Each (λ p. Each (UnlikePaths p) ps) (object_paths s)) (sym (memories_named s (counted s.level)))
        (paths_unlike (path_of s) (object_names (objects s.level)) (memory_names (counted s.level)) names.objects_memories)

    objects_callables : Each (λ p. Each (UnlikePaths p) (callable_paths s)) (object_paths s)
    objects_callables = subst (λ ps. Each (λ p. Each (UnlikePaths p) ps) (object_paths s)) (sym (callables_named s (counted s.level)))
        (paths_unlike (path_of s) (object_names (objects s.level)) (routine_names (counted s.level)) names.objects_routines)

    pub signals_memories : Between UnlikePaths (signal_paths s) (memory_paths s)
    signals_memories = signals_kept (λ p. Each (UnlikePaths p) (memory_paths s)) s objects_memories

    pub signals_callables : Between UnlikePaths (signal_paths s) (callable_paths s)
    signals_callables = signals_kept (λ p. Each (UnlikePaths p) (callable_paths s)) s objects_callables

    pub memories_callables : Between UnlikePaths (memory_paths s) (callable_paths s)
    memories_callables = subst (λ ps. Between UnlikePaths ps (callable_paths s)) (sym (memories_named s (counted s.level)))
        (subst (Between UnlikePaths (map (below (path_of s)) (memory_names (counted s.level)))) (sym (callables_named s (counted s.level)))
        (paths_unlike (path_of s) (memory_names (counted s.level)) (routine_names (counted s.level)) names.memories_routines))

    pub memories_variables : Between UnlikePaths (memory_paths s) (variable_paths s)
    memories_variables = between_turned UnlikePaths paths_turned (variable_paths s) (memory_paths s)
        (variables_kept (λ p. Each (UnlikePaths p) (memory_paths s)) s objects_memories)

    pub callables_variables : Between UnlikePaths (callable_paths s) (variable_paths s)
    callables_variables = between_turned UnlikePaths paths_turned (variable_paths s) (callable_paths s)
        (variables_kept (λ p. Each (UnlikePaths p) (callable_paths s)) s objects_callables)

    -- ---- variables of functions

    all : counted s.level ≡ s.level.declared
    all = all_count [] s.level.declared (names_clean s clean)

    -- those of one function have names of their own
    apart_from : (before : List Text) (ls : List Local) → same_locals before ls ≡ [] → Each (λ (l : Local). Each (λ x. UnlikeTexts x l.name.text) before) ls
    apart_from before [] h = tt
    apart_from before (l ∷ ls) h =
        let n = none_joined (if stands_in before l.name.text then at l.name.place Duplicate ∷ [] else []) (same_locals (l.name.text ∷ before) ls) h in (
          never_there before l.name.text (not_told (stands_in before l.name.text) l n.0),
          each_so (λ (m : Local). Each (λ x. UnlikeTexts x m.name.text) (l.name.text ∷ before)) (λ (m : Local). Each (λ x. UnlikeTexts x m.name.text) before)
              (λ m k. k.1) ls (apart_from (l.name.text ∷ before) ls n.1),
        )

    locals_differ : (before : List Text) (ls : List Local) → same_locals before ls ≡ [] → Pairwise (λ (l m : Local). UnlikeTexts l.name.text m.name.text) ls
    locals_differ before [] h = tt
    locals_differ before (l ∷ ls) h =
        let n = none_joined (if stands_in before l.name.text then at l.name.place Duplicate ∷ [] else []) (same_locals (l.name.text ∷ before) ls) h in (
          each_so (λ (m : Local). Each (λ x. UnlikeTexts x m.name.text) (l.name.text ∷ before)) (λ (m : Local). UnlikeTexts l.name.text m.name.text)
              (λ m k. k.0) ls (apart_from (l.name.text ∷ before) ls n.1),
          locals_differ (l.name.text ∷ before) ls n.1,
        )

    -- what is so of a function without a fault
    abbrev AreFine : Callable → Type 0
    AreFine c = Has (routine_names s.level.declared) c.routine.result.name.text × ((c.path ≡ below (path_of s) c.routine.result.name.text)
        × (same_locals [] (routine_locals c.routine) ≡ []))

    fine_in : (before ds : List Declared) → each_of declaration_faults ds ≡ []
        → ((x : Text) → Has (routine_names ds) x → Has (routine_names s.level.declared) x) → Each AreFine (each_of (callable_in s) ds)
    fine_in before [] h go = tt
    fine_in before (d.routine r ∷ ds) h go =
        let n = none_joined (declaration_faults (d.routine r)) (each_of declaration_faults ds) h in
        let m = none_joined (same_locals [] (routine_locals r)) (each_of local_faults (routine_locals r)) n.0 in
        ((go r.result.name.text (inl refl), (refl, m.0)), fine_in before ds n.1 (λ x k. go x (inr k)))
    fine_in before (d.memory l ws ∷ ds) h go = fine_in before ds (none_joined (declaration_faults (d.memory l ws)) (each_of declaration_faults ds) h).1 go
    fine_in before (d.port w k l ∷ ds) h go = fine_in before ds (none_joined (declaration_faults (d.port w k l)) (each_of declaration_faults ds) h).1 go
    fine_in before (d.object k l ∷ ds) h go = fine_in before ds (none_joined (declaration_faults (d.object k l)) (each_of declaration_faults ds) h).1 go
    fine_in before (d.parameter x w ∷ ds) h go = fine_in before ds h go
    fine_in before (d.genvar x ∷ ds) h go = fine_in before ds h go
    fine_in before (d.inner x ∷ ds) h go = fine_in before ds h go

    fine : Each AreFine (callables_in s)
    fine = subst (λ cs. Each AreFine (each_of (callable_in s) cs)) (sym all)
        (fine_in [] s.level.declared (declarations_clean s clean) (λ x k. k))

    locals_in : (c : Callable) → AreFine c → Each (IsIn s) (locals_of c)
    locals_in c (h, (e, f)) = each_map (λ (l : Local). below c.path l.name.text) (IsIn s) c.routine.locals
        (each_all (λ (l : Local). IsIn s (below c.path l.name.text)) c.routine.locals
        (λ l. (c.routine.result.name.text, (h, (l.name.text, ap (λ w. below w l.name.text) e)))))

    pub locals_of_scope : Each (IsIn s) (local_paths s)
    locals_of_scope = each_each locals_of (IsIn s) (callables_in s) (each_so AreFine (λ c. Each (IsIn s) (locals_of c)) locals_in (callables_in s) fine)

    one_function : (c : Callable) → AreFine c → Pairwise UnlikePaths (locals_of c)
    one_function c (h, (e, f)) = pairwise_map (λ (l : Local). below c.path l.name.text) UnlikePaths c.routine.locals
        (pairwise_so (λ (l m : Local). UnlikeTexts l.name.text m.name.text) (λ (l m : Local). UnlikePaths (below c.path l.name.text) (below c.path m.name.text))
        (λ l m. name_differs c.path l.name.text m.name.text) c.routine.locals (locals_differ (c.routine.result.name.text ∷ []) c.routine.locals f))

    pub own_locals : Pairwise UnlikePaths (local_paths s)
    own_locals = pairwise_each UnlikePaths locals_of (λ (a b : Callable). UnlikePaths a.path b.path)
        (λ a b u. between_by UnlikePaths (λ p. (x : Text) × (p ≡ below a.path x)) (λ p. (x : Text) × (p ≡ below b.path x))
        (λ p r e f. (λ i. same_path (e.1 i) (f.1 i)) ∙ below_differs a.path b.path e.0 f.0 u) (locals_of a) (locals_of b) (below_callable a) (below_callable b))
        (callables_in s) (each_so AreFine (λ c. Pairwise UnlikePaths (locals_of c)) one_function (callables_in s) fine)
        (pairwise_unmapped (λ (c : Callable). c.path) UnlikePaths (callables_in s) own_callables)
      where
        below_callable : (c : Callable) → Each (λ p. (x : Text) × (p ≡ below c.path x)) (locals_of c)
        below_callable c = each_map (λ (l : Local). below c.path l.name.text) (λ p. (x : Text) × (p ≡ below c.path x)) c.routine.locals
            (each_all (λ (l : Local). (x : Text) × (below c.path l.name.text ≡ below c.path x)) c.routine.locals (λ l. (l.name.text, refl)))

  -- ---- in two scopes

  of_of : (s r : Scope) → UnlikePaths (path_of s) (path_of r) → (p t : Path) → IsOf s p → IsOf r t → UnlikePaths p t
  of_of s r u p t (x, e) (y, f) = (λ i. same_path (e i) (f i)) ∙ below_differs (path_of s) (path_of r) x y u

  of_in : (s r : Scope) → FunctionsUnlike r s → (p t : Path) → IsOf s p → IsIn r t → UnlikePaths p t
  of_in s r u p t (x, e) (f, (h, (y, k))) = (λ i. same_path (e i) (k i))
      ∙ below_differs (path_of s) (below (path_of r) f) x y (paths_turned (below (path_of r) f) (path_of s) (u f h))

  in_in : (s r : Scope) → UnlikePaths (path_of s) (path_of r) → (p t : Path) → IsIn s p → IsIn r t → UnlikePaths p t
  in_in s r u p t (f, (h, (x, e))) (g, (k, (y, l))) = (λ i. same_path (e i) (l i))
      ∙ below_differs (below (path_of s) f) (below (path_of r) g) x y (below_differs (path_of s) (path_of r) f g u)

  module _ (ss : List Scope) (clean : Each IsClean ss) (free : Pairwise Free ss) where
    -- kinds whose paths stand below their scopes'
    pub once : (f : Scope → List Path) → ((s : Scope) → Each (IsOf s) (f s)) → ((s : Scope) → IsClean s → Pairwise UnlikePaths (f s))
        → Pairwise UnlikePaths (each_of f ss)
    once f of own = pairwise_each UnlikePaths f Free (λ s r u. between_by UnlikePaths (IsOf s) (IsOf r) (of_of s r u.scopes) (f s) (f r) (of s) (of r)) ss
        (each_so IsClean (λ s. Pairwise UnlikePaths (f s)) own ss clean) free

    pub never_both : (f g : Scope → List Path) → ((s : Scope) → Each (IsOf s) (f s)) → ((s : Scope) → Each (IsOf s) (g s))
        → ((s : Scope) → IsClean s → Between UnlikePaths (f s) (g s)) → Between UnlikePaths (each_of f ss) (each_of g ss)
    never_both f g of its own = between_each UnlikePaths f g Free free_turned
        (λ s r u. between_by UnlikePaths (IsOf s) (IsOf r) (of_of s r u.scopes) (f s) (g r) (of s) (its r)) ss
        (each_so IsClean (λ s. Between UnlikePaths (f s) (g s)) own ss clean) free

    -- variables of functions; each scope is clean
    abbrev Clear : Scope → Scope → Type 0
    Clear s r = Free s r × (IsClean s × IsClean r)

    clear : Pairwise Clear ss
    clear = pairwise_with Free IsClean ss clean free

    clear_turned : (s r : Scope) → Clear s r → Clear r s
    clear_turned s r c = (free_turned s r c.0, (c.1.1, c.1.0))

    pub locals_once : Pairwise UnlikePaths (each_of local_paths ss)
    locals_once = pairwise_each UnlikePaths local_paths Clear
        (λ s r c. between_by UnlikePaths (IsIn s) (IsIn r) (in_in s r c.0.scopes) (local_paths s) (local_paths r) (locals_of_scope s c.1.0) (locals_of_scope r c.1.1)) ss
        (each_so IsClean (λ s. Pairwise UnlikePaths (local_paths s)) own_locals ss clean) clear

    pub never_locals : (f : Scope → List Path) → ((s : Scope) → Each (IsOf s) (f s)) → Between UnlikePaths (each_of f ss) (each_of local_paths ss)
    never_locals f of = between_each UnlikePaths f local_paths Clear clear_turned
        (λ s r c. between_by UnlikePaths (IsOf s) (IsIn r) (of_in s r c.0.second) (f s) (local_paths r) (of s) (locals_of_scope r c.1.1)) ss
        (each_so IsClean (λ s. Between UnlikePaths (f s) (local_paths s))
        (λ s c. between_by UnlikePaths (IsOf s) (IsIn s) (of_in s s (own_free s)) (f s) (local_paths s) (of s) (locals_of_scope s c)) ss clean) clear
