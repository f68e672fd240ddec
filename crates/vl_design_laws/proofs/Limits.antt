-- A design keeps the limits of which a source without a fault passes none.
use Rattle.std.proofs.Common.{◌≡◌, ◌≤◌, ◌+◌, ℕ, suc, Bool, true, false, List, [], ◌∷◌, ◌++◌, map, length, refl, sym, subst, ◌∙◌, arith}
use Rattle.std.specs.Prelude.{Option, Some, None, nat_lt, if◌then◌else◌, filter}
use Rattle.std.proofs.lemmas.Bool.{ltb-false}
use Rattle.std.proofs.lemmas.List.{length-map, length-append}
use Rattle.vl_tree.specs.Syntax.{Place}
use Rattle.vl_tree.specs.declared.fault.FaultKind.{FaultKind}
use Rattle.vl_tree.specs.declared.fault.FaultKind.TheVariants.{TooManySignals, TooManyWords}
use Rattle.vl_value.specs.Paths.{Path}
use Rattle.vl_value.specs.Things.{distance}
use Rattle.vl_value.specs.Order.{Found}
use Rattle.vl_design.specs.Limits as q
use Rattle.vl_design.specs.Lists.{each_of}
use Rattle.vl_design.specs.Scopes.{Scope}
use Rattle.vl_design.specs.Spans.{first_word, last_word, words_faults}
use Rattle.vl_design.specs.Declarations.{Declared, name_of, is_named}
use Rattle.vl_design.specs.Declarations as d
use Rattle.vl_design.specs.Objects.{counts_behind, counted_behind, counted, Object}
use Rattle.vl_design.specs.LoopVariables.{loop_variables, signals_of}
use Rattle.vl_design.specs.ObjectFaults.{same_names, local_faults, declaration_faults, scope_faults, beyond, told, places_of, memory_words, words_of, limit_faults}
use Rattle.vl_design.specs.Design.{design_of, scopes, signal_in, signals, Memory, memory_in, memories}
use Rattle.vl_design_laws.specs.Laws.{words_in, KeepsLimits, LimitsLaw}
use Rattle.vl_design_laws.proofs.Elaborated.{none_joined, is_of, no_object_fault}

-- what things count together
abbrev total : List (Place × ℕ) → ℕ
total [] = 0
total (c ∷ cs) = c.1 + total cs

one_more : (most m : ℕ) (b : Bool) (p : Place) (r : Option Place) (t : ℕ) → nat_lt most m ≡ b → (r ≡ None → m ≤ most → m + t ≤ most)
    → (if b then Some p else r) ≡ None → m + t ≤ most
one_more most m true p r t l go e = absurd cc
one_more most m false p r t l go e = go e (ltb-false most m l)

within : (most n : ℕ) (cs : List (Place × ℕ)) → beyond most n cs ≡ None → n ≤ most → n + total cs ≤ most
within most n [] e l = omega (arith, l)
within most n (c ∷ cs) e l =
    let h = one_more most (n + c.1) (nat_lt most (n + c.1)) c.0 (beyond most (n + c.1) cs) (total cs) refl
    (λ e l. within most (n + c.1) cs e l) e in omega (arith, h)

none_told : (o : Option Place) (k : FaultKind) → told o k ≡ [] → o ≡ None
none_told None k e = refl
none_told (Some p) k e = absurd cc

counted_once : (os : List Object) → total (places_of (λ o. 1) os) ≡ length os
counted_once [] = refl
counted_once (o ∷ os) = let e = counted_once os in omega (arith, e)

-- signals are listed with their paths as they are counted
as_many : (loops : List Path) (ss : List Scope) → length (each_of (λ s. map (signal_in s) (signals_of loops s)) ss) ≡ length (each_of (signals_of loops) ss)
as_many loops [] = refl
as_many loops (s ∷ ss) =
    length-append (map (signal_in s) (signals_of loops s)) _
    ∙ (λ i. length-map (signals_of loops s) (signal_in s) i + as_many loops ss i)
    ∙ sym (length-append (signals_of loops s) (each_of (signals_of loops) ss))

-- ---- words

total_joined : (cs ds : List (Place × ℕ)) → total (cs ++ ds) ≡ total cs + total ds
total_joined [] ds = omega arith
total_joined (c ∷ cs) ds = let e = total_joined cs ds in omega (arith, e)

words_joined : (xs ys : List Memory) → words_in (xs ++ ys) ≡ words_in xs + words_in ys
words_joined [] ys = omega arith
words_joined (x ∷ xs) ys = let e = words_joined xs ys in omega (arith, e)

-- what has no fault has none where a part of it counts
counted_clean : (before ds : List Declared) → each_of declaration_faults ds ≡ [] → each_of declaration_faults (counted_behind before ds) ≡ []
counted_clean before [] e = refl
counted_clean before (b ∷ ds) e =
    let n = none_joined (declaration_faults b) (each_of declaration_faults ds) e in
    one_clean (counts_behind (filter (is_named (name_of b).text) before) b) b (counted_behind (before ++ b ∷ []) ds) n.0 (counted_clean (before ++ b ∷ []) ds n.1)
  where
    one_clean : (c : Bool) (b : Declared) (rest : List Declared) → declaration_faults b ≡ [] → each_of declaration_faults rest ≡ []
        → each_of declaration_faults ((if c then b ∷ [] else []) ++ rest) ≡ []
    one_clean true b rest e f = (λ i. e i ++ f i)
    one_clean false b rest e f = f

-- a memory without a fault counts its words
memory_counts : (p : Path) (d : Declared) → declaration_faults d ≡ [] → words_in (memory_in p d) ≡ total (memory_words d)
memory_counts p (d.memory l ws) e =
    let n = none_joined (local_faults l) (words_faults ws) e in
    counted_here (words_faults ws) n.1
  where
    counted_here : (fs : List Found) → fs ≡ [] → words_in (memory_in p (d.memory l ws)) ≡ total (elim fs [
      | [] ↦ (l.name.place, suc (distance (first_word ws) (last_word ws))) ∷ []
      | f ∷ more ↦ []
    ])
    counted_here [] e = refl
    counted_here (f ∷ more) e = absurd cc
memory_counts p (d.port w k l) e = refl
memory_counts p (d.object k l) e = refl
memory_counts p (d.parameter x w) e = refl
memory_counts p (d.genvar x) e = refl
memory_counts p (d.routine r) e = refl
memory_counts p (d.inner x) e = refl

scope_counts : (p : Path) (cs : List Declared) → each_of declaration_faults cs ≡ []
    → words_in (each_of (memory_in p) cs) ≡ total (each_of memory_words cs)
scope_counts p [] e = refl
scope_counts p (c ∷ cs) e =
    let n = none_joined (declaration_faults c) (each_of declaration_faults cs) e in
    words_joined (memory_in p c) (each_of (memory_in p) cs)
    ∙ (λ i. memory_counts p c n.0 i + scope_counts p cs n.1 i)
    ∙ sym (total_joined (memory_words c) (each_of memory_words cs))

own_clean : (s : Scope) → scope_faults s ≡ [] → each_of declaration_faults (counted s.level) ≡ []
own_clean s e =
    let n = none_joined (same_names [] s.level.declared) _ e in
    let m = none_joined (each_of declaration_faults s.level.declared) _ n.1 in
    counted_clean [] s.level.declared m.0

all_counts : (ss : List Scope) → each_of scope_faults ss ≡ [] → words_in (memories ss) ≡ total (each_of words_of ss)
all_counts [] e = refl
all_counts (s ∷ ss) e =
    let n = none_joined (scope_faults s) (each_of scope_faults ss) e in
    words_joined (each_of (memory_in s.level.path) (counted s.level)) (memories ss)
    ∙ (λ i. scope_counts s.level.path (counted s.level) (own_clean s n.0) i + all_counts ss n.1 i)
    ∙ sym (total_joined (words_of s) (each_of words_of ss))

module _ (l : q.Limits) (ss : List Scope) (clean : each_of scope_faults ss ≡ []) (none : limit_faults l ss ≡ []) where
  abbrev own : List Object
  own = each_of (signals_of (loop_variables ss)) ss

  abbrev too_many : List Found
  too_many = told (beyond l.signals 0 (places_of (λ o. 1) own)) TooManySignals

  few_signals : length (signals ss) ≤ l.signals
  few_signals =
      let n = none_joined too_many _ none in
      let w = within l.signals 0 (places_of (λ o. 1) own) (none_told (beyond l.signals 0 (places_of (λ o. 1) own)) TooManySignals n.0) (omega arith) in
      let c = counted_once own in
      let a = as_many (loop_variables ss) ss in
      omega (arith, w, c, a)

  few_words : words_in (memories ss) ≤ l.words
  few_words =
      let n = none_joined too_many _ none in
      let m = none_joined (told (beyond l.words 0 (each_of words_of ss)) TooManyWords) _ n.1 in
      let w = within l.words 0 (each_of words_of ss) (none_told (beyond l.words 0 (each_of words_of ss)) TooManyWords m.0) (omega arith) in
      let c = all_counts ss clean in
      omega (arith, w, c)

  pub few : KeepsLimits l (design_of ss)
  few = record { signals = few_signals; words = few_words }

pub limits_law : LimitsLaw
limits_law l src top d is =
    let n = none_joined (each_of scope_faults (scopes l src top)) (limit_faults l (scopes l src top)) (no_object_fault l src top d is) in
    subst (KeepsLimits l) (is_of l src top d is) (few l (scopes l src top) n.0 n.1)
