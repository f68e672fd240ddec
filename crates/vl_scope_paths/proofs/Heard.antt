-- The scopes of a source that is a design are all that it asks for, and nothing fails.
use Rattle.std.proofs.Common.{◌≡◌, suc, ◌+◌, Bool, true, false, List, [], ◌∷◌, ◌++◌, refl, sym, subst, ap, ◌∙◌}
use Rattle.std.specs.Prelude.{Option, Some, None, if◌then◌else◌, nat_lt}
use Rattle.vl_tree.specs.declared.fault.FaultKind.TheVariants.{TooManyInstances, Expanded}
use Rattle.vl_tree.specs.Syntax.{Place, Module, Source}
use Rattle.vl_value.specs.Paths.{Text}
use Rattle.vl_value.specs.Order.{Found, at}
use Rattle.vl_design.specs.Lists.{each_of}
use Rattle.vl_design.specs.Limits.{Limits}
use Rattle.vl_design.specs.Scopes.{Scope, Request, instance_begins, expands, opens, fails, all_requests}
use Rattle.vl_design.specs.Walk.{Built, nothing_built, ended_with, built, all_heard, build, top_of, duplicate_modules, building_faults}
use Rattle.vl_design.specs.ObjectFaults.{same_names, declaration_faults, origin_faults, scope_faults}
use Rattle.vl_design.specs.Design.{scopes}
use Rattle.vl_design.proofs.HeardLaws.{heard_ended}
use Rattle.vl_design_laws.proofs.Elaborated.{none_joined}
use Rattle.vl_scope_paths.proofs.Apart.{Each, each_so, Pairwise}
use Rattle.vl_scope_paths.proofs.Opened.{Sound, Related, opened, all_related}

abbrev Succeeds : Request → Type 0
Succeeds (instance_begins p) = Unit {0}
Succeeds (expands n) = Unit {0}
Succeeds (opens s) = Unit {0}
Succeeds (fails f) = ⊥

module _ (q : Limits) (top : Place) where
  -- all is heard: what was there before had no fault, nothing fails, and each scope is opened
  record Whole (rs : List Request) (b : Built) : Type 0 where
    clean : b.faults ≡ []
    fine : Each Succeeds rs
    scopes : (all_heard q top rs b).scopes ≡ b.scopes ++ opened rs

  one_more : (xs ys : List Found) (f : Found) → xs ≡ ys ++ f ∷ [] → xs ≡ [] → ⊥
  one_more xs ys f e h = let n = none_joined ys (f ∷ []) (sym e ∙ h) in absurd cc

  never_ended : (rs : List Request) (f : Found) (b : Built) → (all_heard q top rs (ended_with f b)).faults ≡ [] → ⊥
  never_ended rs f b h = one_more _ b.faults f (ap (λ (c : Built). c.faults) (heard_ended q top rs (ended_with f b) refl)) h

  -- what is heard next, where it hadn't ended
  next_of : (r : Request) (rs : List Request) (b : Built) → b.ended ≡ false → all_heard q top (r ∷ rs) b ≡ all_heard q top rs (built q top r b)
  next_of r rs b e = ap (λ y. all_heard q top rs (if y then b else built q top r b)) e

  within_limit : (y : Bool) (f : Found) (rs : List Request) (b : Built) → (all_heard q top rs (if y then ended_with f b else b)).faults ≡ []
      → ((if y then ended_with f b else b) ≡ b) × ((all_heard q top rs b).faults ≡ [])
  within_limit true f rs b h = absurd (never_ended rs f b h)
  within_limit false f rs b h = (refl, h)

  joined_scopes : (xs : List Scope) (s : Scope) (ys : List Scope) → (xs ++ s ∷ []) ++ ys ≡ xs ++ s ∷ ys
  joined_scopes [] s ys = refl
  joined_scopes (x ∷ xs) s ys = ap (λ r. x ∷ r) (joined_scopes xs s ys)

  whole : (rs : List Request) (b : Built) → b.ended ≡ false → (all_heard q top rs b).faults ≡ [] → Whole rs b
  whole [] b e h = record { clean = h; fine = tt; scopes = nothing_behind b.scopes }
    where
      nothing_behind : (xs : List Scope) → xs ≡ xs ++ []
      nothing_behind [] = refl
      nothing_behind (x ∷ xs) = ap (λ r. x ∷ r) (nothing_behind xs)
  whole (instance_begins p ∷ rs) b e h =
      let n = next_of (instance_begins p) rs b e in
      let c : Built = record b { instances = suc b.instances } in
      let l = within_limit (nat_lt q.instances (suc b.instances)) (at p TooManyInstances) rs c (sym (ap (λ (x : Built). x.faults) n) ∙ h) in
      let w = whole rs c e l.1 in
      record {
        clean = w.clean;
        fine = (tt, w.fine);
        scopes = ap (λ (x : Built). x.scopes) n ∙ ap (λ x. (all_heard q top rs x).scopes) l.0 ∙ w.scopes;
      }
  whole (expands t ∷ rs) b e h =
      let n = next_of (expands t) rs b e in
      let c : Built = record b { tokens = b.tokens + t } in
      let l = within_limit (nat_lt q.tokens (b.tokens + t)) (at top Expanded) rs c (sym (ap (λ (x : Built). x.faults) n) ∙ h) in
      let w = whole rs c e l.1 in
      record {
        clean = w.clean;
        fine = (tt, w.fine);
        scopes = ap (λ (x : Built). x.scopes) n ∙ ap (λ x. (all_heard q top rs x).scopes) l.0 ∙ w.scopes;
      }
  whole (opens s ∷ rs) b e h =
      let n = next_of (opens s) rs b e in
      let c : Built = record b { scopes = b.scopes ++ s ∷ [] } in
      let w = whole rs c e (sym (ap (λ (x : Built). x.faults) n) ∙ h) in
      record {
        clean = w.clean;
        fine = (tt, w.fine);
        scopes = ap (λ (x : Built). x.scopes) n ∙ w.scopes ∙ joined_scopes b.scopes s (opened rs);
      }
  whole (fails f ∷ rs) b e h =
      let n = next_of (fails f) rs b e in
      let c : Built = record b { faults = b.faults ++ f ∷ [] } in
      let w = whole rs c e (sym (ap (λ (x : Built). x.faults) n) ∙ h) in
      absurd (one_more c.faults b.faults f refl w.clean)

-- each scope that is opened declares no name twice, so each request is sound
abbrev pub IsClean : Scope → Type 0
IsClean s = scope_faults s ≡ []

pub each_clean : (ss : List Scope) → each_of scope_faults ss ≡ [] → Each IsClean ss
each_clean [] h = tt
each_clean (s ∷ ss) h = let n = none_joined (scope_faults s) (each_of scope_faults ss) h in (n.0, each_clean ss n.1)

pub names_clean : (s : Scope) → IsClean s → same_names [] s.level.declared ≡ []
names_clean s h = (none_joined (same_names [] s.level.declared)
    (each_of declaration_faults s.level.declared ++ origin_faults s.level.declared s.origin) h).0

pub declarations_clean : (s : Scope) → IsClean s → each_of declaration_faults s.level.declared ≡ []
declarations_clean s h = (none_joined (each_of declaration_faults s.level.declared) (origin_faults s.level.declared s.origin)
    (none_joined (same_names [] s.level.declared)
    (each_of declaration_faults s.level.declared ++ origin_faults s.level.declared s.origin) h).1).0

sound : (rs : List Request) → Each Succeeds rs → Each (λ (s : Scope). same_names [] s.level.declared ≡ []) (opened rs) → Each Sound rs
sound [] h k = tt
sound (instance_begins p ∷ rs) (h, hs) k = (tt, sound rs hs k)
sound (expands n ∷ rs) (h, hs) k = (tt, sound rs hs k)
sound (opens s ∷ rs) (h, hs) (k, ks) = (k, sound rs hs ks)
sound (fails f ∷ rs) (h, hs) k = absurd h

abbrev pub Scoped : List Scope → Type 0
Scoped ss = Each IsClean ss × Pairwise Related ss

abbrev built_of : Limits → Source → Option Module → List Scope
built_of q src m = elim m [ Some x ↦ (build q src x).scopes | None ↦ [] ]

by_top : (q : Limits) (src : Source) (m : Option Module) → building_faults q src m ≡ [] → each_of scope_faults (built_of q src m) ≡ []
    → Scoped (built_of q src m)
by_top q src None h k = absurd cc
by_top q src (Some m) h k =
    let w = whole q m.name.place (all_requests q src m) nothing_built refl h in
    let e : opened (all_requests q src m) ≡ (build q src m).scopes = sym w.scopes in
    let own = each_clean (opened (all_requests q src m)) (subst (λ ss. each_of scope_faults ss ≡ []) (sym e) k) in
    let names = each_so IsClean (λ (s : Scope). same_names [] s.level.declared ≡ []) names_clean (opened (all_requests q src m)) own in
    subst Scoped e (own, all_related src q m (sound (all_requests q src m) w.fine names))

pub all_scoped : (q : Limits) (src : Source) (top : Option Text) → duplicate_modules [] src ++ building_faults q src (top_of src top) ≡ []
    → each_of scope_faults (scopes q src top) ≡ [] → Scoped (scopes q src top)
all_scoped q src top h k = by_top q src (top_of src top) (none_joined (duplicate_modules [] src) (building_faults q src (top_of src top)) h).1 k
