-- The rules of targets.
use Rattle.std.proofs.Common.{◌≡◌, ◌≤◌, ◌+◌, ℕ, List, [], ◌∷◌, ◌++◌, length, map, refl, sym, ◌∙◌, ap, subst, rules}
use Rattle.vl_tree.specs.declared.token.Mark.TheVariants as m
use Rattle.vl_tree.specs.declared.expression.Name as name_code
use Rattle.vl_tree.specs.declared.expression.Expr as expr_code
use Rattle.vl_tree.specs.declared.expression.Selected.{Selected}
use Rattle.vl_tree.specs.declared.statement.Target.{the_lemmas}
use Rattle.vl_tree.specs.declared.statement.Target as code
use Rattle.vl_tree.specs.declared.statement.Target.TheVariants as x
use Rattle.dt_core.specs.declared.place.Place as place_code
use Rattle.vl_tree.specs.Token.{Kind}
use Rattle.vl_tree.specs.Token as k
use Rattle.vl_tree.specs.Syntax.{Place, Selects, no_select, Target, name, targets, Targets, no_target, more_target}
use Rattle.vl_tree.specs.SyntaxView as view
use Rattle.vl_tree.specs.Placed.{Placed, at}
use Rattle.vl_tree.specs.Piece.{mark, commas, more_of}
use Rattle.vl_tree.specs.Expressions.{selects_at}
use Rattle.vl_tree.specs.Statements.{target_at, targets_at, more_targets_at}
use Rattle.vl_tree.specs.Depth.{selects_depths, target_depths, targets_depths, more_targets_depths, comma_depths, more_depths}
use Rattle.vl_tree.specs.Derives.{Sinks}
use Rattle.vl_read.specs.declared.fault.Fault.{Fault}
use Rattle.vl_read.specs.Reading.{Took, Stuck, Sunk, Refuses, Any, Both, BothDepths}
use Rattle.vl_read.specs.Tokens.{one, one_deep}
use Rattle.vl_read.specs.Commas.{IsListed, EndsCommas}
use Rattle.vl_read.proofs.Pieces.{Links, stuck_here, sunk_here}
use Rattle.vl_read.proofs.Fails.{fails_first}
use Rattle.vl_read.proofs.Leads.{Leads, leads_on, leads_less, leads_as, leads_after, leads_second}
use Rattle.vl_read.proofs.TokenRules.{somewhere, same_name, took_kind, link_kind}
use denote.Ref.{Bor}
use Rattle.std.specs.Prelude.{Some}
use Rattle.vl_simple.specs.declared.target.Start.{Start}
use Rattle.vl_simple.specs.declared.target.Start.TheVariants as start
use Rattle.vl_simple.specs.Targets.{EndsTarget, BeginsTarget, targets_of}

-- ---- the plain trees

target-name-map : (n : name_code.Name) (ss : List (Selected expr_code.Expr)) → view.target (x.Name n ss) ≡ name (view.name n) (view.read_selects ss)
target-name-map n ss = search (rules, the_lemmas)

pub target-name : (n : name_code.Name) (ss : List (Selected expr_code.Expr)) → view.target (x.Name n ss) ≡ name (view.name n) (view.read_selects ss)
target-name n ss = target-name-map n ss

targets-map : (xs : List code.Target) → view.targets (map view.target xs) ≡ targets_of xs
targets-map [] = refl
targets-map (a ∷ xs) = ap (more_target (view.target a)) (targets-map xs)

target-targets-map : (p : place_code.Place) (xs : List code.Target) → view.target (x.Targets p xs) ≡ targets (view.place p) (view.targets (map view.target xs))
target-targets-map p xs = search (rules, the_lemmas)

pub target-targets : (p : place_code.Place) (xs : List code.Target) → view.target (x.Targets p xs) ≡ targets (view.place p) (targets_of xs)
target-targets p xs = target-targets-map p xs ∙ ap (targets (view.place p)) (targets-map xs)

-- ---- a list of targets is one with commas

abbrev pub joined : List Target → Targets
joined [] = no_target
joined (a ∷ xs) = more_target a (joined xs)

pub joined-of : (xs : List code.Target) → joined (map view.target xs) ≡ targets_of xs
joined-of [] = refl
joined-of (a ∷ xs) = ap (more_target (view.target a)) (joined-of xs)

more_depths-of : (d : ℕ) (xs : List Target) → more_targets_depths d (joined xs) ≡ more_depths target_depths d xs
more_depths-of d [] = refl
more_depths-of d (a ∷ xs) = ap (λ w. d ∷ (target_depths d a ++ w)) (more_depths-of d xs)

depths-of : (d : ℕ) (xs : List Target) → targets_depths d (joined xs) ≡ comma_depths target_depths d xs
depths-of d [] = refl
depths-of d (a ∷ xs) = ap (λ w. target_depths d a ++ w) (more_depths-of d xs)

more_into : (xs : List Target) (us z : List Placed) → more_of target_at xs us z → more_targets_at (joined xs) us z
more_into [] us z c = c
more_into (a ∷ xs) us z (m1, h, (m2, c, r)) = (m1, h, (m2, c, more_into xs m2 z r))

into : (xs : List Target) (us z : List Placed) → commas target_at xs us z → targets_at (joined xs) us z
into [] us z c = c
into (a ∷ xs) us z (m1, c, r) = (m1, c, more_into xs m1 z r)

more_out : (u : Targets) (us z : List Placed) → more_targets_at u us z → (xs : List Target) × more_of target_at xs us z × (u ≡ joined xs)
more_out no_target us z c = ([], c, refl)
more_out (more_target a u) us z (m1, h, (m2, c, r)) =
    let o = more_out u m2 z r in
    (a ∷ o.0, (m1, h, (m2, c, o.1)), ap (more_target a) o.2)

out : (u : Targets) (us z : List Placed) → targets_at u us z → EndsCommas EndsTarget z → (xs : List Target) × commas target_at xs us z × (u ≡ joined xs)
out no_target us z c g = absurd c
out (more_target a u) us z (m1, c, r) g = let o = more_out u m1 z r in (a ∷ o.0, (m1, c, o.1), ap (more_target a) o.2)

some_target : Target
some_target = name (record { text = []; place = somewhere }) no_select

pub target_laws : IsListed target_at EndsTarget
target_laws = record {
  comma = λ p z h. absurd cc;
  some = λ z f. (name (record { text = []; place = somewhere }) no_select, at (k.name []) somewhere ∷ z, (z, refl, refl));
}

module _ (d : ℕ) where
  pub list_part : (ts : List Placed)
      → Leads (commas target_at) (comma_depths target_depths d) (EndsCommas EndsTarget) (EndsCommas EndsTarget) ts
      targets_at (targets_depths d) (EndsCommas EndsTarget) (EndsCommas EndsTarget) ts joined
  list_part ts =
      leads_as (commas target_at) (comma_depths target_depths d) targets_at (targets_depths d) (EndsCommas EndsTarget) (EndsCommas EndsTarget)
      joined (depths-of d) into out ts

  -- ---- where no target begins

  no_target_here : (u : Target) (a : Kind) (p : Place) (us z : List Placed) → ((n : List ℕ) → a ≡ k.name n → ⊥) → (a ≡ k.mark m.OpenBrace → ⊥)
      → target_at u (at a p ∷ us) z → ⊥
  no_target_here (name n ss) a p us z f g (mid, h, r) = let e : a ≡ k.name n.text = cc in f n.text e
  no_target_here (targets q xs) a p us z f g (mid, h, r) = let e : a ≡ k.mark m.OpenBrace = cc in g e

  no_end : (u : Target) (z : List Placed) → target_at u [] z → ⊥
  no_end (name n ss) z (mid, h, r) = absurd cc
  no_end (targets q xs) z (mid, h, r) = absurd cc

  pub target_end : (ts : List Placed) → ts ≡ [] → Stuck target_at (target_depths d) EndsTarget EndsTarget ts (length ts)
  target_end ts h =
      stuck_here target_at (target_depths d) EndsTarget EndsTarget ts target_laws.some (λ a after e t y z c g. absurd cc) (λ t z c g. no_end t z c)

  pub target_stuck : (a : Kind) (p : Place) (ts rest : List Placed) → ts ≡ at a p ∷ rest
      → ((n : List ℕ) → a ≡ k.name n → ⊥) × (a ≡ k.mark m.OpenBrace → ⊥)
      → Stuck target_at (target_depths d) EndsTarget EndsTarget ts (length ts)
  target_stuck a p ts rest h f =
      stuck_here target_at (target_depths d) EndsTarget EndsTarget ts target_laws.some
      (λ b after e t y z c g.
      let i : at a p ≡ b = cc in
      no_target_here t a p y z f.0 f.1 (subst (λ w. target_at t (w ∷ y) z) (sym i) c))
      (λ t z c g. no_end t z c)

  sinks_here : (a : Placed) (ds es : List ℕ) → d ≡ 201 → ds ≡ d ∷ es → Sinks (a ∷ []) ds
  sinks_here a ds es i h = subst (Sinks (a ∷ [])) (sym h) i

  -- the first token of a target stands at the target's depth
  first_sinks : (x : Placed) (u : Target) → d ≡ 201 → Sinks (x ∷ []) (target_depths d u)
  first_sinks x (name n ss) j = j
  first_sinks x (targets p us) j = j

  pub name_sunk : (t : List ℕ) (p : Place) (ts rest : List Placed) → ts ≡ at (k.name t) p ∷ rest → d ≡ 201
      → Sunk target_at (target_depths d) EndsTarget EndsTarget ts (length ts)
  name_sunk t p ts rest h j =
      sunk_here target_at (target_depths d) EndsTarget EndsTarget ts (at (k.name t) p) rest h
      (λ z f. (name (record { text = t; place = p }) no_select, z, (z, refl, refl), sinks_here (at (k.name t) p) (d ∷ []) [] j refl))
      (λ u y z c g. first_sinks (at (k.name t) p) u j)

  pub brace_sunk : (p : Place) (ts rest : List Placed) → ts ≡ at (k.mark m.OpenBrace) p ∷ rest → d ≡ 201
      → Sunk target_at (target_depths d) EndsTarget EndsTarget ts (length ts)
  brace_sunk p ts rest h j =
      sunk_here target_at (target_depths d) EndsTarget EndsTarget ts (at (k.mark m.OpenBrace) p) rest h
      (λ z f.
      let close : List Placed = at (k.mark m.CloseBrace) somewhere ∷ z in (
        targets p (more_target (name (record { text = []; place = somewhere }) no_select) no_target),
        at (k.name []) somewhere ∷ close,
        (at (k.name []) somewhere ∷ close, refl, (close, (close, (close, refl, refl), refl), (somewhere, refl))),
        sinks_here (at (k.mark m.OpenBrace) p) (d ∷ (targets_depths (d + 1) (more_target (name (record { text = []; place = somewhere }) no_select) no_target) ++ (d ∷ [])))
            (targets_depths (d + 1) (more_target (name (record { text = []; place = somewhere }) no_select) no_target) ++ (d ∷ [])) j refl,
      ))
      (λ u y z c g. first_sinks (at (k.mark m.OpenBrace) p) u j)

  module _ (low : d ≤ 200) (p : Place) (ts us : List Placed) where
    -- ---- a name with its selects

    name_out : (t : List ℕ) (u : Target) (us z : List Placed) → target_at u (at (k.name t) p ∷ us) z → EndsTarget z
        → (ss : Selects) × selects_at ss us z × (u ≡ name (record { text = t; place = p }) ss)
    name_out t (name n ss) us z (mid, h, r) g =
        let e : t ≡ n.text = cc in
        let f : p ≡ n.place = cc in
        let i : mid ≡ us = cc in
        (ss, subst (λ w. selects_at ss w z) i r, ap (λ w. name w ss) (sym (same_name (record { text = t; place = p }) n e f)))
    name_out t (targets q xs) us z (mid, h, r) g = absurd cc

    pub name_part : (t : List ℕ) → ts ≡ at (k.name t) p ∷ us
        → Leads selects_at (selects_depths d) EndsTarget EndsTarget us target_at (target_depths d) EndsTarget EndsTarget ts
        (λ ss. name (record { text = t; place = p }) ss)
    name_part t h =
        leads_after selects_at (selects_depths d) target_at (target_depths d) EndsTarget EndsTarget (λ ss. name (record { text = t; place = p }) ss)
        (at (k.name t) p) d low (λ x. refl) (λ x us z c. (us, refl, c)) (name_out t) ts us h

    -- ---- targets in braces

    abbrev T0 : Targets × Unit {0} → List Placed → List Placed → Type 0
    T0 = Both targets_at (one (mark m.CloseBrace))

    abbrev T0D : Targets × Unit {0} → List ℕ
    T0D = BothDepths (targets_depths (d + 1)) (one_deep d)

    brace_ends : (o : Place) (z : List Placed) → EndsCommas EndsTarget (at (k.mark m.CloseBrace) o ∷ z)
    brace_ends o z = (λ h. absurd cc, λ h. absurd cc)

    t0_link : Links (one (mark m.CloseBrace)) Any Any (EndsCommas EndsTarget) (EndsCommas EndsTarget)
    t0_link = link_kind (k.mark m.CloseBrace) Any Any (EndsCommas EndsTarget) brace_ends

    targets_out : (u : Target) (us z : List Placed) → target_at u (at (k.mark m.OpenBrace) p ∷ us) z → EndsTarget z
        → (x : Targets × Unit {0}) × T0 x us z × (u ≡ targets p x.0)
    targets_out (name n ss) us z (mid, h, r) g = absurd cc
    targets_out (targets q xs) us z (mid, h, r) g =
        let e : q ≡ p = cc in
        let i : mid ≡ us = cc in
        ((xs, tt), subst (λ w. T0 (xs, tt) w z) i r, ap (λ w. targets w xs) e)

    module _ (h : ts ≡ at (k.mark m.OpenBrace) p ∷ us) where
      abbrev braces : Leads T0 T0D Any Any us target_at (target_depths d) EndsTarget EndsTarget ts (λ x. targets p x.0)
      braces =
          leads_on (leads_less T0 T0D Any Any EndsTarget EndsTarget (λ z g. tt) (λ z g. tt) us)
          (leads_after T0 T0D target_at (target_depths d) EndsTarget EndsTarget (λ x. targets p x.0) (at (k.mark m.OpenBrace) p) d low (λ x. refl)
          (λ x us z c. (us, refl, c)) targets_out ts us h)

      pub braces_fails_0 : (e : Fault) → Refuses targets_at (targets_depths (d + 1)) (EndsCommas EndsTarget) (EndsCommas EndsTarget) us e
          → Refuses target_at (target_depths d) EndsTarget EndsTarget ts e
      braces_fails_0 e r =
          braces.fails e (fails_first targets_at (targets_depths (d + 1)) (one (mark m.CloseBrace)) (one_deep d) Any Any (EndsCommas EndsTarget) (EndsCommas EndsTarget) t0_link us e r)

      module _ (xs : Targets) (t1 : List Placed)
          (q : Took targets_at (targets_depths (d + 1)) (EndsCommas EndsTarget) (EndsCommas EndsTarget) xs us t1) where
        abbrev closing : Leads (one (mark m.CloseBrace)) (one_deep d) Any Any t1 target_at (target_depths d) EndsTarget EndsTarget ts (λ u. targets p xs)
        closing =
            leads_on (leads_second targets_at (targets_depths (d + 1)) (one (mark m.CloseBrace)) (one_deep d) Any Any (EndsCommas EndsTarget) (EndsCommas EndsTarget) t0_link xs us t1 q) braces

        pub braces_fails_1 : (e : Fault) → Refuses (one (mark m.CloseBrace)) (one_deep d) Any Any t1 e
            → Refuses target_at (target_depths d) EndsTarget EndsTarget ts e
        braces_fails_1 e r = closing.fails e r

        pub braces_took : (t2 : List Placed) → (o : Place) × (t1 ≡ at (k.mark m.CloseBrace) o ∷ t2)
            → Took target_at (target_depths d) EndsTarget EndsTarget (targets p xs) ts t2
        braces_took t2 v = closing.took tt t2 (took_kind (k.mark m.CloseBrace) d low v.0 t1 t2 v.1)

-- ---- from what a token begins to the token

module _ (d : ℕ) (a : Kind) (p : Place) (ts us : List Placed) (h : ts ≡ at a p ∷ us) (s : Start) (i : BeginsTarget a (Some s)) where
  pub begins_name : (n : Bor (List ℕ)) → s ≡ start.Name n → ts ≡ at (k.name n.now) p ∷ us
  begins_name n e = h ∙ ap (λ w. at w p ∷ us) (subst (λ w. BeginsTarget a (Some w)) e i)

  pub begins_brace : s ≡ start.Brace → ts ≡ at (k.mark m.OpenBrace) p ∷ us
  begins_brace e = h ∙ ap (λ w. at w p ∷ us) (subst (λ w. BeginsTarget a (Some w)) e i)

pub start_sunk : (d : ℕ) (a : Kind) (p : Place) (s : Start) (ts us : List Placed) → ts ≡ at a p ∷ us → BeginsTarget a (Some s) → d ≡ 201
    → Sunk target_at (target_depths d) EndsTarget EndsTarget ts (length ts)
start_sunk d a p (start.Name n) ts us h i j = name_sunk d n.now p ts us (h ∙ ap (λ w. at w p ∷ us) i) j
start_sunk d a p start.Brace ts us h i j = brace_sunk d p ts us (h ∙ ap (λ w. at w p ∷ us) i) j
