-- The rules of expressions with commas between them.
use Rattle.std.proofs.Common.{◌≡◌, ◌≤◌, ℕ, List, [], ◌∷◌, refl, sym, ap, subst}
use Rattle.std.specs.Prelude.{Result, Ok, Err}
use Rattle.vl_tree.specs.declared.token.Mark.TheVariants as m
use Rattle.vl_tree.specs.Token as k
use Rattle.vl_tree.specs.Syntax.{Place, Expr, Exprs, no_expr, more_expr}
use Rattle.vl_tree.specs.Placed.{Placed, at, kind_of}
use Rattle.vl_tree.specs.Expressions.{expr_at, exprs_at, more_exprs_at}
use Rattle.vl_tree.specs.Depth.{expr_depths, exprs_depths, more_exprs_depths}
use Rattle.vl_read.specs.declared.fault.Fault.{Fault}
use Rattle.vl_read.specs.Reading.{Took, Refuses, Reads, Both, BothDepths}
use Rattle.vl_read.specs.Tokens.{Not}
use Rattle.vl_read.proofs.Pieces.{Links, took_empty}
use Rattle.vl_read.proofs.Fails.{fails_first}
use Rattle.vl_read.proofs.Leads.{Leads, leads_on, leads_as, leads_after, leads_second}
use Rattle.vl_expr.specs.Ends.{EndsExpr, EndsList}
use Rattle.vl_expr.specs.Lists.{list_after, list_after_depths}
use Rattle.vl_expr.proofs.Common.{comma_ends}

module _ (d : ℕ) where
  abbrev M0 : Expr × Exprs → List Placed → List Placed → Type 0
  M0 = Both expr_at more_exprs_at

  abbrev M0D : Expr × Exprs → List ℕ
  M0D = BothDepths (expr_depths d) (more_exprs_depths d)

  abbrev make_more : Expr × Exprs → Exprs
  make_more x = more_expr x.0 x.1

  more_starts : (u : Exprs) (a z : List Placed) → more_exprs_at u a z → EndsList z → EndsExpr a
  more_starts no_expr a z c g = subst EndsExpr (sym c) g.1
  more_starts (more_expr e es) a z (mid, (p, h), r) g = subst EndsExpr (sym h) (comma_ends p mid)

  pub more_link : Links more_exprs_at EndsList EndsList EndsExpr EndsExpr
  more_link = record { some = λ z f. (no_expr, z, refl, f.1); empty = λ u z c f. f.1; starts = more_starts }

  -- ---- a comma before each

  module _ (p : Place) where
    comma_into : (x : Expr × Exprs) (us z : List Placed) → M0 x us z → more_exprs_at (make_more x) (at (k.mark m.Comma) p ∷ us) z
    comma_into x us z c = (us, (p, refl), c)

    comma_out : (u : Exprs) (us z : List Placed) → more_exprs_at u (at (k.mark m.Comma) p ∷ us) z → EndsList z
        → (x : Expr × Exprs) × M0 x us z × (u ≡ make_more x)
    comma_out no_expr us z c g = absurd ((subst (Not (k.mark m.Comma)) (sym c) g.0) refl)
    comma_out (more_expr e es) us z (mid, (q, h), r) g = let f : mid ≡ us = cc in ((e, es), subst (λ w. M0 (e, es) w z) f r, refl)

    module _ (low : d ≤ 200) (ts us : List Placed) (h : ts ≡ at (k.mark m.Comma) p ∷ us) where
      abbrev comma : Leads M0 M0D EndsList EndsList us more_exprs_at (more_exprs_depths d) EndsList EndsList ts make_more
      comma =
          leads_after M0 M0D more_exprs_at (more_exprs_depths d) EndsList EndsList make_more (at (k.mark m.Comma) p) d low (λ x. refl)
          comma_into comma_out ts us h

      pub more_fails : (e : Fault) → Refuses expr_at (expr_depths d) EndsExpr EndsExpr us e
          → Refuses more_exprs_at (more_exprs_depths d) EndsList EndsList ts e
      more_fails e r =
          comma.fails e (fails_first expr_at (expr_depths d) more_exprs_at (more_exprs_depths d) EndsList EndsList EndsExpr EndsExpr more_link us e r)

      pub more_next : (x : Expr) (t1 : List Placed) → Took expr_at (expr_depths d) EndsExpr EndsExpr x us t1
          → Leads more_exprs_at (more_exprs_depths d) EndsList EndsList t1 more_exprs_at (more_exprs_depths d) EndsList EndsList ts
          (λ es. more_expr x es)
      more_next x t1 q =
          leads_on (leads_second expr_at (expr_depths d) more_exprs_at (more_exprs_depths d) EndsList EndsList EndsExpr EndsExpr more_link x us t1 q) comma

  no_more : (u : Exprs) (a : Placed) (y z : List Placed) → (kind_of a ≡ k.mark m.Comma → ⊥) → more_exprs_at u (a ∷ y) z
      → (u ≡ no_expr) × (z ≡ a ∷ y)
  no_more no_expr a y z n c = (refl, sym c)
  no_more (more_expr e es) a y z n (mid, (p, h), r) = let q : a ≡ at (k.mark m.Comma) p = cc in absurd (n (ap kind_of q))

  no_more_end : (u : Exprs) (z : List Placed) → more_exprs_at u [] z → (u ≡ no_expr) × (z ≡ [])
  no_more_end no_expr z c = (refl, sym c)
  no_more_end (more_expr e es) z (mid, (p, h), r) = absurd cc

  pub more_none : (ts : List Placed) → Not (k.mark m.Comma) ts
      → Took more_exprs_at (more_exprs_depths d) EndsList EndsList no_expr ts ts
  more_none ts f =
      took_empty more_exprs_at (more_exprs_depths d) EndsList EndsList no_expr (λ z. refl) refl ts
      (λ a after e u y z c g. no_more u a y z (subst (Not (k.mark m.Comma)) e f) c) (λ u z c g. no_more_end u z c)

  -- ---- from a first expression on

  after_out : (e : Expr) (u : Exprs) (us z : List Placed) → list_after e u us z → EndsList z
      → (x : Exprs) × more_exprs_at x us z × (u ≡ more_expr e x)
  after_out e no_expr us z c g = absurd c
  after_out e (more_expr f es) us z c g = (es, c.1, ap (λ w. more_expr w es) c.0)

  -- what comes after the first makes the list from it on
  pub list_more : (e : Expr) (ts : List Placed)
      → Leads more_exprs_at (more_exprs_depths d) EndsList EndsList ts (list_after e) (list_after_depths d) EndsList EndsList ts
      (λ es. more_expr e es)
  list_more e ts =
      leads_as more_exprs_at (more_exprs_depths d) (list_after e) (list_after_depths d) EndsList EndsList (λ es. more_expr e es)
      (λ x. refl) (λ x us z c. (refl, c)) (after_out e) ts

  abbrev pub rest_of : Exprs → Exprs
  rest_of no_expr = no_expr
  rest_of (more_expr e es) = es

  rest_depths : (u : Exprs) → more_exprs_depths d (rest_of u) ≡ list_after_depths d u
  rest_depths no_expr = refl
  rest_depths (more_expr e es) = refl

  rest_into : (e : Expr) (u : Exprs) (us z : List Placed) → list_after e u us z → more_exprs_at (rest_of u) us z
  rest_into e no_expr us z c = absurd c
  rest_into e (more_expr f es) us z c = c.1

  -- and back
  pub more_list : (e : Expr) (ts : List Placed)
      → Leads (list_after e) (list_after_depths d) EndsList EndsList ts more_exprs_at (more_exprs_depths d) EndsList EndsList ts rest_of
  more_list e ts =
      leads_as (list_after e) (list_after_depths d) more_exprs_at (more_exprs_depths d) EndsList EndsList rest_of rest_depths
      (rest_into e) (λ u us z c g. (more_expr e u, (refl, c), refl)) ts

  pub list_is : (e : Expr) (u : Exprs) (us z : List Placed) → list_after e u us z → more_expr e (rest_of u) ≡ u
  list_is e no_expr us z c = absurd c
  list_is e (more_expr f es) us z c = ap (λ w. more_expr w es) (sym c.0)

  -- ---- the whole list

  exprs_out : (u : Exprs) (us z : List Placed) → exprs_at u us z → EndsList z → (x : Expr × Exprs) × M0 x us z × (u ≡ make_more x)
  exprs_out no_expr us z c g = absurd c
  exprs_out (more_expr e es) us z c g = ((e, es), c, refl)

  module _ (ts : List Placed) where
    abbrev whole : Leads M0 M0D EndsList EndsList ts exprs_at (exprs_depths d) EndsList EndsList ts make_more
    whole =
        leads_as M0 M0D exprs_at (exprs_depths d) EndsList EndsList make_more (λ x. refl) (λ x us z c. c) exprs_out ts

    pub list_fails : (e : Fault) → Refuses expr_at (expr_depths d) EndsExpr EndsExpr ts e
        → Refuses exprs_at (exprs_depths d) EndsList EndsList ts e
    list_fails e r =
        whole.fails e (fails_first expr_at (expr_depths d) more_exprs_at (more_exprs_depths d) EndsList EndsList EndsExpr EndsExpr more_link ts e r)

    module _ (x : Expr) (t1 : List Placed) (q : Took expr_at (expr_depths d) EndsExpr EndsExpr x ts t1) where
      list_rest : Leads (list_after x) (list_after_depths d) EndsList EndsList t1 exprs_at (exprs_depths d) EndsList EndsList ts
          (λ u. more_expr x (rest_of u))
      list_rest =
          leads_on (more_list x t1)
          (leads_on (leads_second expr_at (expr_depths d) more_exprs_at (more_exprs_depths d) EndsList EndsList EndsExpr EndsExpr more_link x ts t1 q) whole)

      -- the first, and the list from it on
      pub list_reads : {X : Type 0} (view : X → Exprs) (r : Result (X × List Placed) Fault)
          → Reads view (list_after x) (list_after_depths d) EndsList EndsList t1 r
          → Reads view exprs_at (exprs_depths d) EndsList EndsList ts r
      list_reads view (Ok u) p =
          subst (λ w. Took exprs_at (exprs_depths d) EndsList EndsList w ts u.1) (list_is x (view u.0) t1 u.1 p.here)
          (list_rest.took (view u.0) u.1 p)
      list_reads view (Err e) p = list_rest.fails e p
