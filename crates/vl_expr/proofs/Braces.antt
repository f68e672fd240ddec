-- The rules of expressions in braces, from after the first brace on.
use Rattle.std.proofs.Common.{◌≡◌, ◌≤◌, ◌+◌, ℕ, List, [], ◌∷◌, ◌++◌, refl, sym, ◌∙◌, ap, subst, append_assoc, ◌⊎◌, inl, inr}
use Rattle.vl_tree.specs.declared.token.Mark.TheVariants as m
use Rattle.vl_tree.specs.Token as k
use Rattle.vl_tree.specs.Syntax.{Place, Expr, concat, repeat}
use Rattle.vl_tree.specs.Syntax.{Exprs, no_expr, more_expr}
use Rattle.vl_tree.specs.Placed.{Placed, at}
use Rattle.vl_tree.specs.Piece.{mark, ◌then◌}
use Rattle.vl_tree.specs.Expressions.{expr_at, exprs_at, more_exprs_at}
use Rattle.vl_tree.specs.Depth.{expr_depths, exprs_depths, more_exprs_depths, enclosed}
use Rattle.vl_read.specs.declared.fault.Fault.{Fault}
use Rattle.vl_read.specs.Reading.{Took, Refuses, Any, Both, BothDepths}
use Rattle.vl_read.specs.Tokens.{one, one_deep, Not}
use Rattle.vl_read.proofs.Pieces.{Links, link_any}
use Rattle.vl_read.proofs.Fails.{fails_first}
use Rattle.vl_read.proofs.Leads.{Leads, leads_on, leads_as, leads_after, leads_second, leads_where}
use Rattle.vl_read.proofs.TokenRules.{somewhere, took_kind, link_kind, link_kind_first}
use Rattle.vl_expr.specs.Ends.{EndsExpr, EndsList}
use Rattle.vl_expr.specs.Lists.{list_after, list_after_depths, braces_at, braces_depths}
use Rattle.vl_expr.proofs.Common.{brace_list, brace_ends, open_brace_ends, comma_ends}
use Rattle.vl_expr.proofs.Commas.{rest_of, more_list, list_is}

module _ (d : ℕ) (low : d ≤ 200) (p : Place) (ts : List Placed) where
  -- what stands after the first expression: others and `}`, or a list in braces of its own and `}`
  abbrev B : Exprs ⊎ Exprs → List Placed → List Placed → Type 0
  B (inl es) = more_exprs_at es then mark m.CloseBrace
  B (inr es) = mark m.OpenBrace then exprs_at es then mark m.CloseBrace then mark m.CloseBrace

  abbrev BD : Exprs ⊎ Exprs → List ℕ
  BD (inl es) = more_exprs_depths (d + 1) es ++ (d ∷ [])
  BD (inr es) = enclosed (d + 1) (exprs_depths (d + 1 + 1) es) ++ (d ∷ [])

  abbrev B0 : Expr × (Exprs ⊎ Exprs) → List Placed → List Placed → Type 0
  B0 = Both expr_at B

  abbrev B0D : Expr × (Exprs ⊎ Exprs) → List ℕ
  B0D = BothDepths (expr_depths (d + 1)) BD

  abbrev make_braces : Expr × (Exprs ⊎ Exprs) → Expr
  make_braces (e, inl es) = concat p (more_expr e es)
  make_braces (e, inr es) = repeat p e es

  b_depths : (x : Expr × (Exprs ⊎ Exprs)) → braces_depths d (make_braces x) ≡ B0D x
  b_depths (e, inl es) = append_assoc (expr_depths (d + 1) e) (more_exprs_depths (d + 1) es) (d ∷ [])
  b_depths (e, inr es) = append_assoc (expr_depths (d + 1) e) (enclosed (d + 1) (exprs_depths (d + 1 + 1) es)) (d ∷ [])

  b_into : (x : Expr × (Exprs ⊎ Exprs)) (us z : List Placed) → B0 x us z → braces_at p (make_braces x) us z
  b_into (e, inl es) us z (mid, x, (end, y, c)) = (refl, (end, (mid, x, y), c))
  b_into (e, inr es) us z c = (refl, c)

  b_out : (u : Expr) (us z : List Placed) → braces_at p u us z → Any z → (x : Expr × (Exprs ⊎ Exprs)) × B0 x us z × (u ≡ make_braces x)
  b_out (concat q no_expr) us z (i, (mid, x, r)) g = absurd x
  b_out (concat q (more_expr e es)) us z (i, (end, (mid, x, y), c)) g = ((e, inl es), (mid, x, (end, y, c)), ap (λ w. concat w (more_expr e es)) i)
  b_out (repeat q n es) us z (i, c) g = ((n, inr es), c, ap (λ w. repeat w n es) i)
  b_out u us z c g = absurd c

  b_starts : (u : Exprs ⊎ Exprs) (a z : List Placed) → B u a z → EndsExpr a
  b_starts (inl no_expr) a z (mid, e, (q, h)) = subst EndsExpr (sym (e ∙ h)) (brace_ends q z)
  b_starts (inl (more_expr x es)) a z (end, (mid, (q, h), r), c) = subst EndsExpr (sym h) (comma_ends q mid)
  b_starts (inr es) a z (mid, (q, h), r) = subst EndsExpr (sym h) (open_brace_ends q mid)

  b_link : Links B Any Any EndsExpr EndsExpr
  b_link = record {
    some = λ z f. (inl no_expr, at (k.mark m.CloseBrace) somewhere ∷ z, (at (k.mark m.CloseBrace) somewhere ∷ z, refl, (somewhere, refl)), brace_ends somewhere z);
    empty = λ u z c f. b_starts u z z c;
    starts = λ u a z c g. b_starts u a z c;
  }

  abbrev braces : Leads B0 B0D Any Any ts (braces_at p) (braces_depths d) Any Any ts make_braces
  braces = leads_as B0 B0D (braces_at p) (braces_depths d) Any Any make_braces b_depths b_into b_out ts

  pub braces_fails : (e : Fault) → Refuses expr_at (expr_depths (d + 1)) EndsExpr EndsExpr ts e
      → Refuses (braces_at p) (braces_depths d) Any Any ts e
  braces_fails e r = braces.fails e (fails_first expr_at (expr_depths (d + 1)) B BD Any Any EndsExpr EndsExpr b_link ts e r)

  module _ (x : Expr) (t1 : List Placed) (q : Took expr_at (expr_depths (d + 1)) EndsExpr EndsExpr x ts t1) where
    abbrev braces_next : Leads B BD Any Any t1 (braces_at p) (braces_depths d) Any Any ts (λ u. make_braces (x, u))
    braces_next = leads_on (leads_second expr_at (expr_depths (d + 1)) B BD Any Any EndsExpr EndsExpr b_link x ts t1 q) braces

    -- ---- others, and the last brace

    abbrev J : Exprs × Unit {0} → List Placed → List Placed → Type 0
    J = Both more_exprs_at (one (mark m.CloseBrace))

    abbrev JD : Exprs × Unit {0} → List ℕ
    JD = BothDepths (more_exprs_depths (d + 1)) (one_deep d)

    j_link : Links (one (mark m.CloseBrace)) Any Any EndsList EndsList
    j_link = link_kind (k.mark m.CloseBrace) Any Any EndsList brace_list

    j_out : (u : Exprs ⊎ Exprs) (us z : List Placed) → Not (k.mark m.OpenBrace) us → B u us z → Any z
        → (v : Exprs × Unit {0}) × J v us z × (u ≡ inl v.0)
    j_out (inl es) us z o c g = ((es, tt), c, refl)
    j_out (inr es) us z o (mid, (w, h), r) g = absurd ((subst (Not (k.mark m.OpenBrace)) h o) refl)

    no_brace : Not (k.mark m.OpenBrace) t1 → (a : Placed) (after : List Placed) → t1 ≡ a ∷ after → (y : List Placed)
        → Not (k.mark m.OpenBrace) (a ∷ y)
    no_brace n a after e y = subst (Not (k.mark m.OpenBrace)) e n

    module _ (n : Not (k.mark m.OpenBrace) t1) where
      abbrev concat_part : Leads J JD Any Any t1 (braces_at p) (braces_depths d) Any Any ts (λ v. concat p (more_expr x v.0))
      concat_part =
          leads_on (leads_where (Not (k.mark m.OpenBrace)) t1 tt (no_brace n) J JD B BD Any Any (λ v. inl v.0) (λ v. refl) (λ v us z c. c) j_out) braces_next

      pub concat_fails_0 : (e : Fault) → Refuses (list_after x) (list_after_depths (d + 1)) EndsList EndsList t1 e
          → Refuses (braces_at p) (braces_depths d) Any Any ts e
      concat_fails_0 e r =
          concat_part.fails e (fails_first more_exprs_at (more_exprs_depths (d + 1)) (one (mark m.CloseBrace)) (one_deep d) Any Any EndsList EndsList j_link t1 e
          ((more_list (d + 1) x t1).fails e r))

      module _ (u : Exprs) (t2 : List Placed) (o : Took (list_after x) (list_after_depths (d + 1)) EndsList EndsList u t1 t2) where
        abbrev concat_close : Leads (one (mark m.CloseBrace)) (one_deep d) Any Any t2 (braces_at p) (braces_depths d) Any Any ts
            (λ v. concat p (more_expr x (rest_of (d + 1) u)))
        concat_close =
            leads_on (leads_second more_exprs_at (more_exprs_depths (d + 1)) (one (mark m.CloseBrace)) (one_deep d) Any Any EndsList EndsList j_link (rest_of (d + 1) u) t1 t2
            ((more_list (d + 1) x t1).took u t2 o)) concat_part

        pub concat_fails_1 : (e : Fault) → Refuses (one (mark m.CloseBrace)) (one_deep d) Any Any t2 e
            → Refuses (braces_at p) (braces_depths d) Any Any ts e
        concat_fails_1 e r = concat_close.fails e r

        pub concat_took : (t3 : List Placed) → (w : Place) × (t2 ≡ at (k.mark m.CloseBrace) w ∷ t3)
            → Took (braces_at p) (braces_depths d) Any Any (concat p u) ts t3
        concat_took t3 v =
            subst (λ w. Took (braces_at p) (braces_depths d) Any Any (concat p w) ts t3) (list_is (d + 1) x u t1 t2 o.here)
            (concat_close.took tt t3 (took_kind (k.mark m.CloseBrace) d low v.0 t2 t3 v.1))

    -- ---- a list in braces of its own

    abbrev R2 : Unit {0} × Unit {0} → List Placed → List Placed → Type 0
    R2 = Both (one (mark m.CloseBrace)) (one (mark m.CloseBrace))

    abbrev R2D : Unit {0} × Unit {0} → List ℕ
    R2D = BothDepths (one_deep (d + 1)) (one_deep d)

    abbrev R1 : Exprs × (Unit {0} × Unit {0}) → List Placed → List Placed → Type 0
    R1 = Both exprs_at R2

    abbrev R1D : Exprs × (Unit {0} × Unit {0}) → List ℕ
    R1D = BothDepths (exprs_depths (d + 1 + 1)) R2D

    r2_link : Links R2 Any Any EndsList EndsList
    r2_link =
        link_kind_first (k.mark m.CloseBrace) Any Any EndsList brace_list (one (mark m.CloseBrace))
        (λ z f. (tt, at (k.mark m.CloseBrace) somewhere ∷ z, (somewhere, refl)))

    r3_link : Links (one (mark m.CloseBrace)) Any Any Any Any
    r3_link = link_any (one (mark m.CloseBrace)) Any Any (λ z f. (tt, at (k.mark m.CloseBrace) somewhere ∷ z, (somewhere, refl)))

    module _ (low2 : d + 1 ≤ 200) (o : Place) (us : List Placed) (h : t1 ≡ at (k.mark m.OpenBrace) o ∷ us) where
      abbrev make_repeat : Exprs × (Unit {0} × Unit {0}) → Exprs ⊎ Exprs
      make_repeat v = inr v.0

      r_out : (u : Exprs ⊎ Exprs) (us z : List Placed) → B u (at (k.mark m.OpenBrace) o ∷ us) z → Any z
          → (v : Exprs × (Unit {0} × Unit {0})) × R1 v us z × (u ≡ make_repeat v)
      r_out (inl no_expr) us z (mid, e, (w, i)) g = let j = e ∙ i in absurd cc
      r_out (inl (more_expr y es)) us z (end, (mid, (w, i), r), c) g = absurd cc
      r_out (inr es) us z (mid, (w, i), r) g = let f : mid ≡ us = cc in ((es, (tt, tt)), subst (λ y. R1 (es, (tt, tt)) y z) f r, refl)

      r_depths : (v : Exprs × (Unit {0} × Unit {0})) → BD (make_repeat v) ≡ (d + 1) ∷ R1D v
      r_depths v = ap (λ w. (d + 1) ∷ w) (append_assoc (exprs_depths (d + 1 + 1) v.0) ((d + 1) ∷ []) (d ∷ []))

      abbrev repeat_part : Leads R1 R1D Any Any us (braces_at p) (braces_depths d) Any Any ts (λ v. repeat p x v.0)
      repeat_part =
          leads_on (leads_after R1 R1D B BD Any Any make_repeat (at (k.mark m.OpenBrace) o) (d + 1) low2 r_depths (λ v us z c. (us, (o, refl), c)) r_out t1 us h) braces_next

      pub repeat_fails_0 : (e : Fault) → Refuses exprs_at (exprs_depths (d + 1 + 1)) EndsList EndsList us e
          → Refuses (braces_at p) (braces_depths d) Any Any ts e
      repeat_fails_0 e r = repeat_part.fails e (fails_first exprs_at (exprs_depths (d + 1 + 1)) R2 R2D Any Any EndsList EndsList r2_link us e r)

      module _ (es : Exprs) (t2 : List Placed) (i : Took exprs_at (exprs_depths (d + 1 + 1)) EndsList EndsList es us t2) where
        abbrev repeat_close : Leads R2 R2D Any Any t2 (braces_at p) (braces_depths d) Any Any ts (λ v. repeat p x es)
        repeat_close = leads_on (leads_second exprs_at (exprs_depths (d + 1 + 1)) R2 R2D Any Any EndsList EndsList r2_link es us t2 i) repeat_part

        pub repeat_fails_1 : (e : Fault) → Refuses (one (mark m.CloseBrace)) (one_deep (d + 1)) Any Any t2 e
            → Refuses (braces_at p) (braces_depths d) Any Any ts e
        repeat_fails_1 e r =
            repeat_close.fails e (fails_first (one (mark m.CloseBrace)) (one_deep (d + 1)) (one (mark m.CloseBrace)) (one_deep d) Any Any Any Any r3_link t2 e r)

        module _ (t3 : List Placed) (v : (w : Place) × (t2 ≡ at (k.mark m.CloseBrace) w ∷ t3)) where
          abbrev repeat_end : Leads (one (mark m.CloseBrace)) (one_deep d) Any Any t3 (braces_at p) (braces_depths d) Any Any ts (λ u. repeat p x es)
          repeat_end =
              leads_on (leads_second (one (mark m.CloseBrace)) (one_deep (d + 1)) (one (mark m.CloseBrace)) (one_deep d) Any Any Any Any r3_link tt t2 t3
              (took_kind (k.mark m.CloseBrace) (d + 1) low2 v.0 t2 t3 v.1)) repeat_close

          pub repeat_fails_2 : (e : Fault) → Refuses (one (mark m.CloseBrace)) (one_deep d) Any Any t3 e
              → Refuses (braces_at p) (braces_depths d) Any Any ts e
          repeat_fails_2 e r = repeat_end.fails e r

          pub repeat_took : (t4 : List Placed) → (w : Place) × (t3 ≡ at (k.mark m.CloseBrace) w ∷ t4)
              → Took (braces_at p) (braces_depths d) Any Any (repeat p x es) ts t4
          repeat_took t4 w = repeat_end.took tt t4 (took_kind (k.mark m.CloseBrace) d low w.0 t3 t4 w.1)
