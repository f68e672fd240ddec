-- The rules of selects.
use Rattle.std.proofs.Common.{◌≡◌, ◌≤◌, ◌+◌, ℕ, List, [], ◌∷◌, refl, sym, ap, subst, append_assoc, append-nil, arith}
use Rattle.std.specs.Prelude.{Option, Some, None}
use Rattle.vl_tree.specs.declared.token.Mark.TheVariants as m
use Rattle.vl_tree.specs.Token as k
use Rattle.vl_tree.specs.Syntax.{Place, Expr, Selects, no_select, more_select, Select, index, part, upward, downward}
use Rattle.vl_tree.specs.Placed.{Placed, at, kind_of}
use Rattle.vl_tree.specs.Piece.{mark}
use Rattle.vl_tree.specs.Expressions.{expr_at, selects_at, select_at}
use Rattle.vl_tree.specs.Depth.{expr_depths, selects_depths, select_depths}
use Rattle.vl_read.specs.declared.fault.Fault.{Fault}
use Rattle.vl_read.specs.Reading.{Took, Refuses, Any, Both, BothDepths}
use Rattle.vl_read.specs.Tokens.{one, one_deep}
use Rattle.vl_read.proofs.Pieces.{Links, link_any, took_empty}
use Rattle.vl_read.proofs.Fails.{fails_first}
use Rattle.vl_read.proofs.Leads.{Leads, leads_on, leads_less, leads_as, leads_after, leads_second}
use Rattle.vl_read.proofs.TokenRules.{took_kind, link_kind_first}
use Rattle.vl_expr.specs.declared.operators.Separator.{Separator}
use Rattle.vl_expr.specs.declared.operators.Separator.TheVariants as sep
use Rattle.vl_expr.specs.Ends.{EndsExpr, EndsSelect, NoSeparator, separator_mark, next_level}
use Rattle.vl_expr.specs.Lists.{second_at, second_depths, select_of}
use Rattle.vl_expr.proofs.Common.{NB, bracket_ends}

-- ---- one select after another

module _ (d : ℕ) where
  abbrev S1 : Unit {0} × Selects → List Placed → List Placed → Type 0
  S1 = Both (one (mark m.CloseBracket)) selects_at

  abbrev S1D : Unit {0} × Selects → List ℕ
  S1D = BothDepths (one_deep d) (selects_depths d)

  abbrev S0 : Select × (Unit {0} × Selects) → List Placed → List Placed → Type 0
  S0 = Both select_at S1

  abbrev S0D : Select × (Unit {0} × Selects) → List ℕ
  S0D = BothDepths (select_depths (d + 1)) S1D

  s1_link : Links S1 NB NB EndsSelect EndsSelect
  s1_link = link_kind_first (k.mark m.CloseBracket) NB NB EndsSelect bracket_ends selects_at (λ z f. (no_select, z, refl))

  ss_link : Links selects_at NB NB Any Any
  ss_link = link_any selects_at NB NB (λ z f. (no_select, z, refl))

  module _ (p : Place) where
    abbrev make_select : Select × (Unit {0} × Selects) → Selects
    make_select x = more_select p x.0 x.1.1

    selects_depth : (x : Select × (Unit {0} × Selects)) → selects_depths d (make_select x) ≡ d ∷ S0D x
    selects_depth x = ap (λ w. d ∷ w) (append_assoc (select_depths (d + 1) x.0) (d ∷ []) (selects_depths d x.1.1))

    select_into : (x : Select × (Unit {0} × Selects)) (us z : List Placed) → S0 x us z
        → selects_at (make_select x) (at (k.mark m.OpenBracket) p ∷ us) z
    select_into x us z c = (us, refl, c)

    select_out : (u : Selects) (us z : List Placed) → selects_at u (at (k.mark m.OpenBracket) p ∷ us) z → NB z
        → (x : Select × (Unit {0} × Selects)) × S0 x us z × (u ≡ make_select x)
    select_out no_select us z c g = absurd ((subst NB (sym c) g) refl)
    select_out (more_select q i ss) us z c g =
        let h : c.0 ≡ us = cc in
        let j : q ≡ p = cc in
        ((i, (tt, ss)), subst (λ w. S0 (i, (tt, ss)) w z) h c.2, ap (λ w. more_select w i ss) j)

    module _ (low : d ≤ 200) (ts us : List Placed) (h : ts ≡ at (k.mark m.OpenBracket) p ∷ us) where
      abbrev start : Leads S0 S0D NB NB us selects_at (selects_depths d) NB NB ts make_select
      start =
          leads_after S0 S0D selects_at (selects_depths d) NB NB make_select (at (k.mark m.OpenBracket) p) d low selects_depth
          select_into select_out ts us h

      pub selects_fails_0 : (e : Fault) → Refuses select_at (select_depths (d + 1)) EndsSelect EndsSelect us e
          → Refuses selects_at (selects_depths d) NB NB ts e
      selects_fails_0 e r = start.fails e (fails_first select_at (select_depths (d + 1)) S1 S1D NB NB EndsSelect EndsSelect s1_link us e r)

      module _ (i : Select) (t1 : List Placed) (q : Took select_at (select_depths (d + 1)) EndsSelect EndsSelect i us t1) where
        abbrev closing : Leads S1 S1D NB NB t1 selects_at (selects_depths d) NB NB ts (λ u. make_select (i, u))
        closing = leads_on (leads_second select_at (select_depths (d + 1)) S1 S1D NB NB EndsSelect EndsSelect s1_link i us t1 q) start

        pub selects_fails_1 : (e : Fault) → Refuses (one (mark m.CloseBracket)) (one_deep d) Any Any t1 e
            → Refuses selects_at (selects_depths d) NB NB ts e
        selects_fails_1 e r =
            closing.fails e (fails_first (one (mark m.CloseBracket)) (one_deep d) selects_at (selects_depths d) NB NB Any Any ss_link t1 e r)

        pub selects_next : (t2 : List Placed) → (o : Place) × (t1 ≡ at (k.mark m.CloseBracket) o ∷ t2)
            → Leads selects_at (selects_depths d) NB NB t2 selects_at (selects_depths d) NB NB ts (λ ss. more_select p i ss)
        selects_next t2 w =
            leads_on (leads_second (one (mark m.CloseBracket)) (one_deep d) selects_at (selects_depths d) NB NB Any Any ss_link tt t1 t2
            (took_kind (k.mark m.CloseBracket) d low w.0 t1 t2 w.1)) closing

  no_more_selects : (u : Selects) (a : Placed) (y z : List Placed) → (kind_of a ≡ k.mark m.OpenBracket → ⊥) → selects_at u (a ∷ y) z
      → (u ≡ no_select) × (z ≡ a ∷ y)
  no_more_selects no_select a y z n c = (refl, sym c)
  no_more_selects (more_select q i ss) a y z n c = let e : a ≡ at (k.mark m.OpenBracket) q = cc in absurd (n (ap kind_of e))

  no_selects_end : (u : Selects) (z : List Placed) → selects_at u [] z → (u ≡ no_select) × (z ≡ [])
  no_selects_end no_select z c = (refl, sym c)
  no_selects_end (more_select q i ss) z c = absurd cc

  pub selects_none : (ts : List Placed) → NB ts → Took selects_at (selects_depths d) NB NB no_select ts ts
  selects_none ts f =
      took_empty selects_at (selects_depths d) NB NB no_select (λ z. refl) refl ts
      (λ a after e u y z c g. no_more_selects u a y z (subst NB e f) c) (λ u z c g. no_selects_end u z c)

  -- ---- what stands between the brackets

  abbrev P0 : Expr × Option (Separator × Expr) → List Placed → List Placed → Type 0
  P0 = Both expr_at second_at

  abbrev P0D : Expr × Option (Separator × Expr) → List ℕ
  P0D = BothDepths (expr_depths d) (second_depths d)

  separator_ends : (s : Separator) → 12 ≤ next_level (k.mark (separator_mark s))
  separator_ends sep.Part = omega arith
  separator_ends sep.Upward = omega arith
  separator_ends sep.Downward = omega arith

  second_starts : (u : Option (Separator × Expr)) (a z : List Placed) → second_at u a z → EndsSelect z → EndsExpr a
  second_starts None a z c g = subst EndsExpr (sym c) g.1
  second_starts (Some x) a z c g = subst EndsExpr (sym c.1.1) (separator_ends x.0)

  second_link : Links second_at EndsSelect EndsSelect EndsExpr EndsExpr
  second_link = record {
    some = λ z f. (None, z, refl, f.1);
    empty = λ u z c f. f.1;
    starts = second_starts;
  }

  abbrev make_part : Expr × Option (Separator × Expr) → Select
  make_part x = select_of x.0 x.1

  part_depths : (a : Expr) (o : Option (Separator × Expr)) → select_depths d (select_of a o) ≡ P0D (a, o)
  part_depths a None = sym (append-nil (expr_depths d a))
  part_depths a (Some (sep.Part, b)) = refl
  part_depths a (Some (sep.Upward, b)) = refl
  part_depths a (Some (sep.Downward, b)) = refl

  part_into : (a : Expr) (o : Option (Separator × Expr)) (us z : List Placed) → P0 (a, o) us z → select_at (select_of a o) us z
  part_into a None us z c = subst (λ w. expr_at a us w) c.2 c.1
  part_into a (Some (sep.Part, b)) us z c = c
  part_into a (Some (sep.Upward, b)) us z c = c
  part_into a (Some (sep.Downward, b)) us z c = c

  part_out : (u : Select) (us z : List Placed) → select_at u us z → EndsSelect z
      → (x : Expr × Option (Separator × Expr)) × P0 x us z × (u ≡ make_part x)
  part_out (index a) us z c g = ((a, None), (z, c, refl), refl)
  part_out (part a b) us z c g = ((a, Some (sep.Part, b)), c, refl)
  part_out (upward a b) us z c g = ((a, Some (sep.Upward, b)), c, refl)
  part_out (downward a b) us z c g = ((a, Some (sep.Downward, b)), c, refl)

  module _ (ts : List Placed) where
    abbrev parts : Leads P0 P0D EndsSelect EndsSelect ts select_at (select_depths d) EndsSelect EndsSelect ts make_part
    parts =
        leads_as P0 P0D select_at (select_depths d) EndsSelect EndsSelect make_part (λ x. part_depths x.0 x.1)
        (λ x us z c. part_into x.0 x.1 us z c) part_out ts

    pub select_fails_0 : (e : Fault) → Refuses expr_at (expr_depths d) EndsExpr EndsExpr ts e
        → Refuses select_at (select_depths d) EndsSelect EndsSelect ts e
    select_fails_0 e r = parts.fails e (fails_first expr_at (expr_depths d) second_at (second_depths d) EndsSelect EndsSelect EndsExpr EndsExpr second_link ts e r)

    module _ (a : Expr) (t1 : List Placed) (q : Took expr_at (expr_depths d) EndsExpr EndsExpr a ts t1) where
      abbrev second : Leads second_at (second_depths d) EndsSelect EndsSelect t1 select_at (select_depths d) EndsSelect EndsSelect ts
          (λ o. select_of a o)
      second = leads_on (leads_second expr_at (expr_depths d) second_at (second_depths d) EndsSelect EndsSelect EndsExpr EndsExpr second_link a ts t1 q) parts

      no_second : (u : Option (Separator × Expr)) (b : Placed) (y z : List Placed) → NoSeparator (b ∷ y) → second_at u (b ∷ y) z
          → (u ≡ None) × (z ≡ b ∷ y)
      no_second None b y z n c = (refl, sym c)
      no_second (Some x) b y z n c =
          let e : b ≡ at (k.mark (separator_mark x.0)) c.1.0 = cc in
          absurd (n x.0 (ap kind_of e))

      no_second_end : (u : Option (Separator × Expr)) (z : List Placed) → second_at u [] z → (u ≡ None) × (z ≡ [])
      no_second_end None z c = (refl, sym c)
      no_second_end (Some x) z c = let e = c.1.1 in absurd cc

      -- one expression alone
      pub select_alone : NoSeparator t1 → Took select_at (select_depths d) EndsSelect EndsSelect (index a) ts t1
      select_alone n =
          second.took None t1 (took_empty second_at (second_depths d) EndsSelect EndsSelect None (λ z. refl) refl t1
          (λ b after e u y z c g. no_second u b y z (subst NoSeparator e n) c) (λ u z c g. no_second_end u z c))

      module _ (low : d ≤ 200) (s : Separator) (t2 : List Placed) (w : (o : Place) × (t1 ≡ at (k.mark (separator_mark s)) o ∷ t2)) where
        same_separator : (x s : Separator) → separator_mark x ≡ separator_mark s → x ≡ s
        same_separator sep.Part sep.Part h = refl
        same_separator sep.Part sep.Upward h = absurd cc
        same_separator sep.Part sep.Downward h = absurd cc
        same_separator sep.Upward sep.Part h = absurd cc
        same_separator sep.Upward sep.Upward h = refl
        same_separator sep.Upward sep.Downward h = absurd cc
        same_separator sep.Downward sep.Part h = absurd cc
        same_separator sep.Downward sep.Upward h = absurd cc
        same_separator sep.Downward sep.Downward h = refl

        second_out : (u : Option (Separator × Expr)) (us z : List Placed)
            → second_at u (at (k.mark (separator_mark s)) w.0 ∷ us) z → EndsSelect z
            → (b : Expr) × expr_at b us z × (u ≡ Some (s, b))
        second_out None us z c g = absurd ((subst NoSeparator (sym c) g.0) s refl)
        second_out (Some x) us z c g =
            let h : c.0 ≡ us = cc in
            let i : separator_mark x.0 ≡ separator_mark s = cc in
            (x.1, subst (λ v. expr_at x.1 v z) h c.2, ap (λ v. Some (v, x.1)) (same_separator x.0 s i))

        -- a separator and another expression
        pub select_second : Leads expr_at (expr_depths d) EndsExpr EndsExpr t2 select_at (select_depths d) EndsSelect EndsSelect ts
            (λ b. select_of a (Some (s, b)))
        select_second =
            leads_on (leads_less expr_at (expr_depths d) EndsExpr EndsExpr EndsSelect EndsSelect (λ z f. f.1) (λ z f. f.1) t2)
            (leads_on (leads_after expr_at (expr_depths d) second_at (second_depths d) EndsSelect EndsSelect (λ b. Some (s, b))
            (at (k.mark (separator_mark s)) w.0) d low (λ x. refl) (λ x us z c. (us, (w.0, refl), c)) second_out t1 t2 w.1) second)
