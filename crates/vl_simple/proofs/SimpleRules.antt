-- The rules of statements that hold no other.
use Rattle.std.proofs.Common.{◌≡◌, ◌≤◌, ◌+◌, ℕ, List, [], ◌∷◌, ◌++◌, length, refl, sym, ◌∙◌, ap, subst}
use Rattle.std.specs.Prelude.{Option, Some, None}
use Rattle.vl_tree.specs.declared.token.Mark.TheVariants as m
use Rattle.vl_tree.specs.declared.token.TokenKind.{TokenKind}
use Rattle.vl_tree.specs.declared.token.TokenKind.TheVariants as code
use Rattle.vl_tree.specs.Token.{Kind, coded_kind}
use Rattle.vl_tree.specs.Token as k
use Rattle.vl_tree.specs.Syntax.{Place, Expr, Exprs, no_expr, Target, Assignment, blocking, nonblocking}
use Rattle.vl_tree.specs.Syntax.{Printed, bare, empty_list, format, Stopped, no_argument, empty_argument, argument}
use Rattle.vl_tree.specs.Syntax.{Stmt, assign}
use Rattle.vl_tree.specs.Placed.{Placed, at, kind_of}
use Rattle.vl_tree.specs.Piece.{◌then◌, nothing, mark, mark_at}
use Rattle.vl_tree.specs.Expressions.{expr_at, more_exprs_at}
use Rattle.vl_tree.specs.Statements.{target_at, printed_at, stopped_at, assignment_mark}
use Rattle.vl_tree.specs.Depth.{target_depths, expr_depths, more_exprs_depths, stmt_depths, printed_depths, stopped_depths}
use Rattle.vl_read.specs.Reading.{Took, Stuck, Sunk, Any, Both, BothDepths}
use Rattle.vl_read.specs.Tokens.{one, one_deep, Not}
use Rattle.vl_read.proofs.Pieces.{Productive, link_any, took_empty, stuck_here, sunk_here}
use Rattle.vl_read.proofs.Leads.{Leads, leads_on, leads_less, leads_as, leads_after, leads_where}
use Rattle.vl_read.proofs.TokenRules.{somewhere, link_kind}
use Rattle.vl_expr.specs.Ends.{EndsExpr, EndsList}
use Rattle.vl_expr.proofs.Common.{some_expr, close_ends, close_list}
use Rattle.vl_simple.specs.Targets.{EndsTarget}
use Rattle.vl_simple.specs.Simple.{assign_at, NoAssignment, NoParen, format_at, format_depths}
use Rattle.vl_simple.proofs.Steps.{Joint, both_some}
use Rattle.vl_simple.proofs.PartRules.{some_kind, semicolon_ends}

-- ---- assignments

abbrev pub sign_at : Assignment × Place → List Placed → List Placed → Type 0
sign_at x = mark_at (assignment_mark x.0) x.1

sign_target : (v : Assignment) (p : Place) (z : List Placed) → EndsTarget (at (k.mark (assignment_mark v)) p ∷ z)
sign_target blocking p z = λ h. absurd cc
sign_target nonblocking p z = λ h. absurd cc

same_assignment : (a b : Assignment) → assignment_mark a ≡ assignment_mark b → a ≡ b
same_assignment blocking blocking h = refl
same_assignment blocking nonblocking h = absurd cc
same_assignment nonblocking blocking h = absurd cc
same_assignment nonblocking nonblocking h = refl

module _ (d : ℕ) where
  abbrev pub A3 : Expr × Unit {0} → List Placed → List Placed → Type 0
  A3 = Both expr_at (one (mark m.Semicolon))

  abbrev pub A3D : Expr × Unit {0} → List ℕ
  A3D = BothDepths (expr_depths d) (one_deep d)

  abbrev pub A2 : (Assignment × Place) × (Expr × Unit {0}) → List Placed → List Placed → Type 0
  A2 = Both sign_at A3

  abbrev pub A2D : (Assignment × Place) × (Expr × Unit {0}) → List ℕ
  A2D = BothDepths (one_deep d) A3D

  abbrev pub A1 : Target × ((Assignment × Place) × (Expr × Unit {0})) → List Placed → List Placed → Type 0
  A1 = Both target_at A2

  abbrev pub A1D : Target × ((Assignment × Place) × (Expr × Unit {0})) → List ℕ
  A1D = BothDepths (target_depths d) A2D

  a3_some : Productive A3 Any
  a3_some = both_some (some_expr Any) (some_kind (k.mark m.Semicolon))

  pub target_first : Joint target_at (target_depths d) A2 A2D Any Any EndsTarget EndsTarget
  target_first = record {
    link = record {
      some = λ z f.
          let o = a3_some z f in
          (((blocking, somewhere), o.0), at (k.mark m.Equals) somewhere ∷ o.1, (o.1, refl, o.2), sign_target blocking somewhere o.1);
      empty = λ u z c f. subst EndsTarget (sym c.1) (sign_target u.0.0 u.0.1 c.0);
      starts = λ u a z c g. subst EndsTarget (sym c.1) (sign_target u.0.0 u.0.1 c.0);
    };
  }

  pub sign_next : Joint sign_at (one_deep d) A3 A3D Any Any Any Any
  sign_next = record { link = link_any A3 Any Any a3_some }

  pub value_next : Joint expr_at (expr_depths d) (one (mark m.Semicolon)) (one_deep d) Any Any EndsExpr EndsExpr
  value_next = record { link = link_kind (k.mark m.Semicolon) Any Any EndsExpr semicolon_ends }

  abbrev pub make_assign : Target × ((Assignment × Place) × (Expr × Unit {0})) → Stmt
  make_assign x = assign x.0 x.1.0.0 x.1.0.1 x.1.1.0

  assign_out : (u : Stmt) (us z : List Placed) → assign_at u us z → Any z
      → (x : Target × ((Assignment × Place) × (Expr × Unit {0}))) × A1 x us z × (u ≡ make_assign x)
  assign_out (assign x v p e) us z c g = ((x, ((v, p), (e, tt))), c, refl)
  assign_out u us z c g = absurd c

  pub assign_parts : (ts : List Placed) → Leads A1 A1D Any Any ts assign_at (stmt_depths d) Any Any ts make_assign
  assign_parts ts = leads_as A1 A1D assign_at (stmt_depths d) Any Any make_assign (λ x. refl) (λ x us z c. c) assign_out ts

  sign_same : (u : Assignment × Place) (v : Assignment) (p : Place) (ys z : List Placed)
      → sign_at u (at (k.mark (assignment_mark v)) p ∷ ys) z → u ≡ (v, p)
  sign_same u v p ys z c =
      let i : assignment_mark u.0 ≡ assignment_mark v = cc in
      let j : u.1 ≡ p = cc in
      λ t. (same_assignment u.0 v i t, j t)

  pub took_sign : d ≤ 200 → (v : Assignment) (p : Place) (ts rest : List Placed) → ts ≡ at (k.mark (assignment_mark v)) p ∷ rest
      → Took sign_at (one_deep d) Any Any (v, p) ts rest
  took_sign low v p ts rest h = record {
    used = at (k.mark (assignment_mark v)) p ∷ [];
    whole = h;
    here = h;
    any = λ z f. refl;
    kept = λ b more e y. refl;
    forced = λ b more e u y z c g. (sign_same u v p ([] ++ b ∷ y) z c, cc);
    ended = λ u z c g. (sign_same u v p [] z c, cc);
    deep = (low, tt);
  }

  pub stuck_sign : (ts : List Placed) → NoAssignment ts → Stuck sign_at (one_deep d) Any Any ts (length ts)
  stuck_sign ts n =
      stuck_here sign_at (one_deep d) Any Any ts (λ z f. ((blocking, somewhere), at (k.mark m.Equals) somewhere ∷ z, refl))
      (λ a more e u y z c g.
      let q : a ≡ at (k.mark (assignment_mark u.0)) u.1 = cc in
      (subst NoAssignment e n) u.0 (ap kind_of q))
      (λ u z c g. absurd cc)

-- ---- formats

pub not_str : (a : TokenKind) → ((x : List ℕ) → a ≡ code.Str x → ⊥) → (t : List ℕ) → coded_kind a ≡ k.str t → ⊥
not_str (code.Str x) f t h = f x refl
not_str (code.Name x) f t h = absurd cc
not_str (code.System n) f t h = absurd cc
not_str (code.Number l) f t h = absurd cc
not_str (code.Key w) f t h = absurd cc
not_str (code.Mark b) f t h = absurd cc

module _ (d : ℕ) where
  pub format_end : (ts : List Placed) → ts ≡ [] → Stuck format_at (format_depths d) EndsList EndsList ts (length ts)
  format_end ts h =
      stuck_here format_at (format_depths d) EndsList EndsList ts (λ z f. ((somewhere, [], no_expr), at (k.str []) somewhere ∷ z, (z, refl, refl)))
      (λ a more e u y z c g. absurd cc) (λ u z c g. absurd cc)

  pub format_stuck : (a : Kind) (p : Place) (ts rest : List Placed) → ts ≡ at a p ∷ rest → ((t : List ℕ) → a ≡ k.str t → ⊥)
      → Stuck format_at (format_depths d) EndsList EndsList ts (length ts)
  format_stuck a p ts rest h n =
      stuck_here format_at (format_depths d) EndsList EndsList ts (λ z f. ((somewhere, [], no_expr), at (k.str []) somewhere ∷ z, (z, refl, refl)))
      (λ b more e u y z c g.
      let i : at a p ≡ b = cc in
      let j : at a p ≡ at (k.str u.1) u.0 = i ∙ cc in
      n u.1 (ap kind_of j))
      (λ u z c g. absurd cc)

  pub format_sunk : (t : List ℕ) (p : Place) (ts rest : List Placed) → ts ≡ at (k.str t) p ∷ rest → d ≡ 201
      → Sunk format_at (format_depths d) EndsList EndsList ts (length ts)
  format_sunk t p ts rest h j =
      sunk_here format_at (format_depths d) EndsList EndsList ts (at (k.str t) p) rest h (λ z f. ((p, t, no_expr), z, (z, refl, refl), j)) (λ u y z c g. j)

  module _ (low : d ≤ 200) (t : List ℕ) (p : Place) (ts us : List Placed) (h : ts ≡ at (k.str t) p ∷ us) where
    format_out : (u : Place × List ℕ × Exprs) (us z : List Placed) → format_at u (at (k.str t) p ∷ us) z → EndsList z
        → (x : Exprs) × more_exprs_at x us z × (u ≡ (p, t, x))
    format_out (q, o, es) us z (mid, e, r) g =
        let i : q ≡ p = cc in
        let j : o ≡ t = cc in
        let f : mid ≡ us = cc in
        (es, subst (λ v. more_exprs_at es v z) f r, (λ w. (i w, j w, es)))

    pub format_part : Leads more_exprs_at (more_exprs_depths d) EndsList EndsList us format_at (format_depths d) EndsList EndsList ts
        (λ x. (p, t, x))
    format_part =
        leads_after more_exprs_at (more_exprs_depths d) format_at (format_depths d) EndsList EndsList (λ x. (p, t, x))
        (at (k.str t) p) d low (λ x. refl) (λ x us z c. (us, refl, c)) format_out ts us h

-- ---- nothing, (), or something in parentheses

module _ {N : Type 0} (D : N → List Placed → List Placed → Type 0) (M : N → List ℕ) (may : List Placed → Type 0)
    (closes : (p : Place) (z : List Placed) → may (at (k.mark m.CloseParen) p ∷ z)) (d : ℕ) where
  -- what stands after the `(`
  abbrev pub inside_at : Option N → List Placed → List Placed → Type 0
  inside_at None = mark m.CloseParen
  inside_at (Some x) = D x then mark m.CloseParen

  abbrev pub inside_depths : Option N → List ℕ
  inside_depths None = d ∷ []
  inside_depths (Some x) = M x ++ (d ∷ [])

  abbrev pub list_at : Option (Option N) → List Placed → List Placed → Type 0
  list_at None = nothing
  list_at (Some x) = mark m.OpenParen then inside_at x

  abbrev pub list_depths : Option (Option N) → List ℕ
  list_depths None = []
  list_depths (Some x) = d ∷ inside_depths x

  no_list : (u : Option (Option N)) (a : Placed) (y z : List Placed) → (kind_of a ≡ k.mark m.OpenParen → ⊥) → list_at u (a ∷ y) z
      → (u ≡ None) × (z ≡ a ∷ y)
  no_list None a y z n c = (refl, sym c)
  no_list (Some x) a y z n (mid, (q, h), r) = let e : a ≡ at (k.mark m.OpenParen) q = cc in absurd (n (ap kind_of e))

  no_list_end : (u : Option (Option N)) (z : List Placed) → list_at u [] z → (u ≡ None) × (z ≡ [])
  no_list_end None z c = (refl, sym c)
  no_list_end (Some x) z (mid, (q, h), r) = absurd cc

  pub list_none : (ts : List Placed) → NoParen ts → Took list_at list_depths NoParen NoParen None ts ts
  list_none ts f =
      took_empty list_at list_depths NoParen NoParen None (λ z. refl) refl ts
      (λ a more e u y z c g. no_list u a y z (subst NoParen e f) c) (λ u z c g. no_list_end u z c)

  module _ (low : d ≤ 200) (p : Place) (ts us : List Placed) (h : ts ≡ at (k.mark m.OpenParen) p ∷ us) where
    list_out : (u : Option (Option N)) (us z : List Placed) → list_at u (at (k.mark m.OpenParen) p ∷ us) z → NoParen z
        → (x : Option N) × inside_at x us z × (u ≡ Some x)
    list_out None us z c g = absurd ((subst NoParen (sym c) g) refl)
    list_out (Some x) us z (mid, (q, i), r) g = let f : mid ≡ us = cc in (x, subst (λ v. inside_at x v z) f r, refl)

    list_open : Leads inside_at inside_depths NoParen NoParen us list_at list_depths NoParen NoParen ts (λ x. Some x)
    list_open =
        leads_after inside_at inside_depths list_at list_depths NoParen NoParen (λ x. Some x) (at (k.mark m.OpenParen) p) d low (λ x. refl)
        (λ x us z c. (us, (p, refl), c)) list_out ts us h

    -- ()
    empty_out : (clear : (x : N) (q : Place) (us mid : List Placed) → D x (at (k.mark m.CloseParen) q ∷ us) mid → ⊥) (q : Place)
        (u : Option N) (us z : List Placed) → inside_at u (at (k.mark m.CloseParen) q ∷ us) z → NoParen z
        → (x : Unit {0}) × (us ≡ z) × (u ≡ None)
    empty_out clear q None us z (o, i) g = (tt, cc, refl)
    empty_out clear q (Some x) us z (mid, c, r) g = absurd (clear x q us mid c)

    pub list_empty : (clear : (x : N) (q : Place) (us mid : List Placed) → D x (at (k.mark m.CloseParen) q ∷ us) mid → ⊥)
        (q : Place) (rest : List Placed) → us ≡ at (k.mark m.CloseParen) q ∷ rest → Took list_at list_depths NoParen NoParen (Some None) ts rest
    list_empty clear q rest i =
        list_open.took None rest
        ((leads_after (λ u us z. us ≡ z) (λ u. []) inside_at inside_depths NoParen NoParen (λ u. None) (at (k.mark m.CloseParen) q) d low
        (λ x. refl) (λ x us z c. (q, ap (λ v. at (k.mark m.CloseParen) q ∷ v) c)) (empty_out clear q) us rest i).took tt rest
        (took_empty (λ u us z. us ≡ z) (λ u. []) NoParen NoParen tt (λ z. refl) refl rest
        (λ a more e u y z c g. (refl, sym c)) (λ u z c g. (refl, sym c))))

    -- something in parentheses
    given_out : (u : Option N) (us z : List Placed) → Not (k.mark m.CloseParen) us → inside_at u us z → NoParen z
        → (x : N × Unit {0}) × Both D (one (mark m.CloseParen)) x us z × (u ≡ Some x.0)
    given_out None us z n (q, c) g = absurd ((subst (Not (k.mark m.CloseParen)) c n) refl)
    given_out (Some x) us z n c g = ((x, tt), c, refl)

    pub list_given : Not (k.mark m.CloseParen) us
        → Leads (Both D (one (mark m.CloseParen))) (BothDepths M (one_deep d)) Any Any us list_at list_depths NoParen NoParen ts
        (λ x. Some (Some x.0))
    list_given n =
        leads_on (leads_less (Both D (one (mark m.CloseParen))) (BothDepths M (one_deep d)) Any Any NoParen NoParen (λ z g. tt) (λ z g. tt) us)
        (leads_on (leads_where (Not (k.mark m.CloseParen)) us tt (λ a more e y. subst (Not (k.mark m.CloseParen)) e n)
        (Both D (one (mark m.CloseParen))) (BothDepths M (one_deep d)) inside_at inside_depths NoParen NoParen (λ x. Some x.0) (λ x. refl)
        (λ x us z c. c) given_out) list_open)

  pub given_close : Joint D M (one (mark m.CloseParen)) (one_deep d) Any Any may may
  given_close = record { link = link_kind (k.mark m.CloseParen) Any Any may closes }

-- ---- what stands after $display

abbrev pub Shown : Type 0
Shown = Option (Option (Place × List ℕ × Exprs))

abbrev pub make_printed : Shown → Printed
make_printed None = bare
make_printed (Some None) = empty_list
make_printed (Some (Some x)) = format x.0 x.1 x.2

module _ (d : ℕ) where
  abbrev pub shown_at : Shown → List Placed → List Placed → Type 0
  shown_at = list_at format_at (format_depths (d + 1)) EndsList close_list d

  abbrev pub shown_depths : Shown → List ℕ
  shown_depths = list_depths format_at (format_depths (d + 1)) EndsList close_list d

  printed_depth : (x : Shown) → printed_depths d (make_printed x) ≡ shown_depths x
  printed_depth None = refl
  printed_depth (Some None) = refl
  printed_depth (Some (Some x)) = refl

  printed_into : (x : Shown) (us z : List Placed) → shown_at x us z → printed_at (make_printed x) us z
  printed_into None us z c = c
  printed_into (Some None) us z c = c
  printed_into (Some (Some x)) us z c = c

  printed_out : (u : Printed) (us z : List Placed) → printed_at u us z → NoParen z → (x : Shown) × shown_at x us z × (u ≡ make_printed x)
  printed_out bare us z c g = (None, c, refl)
  printed_out empty_list us z c g = (Some None, c, refl)
  printed_out (format p t es) us z c g = (Some (Some (p, t, es)), c, refl)

  pub printed_parts : (ts : List Placed)
      → Leads shown_at shown_depths NoParen NoParen ts printed_at (printed_depths d) NoParen NoParen ts make_printed
  printed_parts ts = leads_as shown_at shown_depths printed_at (printed_depths d) NoParen NoParen make_printed printed_depth printed_into printed_out ts

  pub no_format_close : (x : Place × List ℕ × Exprs) (q : Place) (us mid : List Placed)
      → format_at x (at (k.mark m.CloseParen) q ∷ us) mid → ⊥
  no_format_close x q us mid (m1, e, r) = absurd cc

-- ---- what stands after $stop

abbrev pub Told : Type 0
Told = Option (Option Expr)

abbrev pub make_stopped : Told → Stopped
make_stopped None = no_argument
make_stopped (Some None) = empty_argument
make_stopped (Some (Some x)) = argument x

module _ (d : ℕ) where
  abbrev pub told_at : Told → List Placed → List Placed → Type 0
  told_at = list_at expr_at (expr_depths (d + 1)) EndsExpr close_ends d

  abbrev pub told_depths : Told → List ℕ
  told_depths = list_depths expr_at (expr_depths (d + 1)) EndsExpr close_ends d

  stopped_depth : (x : Told) → stopped_depths d (make_stopped x) ≡ told_depths x
  stopped_depth None = refl
  stopped_depth (Some None) = refl
  stopped_depth (Some (Some x)) = refl

  stopped_into : (x : Told) (us z : List Placed) → told_at x us z → stopped_at (make_stopped x) us z
  stopped_into None us z c = c
  stopped_into (Some None) us z c = c
  stopped_into (Some (Some x)) us z c = c

  stopped_out : (u : Stopped) (us z : List Placed) → stopped_at u us z → NoParen z → (x : Told) × told_at x us z × (u ≡ make_stopped x)
  stopped_out no_argument us z c g = (None, c, refl)
  stopped_out empty_argument us z c g = (Some None, c, refl)
  stopped_out (argument e) us z c g = (Some (Some e), c, refl)

  pub stopped_parts : (ts : List Placed)
      → Leads told_at told_depths NoParen NoParen ts stopped_at (stopped_depths d) NoParen NoParen ts make_stopped
  stopped_parts ts = leads_as told_at told_depths stopped_at (stopped_depths d) NoParen NoParen make_stopped stopped_depth stopped_into stopped_out ts
