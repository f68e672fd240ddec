-- The rules of small parts: names, values, expressions in parentheses, labels, headers of loops.
use Rattle.std.proofs.Common.{◌≡◌, ◌≤◌, ◌+◌, ℕ, List, [], ◌∷◌, length, refl, sym, ap, subst, arith}
use Rattle.std.specs.Prelude.{Option, Some, None, Bool, true, false}
use Rattle.vl_tree.specs.declared.token.Mark.TheVariants as m
use Rattle.vl_tree.specs.Token.{Kind}
use Rattle.vl_tree.specs.Token as k
use Rattle.vl_tree.specs.Syntax.{Place, Name, Expr}
use Rattle.vl_tree.specs.Placed.{Placed, at, kind_of}
use Rattle.vl_tree.specs.Piece.{mark, kind, name_at, where_true}
use Rattle.vl_tree.specs.Expressions.{expr_at}
use Rattle.vl_tree.specs.Statements.{label_at}
use Rattle.vl_tree.specs.Modules.{valued_at}
use Rattle.vl_tree.specs.Depth.{name_depth, expr_depths, valued_depths, label_depths, one_if}
use Rattle.vl_read.specs.Reading.{Took, Sunk, Any, Both, BothDepths}
use Rattle.vl_read.specs.Tokens.{one, one_deep}
use Rattle.vl_read.proofs.Pieces.{Productive, Nothing, link_any, took_empty, took_nothing, sunk_here}
use Rattle.vl_read.proofs.Leads.{Leads, leads_on, leads_less, leads_as, leads_after}
use Rattle.vl_read.proofs.TokenRules.{somewhere, link_kind}
use Rattle.vl_expr.specs.Ends.{EndsExpr}
use Rattle.vl_expr.proofs.Common.{some_number, zero_literal, some_expr, close_ends}
use Rattle.vl_simple.specs.Readers.{NoColon, FindsOptional, grouped_at, grouped_depths}
use Rattle.vl_simple.proofs.Steps.{Joint, both_some}

pub semicolon_ends : (p : Place) (z : List Placed) → EndsExpr (at (k.mark m.Semicolon) p ∷ z)
semicolon_ends p z = omega arith

pub some_kind : (a : Kind) → Productive (one (kind a)) Any
some_kind a z f = (tt, at a somewhere ∷ z, (somewhere, refl))

abbrev pub some_name : Name
some_name = record { text = []; place = somewhere }

pub some_names : Productive name_at Any
some_names z f = (some_name, at (k.name []) somewhere ∷ z, refl)

module _ (d : ℕ) where
  pub name_sunk : (n : Name) (ts rest : List Placed) → ts ≡ at (k.name n.text) n.place ∷ rest → d ≡ 201
      → Sunk name_at (name_depth d) Any Any ts (length ts)
  name_sunk n ts rest h j =
      sunk_here name_at (name_depth d) Any Any ts (at (k.name n.text) n.place) rest h (λ z f. (n, z, refl, j)) (λ u y z c g. j)

  -- ---- a name and its value

  abbrev pub V2 : Unit {0} × Expr → List Placed → List Placed → Type 0
  V2 = Both (one (mark m.Equals)) expr_at

  abbrev pub V2D : Unit {0} × Expr → List ℕ
  V2D = BothDepths (one_deep d) (expr_depths d)

  v2_some : Productive V2 EndsExpr
  v2_some = both_some (some_kind (k.mark m.Equals)) (some_expr EndsExpr)

  pub name_first : Joint name_at (name_depth d) V2 V2D EndsExpr EndsExpr Any Any
  name_first = record { link = link_any V2 EndsExpr EndsExpr v2_some }

  pub equals_next : Joint (one (mark m.Equals)) (one_deep d) expr_at (expr_depths d) EndsExpr EndsExpr Any Any
  equals_next = record { link = link_any expr_at EndsExpr EndsExpr (some_expr EndsExpr) }

  pub valued_parts : (ts : List Placed) → Leads (Both name_at V2) (BothDepths (name_depth d) V2D) EndsExpr EndsExpr ts
      valued_at (valued_depths d) EndsExpr EndsExpr ts (λ x. record { name = x.0; value = x.1.1 })
  valued_parts ts =
      leads_as (Both name_at V2) (BothDepths (name_depth d) V2D) valued_at (valued_depths d) EndsExpr EndsExpr
      (λ x. record { name = x.0; value = x.1.1 }) (λ x. refl) (λ x us z c. c) (λ u us z c g. ((u.name, (tt, u.value)), c, refl)) ts

  -- ---- an expression in parentheses

  abbrev pub G2 : Expr × Unit {0} → List Placed → List Placed → Type 0
  G2 = Both expr_at (one (mark m.CloseParen))

  abbrev pub G2D : Expr × Unit {0} → List ℕ
  G2D = BothDepths (expr_depths (d + 1)) (one_deep d)

  g2_some : Productive G2 Any
  g2_some = both_some (some_expr Any) (some_kind (k.mark m.CloseParen))

  pub open_first : Joint (one (mark m.OpenParen)) (one_deep d) G2 G2D Any Any Any Any
  open_first = record { link = link_any G2 Any Any g2_some }

  pub expr_close : Joint expr_at (expr_depths (d + 1)) (one (mark m.CloseParen)) (one_deep d) Any Any EndsExpr EndsExpr
  expr_close = record { link = link_kind (k.mark m.CloseParen) Any Any EndsExpr close_ends }

  pub grouped_parts : (ts : List Placed) → Leads (Both (one (mark m.OpenParen)) G2) (BothDepths (one_deep d) G2D) Any Any ts
      grouped_at (grouped_depths d) Any Any ts (λ x. x.1.0)
  grouped_parts ts =
      leads_as (Both (one (mark m.OpenParen)) G2) (BothDepths (one_deep d) G2D) grouped_at (grouped_depths d) Any Any
      (λ x. x.1.0) (λ x. refl) (λ x us z c. c) (λ u us z c g. ((tt, (u, tt)), c, refl)) ts

  pub some_grouped : Productive grouped_at Any
  some_grouped z f =
      let close : List Placed = at (k.mark m.CloseParen) somewhere ∷ z in (
        some_number,
        at (k.mark m.OpenParen) somewhere ∷ at (k.number zero_literal) somewhere ∷ close,
        (at (k.number zero_literal) somewhere ∷ close, (somewhere, refl), (close, refl, (somewhere, refl))),
      )

  -- ---- a label

  label_out : (p : Place) (u : Option Name) (us z : List Placed) → label_at u (at (k.mark m.Colon) p ∷ us) z → NoColon z
      → (x : Name) × name_at x us z × (u ≡ Some x)
  label_out p None us z c g = absurd ((subst NoColon (sym c) g) refl)
  label_out p (Some n) us z (mid, (q, h), r) g = let f : mid ≡ us = cc in (n, subst (λ w. name_at n w z) f r, refl)

  pub label_part : d ≤ 200 → (p : Place) (ts us : List Placed) → ts ≡ at (k.mark m.Colon) p ∷ us
      → Leads name_at (one_deep d) Any Any us label_at (label_depths d) NoColon NoColon ts (λ n. Some n)
  label_part low p ts us h =
      leads_on (leads_less name_at (one_deep d) Any Any NoColon NoColon (λ z g. tt) (λ z g. tt) us)
      (leads_after name_at (one_deep d) label_at (label_depths d) NoColon NoColon (λ n. Some n) (at (k.mark m.Colon) p) d low (λ x. refl)
      (λ x us z c. (us, (p, refl), c)) (label_out p) ts us h)

  no_label : (u : Option Name) (a : Placed) (y z : List Placed) → (kind_of a ≡ k.mark m.Colon → ⊥) → label_at u (a ∷ y) z
      → (u ≡ None) × (z ≡ a ∷ y)
  no_label None a y z n c = (refl, sym c)
  no_label (Some x) a y z n (mid, (q, h), r) = let e : a ≡ at (k.mark m.Colon) q = cc in absurd (n (ap kind_of e))

  no_label_end : (u : Option Name) (z : List Placed) → label_at u [] z → (u ≡ None) × (z ≡ [])
  no_label_end None z c = (refl, sym c)
  no_label_end (Some x) z (mid, (q, h), r) = absurd cc

  pub label_none : (ts : List Placed) → NoColon ts → Took label_at (label_depths d) NoColon NoColon None ts ts
  label_none ts f =
      took_empty label_at (label_depths d) NoColon NoColon None (λ z. refl) refl ts
      (λ a after e u y z c g. no_label u a y z (subst NoColon e f) c) (λ u z c g. no_label_end u z c)

  -- ---- a colon that may be left out

  abbrev pub colon_at : Bool → List Placed → List Placed → Type 0
  colon_at c = where_true c (mark m.Colon)

  colon_out : (p : Place) (u : Bool) (us z : List Placed) → colon_at u (at (k.mark m.Colon) p ∷ us) z → NoColon z
      → (x : Unit {0}) × (us ≡ z) × (u ≡ true)
  colon_out p false us z c g = absurd ((subst NoColon (sym c) g) refl)
  colon_out p true us z (q, h) g = (tt, cc, refl)

  no_colon : (u : Bool) (a : Placed) (y z : List Placed) → (kind_of a ≡ k.mark m.Colon → ⊥) → colon_at u (a ∷ y) z
      → (u ≡ false) × (z ≡ a ∷ y)
  no_colon false a y z n c = (refl, sym c)
  no_colon true a y z n (q, h) = let e : a ≡ at (k.mark m.Colon) q = cc in absurd (n (ap kind_of e))

  no_colon_end : (u : Bool) (z : List Placed) → colon_at u [] z → (u ≡ false) × (z ≡ [])
  no_colon_end false z c = (refl, sym c)
  no_colon_end true z (q, h) = absurd cc

  pub colon_none : (ts : List Placed) → NoColon ts → Took colon_at (one_if d) NoColon NoColon false ts ts
  colon_none ts f =
      took_empty colon_at (one_if d) NoColon NoColon false (λ z. refl) refl ts
      (λ a after e u y z c g. no_colon u a y z (subst NoColon e f) c) (λ u z c g. no_colon_end u z c)

  pub took_colon : d ≤ 200 → (c : Bool) (ts rest : List Placed) → FindsOptional (k.mark m.Colon) ts (c, rest)
      → Took colon_at (one_if d) NoColon NoColon c ts rest
  took_colon low true ts rest (p, h) =
      (leads_after Nothing (λ u. []) colon_at (one_if d) NoColon NoColon (λ u. true) (at (k.mark m.Colon) p) d low (λ x. refl)
      (λ x us z c. (p, ap (λ v. at (k.mark m.Colon) p ∷ v) c)) (colon_out p) ts rest h).took tt rest (took_nothing NoColon NoColon rest)
  took_colon low false ts rest (n, e) = subst (λ v. Took colon_at (one_if d) NoColon NoColon false ts v) e (colon_none ts n)
