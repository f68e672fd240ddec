-- The rule of the header of a loop.
use Rattle.std.proofs.Common.{◌≡◌, ◌+◌, ℕ, List, [], ◌∷◌, ◌++◌, refl, ◌∙◌, ap, append_assoc}
use Rattle.vl_tree.specs.declared.token.Mark.TheVariants as m
use Rattle.vl_tree.specs.Token.{Kind}
use Rattle.vl_tree.specs.Token as k
use Rattle.vl_tree.specs.Syntax.{Expr, Valued, Loop}
use Rattle.vl_tree.specs.Placed.{Placed, at}
use Rattle.vl_tree.specs.Piece.{mark}
use Rattle.vl_tree.specs.Expressions.{expr_at}
use Rattle.vl_tree.specs.Statements.{loop_at}
use Rattle.vl_tree.specs.Modules.{valued_at}
use Rattle.vl_tree.specs.Depth.{expr_depths, valued_depths, loop_depths}
use Rattle.vl_read.specs.Reading.{Any, Both, BothDepths}
use Rattle.vl_read.specs.Tokens.{one, one_deep}
use Rattle.vl_read.proofs.Pieces.{Productive, link_any}
use Rattle.vl_read.proofs.Leads.{Leads, leads_as}
use Rattle.vl_read.proofs.TokenRules.{somewhere, link_kind, link_kind_first}
use Rattle.vl_expr.specs.Ends.{EndsExpr}
use Rattle.vl_expr.proofs.Common.{some_number, zero_literal, some_expr, close_ends}
use Rattle.vl_simple.proofs.Steps.{Joint, both_some}
use Rattle.vl_simple.proofs.PartRules.{some_kind, some_name, semicolon_ends}

some_valued : Productive valued_at Any
some_valued z f =
    let value : List Placed = at (k.number zero_literal) somewhere ∷ z in
    let equals : List Placed = at (k.mark m.Equals) somewhere ∷ value in (
      record { name = some_name; value = some_number },
      at (k.name []) somewhere ∷ equals,
      (equals, refl, (value, (somewhere, refl), refl)),
    )

module _ (d : ℕ) where
  abbrev pub L6 : Valued × Unit {0} → List Placed → List Placed → Type 0
  L6 = Both valued_at (one (mark m.CloseParen))

  abbrev pub L6D : Valued × Unit {0} → List ℕ
  L6D = BothDepths (valued_depths (d + 1)) (one_deep d)

  abbrev pub L5 : Unit {0} × (Valued × Unit {0}) → List Placed → List Placed → Type 0
  L5 = Both (one (mark m.Semicolon)) L6

  abbrev pub L5D : Unit {0} × (Valued × Unit {0}) → List ℕ
  L5D = BothDepths (one_deep (d + 1)) L6D

  abbrev pub L4 : Expr × (Unit {0} × (Valued × Unit {0})) → List Placed → List Placed → Type 0
  L4 = Both expr_at L5

  abbrev pub L4D : Expr × (Unit {0} × (Valued × Unit {0})) → List ℕ
  L4D = BothDepths (expr_depths (d + 1)) L5D

  abbrev pub L3 : Unit {0} × (Expr × (Unit {0} × (Valued × Unit {0}))) → List Placed → List Placed → Type 0
  L3 = Both (one (mark m.Semicolon)) L4

  abbrev pub L3D : Unit {0} × (Expr × (Unit {0} × (Valued × Unit {0}))) → List ℕ
  L3D = BothDepths (one_deep (d + 1)) L4D

  abbrev pub L2 : Valued × (Unit {0} × (Expr × (Unit {0} × (Valued × Unit {0})))) → List Placed → List Placed → Type 0
  L2 = Both valued_at L3

  abbrev pub L2D : Valued × (Unit {0} × (Expr × (Unit {0} × (Valued × Unit {0})))) → List ℕ
  L2D = BothDepths (valued_depths (d + 1)) L3D

  abbrev pub L1 : Unit {0} × (Valued × (Unit {0} × (Expr × (Unit {0} × (Valued × Unit {0}))))) → List Placed → List Placed → Type 0
  L1 = Both (one (mark m.OpenParen)) L2

  abbrev pub L1D : Unit {0} × (Valued × (Unit {0} × (Expr × (Unit {0} × (Valued × Unit {0}))))) → List ℕ
  L1D = BothDepths (one_deep d) L2D

  l6_some : Productive L6 Any
  l6_some = both_some some_valued (some_kind (k.mark m.CloseParen))

  l4_some : Productive L4 Any
  l4_some = both_some (some_expr Any) (both_some (some_kind (k.mark m.Semicolon)) l6_some)

  l2_some : Productive L2 Any
  l2_some = both_some some_valued (both_some (some_kind (k.mark m.Semicolon)) l4_some)

  pub loop_1 : Joint (one (mark m.OpenParen)) (one_deep d) L2 L2D Any Any Any Any
  loop_1 = record { link = link_any L2 Any Any l2_some }

  pub loop_2 : Joint valued_at (valued_depths (d + 1)) L3 L3D Any Any EndsExpr EndsExpr
  loop_2 = record { link = link_kind_first (k.mark m.Semicolon) Any Any EndsExpr semicolon_ends L4 l4_some }

  pub loop_3 : Joint (one (mark m.Semicolon)) (one_deep (d + 1)) L4 L4D Any Any Any Any
  loop_3 = record { link = link_any L4 Any Any l4_some }

  pub loop_4 : Joint expr_at (expr_depths (d + 1)) L5 L5D Any Any EndsExpr EndsExpr
  loop_4 = record { link = link_kind_first (k.mark m.Semicolon) Any Any EndsExpr semicolon_ends L6 l6_some }

  pub loop_5 : Joint (one (mark m.Semicolon)) (one_deep (d + 1)) L6 L6D Any Any Any Any
  loop_5 = record { link = link_any L6 Any Any l6_some }

  pub loop_6 : Joint valued_at (valued_depths (d + 1)) (one (mark m.CloseParen)) (one_deep d) Any Any EndsExpr EndsExpr
  loop_6 = record { link = link_kind (k.mark m.CloseParen) Any Any EndsExpr close_ends }

  abbrev pub make_loop : Unit {0} × (Valued × (Unit {0} × (Expr × (Unit {0} × (Valued × Unit {0}))))) → Loop
  make_loop x = record {
    variable = x.1.0.name;
    first = x.1.0.value;
    condition = x.1.1.1.0;
    stepped = x.1.1.1.1.1.0.name;
    step = x.1.1.1.1.1.0.value;
  }

  loop_depth : (x : Unit {0} × (Valued × (Unit {0} × (Expr × (Unit {0} × (Valued × Unit {0})))))) → loop_depths d (make_loop x) ≡ L1D x
  loop_depth x =
      ap (λ w. d ∷ (d + 1) ∷ (d + 1) ∷ w)
      (append_assoc (expr_depths (d + 1) x.1.0.value)
      ((d + 1) ∷ (expr_depths (d + 1) x.1.1.1.0 ++ ((d + 1) ∷ (d + 1) ∷ (d + 1) ∷ expr_depths (d + 1) x.1.1.1.1.1.0.value))) (d ∷ [])
      ∙ ap (λ w. expr_depths (d + 1) x.1.0.value ++ ((d + 1) ∷ w))
      (append_assoc (expr_depths (d + 1) x.1.1.1.0) ((d + 1) ∷ (d + 1) ∷ (d + 1) ∷ expr_depths (d + 1) x.1.1.1.1.1.0.value) (d ∷ [])))

  loop_into : (x : Unit {0} × (Valued × (Unit {0} × (Expr × (Unit {0} × (Valued × Unit {0})))))) (us z : List Placed) → L1 x us z
      → loop_at (make_loop x) us z
  loop_into x us z (m1, o, (m2, (a1, n, (a2, q, v)), (m3, s, (m4, c, (m5, t, (m6, (b1, n2, (b2, q2, v2)), e)))))) =
      (m1, o, (m6, (a1, n, (a2, q, (m2, v, (m3, s, (m4, c, (m5, t, (b1, n2, (b2, q2, v2)))))))), e))

  loop_out : (u : Loop) (us z : List Placed) → loop_at u us z → Any z
      → (x : Unit {0} × (Valued × (Unit {0} × (Expr × (Unit {0} × (Valued × Unit {0})))))) × L1 x us z × (u ≡ make_loop x)
  loop_out u us z (m1, o, (m6, (a1, n, (a2, q, (m2, v, (m3, s, (m4, c, (m5, t, (b1, n2, (b2, q2, v2)))))))), e)) g = (
    (tt, (record { name = u.variable; value = u.first }, (tt, (u.condition, (tt, (record { name = u.stepped; value = u.step }, tt)))))),
    (m1, o, (m2, (a1, n, (a2, q, v)), (m3, s, (m4, c, (m5, t, (m6, (b1, n2, (b2, q2, v2)), e)))))),
    refl,
  )

  pub loop_parts : (ts : List Placed) → Leads L1 L1D Any Any ts loop_at (loop_depths d) Any Any ts make_loop
  loop_parts ts = leads_as L1 L1D loop_at (loop_depths d) Any Any make_loop loop_depth loop_into loop_out ts

  pub some_loop : Productive loop_at Any
  some_loop z f =
      let o = both_some (some_kind (k.mark m.OpenParen)) l2_some z f in
      (make_loop o.0, o.1, loop_into o.0 o.1 z o.2)
