-- The rule of a range that may be left out.
use Rattle.std.proofs.Common.{◌≡◌, ◌≤◌, ◌+◌, ℕ, List, [], ◌∷◌, refl, sym, ap, subst, arith, append_assoc}
use Rattle.std.specs.Prelude.{Bool, Option, Some, None}
use Rattle.vl_tree.specs.declared.token.Mark.TheVariants as m
use Rattle.vl_tree.specs.declared.token.Key.TheVariants as w
use Rattle.vl_tree.specs.Token as k
use Rattle.vl_tree.specs.Syntax.{Place, Range, Expr}
use Rattle.vl_tree.specs.Placed.{Placed, at}
use Rattle.vl_tree.specs.Piece.{maybe}
use Rattle.vl_tree.specs.Expressions.{range_at}
use Rattle.vl_tree.specs.Depth.{range_depths, depths_of, expr_depths}
use Rattle.vl_read.specs.Reading.{Took}
use Rattle.vl_read.specs.Tokens.{Not}
use Rattle.vl_read.proofs.Leads.{leads_on}
use Rattle.vl_expr.specs.Ends.{EndsExpr}
use Rattle.vl_expr.proofs.Common.{colon_ends}
use Rattle.vl_declaration.specs.Readers.{NoRange, NoShape, shape_at, shape_depths, FindsFlag}
use Rattle.vl_declaration.proofs.Parts.{Part, Joins, both, Turns, whole, next, after, less, lesser, passed, valued_by, ends_at, free, flag, flag_took, optional, optional_join, optional_none}

pub bracket_close : (p : Place) (z : List Placed) → EndsExpr (at (k.mark m.CloseBracket) p ∷ z)
bracket_close p z = omega arith

pub range_starts : (r : Range) (a z : List Placed) → range_at r a z → (p : Place) × (y : List Placed) × (a ≡ at (k.mark m.OpenBracket) p ∷ y)
range_starts r a z (mid, h, c) = (r.place, mid, h)

module _ (d : ℕ) where
  abbrev pub ranged : (List Placed → Type 0) → Part (Option Range)
  ranged F = optional range_at range_depths (k.mark m.OpenBracket) range_starts d F

  -- ---- from after `[` on: left : right ]

  abbrev pub range_3 : Part (Unit {0})
  range_3 = passed d (k.mark m.CloseBracket)

  pub range_j2 : Joins (valued_by (d + 1)) range_3
  range_j2 u a z c = ends_at EndsExpr (k.mark m.CloseBracket) bracket_close a z c

  abbrev pub range_2 : Part (Expr × Unit {0})
  range_2 = both (valued_by (d + 1)) range_3 range_j2

  pub range_j1 : Joins (passed (d + 1) (k.mark m.Colon)) range_2
  range_j1 u a z c = free

  abbrev pub range_1 : Part (Unit {0} × (Expr × Unit {0}))
  range_1 = both (passed (d + 1) (k.mark m.Colon)) range_2 range_j1

  pub range_j0 : Joins (valued_by (d + 1)) range_1
  range_j0 u a z c = ends_at EndsExpr (k.mark m.Colon) colon_ends a c.0 c.1

  abbrev pub range_0 : Part (Expr × (Unit {0} × (Expr × Unit {0})))
  range_0 = both (valued_by (d + 1)) range_1 range_j0

  abbrev pub range_of : Place → Expr × (Unit {0} × (Expr × Unit {0})) → Range
  range_of p x = record { place = p; left = x.0; right = x.1.1.0 }

  pub range_deep : (p : Place) (x : Expr × (Unit {0} × (Expr × Unit {0}))) → range_depths d (range_of p x) ≡ d ∷ range_0.depths x
  range_deep p x =
      ap (λ w. d ∷ w) (append_assoc (expr_depths (d + 1) x.0) ((d + 1) ∷ expr_depths (d + 1) x.1.1.0) (d ∷ []))

  maybe_out : (p : Place) (u : Option Range) (us z : List Placed) → maybe range_at u (at (k.mark m.OpenBracket) p ∷ us) z → NoRange z
      → (x : Expr × (Unit {0} × (Expr × Unit {0}))) × range_0.at x us z × (u ≡ Some (range_of p x))
  maybe_out p None us z c g = absurd ((subst NoRange (sym c) g) refl)
  maybe_out p (Some r) us z (mid, h, c) g =
      let e : r.place ≡ p = cc in
      let f : mid ≡ us = cc in
      ((r.left, (tt, (r.right, tt))), subst (λ w. range_0.at (r.left, (tt, (r.right, tt))) w z) f c, ap (λ w. Some (range_of w (r.left, (tt, (r.right, tt))))) e)

  module _ (low : d ≤ 200) (p : Place) (ts us : List Placed) (h : ts ≡ at (k.mark m.OpenBracket) p ∷ us) where
    pub range_part : Turns range_0 us (maybe range_at) (depths_of range_depths d) NoRange NoRange ts (λ x. Some (range_of p x))
    range_part =
        leads_on (lesser range_0 NoRange NoRange (λ z f. tt) (λ z g. tt) us)
        (after (less range_0 NoRange NoRange (λ z f. tt)) (maybe range_at) (depths_of range_depths d) (λ x. Some (range_of p x))
        (at (k.mark m.OpenBracket) p) d low (range_deep p) (λ x us z c. (us, refl, c)) (maybe_out p) ts us h)

  pub range_none : (ts : List Placed) → NoRange ts → Took (maybe range_at) (depths_of range_depths d) NoRange NoRange None ts ts
  range_none ts n = optional_none range_at range_depths (k.mark m.OpenBracket) range_starts d NoRange ts n

  -- ---- a sign and a range

  pub shape_join : Joins (flag d (k.key w.Signed)) (ranged NoShape)
  shape_join u a z c =
      optional_join range_at range_depths (k.mark m.OpenBracket) range_starts NoShape (Not (k.key w.Signed)) (λ z f. f.0) (λ p z h. absurd cc) u a z c

  pub shape_part : d ≤ 200 → (ts mid : List Placed) (s : Bool) → FindsFlag (k.key w.Signed) ts (s, mid)
      → Turns (ranged NoRange) mid shape_at (shape_depths d) NoShape NoShape ts (λ r. (s, r))
  shape_part low ts mid s h =
      leads_on (lesser (ranged NoRange) NoShape NoShape (λ z f. f.1) (λ z g. g.1) mid)
      (next (flag d (k.key w.Signed)) (ranged NoShape) shape_join
      (whole (both (flag d (k.key w.Signed)) (ranged NoShape) shape_join) shape_at (shape_depths d) (λ x. x) (λ x. refl) (λ x us z c. c)
      (λ u us z c g. (u, c, refl)) ts) s mid (flag_took d (k.key w.Signed) low ts mid s h))
