-- The rules of what an `always` waits for.
use Rattle.std.proofs.Common.{inl, inr, ◌≡◌, ◌≤◌, ◌+◌, ℕ, List, [], ◌∷◌, length, refl, sym, ap, subst, arith}
use Rattle.std.specs.Prelude.{◌⊎◌, Some}
use Rattle.bit_ops.specs.declared.operator.Unary.{Unary}
use Rattle.vl_tree.specs.declared.token.Mark.TheVariants as m
use Rattle.vl_tree.specs.declared.token.Key.TheVariants as w
use Rattle.vl_tree.specs.Token.{Kind}
use Rattle.vl_tree.specs.Token as k
use Rattle.vl_tree.specs.Syntax.{Place, Expr, number, read, call, system, group, concat, repeat, unary, chain, choose}
use Rattle.vl_tree.specs.Syntax.{no_link, more_link, no_choice, more_choice}
use Rattle.vl_tree.specs.Syntax.{Edge, positive_edge, negative_edge, no_edge, Sensed, Event, any_read, any_read_list, sensed}
use Rattle.vl_tree.specs.Placed.{Placed, at, kind_of}
use Rattle.vl_tree.specs.Expressions.{expr_at, unary_of}
use Rattle.vl_tree.specs.Modules.{edge_at, sensed_at, separator_at, more_sensed_at, sensed_list_at, event_at}
use Rattle.vl_tree.specs.Depth.{edge_depths, sensed_depths, event_depths, more_depths, comma_depths}
use Rattle.vl_read.specs.Reading.{Sunk, Any}
use Rattle.vl_read.specs.Tokens.{Not}
use Rattle.vl_tree.specs.Derives.{Sinks}
use Rattle.vl_read.proofs.Pieces.{Nothing, took_empty, sunk_here}
use Rattle.vl_read.proofs.Leads.{leads_where}
use Rattle.vl_read.proofs.TokenRules.{somewhere}
use Rattle.vl_expr.specs.Ends.{EndsExpr}
use Rattle.vl_expr.proofs.Common.{some_expr, comma_ends, close_ends}
use Rattle.vl_declaration.specs.Readers.{NoEdge, EndsSensed, awaited_at, awaited_depths, enclosed_event_at, enclosed_event_depths}
use Rattle.vl_declaration.proofs.Parts.{Part, Joins, both, Turns, Takes, whole, after, passed, valued_by, ends_at, agree, free}

-- ---- what an expression begins with

-- an expression may begin with a token of this kind
abbrev pub Opens : Kind → Type 0
Opens (k.mark a) = (a ≡ m.OpenParen) ⊎ (a ≡ m.OpenBrace) ⊎ ((op : Unary) × (unary_of a ≡ Some op))
Opens (k.key a) = ⊥
Opens (k.number l) = Unit {0}
Opens (k.name n) = Unit {0}
Opens (k.system s) = Unit {0}
Opens (k.str s) = ⊥

-- the first token is of a kind that meets this
abbrev pub First : (Kind → Type 0) → List Placed → Type 0
First P [] = ⊥
First P (a ∷ rest) = P (kind_of a)

pub expr_opens : (e : Expr) (a z : List Placed) → expr_at e a z → First Opens a
expr_opens (number p l) a z h = subst (First Opens) (sym h) tt
expr_opens (read n ss) a z (mid, h, c) = subst (First Opens) (sym h) tt
expr_opens (call n es) a z (mid, h, c) = subst (First Opens) (sym h) tt
expr_opens (system p f e) a z (mid, h, c) = subst (First Opens) (sym h) tt
expr_opens (group p e) a z (mid, h, c) = subst (First Opens) (sym h) (inl refl)
expr_opens (concat p es) a z (mid, h, c) = subst (First Opens) (sym h) (inr (inl refl))
expr_opens (repeat p n es) a z (mid, h, c) = subst (First Opens) (sym h) (inr (inl refl))
expr_opens (unary p op e) a z (mid, (b, s, h), c) = subst (First Opens) (sym h) (inr (inr (op, s)))
expr_opens (chain e no_link) a z c = absurd c
expr_opens (chain e (more_link op p x ls)) a z (mid, (l, c), r) = expr_opens e a mid c
expr_opens (choose no_choice e) a z c = absurd c
expr_opens (choose (more_choice x p v cs) e) a z (mid, (m1, (l, c), q), r) = expr_opens x a m1 c

star_no : Opens (k.mark m.Star) → ⊥
star_no (inl e) = absurd cc
star_no (inr (inl e)) = absurd cc
star_no (inr (inr (op, e))) = absurd cc

pub expr_no_key : (e : Expr) (a z : List Placed) → expr_at e a z → (b : _) → Not (k.key b) a
expr_no_key e [] z c b = tt
expr_no_key e (x ∷ a) z c b = λ h. subst Opens h (expr_opens e (x ∷ a) z c)

pub expr_no_star : (e : Expr) (a z : List Placed) → expr_at e a z → Not (k.mark m.Star) a
expr_no_star e [] z c = tt
expr_no_star e (x ∷ a) z c = λ h. star_no (subst Opens h (expr_opens e (x ∷ a) z c))

-- ---- edges

edge_none_out : (u : Edge) (a : Placed) (y z : List Placed) → NoEdge (a ∷ y) → edge_at u (a ∷ y) z → (u ≡ no_edge) × (z ≡ a ∷ y)
edge_none_out (positive_edge p) a y z n h = absurd ((subst NoEdge h n).0 refl)
edge_none_out (negative_edge p) a y z n h = absurd ((subst NoEdge h n).1 refl)
edge_none_out no_edge a y z n h = (refl, sym h)

edge_end_out : (u : Edge) (z : List Placed) → edge_at u [] z → (u ≡ no_edge) × (z ≡ [])
edge_end_out (positive_edge p) z h = absurd cc
edge_end_out (negative_edge p) z h = absurd cc
edge_end_out no_edge z h = (refl, sym h)

positive_out : (p : Place) (u : Edge) (y z : List Placed) → edge_at u (at (k.key w.Posedge) p ∷ y) z → NoEdge z → (u ≡ positive_edge p) × (z ≡ y)
positive_out p (positive_edge q) y z h g = (let e : q ≡ p = cc in ap positive_edge e, cc)
positive_out p (negative_edge q) y z h g = absurd cc
positive_out p no_edge y z h g = absurd ((subst NoEdge (sym h) g).0 refl)

negative_out : (p : Place) (u : Edge) (y z : List Placed) → edge_at u (at (k.key w.Negedge) p ∷ y) z → NoEdge z → (u ≡ negative_edge p) × (z ≡ y)
negative_out p (positive_edge q) y z h g = absurd cc
negative_out p (negative_edge q) y z h g = (let e : q ≡ p = cc in ap negative_edge e, cc)
negative_out p no_edge y z h g = absurd ((subst NoEdge (sym h) g).1 refl)

module _ (d : ℕ) where
  abbrev pub edge_part : Part Edge
  edge_part = record { at = edge_at; depths = edge_depths d; may = NoEdge; seen = NoEdge; some = λ z f. (no_edge, z, refl) }

  pub edge_none : (ts : List Placed) → Not (k.key w.Posedge) ts → Not (k.key w.Negedge) ts → Takes edge_part no_edge ts ts
  edge_none ts n o =
      took_empty edge_at (edge_depths d) NoEdge NoEdge no_edge (λ z. refl) refl ts
      (λ a after e u y z c g. edge_none_out u a y z (subst NoEdge e (n, o)) c) (λ u z c g. edge_end_out u z c)

  pub edge_positive : d ≤ 200 → (p : Place) (ts rest : List Placed) → ts ≡ at (k.key w.Posedge) p ∷ rest → Takes edge_part (positive_edge p) ts rest
  edge_positive low p ts rest h = record {
    used = at (k.key w.Posedge) p ∷ [];
    whole = h;
    here = h;
    any = λ z f. refl;
    kept = λ b after e y. refl;
    forced = λ b after e u y z c g. positive_out p u (b ∷ y) z c g;
    ended = λ u z c g. positive_out p u [] z c g;
    deep = (low, tt);
  }

  pub edge_negative : d ≤ 200 → (p : Place) (ts rest : List Placed) → ts ≡ at (k.key w.Negedge) p ∷ rest → Takes edge_part (negative_edge p) ts rest
  edge_negative low p ts rest h = record {
    used = at (k.key w.Negedge) p ∷ [];
    whole = h;
    here = h;
    any = λ z f. refl;
    kept = λ b after e y. refl;
    forced = λ b after e u y z c g. negative_out p u (b ∷ y) z c g;
    ended = λ u z c g. negative_out p u [] z c g;
    deep = (low, tt);
  }

  pub positive_sunk : (p : Place) (ts rest : List Placed) → ts ≡ at (k.key w.Posedge) p ∷ rest → d ≡ 201
      → Sunk edge_at (edge_depths d) NoEdge NoEdge ts (length ts)
  positive_sunk p ts rest h i =
      sunk_here edge_at (edge_depths d) NoEdge NoEdge ts (at (k.key w.Posedge) p) rest h (λ z f. (positive_edge p, z, refl, i))
      (λ u y z c g. subst (λ v. Sinks (at (k.key w.Posedge) p ∷ []) (edge_depths d v)) (sym (positive_out p u y z c g).0) i)

  pub negative_sunk : (p : Place) (ts rest : List Placed) → ts ≡ at (k.key w.Negedge) p ∷ rest → d ≡ 201
      → Sunk edge_at (edge_depths d) NoEdge NoEdge ts (length ts)
  negative_sunk p ts rest h i =
      sunk_here edge_at (edge_depths d) NoEdge NoEdge ts (at (k.key w.Negedge) p) rest h (λ z f. (negative_edge p, z, refl, i))
      (λ u y z c g. subst (λ v. Sinks (at (k.key w.Negedge) p ∷ []) (edge_depths d v)) (sym (negative_out p u y z c g).0) i)

  -- ---- an edge of a signal

  pub edge_join : Joins edge_part (valued_by d)
  edge_join u a z c = agree (expr_no_key u a z c w.Posedge, expr_no_key u a z c w.Negedge) (expr_no_key u a z c w.Posedge, expr_no_key u a z c w.Negedge)

  abbrev pub sensed_0 : Part (Edge × Expr)
  sensed_0 = both edge_part (valued_by d) edge_join

  abbrev pub sensed_of : Edge × Expr → Sensed
  sensed_of x = record { edge = x.0; signal = x.1 }

  pub sensed_whole : (ts : List Placed) → Turns sensed_0 ts sensed_at (sensed_depths d) EndsExpr EndsExpr ts sensed_of
  sensed_whole ts =
      whole sensed_0 sensed_at (sensed_depths d) sensed_of (λ x. refl) (λ x us z c. c) (λ u us z c g. ((u.edge, u.signal), c, refl)) ts

  -- ---- edges with separators between them

  or_ends : (p : Place) (z : List Placed) → EndsExpr (at (k.key w.Or) p ∷ z)
  or_ends p z = omega arith

  abbrev pub sensed_part : Part Sensed
  sensed_part = record {
    at = sensed_at;
    depths = sensed_depths d;
    may = EndsExpr;
    seen = EndsExpr;
    some = λ z f. let o = some_expr EndsExpr z f in (sensed_of (no_edge, o.0), o.1, (o.1, refl, o.2));
  }

  abbrev pub more_part : Part (List Sensed)
  more_part = record { at = more_sensed_at; depths = more_depths sensed_depths d; may = EndsSensed; seen = EndsSensed; some = λ z f. ([], z, refl) }

  pub list_join : Joins sensed_part more_part
  list_join [] a z c = (λ f. subst EndsExpr (sym c) f.2, λ f. subst EndsExpr (sym c) f.2)
  list_join (x ∷ xs) a z (mid, inl (p, h), r) = agree (subst EndsExpr (sym h) (or_ends p mid)) (subst EndsExpr (sym h) (or_ends p mid))
  list_join (x ∷ xs) a z (mid, inr (p, h), r) = agree (subst EndsExpr (sym h) (comma_ends p mid)) (subst EndsExpr (sym h) (comma_ends p mid))

  abbrev pub pair : Part (Sensed × List Sensed)
  pair = both sensed_part more_part list_join

  list_out : (u : List Sensed) (us z : List Placed) → sensed_list_at u us z → EndsSensed z
      → (x : Sensed × List Sensed) × pair.at x us z × (u ≡ x.0 ∷ x.1)
  list_out [] us z c g = absurd c
  list_out (x ∷ xs) us z c g = ((x, xs), c, refl)

  pub list_whole : (ts : List Placed)
      → Turns pair ts sensed_list_at (comma_depths sensed_depths d) EndsSensed EndsSensed ts (λ x. x.0 ∷ x.1)
  list_whole ts =
      whole pair sensed_list_at (comma_depths sensed_depths d) (λ x. x.0 ∷ x.1) (λ x. refl) (λ x us z c. c) list_out ts

  module _ (low : d ≤ 200) (b : Kind) (p : Place) (into : (us : List Placed) → separator_at (at b p ∷ us) us)
      (no : (z : List Placed) → EndsSensed (at b p ∷ z) → ⊥) where
    separated_out : (u : List Sensed) (us z : List Placed) → more_sensed_at u (at b p ∷ us) z → EndsSensed z
        → (x : Sensed × List Sensed) × pair.at x us z × (u ≡ x.0 ∷ x.1)
    separated_out [] us z c g = absurd (no us (subst EndsSensed (sym c) g))
    separated_out (x ∷ xs) us z (mid, inl (q, h), r) g = let f : mid ≡ us = cc in ((x, xs), subst (λ w. pair.at (x, xs) w z) f r, refl)
    separated_out (x ∷ xs) us z (mid, inr (q, h), r) g = let f : mid ≡ us = cc in ((x, xs), subst (λ w. pair.at (x, xs) w z) f r, refl)

    separated_part : (ts us : List Placed) → ts ≡ at b p ∷ us
        → Turns pair us more_sensed_at (more_depths sensed_depths d) EndsSensed EndsSensed ts (λ x. x.0 ∷ x.1)
    separated_part ts us h =
        after pair more_sensed_at (more_depths sensed_depths d) (λ x. x.0 ∷ x.1) (at b p) d low (λ x. refl)
        (λ x us z c. (us, into us, c)) separated_out ts us h

  pub separated : d ≤ 200 → (ts us : List Placed) → separator_at ts us
      → Turns pair us more_sensed_at (more_depths sensed_depths d) EndsSensed EndsSensed ts (λ x. x.0 ∷ x.1)
  separated low ts us (inl (p, h)) = separated_part low (k.key w.Or) p (λ us. inl (p, refl)) (λ z f. f.0 refl) ts us h
  separated low ts us (inr (p, h)) = separated_part low (k.mark m.Comma) p (λ us. inr (p, refl)) (λ z f. f.1 refl) ts us h

  no_more : (u : List Sensed) (a : Placed) (y z : List Placed) → Not (k.key w.Or) (a ∷ y) × Not (k.mark m.Comma) (a ∷ y)
      → more_sensed_at u (a ∷ y) z → (u ≡ []) × (z ≡ a ∷ y)
  no_more [] a y z n c = (refl, sym c)
  no_more (x ∷ xs) a y z n (mid, inl (q, h), r) = absurd ((subst (Not (k.key w.Or)) h n.0) refl)
  no_more (x ∷ xs) a y z n (mid, inr (q, h), r) = absurd ((subst (Not (k.mark m.Comma)) h n.1) refl)

  no_more_end : (u : List Sensed) (z : List Placed) → more_sensed_at u [] z → (u ≡ []) × (z ≡ [])
  no_more_end [] z c = (refl, sym c)
  no_more_end (x ∷ xs) z (mid, inl (q, h), r) = absurd cc
  no_more_end (x ∷ xs) z (mid, inr (q, h), r) = absurd cc

  pub more_none : (ts : List Placed) → Not (k.key w.Or) ts × Not (k.mark m.Comma) ts → Takes more_part [] ts ts
  more_none ts n =
      took_empty more_sensed_at (more_depths sensed_depths d) EndsSensed EndsSensed [] (λ z. refl) refl ts
      (λ a after e u y z c g. no_more u a y z (subst (λ q. Not (k.key w.Or) q × Not (k.mark m.Comma) q) e n) c) (λ u z c g. no_more_end u z c)

-- ---- what stands in parentheses

edge_no_star : (g : Edge) (e : Expr) (a m1 z : List Placed) → edge_at g a m1 → expr_at e m1 z → Not (k.mark m.Star) a
edge_no_star (positive_edge p) e a m1 z h c = subst (Not (k.mark m.Star)) (sym h) (λ q. absurd cc)
edge_no_star (negative_edge p) e a m1 z h c = subst (Not (k.mark m.Star)) (sym h) (λ q. absurd cc)
edge_no_star no_edge e a m1 z h c = subst (Not (k.mark m.Star)) (sym h) (expr_no_star e m1 z c)

list_no_star : (xs : List Sensed) (a z : List Placed) → sensed_list_at xs a z → Not (k.mark m.Star) a
list_no_star [] a z c = absurd c
list_no_star (x ∷ xs) a z (mid, (m1, g, e), r) = edge_no_star x.edge x.signal a m1 mid g e

module _ (d : ℕ) where
  star_out : (p : Place) (u : Event) (us z : List Placed) → enclosed_event_at u (at (k.mark m.Star) p ∷ us) z → Any z
      → (x : Unit {0}) × (passed d (k.mark m.CloseParen)).at x us z × (u ≡ any_read_list)
  star_out p any_read us z c g = absurd c
  star_out p any_read_list us z (mid, (q, h), c) g = let f : mid ≡ us = cc in (tt, subst (λ w. (passed d (k.mark m.CloseParen)).at tt w z) f c, refl)
  star_out p (sensed xs) us z (mid, l, c) g = absurd (list_no_star xs (at (k.mark m.Star) p ∷ us) mid l refl)

  pub star_part : d + 1 ≤ 200 → (p : Place) (ts us : List Placed) → ts ≡ at (k.mark m.Star) p ∷ us
      → Turns (passed d (k.mark m.CloseParen)) us enclosed_event_at (enclosed_event_depths d) Any Any ts (λ x. any_read_list)
  star_part low p ts us h =
      after (passed d (k.mark m.CloseParen)) enclosed_event_at (enclosed_event_depths d) (λ x. any_read_list) (at (k.mark m.Star) p) (d + 1) low
      (λ x. refl) (λ x us z c. (us, (p, refl), c)) (star_out p) ts us h

  pub star_sunk : (p : Place) (ts rest : List Placed) → ts ≡ at (k.mark m.Star) p ∷ rest → d ≡ 200
      → Sunk enclosed_event_at (enclosed_event_depths d) Any Any ts (length ts)
  star_sunk p ts rest h i =
      sunk_here enclosed_event_at (enclosed_event_depths d) Any Any ts (at (k.mark m.Star) p) rest h
      (λ z f. (any_read_list, at (k.mark m.CloseParen) somewhere ∷ z, (at (k.mark m.CloseParen) somewhere ∷ z, (p, refl), (somewhere, refl)), ap (λ n. n + 1) i))
      (λ u y z c g.
      let o = star_out p u y z c g in
      subst (λ v. Sinks (at (k.mark m.Star) p ∷ []) (enclosed_event_depths d v)) (sym o.2) (ap (λ n. n + 1) i))

  close_sensed : (p : Place) (z : List Placed) → EndsSensed (at (k.mark m.CloseParen) p ∷ z)
  close_sensed p z = (λ h. absurd cc, λ h. absurd cc, close_ends p z)

  abbrev pub sensed_list : Part (List Sensed)
  sensed_list = record {
    at = sensed_list_at;
    depths = comma_depths sensed_depths (d + 1);
    may = EndsSensed;
    seen = EndsSensed;
    some = λ z f. let o = (sensed_part (d + 1)).some z f.2 in (o.0 ∷ [], o.1, (z, o.2, refl));
  }

  abbrev pub enclosed_1 : Part (Unit {0})
  enclosed_1 = passed d (k.mark m.CloseParen)

  pub enclosed_j0 : Joins (sensed_list) enclosed_1
  enclosed_j0 u a z c = ends_at EndsSensed (k.mark m.CloseParen) close_sensed a z c

  abbrev pub enclosed_0 : Part (List Sensed × Unit {0})
  enclosed_0 = both (sensed_list) enclosed_1 enclosed_j0

  enclosed_out : (u : Event) (us z : List Placed) → Not (k.mark m.Star) us → enclosed_event_at u us z → Any z
      → (x : List Sensed × Unit {0}) × enclosed_0.at x us z × (u ≡ sensed x.0)
  enclosed_out any_read us z n c g = absurd c
  enclosed_out any_read_list us z n (mid, (q, h), c) g = absurd ((subst (Not (k.mark m.Star)) h n) refl)
  enclosed_out (sensed xs) us z n c g = ((xs, tt), c, refl)

  pub enclosed_part : (ts : List Placed) → Not (k.mark m.Star) ts
      → Turns enclosed_0 ts enclosed_event_at (enclosed_event_depths d) Any Any ts (λ x. sensed x.0)
  enclosed_part ts n =
      leads_where (Not (k.mark m.Star)) ts tt (λ a after e y. subst (Not (k.mark m.Star)) e n) enclosed_0.at enclosed_0.depths enclosed_event_at
      (enclosed_event_depths d) Any Any (λ x. sensed x.0) (λ x. refl) (λ x us z c. c) enclosed_out

  -- ---- an event

  abbrev pub nothing_part : Part (Unit {0})
  nothing_part = record { at = Nothing; depths = λ u. []; may = Any; seen = Any; some = λ z f. (tt, z, refl) }

  read_out : (p : Place) (u : Event) (us z : List Placed) → awaited_at u (at (k.mark m.Star) p ∷ us) z → Any z
      → (x : Unit {0}) × nothing_part.at x us z × (u ≡ any_read)
  read_out p any_read us z (q, h) g = (tt, cc, refl)
  read_out p any_read_list us z (mid, (q, h), c) g = absurd cc
  read_out p (sensed xs) us z (mid, (q, h), c) g = absurd cc

  pub read_part : d ≤ 200 → (p : Place) (ts us : List Placed) → ts ≡ at (k.mark m.Star) p ∷ us
      → Turns nothing_part us awaited_at (awaited_depths d) Any Any ts (λ x. any_read)
  read_part low p ts us h =
      after nothing_part awaited_at (awaited_depths d) (λ x. any_read) (at (k.mark m.Star) p) d low
      (λ x. refl) (λ x us z c. (p, ap (λ q. at (k.mark m.Star) p ∷ q) c)) (read_out p) ts us h

  abbrev pub in_parens_part : Part Event
  in_parens_part = record {
    at = enclosed_event_at;
    depths = enclosed_event_depths d;
    may = Any;
    seen = Any;
    some = λ z f. (
      any_read_list,
      at (k.mark m.Star) somewhere ∷ at (k.mark m.CloseParen) somewhere ∷ z,
      (at (k.mark m.CloseParen) somewhere ∷ z, (somewhere, refl), (somewhere, refl)),
    );
  }

  abbrev pub opened_1 : Part (Event)
  opened_1 = in_parens_part

  pub opened_j0 : Joins (passed d (k.mark m.OpenParen)) opened_1
  opened_j0 u a z c = free

  abbrev pub opened_0 : Part (Unit {0} × Event)
  opened_0 = both (passed d (k.mark m.OpenParen)) opened_1 opened_j0

  opened_deep : (x : Unit {0} × Event) → awaited_depths d x.1 ≡ opened_0.depths x
  opened_deep (u, any_read) = refl
  opened_deep (u, any_read_list) = refl
  opened_deep (u, sensed xs) = refl

  opened_into : (x : Unit {0} × Event) (us z : List Placed) → opened_0.at x us z → awaited_at x.1 us z
  opened_into (u, any_read) us z (mid, h, c) = absurd c
  opened_into (u, any_read_list) us z c = c
  opened_into (u, sensed xs) us z c = c

  opened_out : (u : Event) (us z : List Placed) → Not (k.mark m.Star) us → awaited_at u us z → Any z
      → (x : Unit {0} × Event) × opened_0.at x us z × (u ≡ x.1)
  opened_out any_read us z n (q, h) g = absurd ((subst (Not (k.mark m.Star)) h n) refl)
  opened_out any_read_list us z n c g = ((tt, any_read_list), c, refl)
  opened_out (sensed xs) us z n c g = ((tt, sensed xs), c, refl)

  pub opened_part : (ts : List Placed) → Not (k.mark m.Star) ts → Turns opened_0 ts awaited_at (awaited_depths d) Any Any ts (λ x. x.1)
  opened_part ts n =
      leads_where (Not (k.mark m.Star)) ts tt (λ a after e y. subst (Not (k.mark m.Star)) e n) opened_0.at opened_0.depths awaited_at
      (awaited_depths d) Any Any (λ x. x.1) opened_deep opened_into opened_out

  abbrev pub awaited_part : Part Event
  awaited_part = record {
    at = awaited_at;
    depths = awaited_depths d;
    may = Any;
    seen = Any;
    some = λ z f. (any_read, at (k.mark m.Star) somewhere ∷ z, (somewhere, refl));
  }

  abbrev pub event_1 : Part (Event)
  event_1 = awaited_part

  pub event_j0 : Joins (passed d (k.mark m.At)) event_1
  event_j0 u a z c = free

  abbrev pub event_0 : Part (Unit {0} × Event)
  event_0 = both (passed d (k.mark m.At)) event_1 event_j0

  event_deep : (x : Unit {0} × Event) → event_depths d x.1 ≡ event_0.depths x
  event_deep (u, any_read) = refl
  event_deep (u, any_read_list) = refl
  event_deep (u, sensed xs) = refl

  event_into : (x : Unit {0} × Event) (us z : List Placed) → event_0.at x us z → event_at x.1 us z
  event_into (u, any_read) us z c = c
  event_into (u, any_read_list) us z c = c
  event_into (u, sensed xs) us z c = c

  event_out : (u : Event) (us z : List Placed) → event_at u us z → Any z → (x : Unit {0} × Event) × event_0.at x us z × (u ≡ x.1)
  event_out any_read us z c g = ((tt, any_read), c, refl)
  event_out any_read_list us z c g = ((tt, any_read_list), c, refl)
  event_out (sensed xs) us z c g = ((tt, sensed xs), c, refl)

  pub event_whole : (ts : List Placed) → Turns event_0 ts event_at (event_depths d) Any Any ts (λ x. x.1)
  event_whole ts = whole event_0 event_at (event_depths d) (λ x. x.1) event_deep event_into event_out ts
