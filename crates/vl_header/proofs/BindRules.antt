-- The rules of connections of instances, and of values of their parameters.
use Rattle.std.proofs.Common.{inl, inr, ◌≡◌, ◌≤◌, ◌+◌, ℕ, List, [], ◌∷◌, refl, sym, ◌∙◌, ap, subst}
use Rattle.std.specs.Prelude.{Option, Some, None}
use Rattle.vl_tree.specs.declared.token.Mark.TheVariants as m
use Rattle.vl_tree.specs.Token.{Kind}
use Rattle.vl_tree.specs.Token as k
use Rattle.vl_tree.specs.Syntax.{Place, Name, Expr, Exprs, no_expr, more_expr, NamedBind, Binds, ordered, by_name}
use Rattle.vl_tree.specs.Placed.{Placed, at, kind_of}
use Rattle.vl_tree.specs.Piece.{◌then◌, mark, maybe, in_parens}
use Rattle.vl_tree.specs.Expressions.{exprs_at}
use Rattle.vl_tree.specs.Modules.{named_bind_at, binds_at, instance_at}
use Rattle.vl_tree.specs.Depth.{exprs_depths, depths_of, named_bind_depths, instance_depths, parameter_binds_depths}
use Rattle.vl_read.specs.Reading.{Any}
use Rattle.vl_read.specs.Tokens.{Not}
use Rattle.vl_read.specs.Commas.{EndsCommas}
use Rattle.vl_read.proofs.Leads.{leads_on, leads_where}
use Rattle.vl_read.proofs.TokenRules.{somewhere}
use Rattle.vl_expr.specs.Ends.{EndsExpr, EndsList}
use Rattle.vl_expr.proofs.Common.{some_list, close_ends, close_list}
use Rattle.vl_header.specs.Laws.{named_bind_laws}
use Rattle.vl_header.specs.Readers.{closed_at, closed_depths, closed_binds_at, closed_binds_depths, parameter_binds_at, NoHash}
use Rattle.vl_declaration.proofs.Parts.{Part, Joins, both, Turns, Takes, whole, after, less, lesser, passed, found, named, valued_by, listed, ends_at, free, optional, optional_none}
use Rattle.vl_declaration.proofs.EventRules.{Opens, First, expr_opens, nothing_part}

-- the first token, if there is one, is of this kind
abbrev pub Only : Kind → List Placed → Type 0
Only b [] = Unit {0}
Only b (a ∷ rest) = kind_of a ≡ b

pub only_next : (b : Kind) (p : Place) (ts us : List Placed) → ts ≡ at b p ∷ us → (a : Placed) (after : List Placed) → ts ≡ a ∷ after
    → (y : List Placed) → Only b (a ∷ y)
only_next b p ts us h a after e y = subst (Only b) (let q : at b p ≡ a = cc in ap (λ w. w ∷ y) q) refl

close_no : Opens (k.mark m.CloseParen) → ⊥
close_no (inl e) = absurd cc
close_no (inr (inl e)) = absurd cc
close_no (inr (inr (op, e))) = absurd cc

dot_no : Opens (k.mark m.Dot) → ⊥
dot_no (inl e) = absurd cc
dot_no (inr (inl e)) = absurd cc
dot_no (inr (inr (op, e))) = absurd cc

only_opens : (b : Kind) (us : List Placed) → Only b us → First Opens us → Opens b
only_opens b [] o f = absurd f
only_opens b (a ∷ us) o f = subst Opens o f

close_commas : (p : Place) (z : List Placed) → EndsCommas Any (at (k.mark m.CloseParen) p ∷ z)
close_commas p z = (λ h. absurd cc, tt)

module _ (d : ℕ) where
  -- ---- an expression that may be left out, and `)`

  shut_out : (p : Place) (u : Option Expr) (us z : List Placed) → closed_at u (at (k.mark m.CloseParen) p ∷ us) z → Any z
      → (x : Unit {0}) × (nothing_part d).at x us z × (u ≡ None)
  shut_out p None us z (mid, e, (q, h)) g = (tt, let i = e ∙ h in cc, refl)
  shut_out p (Some x) us z (mid, c, h) g = absurd (close_no (expr_opens x (at (k.mark m.CloseParen) p ∷ us) mid c))

  pub shut_part : d ≤ 200 → (p : Place) (ts us : List Placed) → ts ≡ at (k.mark m.CloseParen) p ∷ us
      → Turns (nothing_part d) us closed_at (closed_depths d) Any Any ts (λ x. None)
  shut_part low p ts us h =
      after (nothing_part d) closed_at (closed_depths d) (λ x. None) (at (k.mark m.CloseParen) p) d low (λ x. refl)
      (λ x us z c. (at (k.mark m.CloseParen) p ∷ us, refl, (p, ap (λ w. at (k.mark m.CloseParen) p ∷ w) c))) (shut_out p) ts us h

  abbrev pub closed_1 : Part (Unit {0})
  closed_1 = passed d (k.mark m.CloseParen)

  pub closed_j0 : Joins (valued_by (d + 1)) closed_1
  closed_j0 u a z c = ends_at EndsExpr (k.mark m.CloseParen) close_ends a z c

  abbrev pub closed_0 : Part (Expr × Unit {0})
  closed_0 = both (valued_by (d + 1)) closed_1 closed_j0

  closed_out : (u : Option Expr) (us z : List Placed) → Not (k.mark m.CloseParen) us → closed_at u us z → Any z
      → (x : Expr × Unit {0}) × closed_0.at x us z × (u ≡ Some x.0)
  closed_out None us z n (mid, e, (q, h)) g = absurd ((subst (Not (k.mark m.CloseParen)) (e ∙ h) n) refl)
  closed_out (Some x) us z n c g = ((x, tt), c, refl)

  pub closed_part : (ts : List Placed) → Not (k.mark m.CloseParen) ts → Turns closed_0 ts closed_at (closed_depths d) Any Any ts (λ x. Some x.0)
  closed_part ts n =
      leads_where (Not (k.mark m.CloseParen)) ts tt (λ a after e y. subst (Not (k.mark m.CloseParen)) e n) closed_0.at closed_0.depths closed_at
      (closed_depths d) Any Any (λ x. Some x.0) (λ x. refl) (λ x us z c. c) closed_out

  abbrev pub closed_value : Part (Option Expr)
  closed_value = record {
    at = closed_at;
    depths = closed_depths d;
    may = Any;
    seen = Any;
    some = λ z f. (None, at (k.mark m.CloseParen) somewhere ∷ z, (at (k.mark m.CloseParen) somewhere ∷ z, refl, (somewhere, refl)));
  }

  -- ---- a bind by name

  abbrev pub bind_3 : Part (Option Expr)
  bind_3 = closed_value

  pub bind_j2 : Joins (passed d (k.mark m.OpenParen)) bind_3
  bind_j2 u a z c = free

  abbrev pub bind_2 : Part (Unit {0} × Option Expr)
  bind_2 = both (passed d (k.mark m.OpenParen)) bind_3 bind_j2

  pub bind_j1 : Joins (named d) bind_2
  bind_j1 u a z c = free

  abbrev pub bind_1 : Part (Name × (Unit {0} × Option Expr))
  bind_1 = both (named d) bind_2 bind_j1

  pub bind_j0 : Joins (found d (k.mark m.Dot)) bind_1
  bind_j0 u a z c = free

  abbrev pub bind_0 : Part (Place × (Name × (Unit {0} × Option Expr)))
  bind_0 = both (found d (k.mark m.Dot)) bind_1 bind_j0

  pub bind_whole : (ts : List Placed) → Turns bind_0 ts named_bind_at (named_bind_depths d) Any Any ts (λ x. record { place = x.0; name = x.1.0; value = x.1.1.1 })
  bind_whole ts =
      whole bind_0 named_bind_at (named_bind_depths d) (λ x. record { place = x.0; name = x.1.0; value = x.1.1.1 }) (λ x. refl) (λ x us z c. c)
      (λ u us z c g. ((u.place, (u.name, (tt, u.value))), c, refl)) ts

  -- ---- binds that may be left out, and `)`

  no_bind_out : (p : Place) (u : Option Binds) (us z : List Placed) → closed_binds_at u (at (k.mark m.CloseParen) p ∷ us) z → Any z
      → (x : Unit {0}) × (nothing_part d).at x us z × (u ≡ None)
  no_bind_out p None us z (mid, e, (q, h)) g = (tt, let i = e ∙ h in cc, refl)
  no_bind_out p (Some (ordered no_expr)) us z (mid, c, h) g = absurd c
  no_bind_out p (Some (ordered (more_expr x xs))) us z (mid, (m1, c, r), h) g = absurd (close_no (expr_opens x (at (k.mark m.CloseParen) p ∷ us) m1 c))
  no_bind_out p (Some (by_name [])) us z (mid, c, h) g = absurd c
  no_bind_out p (Some (by_name (b ∷ bs))) us z (mid, (m1, (m2, e, c), r), h) g = absurd cc

  pub no_bind_part : d ≤ 200 → (p : Place) (ts us : List Placed) → ts ≡ at (k.mark m.CloseParen) p ∷ us
      → Turns (nothing_part d) us closed_binds_at (closed_binds_depths d) Any Any ts (λ x. None)
  no_bind_part low p ts us h =
      after (nothing_part d) closed_binds_at (closed_binds_depths d) (λ x. None) (at (k.mark m.CloseParen) p) d low (λ x. refl)
      (λ x us z c. (at (k.mark m.CloseParen) p ∷ us, refl, (p, ap (λ w. at (k.mark m.CloseParen) p ∷ w) c))) (no_bind_out p) ts us h

  abbrev pub bind_list : Part (List NamedBind)
  bind_list = listed named_bind_at named_bind_depths Any named_bind_laws (d + 1)

  abbrev pub by_name_1 : Part (Unit {0})
  by_name_1 = passed d (k.mark m.CloseParen)

  pub by_name_j0 : Joins (bind_list) by_name_1
  by_name_j0 u a z c = ends_at (EndsCommas Any) (k.mark m.CloseParen) close_commas a z c

  abbrev pub by_name_0 : Part (List NamedBind × Unit {0})
  by_name_0 = both (bind_list) by_name_1 by_name_j0

  by_name_out : (u : Option Binds) (us z : List Placed) → Only (k.mark m.Dot) us → closed_binds_at u us z → Any z
      → (x : List NamedBind × Unit {0}) × by_name_0.at x us z × (u ≡ Some (by_name x.0))
  by_name_out None us z o (mid, e, (q, h)) g = let i = subst (Only (k.mark m.Dot)) (e ∙ h) o in absurd cc
  by_name_out (Some (ordered no_expr)) us z o (mid, c, h) g = absurd c
  by_name_out (Some (ordered (more_expr x xs))) us z o (mid, (m1, c, r), h) g =
      absurd (dot_no (only_opens (k.mark m.Dot) us o (expr_opens x us m1 c)))
  by_name_out (Some (by_name bs)) us z o c g = ((bs, tt), c, refl)

  pub by_name_part : (p : Place) (ts us : List Placed) → ts ≡ at (k.mark m.Dot) p ∷ us
      → Turns by_name_0 ts closed_binds_at (closed_binds_depths d) Any Any ts (λ x. Some (by_name x.0))
  by_name_part p ts us h =
      leads_where (Only (k.mark m.Dot)) ts tt (only_next (k.mark m.Dot) p ts us h) by_name_0.at by_name_0.depths closed_binds_at
      (closed_binds_depths d) Any Any (λ x. Some (by_name x.0)) (λ x. refl) (λ x us z c. c) by_name_out

  abbrev pub value_list : Part Exprs
  value_list = record { at = exprs_at; depths = exprs_depths (d + 1); may = EndsList; seen = EndsList; some = some_list EndsList }

  abbrev pub ordered_1 : Part (Unit {0})
  ordered_1 = passed d (k.mark m.CloseParen)

  pub ordered_j0 : Joins (value_list) ordered_1
  ordered_j0 u a z c = ends_at EndsList (k.mark m.CloseParen) close_list a z c

  abbrev pub ordered_0 : Part (Exprs × Unit {0})
  ordered_0 = both (value_list) ordered_1 ordered_j0

  abbrev NoBind : List Placed → Type 0
  NoBind us = Not (k.mark m.CloseParen) us × Not (k.mark m.Dot) us

  ordered_out : (u : Option Binds) (us z : List Placed) → NoBind us → closed_binds_at u us z → Any z
      → (x : Exprs × Unit {0}) × ordered_0.at x us z × (u ≡ Some (ordered x.0))
  ordered_out None us z o (mid, e, (q, h)) g = absurd ((subst (Not (k.mark m.CloseParen)) (e ∙ h) o.0) refl)
  ordered_out (Some (ordered xs)) us z o c g = ((xs, tt), c, refl)
  ordered_out (Some (by_name [])) us z o (mid, c, h) g = absurd c
  ordered_out (Some (by_name (b ∷ bs))) us z o (mid, (m1, (m2, e, c), r), h) g = absurd ((subst (Not (k.mark m.Dot)) e o.1) refl)

  pub ordered_part : (ts : List Placed) → Not (k.mark m.CloseParen) ts → Not (k.mark m.Dot) ts
      → Turns ordered_0 ts closed_binds_at (closed_binds_depths d) Any Any ts (λ x. Some (ordered x.0))
  ordered_part ts n o =
      leads_where NoBind ts (tt, tt) (λ a after e y. (subst (Not (k.mark m.CloseParen)) e n, subst (Not (k.mark m.Dot)) e o)) ordered_0.at ordered_0.depths closed_binds_at
      (closed_binds_depths d) Any Any (λ x. Some (ordered x.0)) (λ x. refl) (λ x us z c. c) ordered_out

  abbrev pub closed_binds : Part (Option Binds)
  closed_binds = record {
    at = closed_binds_at;
    depths = closed_binds_depths d;
    may = Any;
    seen = Any;
    some = λ z f. (None, at (k.mark m.CloseParen) somewhere ∷ z, (at (k.mark m.CloseParen) somewhere ∷ z, refl, (somewhere, refl)));
  }

  -- ---- an instance

  abbrev pub instance_2 : Part (Option Binds)
  instance_2 = closed_binds

  pub instance_j1 : Joins (passed d (k.mark m.OpenParen)) instance_2
  instance_j1 u a z c = free

  abbrev pub instance_1 : Part (Unit {0} × Option Binds)
  instance_1 = both (passed d (k.mark m.OpenParen)) instance_2 instance_j1

  pub instance_j0 : Joins (named d) instance_1
  instance_j0 u a z c = free

  abbrev pub instance_0 : Part (Name × (Unit {0} × Option Binds))
  instance_0 = both (named d) instance_1 instance_j0

  pub instance_whole : (ts : List Placed) → Turns instance_0 ts instance_at (instance_depths d) Any Any ts (λ x. record { name = x.0; binds = x.1.1 })
  instance_whole ts =
      whole instance_0 instance_at (instance_depths d) (λ x. record { name = x.0; binds = x.1.1 }) (λ x. refl) (λ x us z c. c)
      (λ u us z c g. ((u.name, (tt, u.binds)), c, refl)) ts

  -- ---- #( .. ), if it is there

  hash_out : (p : Place) (u : Option (Option Binds)) (us z : List Placed) → parameter_binds_at u (at (k.mark m.Hash) p ∷ us) z → NoHash z
      → (x : Unit {0} × Option Binds) × instance_1.at x us z × (u ≡ Some x.1)
  hash_out p None us z c g = absurd ((subst NoHash (sym c) g) refl)
  hash_out p (Some b) us z (mid, (q, h), c) g = let f : mid ≡ us = cc in ((tt, b), subst (λ w. instance_1.at (tt, b) w z) f c, refl)

  pub hash_part : d ≤ 200 → (p : Place) (ts us : List Placed) → ts ≡ at (k.mark m.Hash) p ∷ us
      → Turns instance_1 us parameter_binds_at (depths_of parameter_binds_depths d) NoHash NoHash ts (λ x. Some x.1)
  hash_part low p ts us h =
      leads_on (lesser instance_1 NoHash NoHash (λ z f. tt) (λ z g. tt) us)
      (after (less instance_1 NoHash NoHash (λ z f. tt)) parameter_binds_at (depths_of parameter_binds_depths d) (λ x. Some x.1)
      (at (k.mark m.Hash) p) d low (λ x. refl) (λ x us z c. (us, (p, refl), c)) (hash_out p) ts us h)

pub hash_starts : (x : Option Binds) (a z : List Placed) → (mark m.Hash then in_parens (maybe binds_at x)) a z
    → (p : Place) × (y : List Placed) × (a ≡ at (k.mark m.Hash) p ∷ y)
hash_starts x a z (mid, (p, h), c) = (p, mid, h)

abbrev pub parameter_binds : ℕ → (List Placed → Type 0) → Part (Option (Option Binds))
parameter_binds d F = optional (λ x. mark m.Hash then in_parens (maybe binds_at x)) parameter_binds_depths (k.mark m.Hash) hash_starts d F

pub hash_none : (d : ℕ) (ts : List Placed) → NoHash ts → Takes (parameter_binds d NoHash) None ts ts
hash_none d ts n = optional_none (λ x. mark m.Hash then in_parens (maybe binds_at x)) parameter_binds_depths (k.mark m.Hash) hash_starts d NoHash ts n
