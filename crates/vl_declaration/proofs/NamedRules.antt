-- The rules of nets, variables, and what an `assign` drives.
use Rattle.std.proofs.Common.{◌≡◌, ◌≤◌, ℕ, List, ◌∷◌, refl, sym, subst, arith}
use Rattle.std.specs.Prelude.{Option, Some, None}
use Rattle.vl_tree.specs.declared.token.Mark.TheVariants as m
use Rattle.vl_tree.specs.Token as k
use Rattle.vl_tree.specs.Syntax.{Place, Name, Range, Expr, Variable, variable, valued, memory, Target}
use Rattle.vl_tree.specs.Placed.{Placed, at}
use Rattle.vl_tree.specs.Piece.{Piece, ◌then◌, mark, maybe}
use Rattle.vl_tree.specs.Expressions.{expr_at, range_at}
use Rattle.vl_tree.specs.Statements.{target_at}
use Rattle.vl_tree.specs.Modules.{net_at, variable_at, driven_at}
use Rattle.vl_tree.specs.Depth.{range_depths, depths_of, value_depths, net_depths, variable_depths, driven_depths, target_depths}
use Rattle.vl_read.specs.Tokens.{Not}
use Rattle.vl_read.proofs.Leads.{leads_on, leads_where}
use Rattle.vl_expr.specs.Ends.{EndsExpr}
use Rattle.vl_expr.proofs.Common.{ends_bracket, ends_to}
use Rattle.vl_simple.specs.Targets.{EndsTarget}
use Rattle.vl_simple.proofs.TargetRules.{target_laws}
use Rattle.vl_declaration.specs.Readers.{NoRange, NoValue, value_at}
use Rattle.vl_declaration.proofs.Parts.{Part, Joins, both, Turns, Takes, whole, after, less, lesser, found, named, valued_by, ends_on, free, optional, optional_none}
use Rattle.vl_declaration.proofs.RangeRules.{ranged}

abbrev pub equals_by : Expr → Piece
equals_by e = mark m.Equals then expr_at e

pub equals_starts : (e : Expr) (a z : List Placed) → equals_by e a z → (p : Place) × (y : List Placed) × (a ≡ at (k.mark m.Equals) p ∷ y)
equals_starts e a z (mid, (p, h), c) = (p, mid, h)

pub value_bracket : (z : List Placed) → NoValue z → NoRange z
value_bracket z f = ends_bracket z (ends_to 1 12 (omega arith) z f.1)

pub data Tail : Type 0 where
  by_value : Expr → Tail
  by_range : Option Range → Tail

abbrev pub tail_at : Tail → Piece
tail_at (by_value e) = equals_by e
tail_at (by_range r) = maybe range_at r

abbrev pub tail_depths : ℕ → Tail → List ℕ
tail_depths d (by_value e) = value_depths d e
tail_depths d (by_range r) = depths_of range_depths d r

abbrev pub variable_of : Name → Tail → Variable
variable_of n (by_value e) = valued n e
variable_of n (by_range None) = variable n
variable_of n (by_range (Some r)) = memory n r

module _ (d : ℕ) where
  -- ---- a value that may be left out

  abbrev pub value_part : Part (Option Expr)
  value_part = optional equals_by value_depths (k.mark m.Equals) equals_starts d NoValue

  value_out : (p : Place) (u : Option Expr) (us z : List Placed) → value_at u (at (k.mark m.Equals) p ∷ us) z → NoValue z
      → (x : Expr) × expr_at x us z × (u ≡ Some x)
  value_out p None us z c g = absurd ((subst NoValue (sym c) g).0 refl)
  value_out p (Some e) us z (mid, (q, h), c) g = let f : mid ≡ us = cc in (e, subst (λ w. expr_at e w z) f c, refl)

  pub value_some : d ≤ 200 → (p : Place) (ts us : List Placed) → ts ≡ at (k.mark m.Equals) p ∷ us
      → Turns (valued_by d) us value_at (depths_of value_depths d) NoValue NoValue ts (λ e. Some e)
  value_some low p ts us h =
      leads_on (lesser (valued_by d) NoValue NoValue (λ z f. f.1) (λ z g. g.1) us)
      (after (less (valued_by d) NoValue NoValue (λ z f. f.1)) value_at (depths_of value_depths d) (λ e. Some e) (at (k.mark m.Equals) p) d low (λ x. refl)
      (λ x us z c. (us, (p, refl), c)) (value_out p) ts us h)

  pub value_none : (ts : List Placed) → Not (k.mark m.Equals) ts → Takes value_part None ts ts
  value_none ts n = optional_none equals_by value_depths (k.mark m.Equals) equals_starts d NoValue ts n

  -- ---- a net

  abbrev pub net_1 : Part (Option Expr)
  net_1 = value_part

  pub net_j0 : Joins (named d) net_1
  net_j0 u a z c = free

  abbrev pub net_0 : Part (Name × Option Expr)
  net_0 = both (named d) net_1 net_j0

  pub net_whole : (ts : List Placed) → Turns net_0 ts net_at (net_depths d) NoValue NoValue ts (λ x. record { name = x.0; value = x.1 })
  net_whole ts =
      whole net_0 net_at (net_depths d) (λ x. record { name = x.0; value = x.1 }) (λ x. refl) (λ x us z c. c)
      (λ u us z c g. ((u.name, u.value), c, refl)) ts

  -- ---- what an `assign` drives

  abbrev pub targeted : Part Target
  targeted = record { at = target_at; depths = target_depths d; may = EndsTarget; seen = EndsTarget; some = target_laws.some }

  equals_target : (p : Place) (z : List Placed) → EndsTarget (at (k.mark m.Equals) p ∷ z)
  equals_target p z h = absurd cc

  abbrev pub driven_2 : Part (Expr)
  driven_2 = valued_by d

  pub driven_j1 : Joins (found d (k.mark m.Equals)) driven_2
  driven_j1 u a z c = free

  abbrev pub driven_1 : Part (Place × Expr)
  driven_1 = both (found d (k.mark m.Equals)) driven_2 driven_j1

  pub driven_j0 : Joins (targeted) driven_1
  driven_j0 u a z c = ends_on EndsTarget (k.mark m.Equals) equals_target u.0 a c.0 c.1

  abbrev pub driven_0 : Part (Target × (Place × Expr))
  driven_0 = both (targeted) driven_1 driven_j0

  pub driven_whole : (ts : List Placed) → Turns driven_0 ts driven_at (driven_depths d) EndsExpr EndsExpr ts (λ x. record { target = x.0; place = x.1.0; value = x.1.1 })
  driven_whole ts =
      whole driven_0 driven_at (driven_depths d) (λ x. record { target = x.0; place = x.1.0; value = x.1.1 }) (λ x. refl) (λ x us z c. c)
      (λ u us z c g. ((u.target, (u.place, u.value)), c, refl)) ts

  -- ---- what may come after a variable's name: `=` and a value, or a range

  abbrev pub tail_part : Part Tail
  tail_part = record { at = tail_at; depths = tail_depths d; may = NoValue; seen = NoValue; some = λ z f. (by_range None, z, refl) }

  abbrev pub variable_1 : Part (Tail)
  variable_1 = tail_part

  pub variable_j0 : Joins (named d) variable_1
  variable_j0 u a z c = free

  abbrev pub variable_0 : Part (Name × Tail)
  variable_0 = both (named d) variable_1 variable_j0

  variable_deep : (n : Name) (t : Tail) → variable_depths d (variable_of n t) ≡ variable_0.depths (n, t)
  variable_deep n (by_value e) = refl
  variable_deep n (by_range None) = refl
  variable_deep n (by_range (Some r)) = refl

  variable_into : (n : Name) (t : Tail) (us z : List Placed) → variable_0.at (n, t) us z → variable_at (variable_of n t) us z
  variable_into n (by_value e) us z c = c
  variable_into n (by_range None) us z (mid, h, c) = subst (λ w. variable_at (variable n) us w) c h
  variable_into n (by_range (Some r)) us z c = c

  variable_out : (u : Variable) (us z : List Placed) → variable_at u us z → NoValue z
      → (x : Name × Tail) × variable_0.at x us z × (u ≡ variable_of x.0 x.1)
  variable_out (variable n) us z c g = ((n, by_range None), (z, c, refl), refl)
  variable_out (valued n e) us z c g = ((n, by_value e), c, refl)
  variable_out (memory n r) us z c g = ((n, by_range (Some r)), c, refl)

  pub variable_whole : (ts : List Placed) → Turns variable_0 ts variable_at (variable_depths d) NoValue NoValue ts (λ x. variable_of x.0 x.1)
  variable_whole ts =
      whole variable_0 variable_at (variable_depths d) (λ x. variable_of x.0 x.1) (λ x. variable_deep x.0 x.1)
      (λ x us z c. variable_into x.0 x.1 us z c) variable_out ts

  by_value_out : (p : Place) (u : Tail) (us z : List Placed) → tail_at u (at (k.mark m.Equals) p ∷ us) z → NoValue z
      → (x : Expr) × expr_at x us z × (u ≡ by_value x)
  by_value_out p (by_value e) us z (mid, (q, h), c) g = let f : mid ≡ us = cc in (e, subst (λ w. expr_at e w z) f c, refl)
  by_value_out p (by_range None) us z c g = absurd ((subst NoValue (sym c) g).0 refl)
  by_value_out p (by_range (Some r)) us z (mid, h, c) g = absurd cc

  pub tail_value : d ≤ 200 → (p : Place) (ts us : List Placed) → ts ≡ at (k.mark m.Equals) p ∷ us
      → Turns (valued_by d) us tail_at (tail_depths d) NoValue NoValue ts by_value
  tail_value low p ts us h =
      leads_on (lesser (valued_by d) NoValue NoValue (λ z f. f.1) (λ z g. g.1) us)
      (after (less (valued_by d) NoValue NoValue (λ z f. f.1)) tail_at (tail_depths d) by_value (at (k.mark m.Equals) p) d low (λ x. refl)
      (λ x us z c. (us, (p, refl), c)) (by_value_out p) ts us h)

  by_range_out : (u : Tail) (us z : List Placed) → Not (k.mark m.Equals) us → tail_at u us z → NoValue z
      → (x : Option Range) × maybe range_at x us z × (u ≡ by_range x)
  by_range_out (by_value e) us z n (mid, (q, h), c) g = absurd ((subst (Not (k.mark m.Equals)) h n) refl)
  by_range_out (by_range r) us z n c g = (r, c, refl)

  pub tail_range : (ts : List Placed) → Not (k.mark m.Equals) ts
      → Turns (ranged d NoRange) ts tail_at (tail_depths d) NoValue NoValue ts by_range
  tail_range ts n =
      leads_on (lesser (ranged d NoRange) NoValue NoValue value_bracket value_bracket ts)
      (leads_where (Not (k.mark m.Equals)) ts tt (λ a after e y. subst (Not (k.mark m.Equals)) e n) (maybe range_at) (depths_of range_depths d) tail_at (tail_depths d)
      NoValue NoValue by_range (λ x. refl) (λ x us z c. c) by_range_out)
