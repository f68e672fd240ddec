-- The rules of directions, and of the ports and parameters of a module's header.
use Rattle.std.proofs.Common.{◌≡◌, ◌≤◌, ◌+◌, ℕ, List, [], ◌∷◌, ◌++◌, length, refl, sym, ◌∙◌, ap, subst}
use Rattle.std.specs.Prelude.{Bool, true, false, Option, Some, None}
use Rattle.std.specs.Option.{option_map}
use Rattle.vl_tree.specs.declared.token.Mark.TheVariants as m
use Rattle.vl_tree.specs.declared.token.Key.TheVariants as w
use Rattle.vl_tree.specs.declared.item.Kept as kept_code
use Rattle.vl_tree.specs.declared.item.Kept.TheVariants as kind
use Rattle.vl_tree.specs.Token.{Kind}
use Rattle.vl_tree.specs.Token as k
use Rattle.vl_tree.specs.Syntax.{Place, Name, Range, Expr, Direction, input, output, Kept, wire, reg, Directed, Valued}
use Rattle.vl_tree.specs.Syntax.{Port, declared_port, named_port, HeaderParameter, declared_parameter, next_parameter}
use Rattle.vl_tree.specs.SyntaxView as view
use Rattle.vl_tree.specs.Placed.{Placed, at}
use Rattle.vl_tree.specs.Piece.{Piece, ◌then◌, mark, maybe, name_at}
use Rattle.vl_tree.specs.Modules.{direction_word, kept_at, directed_at, port_at, named_port_at, valued_at, header_parameter_at, header_parameters_at}
use Rattle.vl_tree.specs.Depth.{kept_depth, depths_of, directed_depths, port_depths, valued_depths, name_depth}
use Rattle.vl_tree.specs.Depth.{header_parameter_depths, header_parameters_depths, comma_depths}
use Rattle.vl_read.specs.Reading.{Took, Stuck, Sunk, Any}
use Rattle.vl_read.specs.Tokens.{Not}
use Rattle.vl_read.specs.Commas.{EndsCommas}
use Rattle.vl_read.proofs.Pieces.{took_empty, stuck_here, sunk_here}
use Rattle.vl_read.proofs.Leads.{leads_on, leads_where, leads_same}
use Rattle.vl_read.proofs.TokenRules.{somewhere, NotName}
use Rattle.vl_expr.specs.Ends.{EndsExpr}
use Rattle.vl_expr.proofs.Common.{close_ends}
use Rattle.vl_declaration.specs.Laws.{valued_laws}
use Rattle.vl_header.specs.Laws.{port_laws, named_port_laws, header_laws}
use Rattle.vl_declaration.specs.Readers.{NoShape, shape_at, shape_depths}
use Rattle.vl_header.specs.Readers.{NoKept, FindsKept, NoDirected}
use Rattle.vl_header.specs.Readers.{closed_ports_at, closed_ports_depths, header_list_at, NoHash}
use Rattle.vl_declaration.proofs.Parts.{Part, Joins, both, Turns, Takes, whole, after, less, lesser, beginning, passed, found, named, valued_by, listed, ends_at, ends_on, free}
use Rattle.vl_declaration.proofs.EventRules.{nothing_part}

-- ---- what comes first

-- no direction comes next
abbrev pub NoDirection : List Placed → Type 0
NoDirection ts = Not (k.key w.Input) ts × Not (k.key w.Output) ts

no_direction : (v : Direction) (p : Place) (us mid : List Placed) → us ≡ at (k.key (direction_word v)) p ∷ mid → NoDirection us → ⊥
no_direction input p us mid h n = (subst (Not (k.key w.Input)) h n.0) refl
no_direction output p us mid h n = (subst (Not (k.key w.Output)) h n.1) refl

same_direction : (a b : Direction) → k.key (direction_word a) ≡ k.key (direction_word b) → a ≡ b
same_direction input input h = refl
same_direction input output h = absurd cc
same_direction output input h = absurd cc
same_direction output output h = refl

direction_no_name : (v : Direction) (n : List ℕ) → k.key (direction_word v) ≡ k.name n → ⊥
direction_no_name v n h = absurd cc

pub key_no_name : (b : _) (p : Place) (ts us : List Placed) → ts ≡ at (k.key b) p ∷ us → (a : Placed) (after : List Placed) → ts ≡ a ∷ after
    → (y : List Placed) → NotName (a ∷ y)
key_no_name b p ts us h a after e y =
    subst NotName (let q : at (k.key b) p ≡ a = cc in ap (λ w. w ∷ y) q) (λ n i. absurd cc)

directed_name : (n : List ℕ) (p : Place) (z : List Placed) → NoDirected (at (k.name n) p ∷ z)
directed_name n p z = ((λ h. absurd cc, λ h. absurd cc), (λ h. absurd cc, λ h. absurd cc))

shape_name : (n : List ℕ) (p : Place) (z : List Placed) → NoShape (at (k.name n) p ∷ z)
shape_name n p z = (λ h. absurd cc, λ h. absurd cc)

-- ---- `wire` or `reg`

no_kept : (u : Option Kept) (a : Placed) (y z : List Placed) → NoKept (a ∷ y) → maybe kept_at u (a ∷ y) z → (u ≡ None) × (z ≡ a ∷ y)
no_kept None a y z n c = (refl, sym c)
no_kept (Some wire) a y z n (p, h) = absurd ((subst NoKept h n).0 refl)
no_kept (Some reg) a y z n (p, h) = absurd ((subst NoKept h n).1 refl)

no_kept_end : (u : Option Kept) (z : List Placed) → maybe kept_at u [] z → (u ≡ None) × (z ≡ [])
no_kept_end None z c = (refl, sym c)
no_kept_end (Some wire) z (p, h) = absurd cc
no_kept_end (Some reg) z (p, h) = absurd cc

wire_out : (p : Place) (u : Option Kept) (y z : List Placed) → maybe kept_at u (at (k.key w.Wire) p ∷ y) z → NoKept z → (u ≡ Some wire) × (z ≡ y)
wire_out p None y z c g = absurd ((subst NoKept (sym c) g).0 refl)
wire_out p (Some wire) y z (q, h) g = (refl, cc)
wire_out p (Some reg) y z (q, h) g = absurd cc

reg_out : (p : Place) (u : Option Kept) (y z : List Placed) → maybe kept_at u (at (k.key w.Reg) p ∷ y) z → NoKept z → (u ≡ Some reg) × (z ≡ y)
reg_out p None y z c g = absurd ((subst NoKept (sym c) g).1 refl)
reg_out p (Some wire) y z (q, h) g = absurd cc
reg_out p (Some reg) y z (q, h) g = (refl, cc)

abbrev pub shaped : ℕ → (List Placed → Type 0) → Part (Bool × Option Range)
shaped d F = record { at = shape_at; depths = shape_depths d; may = F; seen = F; some = λ z f. ((false, None), z, (z, refl, refl)) }

module _ (d : ℕ) where
  abbrev pub kept_part : Part (Option Kept)
  kept_part = record { at = maybe kept_at; depths = depths_of kept_depth d; may = NoKept; seen = NoKept; some = λ z f. (None, z, refl) }

  pub kept_took : d ≤ 200 → (ts rest : List Placed) (x : Option kept_code.Kept) → FindsKept ts (x, rest)
      → Takes kept_part (option_map view.kept x) ts rest
  kept_took low ts rest (Some kind.Wire) (p, h) = record {
    used = at (k.key w.Wire) p ∷ [];
    whole = h;
    here = (p, h);
    any = λ z f. (p, refl);
    kept = λ b after e y. (p, refl);
    forced = λ b after e u y z c g. wire_out p u (b ∷ y) z c g;
    ended = λ u z c g. wire_out p u [] z c g;
    deep = (low, tt);
  }
  kept_took low ts rest (Some kind.Reg) (p, h) = record {
    used = at (k.key w.Reg) p ∷ [];
    whole = h;
    here = (p, h);
    any = λ z f. (p, refl);
    kept = λ b after e y. (p, refl);
    forced = λ b after e u y z c g. reg_out p u (b ∷ y) z c g;
    ended = λ u z c g. reg_out p u [] z c g;
    deep = (low, tt);
  }
  kept_took low ts rest None (n, h) =
      subst (λ w. Takes kept_part None ts w) h
      (took_empty (maybe kept_at) (depths_of kept_depth d) NoKept NoKept None (λ z. refl) refl ts
      (λ a after e u y z c g. no_kept u a y z (subst NoKept e n) c) (λ u z c g. no_kept_end u z c))

  -- ---- a declaration of a direction

  kept_shape : (u : Bool × Option Range) (a z : List Placed) → shape_at u a z → NoDirected z → NoKept a
  kept_shape (true, r) a z (mid, (p, h), c) f = subst NoKept (sym h) (λ i. absurd cc, λ i. absurd cc)
  kept_shape (false, None) a z (mid, e, c) f = subst NoKept (sym (e ∙ c)) f.0
  kept_shape (false, Some r) a z (mid, e, (m1, h, c)) f = subst NoKept (sym (e ∙ h)) (λ i. absurd cc, λ i. absurd cc)

  pub directed_j0 : Joins kept_part (shaped d NoDirected)
  directed_j0 u a z c = (λ f. kept_shape u a z c f, λ f. kept_shape u a z c f)

  abbrev pub directed_0 : Part (Option Kept × (Bool × Option Range))
  directed_0 = both kept_part (shaped d NoDirected) directed_j0

  abbrev pub directed_of : Direction → Place → Option Kept × (Bool × Option Range) → Directed
  directed_of v p x = record { place = p; direction = v; kept = x.0; signed = x.1.0; range = x.1.1 }

  directed_out : (v : Direction) (p : Place) (u : Directed) (us z : List Placed) → directed_at u (at (k.key (direction_word v)) p ∷ us) z → NoDirected z
      → (x : Option Kept × (Bool × Option Range)) × directed_0.at x us z × (u ≡ directed_of v p x)
  directed_out v p u us z (mid, h, c) g =
      let e : p ≡ u.place = cc in
      let f : mid ≡ us = cc in
      let i : k.key (direction_word u.direction) ≡ k.key (direction_word v) = cc in
      let j = same_direction u.direction v i in
      let x : Option Kept × (Bool × Option Range) = (u.kept, (u.signed, u.range)) in
      (x, subst (λ w. directed_0.at x w z) f c, ap (λ w. directed_of w u.place x) j ∙ ap (λ w. directed_of v w x) (sym e))

  pub directed_part : d ≤ 200 → (v : Direction) (p : Place) (ts us : List Placed) → ts ≡ at (k.key (direction_word v)) p ∷ us
      → Turns directed_0 us directed_at (directed_depths d) NoDirected NoDirected ts (directed_of v p)
  directed_part low v p ts us h =
      after directed_0 directed_at (directed_depths d) (directed_of v p) (at (k.key (direction_word v)) p) d low (λ x. refl)
      (λ x us z c. (us, refl, c)) (directed_out v p) ts us h

  pub some_directed : (v : Direction) (p : Place) (z : List Placed) → directed_at (directed_of v p (None, (false, None))) (at (k.key (direction_word v)) p ∷ z) z
  some_directed v p z = (z, refl, (z, refl, (z, refl, refl)))

  pub directed_stuck : (ts : List Placed) → NoDirection ts → Stuck directed_at (directed_depths d) NoDirected NoDirected ts (length ts)
  directed_stuck ts n =
      stuck_here directed_at (directed_depths d) NoDirected NoDirected ts
      (λ z f. (directed_of input somewhere (None, (false, None)), at (k.key w.Input) somewhere ∷ z, some_directed input somewhere z))
      (λ a after e u y z c g. no_direction u.direction u.place (a ∷ y) c.0 c.1 (subst NoDirection e n)) (λ u z c g. let h = c.1 in absurd cc)

  pub directed_sunk : (v : Direction) (p : Place) (ts us : List Placed) → ts ≡ at (k.key (direction_word v)) p ∷ us → d ≡ 201
      → Sunk directed_at (directed_depths d) NoDirected NoDirected ts (length ts)
  directed_sunk v p ts us h i =
      sunk_here directed_at (directed_depths d) NoDirected NoDirected ts (at (k.key (direction_word v)) p) us h
      (λ z f. (directed_of v p (None, (false, None)), z, some_directed v p z, i))
      (λ u y z c g. i)

  -- ---- a port

  abbrev pub direction_part : Part Directed
  direction_part = record {
    at = directed_at;
    depths = directed_depths d;
    may = NoDirected;
    seen = NoDirected;
    some = λ z f. (directed_of input somewhere (None, (false, None)), at (k.key w.Input) somewhere ∷ z, some_directed input somewhere z);
  }

  abbrev pub port_1 : Part (Name)
  port_1 = named d

  pub port_j0 : Joins (direction_part) port_1
  port_j0 u a z c = ends_on NoDirected (k.name u.text) (directed_name u.text) u.place a z c

  abbrev pub port_0 : Part (Directed × Name)
  port_0 = both (direction_part) port_1 port_j0

  port_out : (u : Port) (us z : List Placed) → NotName us → port_at u us z → Any z
      → (x : Directed × Name) × port_0.at x us z × (u ≡ declared_port x.0 x.1)
  port_out (declared_port x n) us z f c g = ((x, n), c, refl)
  port_out (named_port n) us z f h g = absurd ((subst NotName h f) n.text refl)

  pub port_declared : (v : Direction) (p : Place) (ts us : List Placed) → ts ≡ at (k.key (direction_word v)) p ∷ us
      → Turns port_0 ts port_at (port_depths d) Any Any ts (λ x. declared_port x.0 x.1)
  port_declared v p ts us h =
      leads_where NotName ts tt (key_no_name (direction_word v) p ts us h) port_0.at port_0.depths port_at (port_depths d) Any Any
      (λ x. declared_port x.0 x.1) (λ x. refl) (λ x us z c. c) port_out

  named_out : (u : Port) (us z : List Placed) → NoDirection us → port_at u us z → Any z → (x : Name) × name_at x us z × (u ≡ named_port x)
  named_out (declared_port x n) us z f (mid, (m1, h, c), r) g = absurd (no_direction x.direction x.place us m1 h f)
  named_out (named_port n) us z f h g = (n, h, refl)

  pub port_named : (ts : List Placed) → NoDirection ts → Turns (named d) ts port_at (port_depths d) Any Any ts named_port
  port_named ts n =
      leads_where NoDirection ts (tt, tt) (λ a after e y. subst NoDirection e n) name_at (name_depth d) port_at (port_depths d) Any Any
      named_port (λ x. refl) (λ x us z c. c) named_out

  alone_out : (u : Port) (us z : List Placed) → named_port_at u us z → Any z → (x : Name) × name_at x us z × (u ≡ named_port x)
  alone_out (declared_port x n) us z c g = absurd c
  alone_out (named_port n) us z h g = (n, h, refl)

  pub port_alone : (ts : List Placed) → Turns (named d) ts named_port_at (port_depths d) Any Any ts named_port
  port_alone ts = whole (named d) named_port_at (port_depths d) named_port (λ x. refl) (λ x us z c. c) alone_out ts

  -- ---- the ports of a header, and `)`

  no_port_out : (p : Place) (u : List Port) (us z : List Placed) → closed_ports_at u (at (k.mark m.CloseParen) p ∷ us) z → Any z
      → (x : Unit {0}) × (nothing_part d).at x us z × (u ≡ [])
  no_port_out p [] us z (mid, e, (q, h)) g = (tt, let i = e ∙ h in cc, refl)
  no_port_out p (declared_port x n ∷ more) us z (mid, (m1, (m2, (m3, h, c), r), s), q) g = absurd cc
  no_port_out p (named_port n ∷ more) us z (mid, (m1, h, r), q) g = absurd cc

  pub no_port_part : d ≤ 200 → (p : Place) (ts us : List Placed) → ts ≡ at (k.mark m.CloseParen) p ∷ us
      → Turns (nothing_part d) us closed_ports_at (closed_ports_depths d) Any Any ts (λ x. [])
  no_port_part low p ts us h =
      after (nothing_part d) closed_ports_at (closed_ports_depths d) (λ x. []) (at (k.mark m.CloseParen) p) d low (λ x. refl)
      (λ x us z c. (at (k.mark m.CloseParen) p ∷ us, refl, (p, ap (λ w. at (k.mark m.CloseParen) p ∷ w) c))) (no_port_out p) ts us h

  close_commas : (p : Place) (z : List Placed) → EndsCommas Any (at (k.mark m.CloseParen) p ∷ z)
  close_commas p z = (λ h. absurd cc, tt)

  abbrev pub port_list : Part (List Port)
  port_list = listed port_at port_depths Any port_laws (d + 1)

  abbrev pub name_list : Part (List Port)
  name_list = listed named_port_at port_depths Any named_port_laws (d + 1)

  abbrev pub ports_1 : Part (Unit {0})
  ports_1 = passed d (k.mark m.CloseParen)

  pub ports_j0 : Joins (port_list) ports_1
  ports_j0 u a z c = ends_at (EndsCommas Any) (k.mark m.CloseParen) close_commas a z c

  abbrev pub ports_0 : Part (List Port × Unit {0})
  ports_0 = both (port_list) ports_1 ports_j0

  abbrev pub names_1 : Part (Unit {0})
  names_1 = passed d (k.mark m.CloseParen)

  pub names_j0 : Joins (name_list) names_1
  names_j0 u a z c = ends_at (EndsCommas Any) (k.mark m.CloseParen) close_commas a z c

  abbrev pub names_0 : Part (List Port × Unit {0})
  names_0 = both (name_list) names_1 names_j0

  abbrev DeclaredNext : List Placed → Type 0
  DeclaredNext us = NotName us × Not (k.mark m.CloseParen) us

  ports_into : (x : List Port × Unit {0}) (us z : List Placed) → DeclaredNext us → ports_0.at x us z → closed_ports_at x.0 us z
  ports_into ([], u) us z f (mid, c, h) = absurd c
  ports_into (declared_port x n ∷ more, u) us z f c = c
  ports_into (named_port n ∷ more, u) us z f (mid, (m1, h, r), q) = absurd ((subst NotName h f.0) n.text refl)

  ports_full : (x : List Port × Unit {0}) → ports_0.at x [] [] → ⊥
  ports_full ([], u) (mid, c, q) = absurd c
  ports_full (declared_port x n ∷ more, u) (mid, (m1, (m2, (m3, h, c), r), s), q) = absurd cc
  ports_full (named_port n ∷ more, u) (mid, (m1, h, r), q) = absurd cc

  ports_out : (u : List Port) (us z : List Placed) → DeclaredNext us → closed_ports_at u us z → Any z
      → (x : List Port × Unit {0}) × ports_0.at x us z × (u ≡ x.0)
  ports_out [] us z f (mid, e, (q, h)) g = absurd ((subst (Not (k.mark m.CloseParen)) (e ∙ h) f.1) refl)
  ports_out (declared_port x n ∷ more) us z f c g = ((declared_port x n ∷ more, tt), c, refl)
  ports_out (named_port n ∷ more) us z f (mid, (m1, h, r), q) g = absurd ((subst NotName h f.0) n.text refl)

  declared_next : (v : Direction) (p : Place) (ts us : List Placed) → ts ≡ at (k.key (direction_word v)) p ∷ us → (a : Placed) (after : List Placed)
      → ts ≡ a ∷ after → (y : List Placed) → DeclaredNext (a ∷ y)
  declared_next v p ts us h a after e y = (
    key_no_name (direction_word v) p ts us h a after e y,
    subst (Not (k.mark m.CloseParen)) (let q : at (k.key (direction_word v)) p ≡ a = cc in ap (λ w. w ∷ y) q) (λ i. absurd cc),
  )

  pub ports_part : (v : Direction) (p : Place) (ts us : List Placed) → ts ≡ at (k.key (direction_word v)) p ∷ us
      → Turns ports_0 ts closed_ports_at (closed_ports_depths d) Any Any ts (λ x. x.0)
  ports_part v p ts us h =
      beginning ports_0 DeclaredNext ts (tt, tt) (declared_next v p ts us h) closed_ports_at (closed_ports_depths d) (λ x. x.0) (λ x. refl)
      ports_into ports_out ports_full tt (λ z f. ([], at (k.mark m.CloseParen) somewhere ∷ z, (at (k.mark m.CloseParen) somewhere ∷ z, refl, (somewhere, refl))))

  abbrev NamedNext : List Placed → Type 0
  NamedNext us = NoDirection us × Not (k.mark m.CloseParen) us

  names_into : (x : List Port × Unit {0}) (us z : List Placed) → names_0.at x us z → closed_ports_at x.0 us z
  names_into ([], u) us z (mid, c, h) = absurd c
  names_into (declared_port x n ∷ more, u) us z (mid, (m1, c, r), q) = absurd c
  names_into (named_port n ∷ more, u) us z c = c

  names_out : (u : List Port) (us z : List Placed) → NamedNext us → closed_ports_at u us z → Any z
      → (x : List Port × Unit {0}) × names_0.at x us z × (u ≡ x.0)
  names_out [] us z f (mid, e, (q, h)) g = absurd ((subst (Not (k.mark m.CloseParen)) (e ∙ h) f.1) refl)
  names_out (declared_port x n ∷ more) us z f (mid, (m1, (m2, (m3, h, c), r), s), q) g = absurd (no_direction x.direction x.place us m3 h f.0)
  names_out (named_port n ∷ more) us z f c g = ((named_port n ∷ more, tt), c, refl)

  pub names_part : (ts : List Placed) → NoDirection ts → Not (k.mark m.CloseParen) ts
      → Turns names_0 ts closed_ports_at (closed_ports_depths d) Any Any ts (λ x. x.0)
  names_part ts n o =
      leads_where NamedNext ts ((tt, tt), tt) (λ a after e y. (subst NoDirection e n, subst (Not (k.mark m.CloseParen)) e o)) names_0.at names_0.depths
      closed_ports_at (closed_ports_depths d) Any Any (λ x. x.0) (λ x. refl) names_into names_out

  -- ---- a parameter of a header

  abbrev pub header_4 : Part (Expr)
  header_4 = valued_by d

  pub header_j3 : Joins (passed d (k.mark m.Equals)) header_4
  header_j3 u a z c = free

  abbrev pub header_3 : Part (Unit {0} × Expr)
  header_3 = both (passed d (k.mark m.Equals)) header_4 header_j3

  pub header_j2 : Joins (named d) header_3
  header_j2 u a z c = free

  abbrev pub header_2 : Part (Name × (Unit {0} × Expr))
  header_2 = both (named d) header_3 header_j2

  pub header_j1 : Joins (shaped d NoShape) header_2
  header_j1 u a z c = ends_on NoShape (k.name u.0.text) (shape_name u.0.text) u.0.place a c.0 c.1

  abbrev pub header_1 : Part ((Bool × Option Range) × (Name × (Unit {0} × Expr)))
  header_1 = both (shaped d NoShape) header_2 header_j1

  pub header_j0 : Joins (found d (k.key w.Parameter)) header_1
  header_j0 u a z c = free

  abbrev pub header_0 : Part (Place × ((Bool × Option Range) × (Name × (Unit {0} × Expr))))
  header_0 = both (found d (k.key w.Parameter)) header_1 header_j0

  abbrev pub declared_of : Place × ((Bool × Option Range) × (Name × (Unit {0} × Expr))) → HeaderParameter
  declared_of x = declared_parameter x.0 x.1.0.0 x.1.0.1 x.1.1.0 x.1.1.1.1

  header_out : (u : HeaderParameter) (us z : List Placed) → NotName us → header_parameter_at u us z → EndsExpr z
      → (x : Place × ((Bool × Option Range) × (Name × (Unit {0} × Expr)))) × header_0.at x us z × (u ≡ declared_of x)
  header_out (declared_parameter p s r n e) us z f c g = ((p, ((s, r), (n, (tt, e)))), c, refl)
  header_out (next_parameter n e) us z f (mid, h, c) g = absurd ((subst NotName h f) n.text refl)

  pub header_declared : (p : Place) (ts us : List Placed) → ts ≡ at (k.key w.Parameter) p ∷ us
      → Turns header_0 ts header_parameter_at (header_parameter_depths d) EndsExpr EndsExpr ts declared_of
  header_declared p ts us h =
      leads_where NotName ts tt (key_no_name w.Parameter p ts us h) header_0.at header_0.depths header_parameter_at (header_parameter_depths d)
      EndsExpr EndsExpr declared_of (λ x. refl) (λ x us z c. c) header_out

  abbrev pub valued_part : Part Valued
  valued_part = record { at = valued_at; depths = valued_depths d; may = EndsExpr; seen = EndsExpr; some = valued_laws.some }

  next_out : (u : HeaderParameter) (us z : List Placed) → Not (k.key w.Parameter) us → header_parameter_at u us z → EndsExpr z
      → (x : Valued) × valued_at x us z × (u ≡ next_parameter x.name x.value)
  next_out (declared_parameter p s r n e) us z f (mid, h, c) g = absurd ((subst (Not (k.key w.Parameter)) h f) refl)
  next_out (next_parameter n e) us z f c g = (record { name = n; value = e }, c, refl)

  pub header_next : (ts : List Placed) → Not (k.key w.Parameter) ts
      → Turns valued_part ts header_parameter_at (header_parameter_depths d) EndsExpr EndsExpr ts (λ x. next_parameter x.name x.value)
  header_next ts n =
      leads_where (Not (k.key w.Parameter)) ts tt (λ a after e y. subst (Not (k.key w.Parameter)) e n) valued_at (valued_depths d) header_parameter_at
      (header_parameter_depths d) EndsExpr EndsExpr (λ x. next_parameter x.name x.value) (λ x. refl) (λ x us z c. c) next_out

  -- ---- the parameters of a header

  abbrev pub parameter_list : Part (List HeaderParameter)
  parameter_list = listed header_parameter_at header_parameter_depths EndsExpr header_laws d

  list_into : (x : List HeaderParameter) (us z : List Placed) → NotName us → parameter_list.at x us z → header_list_at x us z
  list_into [] us z f c = absurd c
  list_into (declared_parameter p s r n e ∷ more) us z f c = c
  list_into (next_parameter n e ∷ more) us z f (mid, (m1, h, c), r) = absurd ((subst NotName h f) n.text refl)

  list_full : (x : List HeaderParameter) → parameter_list.at x [] [] → ⊥
  list_full [] c = absurd c
  list_full (declared_parameter p s r n e ∷ more) (mid, (m1, h, c), q) = absurd cc
  list_full (next_parameter n e ∷ more) (mid, (m1, h, c), q) = absurd cc

  list_out : (u : List HeaderParameter) (us z : List Placed) → NotName us → header_list_at u us z → EndsCommas EndsExpr z
      → (x : List HeaderParameter) × parameter_list.at x us z × (u ≡ x)
  list_out [] us z f c g = absurd c
  list_out (declared_parameter p s r n e ∷ more) us z f c g = (declared_parameter p s r n e ∷ more, c, refl)
  list_out (next_parameter n e ∷ more) us z f c g = absurd c

  pub some_list : (z : List Placed) → EndsCommas EndsExpr z → (u : List HeaderParameter) × (y : List Placed) × header_list_at u y z
  some_list z f =
      let o = header_0.some z f.1 in
      (declared_of o.0 ∷ [], o.1, (z, o.2, refl))

  pub list_part : (p : Place) (ts us : List Placed) → ts ≡ at (k.key w.Parameter) p ∷ us
      → Turns parameter_list ts header_list_at (comma_depths header_parameter_depths d) (EndsCommas EndsExpr) (EndsCommas EndsExpr) ts (λ x. x)
  list_part p ts us h =
      beginning parameter_list NotName ts tt (key_no_name w.Parameter p ts us h) header_list_at (comma_depths header_parameter_depths d) (λ x. x) (λ x. refl)
      list_into list_out list_full (tt, tt) some_list

  list_bad : (u : List HeaderParameter) (us z : List Placed) → Not (k.key w.Parameter) us → header_list_at u us z → ⊥
  list_bad [] us z n c = absurd c
  list_bad (declared_parameter p s r a e ∷ more) us z n (mid, (m1, h, c), t) = absurd ((subst (Not (k.key w.Parameter)) h n) refl)
  list_bad (next_parameter a e ∷ more) us z n c = absurd c

  pub list_stuck : (ts : List Placed) → Not (k.key w.Parameter) ts
      → Stuck header_list_at (comma_depths header_parameter_depths d) (EndsCommas EndsExpr) (EndsCommas EndsExpr) ts (length ts)
  list_stuck ts n =
      stuck_here header_list_at (comma_depths header_parameter_depths d) (EndsCommas EndsExpr) (EndsCommas EndsExpr) ts some_list
      (λ a after e u y z c g. list_bad u (a ∷ y) z (subst (Not (k.key w.Parameter)) e n) c) (λ u z c g. list_bad u [] z tt c)

close_parameters : (p : Place) (z : List Placed) → EndsCommas EndsExpr (at (k.mark m.CloseParen) p ∷ z)
close_parameters p z = (λ h. absurd cc, close_ends p z)

module _ (d : ℕ) where
  abbrev pub header_list : Part (List HeaderParameter)
  header_list = record {
    at = header_list_at;
    depths = comma_depths header_parameter_depths (d + 1);
    may = EndsCommas EndsExpr;
    seen = EndsCommas EndsExpr;
    some = some_list (d + 1);
  }

  abbrev pub parameters_2 : Part (Unit {0})
  parameters_2 = passed d (k.mark m.CloseParen)

  pub parameters_j1 : Joins (header_list) parameters_2
  parameters_j1 u a z c = ends_at (EndsCommas EndsExpr) (k.mark m.CloseParen) close_parameters a z c

  abbrev pub parameters_1 : Part (List HeaderParameter × Unit {0})
  parameters_1 = both (header_list) parameters_2 parameters_j1

  pub parameters_j0 : Joins (passed d (k.mark m.OpenParen)) parameters_1
  parameters_j0 u a z c = free

  abbrev pub parameters_0 : Part (Unit {0} × (List HeaderParameter × Unit {0}))
  parameters_0 = both (passed d (k.mark m.OpenParen)) parameters_1 parameters_j0

  -- from after `#` on
  abbrev bracketed_at : List HeaderParameter → Piece
  bracketed_at ps = mark m.OpenParen then header_list_at ps then mark m.CloseParen

  abbrev bracketed_depths : List HeaderParameter → List ℕ
  bracketed_depths ps = d ∷ (comma_depths header_parameter_depths (d + 1) ps ++ (d ∷ []))

  hash_deep : (x : List HeaderParameter) (us z : List Placed) → bracketed_at x us z → header_parameters_depths d x ≡ d ∷ bracketed_depths x
  hash_deep [] us z (m1, h, (m2, c, r)) = absurd c
  hash_deep (a ∷ more) us z c = refl

  module _ (p : Place) where
    hash_into : (x : List HeaderParameter) (us z : List Placed) → bracketed_at x us z → header_parameters_at x (at (k.mark m.Hash) p ∷ us) z
    hash_into [] us z (m1, h, (m2, c, r)) = absurd c
    hash_into (declared_parameter q s r n e ∷ more) us z c = (us, (p, refl), c)
    hash_into (next_parameter n e ∷ more) us z (m1, h, (m2, c, r)) = absurd c

    hash_out : (u : List HeaderParameter) (us z : List Placed) → header_parameters_at u (at (k.mark m.Hash) p ∷ us) z → NoHash z → bracketed_at u us z
    hash_out [] us z c g = absurd ((subst NoHash (sym c) g) refl)
    hash_out (declared_parameter q s r n e ∷ more) us z (mid, (i, h), c) g =
        let f : mid ≡ us = cc in
        subst (λ w. bracketed_at (declared_parameter q s r n e ∷ more) w z) f c
    hash_out (next_parameter n e ∷ more) us z c g = absurd c

    pub hash_part : d ≤ 200 → (ts us : List Placed) → ts ≡ at (k.mark m.Hash) p ∷ us
        → Turns parameters_0 us header_parameters_at (header_parameters_depths d) NoHash NoHash ts (λ x. x.1.0)
    hash_part low ts us h =
        leads_on (lesser parameters_0 NoHash NoHash (λ z f. tt) (λ z g. tt) us)
        (leads_on (whole (less parameters_0 NoHash NoHash (λ z f. tt)) bracketed_at bracketed_depths (λ x. x.1.0) (λ x. refl) (λ x us z c. c)
        (λ u us z c g. ((tt, (u, tt)), c, refl)) us)
        (leads_same bracketed_at bracketed_depths header_parameters_at (header_parameters_depths d) NoHash NoHash (at (k.mark m.Hash) p) d low
        hash_deep hash_into hash_out ts us h))

  no_parameters : (u : List HeaderParameter) (a : Placed) (y z : List Placed) → NoHash (a ∷ y) → header_parameters_at u (a ∷ y) z
      → (u ≡ []) × (z ≡ a ∷ y)
  no_parameters [] a y z n c = (refl, sym c)
  no_parameters (declared_parameter q s r b e ∷ more) a y z n (mid, (i, h), c) = absurd ((subst NoHash h n) refl)
  no_parameters (next_parameter b e ∷ more) a y z n c = absurd c

  no_parameters_end : (u : List HeaderParameter) (z : List Placed) → header_parameters_at u [] z → (u ≡ []) × (z ≡ [])
  no_parameters_end [] z c = (refl, sym c)
  no_parameters_end (declared_parameter q s r b e ∷ more) z (mid, (i, h), c) = absurd cc
  no_parameters_end (next_parameter b e ∷ more) z c = absurd c

  pub parameters_none : (ts : List Placed) → NoHash ts → Took header_parameters_at (header_parameters_depths d) NoHash NoHash [] ts ts
  parameters_none ts n =
      took_empty header_parameters_at (header_parameters_depths d) NoHash NoHash [] (λ z. refl) refl ts
      (λ a after e u y z c g. no_parameters u a y z (subst NoHash e n) c) (λ u z c g. no_parameters_end u z c)
