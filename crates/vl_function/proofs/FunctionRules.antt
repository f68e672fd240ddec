-- The rules of functions.
use Rattle.std.proofs.Common.{inl, inr, ◌≡◌, ◌≤◌, ◌+◌, ℕ, List, [], ◌∷◌, ◌++◌, length, refl, sym, ◌∙◌, ap, subst, arith, append_assoc}
use Rattle.std.specs.Prelude.{◌⊎◌, Bool, true, false, Option, Some, None}
use Rattle.vl_tree.specs.declared.token.Mark.TheVariants as m
use Rattle.vl_tree.specs.declared.token.Key.TheVariants as w
use Rattle.vl_tree.specs.Token.{Kind}
use Rattle.vl_tree.specs.Token as k
use Rattle.vl_tree.specs.Syntax as t
use Rattle.vl_tree.specs.Syntax.{Place, Name, Range, Stmt, FunctionType, bit_result, range_result, integer_result}
use Rattle.vl_tree.specs.Syntax.{FunctionPort, declared_input, named_input, FunctionDeclaration, inputs, variables, integers, Function}
use Rattle.vl_tree.specs.Placed.{Placed, at, kind_of}
use Rattle.vl_tree.specs.Piece.{Piece, ◌then◌, mark, maybe, name_at, where_true, kind, commas, each}
use Rattle.vl_tree.specs.Expressions.{range_at}
use Rattle.vl_tree.specs.Statements.{stmt_at, NoElse, target_at}
use Rattle.vl_tree.specs.Modules.{function_type_at, function_port_at, function_ports_at, function_declaration_at, function_at}
use Rattle.vl_tree.specs.Depth.{name_depth, depths_of, range_depths, comma_depths, each_depth, stmt_depths, one_if}
use Rattle.vl_tree.specs.Depth.{function_type_depths, function_port_depths, function_ports_depths, function_declaration_depths, function_depths}
use Rattle.vl_read.specs.Reading.{Took, Stuck, Any}
use Rattle.vl_read.specs.Tokens.{Not}
use Rattle.vl_read.specs.Commas.{EndsCommas}
use Rattle.vl_read.proofs.Pieces.{took_empty, stuck_here}
use Rattle.vl_read.proofs.Leads.{leads_on, leads_where, leads_same}
use Rattle.vl_read.proofs.TokenRules.{somewhere, NotName}
use Rattle.vl_declaration.specs.Laws.{some_name, name_laws}
use Rattle.vl_function.specs.Laws.{function_port_laws}
use Rattle.vl_declaration.specs.Readers.{NoRange, NoShape}
use Rattle.vl_function.specs.Readers.{NoFunctionType, input_list_at, NoParen, NoDeclaration, Declares, body_at, body_depths, Heading, head_at, head_depths, closed_body_at, closed_body_depths, function_of}
use Rattle.vl_declaration.proofs.Parts.{Part, Joins, both, Turns, Takes, whole, after, less, lesser, beginning, passed, found, named, listed, flag, ends_at, ends_on, agree, free}
use Rattle.vl_declaration.proofs.RangeRules.{ranged}
use Rattle.vl_declaration.proofs.EventRules.{First, nothing_part}
use Rattle.vl_header.proofs.BindRules.{Only, only_next}
use Rattle.vl_header.proofs.HeaderRules.{shaped, key_no_name}

type_name : (n : List ℕ) (p : Place) (z : List Placed) → NoFunctionType (at (k.name n) p ∷ z)
type_name n p z = (λ h. absurd cc, λ h. absurd cc)

-- ---- names after a sign and a range

pub shape_name : (n : List ℕ) (p : Place) (z : List Placed) → NoShape (at (k.name n) p ∷ z)
shape_name n p z = (λ h. absurd cc, λ h. absurd cc)

pub names_shape : (ns : List Name) (a z : List Placed) → commas name_at ns a z → NoShape a
names_shape [] a z c = absurd c
names_shape (n ∷ ns) a z (mid, h, r) = subst NoShape (sym h) (shape_name n.text n.place mid)

pub semicolon_commas : (p : Place) (z : List Placed) → EndsCommas Any (at (k.mark m.Semicolon) p ∷ z)
semicolon_commas p z = (λ h. absurd cc, tt)

close_commas : (p : Place) (z : List Placed) → EndsCommas Any (at (k.mark m.CloseParen) p ∷ z)
close_commas p z = (λ h. absurd cc, tt)

abbrev pub name_list : ℕ → Part (List Name)
name_list d = listed name_at name_depth Any name_laws d

module _ (d : ℕ) where
  -- ---- the type of a function

  integer_out : (p : Place) (u : FunctionType) (us z : List Placed) → function_type_at u (at (k.key w.Integer) p ∷ us) z → NoFunctionType z
      → (x : Unit {0}) × (nothing_part d).at x us z × (u ≡ integer_result)
  integer_out p bit_result us z c g = absurd ((subst NoFunctionType (sym c) g).0 refl)
  integer_out p (range_result r) us z (mid, h, c) g = absurd cc
  integer_out p integer_result us z (q, h) g = (tt, cc, refl)

  pub integer_part : d ≤ 200 → (p : Place) (ts us : List Placed) → ts ≡ at (k.key w.Integer) p ∷ us
      → Turns (nothing_part d) us function_type_at (function_type_depths d) NoFunctionType NoFunctionType ts (λ x. integer_result)
  integer_part low p ts us h =
      leads_on (lesser (nothing_part d) NoFunctionType NoFunctionType (λ z f. tt) (λ z g. tt) us)
      (after (less (nothing_part d) NoFunctionType NoFunctionType (λ z f. tt)) function_type_at (function_type_depths d) (λ x. integer_result)
      (at (k.key w.Integer) p) d low (λ x. refl) (λ x us z c. (p, ap (λ q. at (k.key w.Integer) p ∷ q) c)) (integer_out p) ts us h)

  abbrev pub type_of : Option Range → FunctionType
  type_of None = bit_result
  type_of (Some r) = range_result r

  type_deep : (x : Option Range) → function_type_depths d (type_of x) ≡ depths_of range_depths d x
  type_deep None = refl
  type_deep (Some r) = refl

  type_into : (x : Option Range) (us z : List Placed) → maybe range_at x us z → function_type_at (type_of x) us z
  type_into None us z c = c
  type_into (Some r) us z c = c

  type_out : (u : FunctionType) (us z : List Placed) → Not (k.key w.Integer) us → function_type_at u us z → NoFunctionType z
      → (x : Option Range) × maybe range_at x us z × (u ≡ type_of x)
  type_out bit_result us z n c g = (None, c, refl)
  type_out (range_result r) us z n c g = (Some r, c, refl)
  type_out integer_result us z n (p, h) g = absurd ((subst (Not (k.key w.Integer)) h n) refl)

  pub range_part : (ts : List Placed) → Not (k.key w.Integer) ts
      → Turns (ranged d NoRange) ts function_type_at (function_type_depths d) NoFunctionType NoFunctionType ts type_of
  range_part ts n =
      leads_on (lesser (ranged d NoRange) NoFunctionType NoFunctionType (λ z f. f.1) (λ z g. g.1) ts)
      (leads_where (Not (k.key w.Integer)) ts tt (λ a after e y. subst (Not (k.key w.Integer)) e n) (maybe range_at) (depths_of range_depths d)
      function_type_at (function_type_depths d) NoFunctionType NoFunctionType type_of type_deep type_into type_out)

  -- ---- an input of a header

  abbrev pub input_2 : Part (Name)
  input_2 = named d

  pub input_j1 : Joins (shaped d NoShape) input_2
  input_j1 u a z c = ends_on NoShape (k.name u.text) (shape_name u.text) u.place a z c

  abbrev pub input_1 : Part ((Bool × Option Range) × Name)
  input_1 = both (shaped d NoShape) input_2 input_j1

  pub input_j0 : Joins (found d (k.key w.Input)) input_1
  input_j0 u a z c = free

  abbrev pub input_0 : Part (Place × ((Bool × Option Range) × Name))
  input_0 = both (found d (k.key w.Input)) input_1 input_j0

  abbrev pub input_of : Place × ((Bool × Option Range) × Name) → FunctionPort
  input_of x = declared_input x.0 x.1.0.0 x.1.0.1 x.1.1

  input_out : (u : FunctionPort) (us z : List Placed) → NotName us → function_port_at u us z → Any z
      → (x : Place × ((Bool × Option Range) × Name)) × input_0.at x us z × (u ≡ input_of x)
  input_out (declared_input p s r n) us z f c g = ((p, ((s, r), n)), c, refl)
  input_out (named_input n) us z f h g = absurd ((subst NotName h f) n.text refl)

  pub input_declared : (p : Place) (ts us : List Placed) → ts ≡ at (k.key w.Input) p ∷ us
      → Turns input_0 ts function_port_at (function_port_depths d) Any Any ts input_of
  input_declared p ts us h =
      leads_where NotName ts tt (key_no_name w.Input p ts us h) input_0.at input_0.depths function_port_at (function_port_depths d)
      Any Any input_of (λ x. refl) (λ x us z c. c) input_out

  named_out : (u : FunctionPort) (us z : List Placed) → Not (k.key w.Input) us → function_port_at u us z → Any z
      → (x : Name) × name_at x us z × (u ≡ named_input x)
  named_out (declared_input p s r n) us z f (mid, h, c) g = absurd ((subst (Not (k.key w.Input)) h f) refl)
  named_out (named_input n) us z f h g = (n, h, refl)

  pub input_named : (ts : List Placed) → Not (k.key w.Input) ts → Turns (named d) ts function_port_at (function_port_depths d) Any Any ts named_input
  input_named ts n =
      leads_where (Not (k.key w.Input)) ts tt (λ a after e y. subst (Not (k.key w.Input)) e n) name_at (name_depth d) function_port_at
      (function_port_depths d) Any Any named_input (λ x. refl) (λ x us z c. c) named_out

  -- ---- the inputs of a header

  abbrev pub port_list : Part (List FunctionPort)
  port_list = listed function_port_at function_port_depths Any function_port_laws d

  list_into : (x : List FunctionPort) (us z : List Placed) → NotName us → port_list.at x us z → input_list_at x us z
  list_into [] us z f c = absurd c
  list_into (declared_input p s r n ∷ more) us z f c = c
  list_into (named_input n ∷ more) us z f (mid, h, r) = absurd ((subst NotName h f) n.text refl)

  list_full : (x : List FunctionPort) → port_list.at x [] [] → ⊥
  list_full [] c = absurd c
  list_full (declared_input p s r n ∷ more) (mid, (m1, h, c), q) = absurd cc
  list_full (named_input n ∷ more) (mid, h, q) = absurd cc

  list_out : (u : List FunctionPort) (us z : List Placed) → NotName us → input_list_at u us z → EndsCommas Any z
      → (x : List FunctionPort) × port_list.at x us z × (u ≡ x)
  list_out [] us z f c g = absurd c
  list_out (declared_input p s r n ∷ more) us z f c g = (declared_input p s r n ∷ more, c, refl)
  list_out (named_input n ∷ more) us z f c g = absurd c

  pub some_list : (z : List Placed) → EndsCommas Any z → (u : List FunctionPort) × (y : List Placed) × input_list_at u y z
  some_list z f = let o = input_0.some z tt in (input_of o.0 ∷ [], o.1, (z, o.2, refl))

  pub list_part : (p : Place) (ts us : List Placed) → ts ≡ at (k.key w.Input) p ∷ us
      → Turns port_list ts input_list_at (comma_depths function_port_depths d) (EndsCommas Any) (EndsCommas Any) ts (λ x. x)
  list_part p ts us h =
      beginning port_list NotName ts tt (key_no_name w.Input p ts us h) input_list_at (comma_depths function_port_depths d) (λ x. x) (λ x. refl)
      list_into list_out list_full (tt, tt) some_list

  list_bad : (u : List FunctionPort) (us z : List Placed) → Not (k.key w.Input) us → input_list_at u us z → ⊥
  list_bad [] us z n c = absurd c
  list_bad (declared_input p s r a ∷ more) us z n (mid, (m1, h, c), q) = absurd ((subst (Not (k.key w.Input)) h n) refl)
  list_bad (named_input a ∷ more) us z n c = absurd c

  pub list_stuck : (ts : List Placed) → Not (k.key w.Input) ts
      → Stuck input_list_at (comma_depths function_port_depths d) (EndsCommas Any) (EndsCommas Any) ts (length ts)
  list_stuck ts n =
      stuck_here input_list_at (comma_depths function_port_depths d) (EndsCommas Any) (EndsCommas Any) ts some_list
      (λ a after e u y z c g. list_bad u (a ∷ y) z (subst (Not (k.key w.Input)) e n) c) (λ u z c g. list_bad u [] z tt c)

module _ (d : ℕ) where
  abbrev pub input_list : Part (List FunctionPort)
  input_list = record {
    at = input_list_at;
    depths = comma_depths function_port_depths (d + 1);
    may = EndsCommas Any;
    seen = EndsCommas Any;
    some = some_list (d + 1);
  }

  abbrev pub ports_1 : Part (Unit {0})
  ports_1 = passed d (k.mark m.CloseParen)

  pub ports_j0 : Joins (input_list) ports_1
  ports_j0 u a z c = ends_at (EndsCommas Any) (k.mark m.CloseParen) close_commas a z c

  abbrev pub ports_0 : Part (List FunctionPort × Unit {0})
  ports_0 = both (input_list) ports_1 ports_j0

  -- from after `(` on
  abbrev opened_at : List FunctionPort → Piece
  opened_at ps = input_list_at ps then mark m.CloseParen

  abbrev opened_depths : List FunctionPort → List ℕ
  opened_depths ps = comma_depths function_port_depths (d + 1) ps ++ (d ∷ [])

  open_deep : (x : List FunctionPort) (us z : List Placed) → opened_at x us z → function_ports_depths d x ≡ d ∷ opened_depths x
  open_deep [] us z (mid, c, r) = absurd c
  open_deep (a ∷ more) us z c = refl

  module _ (p : Place) where
    open_into : (x : List FunctionPort) (us z : List Placed) → opened_at x us z → function_ports_at x (at (k.mark m.OpenParen) p ∷ us) z
    open_into [] us z (mid, c, r) = absurd c
    open_into (declared_input q s r n ∷ more) us z c = (us, (p, refl), c)
    open_into (named_input n ∷ more) us z (mid, c, r) = absurd c

    open_out : (u : List FunctionPort) (us z : List Placed) → function_ports_at u (at (k.mark m.OpenParen) p ∷ us) z → NoParen z → opened_at u us z
    open_out [] us z c g = absurd ((subst NoParen (sym c) g) refl)
    open_out (declared_input q s r n ∷ more) us z (mid, (i, h), c) g =
        let f : mid ≡ us = cc in
        subst (λ w. opened_at (declared_input q s r n ∷ more) w z) f c
    open_out (named_input n ∷ more) us z c g = absurd c

    pub open_part : d ≤ 200 → (ts us : List Placed) → ts ≡ at (k.mark m.OpenParen) p ∷ us
        → Turns ports_0 us function_ports_at (function_ports_depths d) NoParen NoParen ts (λ x. x.0)
    open_part low ts us h =
        leads_on (lesser ports_0 NoParen NoParen (λ z f. tt) (λ z g. tt) us)
        (leads_on (whole (less ports_0 NoParen NoParen (λ z f. tt)) opened_at opened_depths (λ x. x.0) (λ x. refl) (λ x us z c. c)
        (λ u us z c g. ((u, tt), c, refl)) us)
        (leads_same opened_at opened_depths function_ports_at (function_ports_depths d) NoParen NoParen (at (k.mark m.OpenParen) p) d low
        open_deep open_into open_out ts us h))

  no_ports : (u : List FunctionPort) (a : Placed) (y z : List Placed) → NoParen (a ∷ y) → function_ports_at u (a ∷ y) z → (u ≡ []) × (z ≡ a ∷ y)
  no_ports [] a y z n c = (refl, sym c)
  no_ports (declared_input q s r b ∷ more) a y z n (mid, (i, h), c) = absurd ((subst NoParen h n) refl)
  no_ports (named_input b ∷ more) a y z n c = absurd c

  no_ports_end : (u : List FunctionPort) (z : List Placed) → function_ports_at u [] z → (u ≡ []) × (z ≡ [])
  no_ports_end [] z c = (refl, sym c)
  no_ports_end (declared_input q s r b ∷ more) z (mid, (i, h), c) = absurd cc
  no_ports_end (named_input b ∷ more) z c = absurd c

  pub ports_none : (ts : List Placed) → NoParen ts → Took function_ports_at (function_ports_depths d) NoParen NoParen [] ts ts
  ports_none ts n =
      took_empty function_ports_at (function_ports_depths d) NoParen NoParen [] (λ z. refl) refl ts
      (λ a after e u y z c g. no_ports u a y z (subst NoParen e n) c) (λ u z c g. no_ports_end u z c)

  -- ---- a declaration

  abbrev pub inputs_3 : Part (Unit {0})
  inputs_3 = passed d (k.mark m.Semicolon)

  pub inputs_j2 : Joins (name_list d) inputs_3
  inputs_j2 u a z c = ends_at (EndsCommas Any) (k.mark m.Semicolon) semicolon_commas a z c

  abbrev pub inputs_2 : Part (List Name × Unit {0})
  inputs_2 = both (name_list d) inputs_3 inputs_j2

  pub inputs_j1 : Joins (shaped d NoShape) inputs_2
  inputs_j1 u a z c = agree (names_shape u.0 a c.0 c.1) (names_shape u.0 a c.0 c.1)

  abbrev pub inputs_1 : Part ((Bool × Option Range) × (List Name × Unit {0}))
  inputs_1 = both (shaped d NoShape) inputs_2 inputs_j1

  pub inputs_j0 : Joins (found d (k.key w.Input)) inputs_1
  inputs_j0 u a z c = free

  abbrev pub inputs_0 : Part (Place × ((Bool × Option Range) × (List Name × Unit {0})))
  inputs_0 = both (found d (k.key w.Input)) inputs_1 inputs_j0

  abbrev pub variables_3 : Part (Unit {0})
  variables_3 = passed d (k.mark m.Semicolon)

  pub variables_j2 : Joins (name_list d) variables_3
  variables_j2 u a z c = ends_at (EndsCommas Any) (k.mark m.Semicolon) semicolon_commas a z c

  abbrev pub variables_2 : Part (List Name × Unit {0})
  variables_2 = both (name_list d) variables_3 variables_j2

  pub variables_j1 : Joins (shaped d NoShape) variables_2
  variables_j1 u a z c = agree (names_shape u.0 a c.0 c.1) (names_shape u.0 a c.0 c.1)

  abbrev pub variables_1 : Part ((Bool × Option Range) × (List Name × Unit {0}))
  variables_1 = both (shaped d NoShape) variables_2 variables_j1

  pub variables_j0 : Joins (found d (k.key w.Reg)) variables_1
  variables_j0 u a z c = free

  abbrev pub variables_0 : Part (Place × ((Bool × Option Range) × (List Name × Unit {0})))
  variables_0 = both (found d (k.key w.Reg)) variables_1 variables_j0

  abbrev pub integers_2 : Part (Unit {0})
  integers_2 = passed d (k.mark m.Semicolon)

  pub integers_j1 : Joins (name_list d) integers_2
  integers_j1 u a z c = ends_at (EndsCommas Any) (k.mark m.Semicolon) semicolon_commas a z c

  abbrev pub integers_1 : Part (List Name × Unit {0})
  integers_1 = both (name_list d) integers_2 integers_j1

  pub integers_j0 : Joins (found d (k.key w.Integer)) integers_1
  integers_j0 u a z c = free

  abbrev pub integers_0 : Part (Place × (List Name × Unit {0}))
  integers_0 = both (found d (k.key w.Integer)) integers_1 integers_j0

  inputs_out : (u : FunctionDeclaration) (us z : List Placed) → Only (k.key w.Input) us → function_declaration_at u us z → Any z
      → (x : Place × ((Bool × Option Range) × (List Name × Unit {0}))) × inputs_0.at x us z × (u ≡ inputs x.0 x.1.0.0 x.1.0.1 x.1.1.0)
  inputs_out (inputs p s r ns) us z o c g = ((p, ((s, r), (ns, tt))), c, refl)
  inputs_out (variables p s r ns) us z o (mid, h, c) g = let i = subst (Only (k.key w.Input)) h o in absurd cc
  inputs_out (integers p ns) us z o (mid, h, c) g = let i = subst (Only (k.key w.Input)) h o in absurd cc

  pub inputs_part : (p : Place) (ts us : List Placed) → ts ≡ at (k.key w.Input) p ∷ us
      → Turns inputs_0 ts function_declaration_at (function_declaration_depths d) Any Any ts (λ x. inputs x.0 x.1.0.0 x.1.0.1 x.1.1.0)
  inputs_part p ts us h =
      leads_where (Only (k.key w.Input)) ts tt (only_next (k.key w.Input) p ts us h) inputs_0.at inputs_0.depths function_declaration_at
      (function_declaration_depths d) Any Any (λ x. inputs x.0 x.1.0.0 x.1.0.1 x.1.1.0) (λ x. refl) (λ x us z c. c) inputs_out

  variables_out : (u : FunctionDeclaration) (us z : List Placed) → Only (k.key w.Reg) us → function_declaration_at u us z → Any z
      → (x : Place × ((Bool × Option Range) × (List Name × Unit {0}))) × variables_0.at x us z × (u ≡ variables x.0 x.1.0.0 x.1.0.1 x.1.1.0)
  variables_out (inputs p s r ns) us z o (mid, h, c) g = let i = subst (Only (k.key w.Reg)) h o in absurd cc
  variables_out (variables p s r ns) us z o c g = ((p, ((s, r), (ns, tt))), c, refl)
  variables_out (integers p ns) us z o (mid, h, c) g = let i = subst (Only (k.key w.Reg)) h o in absurd cc

  pub variables_part : (p : Place) (ts us : List Placed) → ts ≡ at (k.key w.Reg) p ∷ us
      → Turns variables_0 ts function_declaration_at (function_declaration_depths d) Any Any ts (λ x. variables x.0 x.1.0.0 x.1.0.1 x.1.1.0)
  variables_part p ts us h =
      leads_where (Only (k.key w.Reg)) ts tt (only_next (k.key w.Reg) p ts us h) variables_0.at variables_0.depths function_declaration_at
      (function_declaration_depths d) Any Any (λ x. variables x.0 x.1.0.0 x.1.0.1 x.1.1.0) (λ x. refl) (λ x us z c. c) variables_out

  abbrev NoShaped : List Placed → Type 0
  NoShaped us = Not (k.key w.Input) us × Not (k.key w.Reg) us

  integers_out : (u : FunctionDeclaration) (us z : List Placed) → NoShaped us → function_declaration_at u us z → Any z
      → (x : Place × (List Name × Unit {0})) × integers_0.at x us z × (u ≡ integers x.0 x.1.0)
  integers_out (inputs p s r ns) us z o (mid, h, c) g = absurd ((subst (Not (k.key w.Input)) h o.0) refl)
  integers_out (variables p s r ns) us z o (mid, h, c) g = absurd ((subst (Not (k.key w.Reg)) h o.1) refl)
  integers_out (integers p ns) us z o c g = ((p, (ns, tt)), c, refl)

  pub integers_part : (ts : List Placed) → Not (k.key w.Input) ts → Not (k.key w.Reg) ts
      → Turns integers_0 ts function_declaration_at (function_declaration_depths d) Any Any ts (λ x. integers x.0 x.1.0)
  integers_part ts n o =
      leads_where NoShaped ts (tt, tt) (λ a after e y. (subst (Not (k.key w.Input)) e n, subst (Not (k.key w.Reg)) e o)) integers_0.at integers_0.depths
      function_declaration_at (function_declaration_depths d) Any Any (λ x. integers x.0 x.1.0) (λ x. refl) (λ x us z c. c) integers_out

-- ---- declarations and a statement

abbrev NotDeclared : Kind → Type 0
NotDeclared a = (a ≡ k.key w.Input → ⊥) × (a ≡ k.key w.Reg → ⊥) × (a ≡ k.key w.Integer → ⊥)

mark_first : (b : _) → NotDeclared (k.mark b)
mark_first b = (λ i. absurd cc, λ i. absurd cc, λ i. absurd cc)

name_first : (n : List ℕ) → NotDeclared (k.name n)
name_first n = (λ i. absurd cc, λ i. absurd cc, λ i. absurd cc)

system_first : (s : _) → NotDeclared (k.system s)
system_first s = (λ i. absurd cc, λ i. absurd cc, λ i. absurd cc)

target_first : (x : t.Target) (a z : List Placed) → target_at x a z → First NotDeclared a
target_first (t.name n ss) a z (mid, h, c) = subst (First NotDeclared) (sym h) (name_first n.text)
target_first (t.targets p xs) a z (mid, h, c) = subst (First NotDeclared) (sym h) (mark_first m.OpenBrace)

stmt_first : (s : Stmt) (a z : List Placed) → stmt_at s a z → First NotDeclared a
stmt_first (t.empty p) a z h = subst (First NotDeclared) (sym h) (mark_first m.Semicolon)
stmt_first (t.block p n ss) a z (mid, h, c) = subst (First NotDeclared) (sym h) (λ i. absurd cc, λ i. absurd cc, λ i. absurd cc)
stmt_first (t.conditional t.no_branch o) a z c = absurd c
stmt_first (t.conditional (t.more_branch p x b bs) o) a z (mid, h, c) = subst (First NotDeclared) (sym h) (λ i. absurd cc, λ i. absurd cc, λ i. absurd cc)
stmt_first (t.select p false e arms) a z (mid, h, c) = subst (First NotDeclared) (sym h) (λ i. absurd cc, λ i. absurd cc, λ i. absurd cc)
stmt_first (t.select p true e arms) a z (mid, h, c) = subst (First NotDeclared) (sym h) (λ i. absurd cc, λ i. absurd cc, λ i. absurd cc)
stmt_first (t.loop p l b) a z (mid, h, c) = subst (First NotDeclared) (sym h) (λ i. absurd cc, λ i. absurd cc, λ i. absurd cc)
stmt_first (t.assign x g p e) a z (mid, h, c) = target_first x a mid h
stmt_first (t.print p g b) a z (mid, h, c) = subst (First NotDeclared) (sym h) (system_first _)
stmt_first (t.file_print p e q text es) a z (mid, h, c) = subst (First NotDeclared) (sym h) (system_first _)
stmt_first (t.stop p g) a z (mid, h, c) = subst (First NotDeclared) (sym h) (system_first _)
stmt_first (t.fatal p g) a z (mid, h, c) = subst (First NotDeclared) (sym h) (system_first _)

declares_no : (a : List Placed) → Declares a → First NotDeclared a → ⊥
declares_no [] o f = absurd f
declares_no (x ∷ a) (inl h) f = f.0 h
declares_no (x ∷ a) (inr (inl h)) f = f.1 h
declares_no (x ∷ a) (inr (inr h)) f = f.2 h

no_declaration : (u : FunctionDeclaration) (a z : List Placed) → function_declaration_at u a z → NoDeclaration a → ⊥
no_declaration (inputs p s r ns) a z (mid, h, c) n = (subst NoDeclaration h n).0 refl
no_declaration (variables p s r ns) a z (mid, h, c) n = (subst NoDeclaration h n).1 refl
no_declaration (integers p ns) a z (mid, h, c) n = (subst NoDeclaration h n).2 refl

abbrev some_stmt : Stmt
some_stmt = t.empty somewhere

module _ (d : ℕ) where
  abbrev pub declaration_part : Part FunctionDeclaration
  declaration_part = record {
    at = function_declaration_at;
    depths = function_declaration_depths d;
    may = Any;
    seen = Any;
    some = λ z f. let o = (integers_0 d).some z tt in (integers o.0.0 o.0.1.0, o.1, o.2);
  }

  abbrev pub statement_part : Part Stmt
  statement_part = record {
    at = stmt_at;
    depths = stmt_depths d;
    may = NoElse;
    seen = Any;
    some = λ z f. (t.empty somewhere, at (k.mark m.Semicolon) somewhere ∷ z, refl);
  }

  abbrev pub body_part : Part (List FunctionDeclaration × Stmt)
  body_part = record {
    at = body_at;
    depths = body_depths d;
    may = NoElse;
    seen = Any;
    some = λ z f. (([], t.empty somewhere), at (k.mark m.Semicolon) somewhere ∷ z, (at (k.mark m.Semicolon) somewhere ∷ z, refl, refl));
  }

  pub body_join : Joins declaration_part body_part
  body_join u a z c = free

  abbrev pub declared_body : Part (FunctionDeclaration × (List FunctionDeclaration × Stmt))
  declared_body = both declaration_part body_part body_join

  abbrev pub body_of : FunctionDeclaration × (List FunctionDeclaration × Stmt) → List FunctionDeclaration × Stmt
  body_of x = (x.0 ∷ x.1.0, x.1.1)

  declared_deep : (x : FunctionDeclaration × (List FunctionDeclaration × Stmt)) → body_depths d (body_of x) ≡ declared_body.depths x
  declared_deep x = append_assoc (function_declaration_depths d x.0) (each_depth function_declaration_depths d x.1.0) (stmt_depths d x.1.1)

  declared_into : (x : FunctionDeclaration × (List FunctionDeclaration × Stmt)) (us z : List Placed) → declared_body.at x us z → body_at (body_of x) us z
  declared_into x us z (m1, c, (m2, e, s)) = (m2, (m1, c, e), s)

  declared_out : (u : List FunctionDeclaration × Stmt) (us z : List Placed) → Declares us → body_at u us z → Any z
      → (x : FunctionDeclaration × (List FunctionDeclaration × Stmt)) × declared_body.at x us z × (u ≡ body_of x)
  declared_out ([], s) us z o (mid, e, c) g = absurd (declares_no us o (stmt_first s us z (subst (λ w. stmt_at s w z) (sym e) c)))
  declared_out (x ∷ xs, s) us z o (m2, (m1, c, e), r) g = ((x, (xs, s)), (m1, c, (m2, e, r)), refl)

  declares_next : (ts : List Placed) → Declares ts → (a : Placed) (after : List Placed) → ts ≡ a ∷ after → (y : List Placed) → Declares (a ∷ y)
  declares_next ts o a after e y = subst Declares e o

  pub declared_next : (ts : List Placed) → Declares ts → Turns declared_body ts body_at (body_depths d) NoElse Any ts body_of
  declared_next ts o =
      leads_where Declares ts tt (declares_next ts o) declared_body.at declared_body.depths body_at (body_depths d) NoElse Any body_of declared_deep
      declared_into declared_out

  stated_out : (u : List FunctionDeclaration × Stmt) (us z : List Placed) → NoDeclaration us → body_at u us z → Any z
      → (x : Stmt) × stmt_at x us z × (u ≡ ([], x))
  stated_out ([], s) us z n (mid, e, c) g = (s, subst (λ w. stmt_at s w z) (sym e) c, refl)
  stated_out (x ∷ xs, s) us z n (m2, (m1, c, e), r) g = absurd (no_declaration x us m1 c n)

  pub stated : (ts : List Placed) → NoDeclaration ts → Turns statement_part ts body_at (body_depths d) NoElse Any ts (λ x. ([], x))
  stated ts n =
      leads_where NoDeclaration ts (tt, tt, tt) (λ a after e y. subst NoDeclaration e n) stmt_at (stmt_depths d) body_at (body_depths d) NoElse Any
      (λ x. ([], x)) (λ x. refl) (λ x us z c. (us, refl, c)) stated_out

  -- ---- a header

  abbrev pub type_part : Part FunctionType
  type_part = record { at = function_type_at; depths = function_type_depths d; may = NoFunctionType; seen = NoFunctionType; some = λ z f. (bit_result, z, refl) }

  abbrev pub ports_part : Part (List FunctionPort)
  ports_part = record { at = function_ports_at; depths = function_ports_depths d; may = NoParen; seen = NoParen; some = λ z f. ([], z, refl) }

  type_before : (P : List Placed → Type 0) → ((p : Place) (z : List Placed) → P (at (k.mark m.OpenBracket) p ∷ z))
      → ((p : Place) (z : List Placed) → P (at (k.key w.Integer) p ∷ z)) → (u : FunctionType) (a z : List Placed) → function_type_at u a z → P z → P a
  type_before P e f bit_result a z c q = subst P (sym c) q
  type_before P e f (range_result r) a z (mid, h, c) q = subst P (sym h) (e r.place mid)
  type_before P e f integer_result a z (p, h) q = subst P (sym h) (f p z)

  flag_before : (P : List Placed → Type 0) → ((p : Place) (z : List Placed) → P (at (k.key w.Signed) p ∷ z)) → (u : Bool) (a z : List Placed)
      → where_true u (kind (k.key w.Signed)) a z → P z → P a
  flag_before P e false a z c q = subst P (sym c) q
  flag_before P e true a z (p, h) q = subst P (sym h) (e p z)

  abbrev pub head_4 : Part (List FunctionPort)
  head_4 = ports_part

  pub head_j3 : Joins (named d) head_4
  head_j3 u a z c = free

  abbrev pub head_3 : Part (Name × List FunctionPort)
  head_3 = both (named d) head_4 head_j3

  pub head_j2 : Joins (type_part) head_3
  head_j2 u a z c = ends_on NoFunctionType (k.name u.0.text) (type_name u.0.text) u.0.place a c.0 c.1

  abbrev pub head_2 : Part (FunctionType × (Name × List FunctionPort))
  head_2 = both (type_part) head_3 head_j2

  signed_ends : (u : FunctionType × (Name × List FunctionPort)) (a z : List Placed) → head_2.at u a z → Not (k.key w.Signed) a
  signed_ends u a z (m1, c, (m2, h, r)) =
      type_before (Not (k.key w.Signed)) (λ p z i. absurd cc) (λ p z i. absurd cc) u.0 a m1 c (subst (Not (k.key w.Signed)) (sym h) (λ i. absurd cc))

  pub head_j1 : Joins (flag d (k.key w.Signed)) head_2
  head_j1 u a z c = agree (signed_ends u a z c) (signed_ends u a z c)

  abbrev pub head_1 : Part (Bool × (FunctionType × (Name × List FunctionPort)))
  head_1 = both (flag d (k.key w.Signed)) head_2 head_j1

  automatic_ends : (u : Bool × (FunctionType × (Name × List FunctionPort))) (a z : List Placed) → head_1.at u a z → Not (k.key w.Automatic) a
  automatic_ends u a z (m0, s, (m1, c, (m2, h, r))) =
      flag_before (Not (k.key w.Automatic)) (λ p z i. absurd cc) u.0 a m0 s
      (type_before (Not (k.key w.Automatic)) (λ p z i. absurd cc) (λ p z i. absurd cc) u.1.0 m0 m1 c (subst (Not (k.key w.Automatic)) (sym h) (λ i. absurd cc)))

  pub head_j0 : Joins (flag d (k.key w.Automatic)) head_1
  head_j0 u a z c = agree (automatic_ends u a z c) (automatic_ends u a z c)

  abbrev pub head_0 : Part (Bool × (Bool × (FunctionType × (Name × List FunctionPort))))
  head_0 = both (flag d (k.key w.Automatic)) head_1 head_j0

  pub head_whole : (ts : List Placed) → Turns head_0 ts head_at (head_depths d) NoParen NoParen ts (λ x. x)
  head_whole ts = whole head_0 head_at (head_depths d) (λ x. x) (λ x. refl) (λ x us z c. c) (λ u us z c g. (u, c, refl)) ts

  abbrev pub heading : Part Heading
  heading = record { at = head_at; depths = head_depths d; may = NoParen; seen = NoParen; some = head_0.some }

semicolon_paren : (p : Place) (z : List Placed) → NoParen (at (k.mark m.Semicolon) p ∷ z)
semicolon_paren p z = λ h. absurd cc

module _ (d : ℕ) where
  -- ---- a function

  abbrev pub function_3 : Part (Unit {0})
  function_3 = passed d (k.key w.Endfunction)

  pub function_j2 : Joins (body_part (d + 1)) function_3
  function_j2 u a z c = (λ f. subst NoElse (sym c.1) (λ i. absurd cc), λ g. tt)

  abbrev pub function_2 : Part ((List FunctionDeclaration × Stmt) × Unit {0})
  function_2 = both (body_part (d + 1)) function_3 function_j2

  pub function_j1 : Joins (passed d (k.mark m.Semicolon)) function_2
  function_j1 u a z c = free

  abbrev pub function_1 : Part (Unit {0} × ((List FunctionDeclaration × Stmt) × Unit {0}))
  function_1 = both (passed d (k.mark m.Semicolon)) function_2 function_j1

  -- the semicolon, the body and `endfunction`
  pub closed_whole : (ts : List Placed)
      → Turns function_1 ts closed_body_at (closed_body_depths d) Any Any ts (λ x. x.1.0)
  closed_whole ts =
      whole function_1 closed_body_at (closed_body_depths d) (λ x. x.1.0) (λ x. refl) (λ x us z c. c)
      (λ u us z c g. ((tt, (u, tt)), c, refl)) ts

  abbrev pub closed_part : Part (List FunctionDeclaration × Stmt)
  closed_part = record {
    at = closed_body_at;
    depths = closed_body_depths d;
    may = Any;
    seen = Any;
    some = λ z f. let o = function_1.some z f in (o.0.1.0, o.1, o.2);
  }

  pub function_j0 : Joins (heading d) closed_part
  function_j0 u a z c = ends_at NoParen (k.mark m.Semicolon) semicolon_paren a c.0 c.1

  abbrev pub function_0 : Part (Heading × (List FunctionDeclaration × Stmt))
  function_0 = both (heading d) closed_part function_j0

  head_assoc : (A B C P R : List ℕ) → (A ++ (B ++ (C ++ (d ∷ P)))) ++ R ≡ A ++ (B ++ (C ++ (d ∷ (P ++ R))))
  head_assoc A B C P R =
      append_assoc A (B ++ (C ++ (d ∷ P))) R ∙ ap (λ w. A ++ w) (append_assoc B (C ++ (d ∷ P)) R ∙ ap (λ w. B ++ w) (append_assoc C (d ∷ P) R))

  function_deep : (p : Place) (x : Heading × (List FunctionDeclaration × Stmt)) → function_depths d (function_of p x) ≡ d ∷ function_0.depths x
  function_deep p x =
      let A = one_if d x.0.0 in
      let B = one_if d x.0.1.0 in
      let C = function_type_depths d x.0.1.1.0 in
      let P = function_ports_depths d x.0.1.1.1.1 in
      let E = each_depth function_declaration_depths (d + 1) x.1.0 in
      let S = stmt_depths (d + 1) x.1.1 in
      ap (λ w. d ∷ w) (sym (head_assoc A B C P (d ∷ ((E ++ S) ++ (d ∷ [])))
      ∙ ap (λ w. A ++ (B ++ (C ++ (d ∷ (P ++ (d ∷ w)))))) (append_assoc E S (d ∷ []))))

  function_into : (p : Place) (x : Heading × (List FunctionDeclaration × Stmt)) (us z : List Placed) → function_0.at x us z → function_at (function_of p x) (at (k.key w.Function) p ∷ us) z
  function_into p x us z (m5, (m1, au, (m2, si, (m3, ty, (m4, na, po)))), (m6, sc, (m8, (m7, ds, st), en))) =
      (us, refl, (m1, au, (m2, si, (m3, ty, (m4, na, (m5, po, (m6, sc, (m7, ds, (m8, st, en)))))))))

  function_out : (p : Place) (u : Function) (us z : List Placed) → function_at u (at (k.key w.Function) p ∷ us) z → Any z
      → (x : Heading × (List FunctionDeclaration × Stmt)) × function_0.at x us z × (u ≡ function_of p x)
  function_out p u us z (m0, h, (m1, au, (m2, si, (m3, ty, (m4, na, (m5, po, (m6, sc, (m7, ds, (m8, st, en))))))))) g =
      let f : m0 ≡ us = cc in
      let e : p ≡ u.place = cc in
      let x : Heading × (List FunctionDeclaration × Stmt) = ((u.automatic, (u.signed, (u.result, (u.name, u.ports)))), (u.declarations, u.body)) in
      let c : function_0.at x m0 z = (m5, (m1, au, (m2, si, (m3, ty, (m4, na, po)))), (m6, sc, (m8, (m7, ds, st), en))) in
      (x, subst (λ w. function_0.at x w z) f c, ap (λ w. function_of w x) (sym e))

  pub function_part : d ≤ 200 → (p : Place) (us : List Placed)
      → Turns function_0 us function_at (function_depths d) Any Any (at (k.key w.Function) p ∷ us) (function_of p)
  function_part low p us =
      after function_0 function_at (function_depths d) (function_of p) (at (k.key w.Function) p) d low (function_deep p) (function_into p)
      (function_out p) (at (k.key w.Function) p ∷ us) us refl
