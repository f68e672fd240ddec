-- The rules of primaries, and of operators before an operand.
use Rattle.std.proofs.Common.{◌≡◌, ◌≤◌, ◌+◌, ℕ, List, [], ◌∷◌, ◌++◌, length, refl, sym, ◌∙◌, ap, subst, arith}
use Rattle.std.specs.Prelude.{Bool, true, false, Some}
use Rattle.bit_ops.specs.declared.operator.Unary.{Unary}
use Rattle.bit_ops.specs.declared.operator.Unary.TheVariants as op_one
use Rattle.vl_tree.specs.declared.token.Mark.{Mark}
use Rattle.vl_tree.specs.declared.token.Mark.TheVariants as m
use denote.Ref.{Bor}
use Rattle.vl_tree.specs.declared.token.Literal as literal_code
use Rattle.vl_tree.specs.declared.expression.SystemFunction as function_code
use Rattle.vl_tree.specs.Token.{Kind, Literal, literal_of}
use Rattle.vl_tree.specs.Token as k
use Rattle.vl_tree.specs.Syntax.{Place, Name, Expr, number, read, call, system, group, concat, repeat, unary, chain, choose}
use Rattle.vl_tree.specs.Syntax.{SystemFunction, to_signed, to_unsigned, clog2}
use Rattle.vl_tree.specs.Syntax.{Exprs, Links as Chained, no_link, more_link}
use Rattle.vl_tree.specs.Syntax.{Selects, no_select, more_select}
use Rattle.vl_tree.specs.SyntaxView.{system_function}
use Rattle.vl_tree.specs.Placed.{Placed, at}
use Rattle.vl_tree.specs.Piece.{Piece, mark, in_parens, nothing, nowhere, ◌then◌}
use Rattle.vl_tree.specs.Expressions.{unary_of, system_name, expr_at, exprs_at, selects_at, below}
use Rattle.vl_tree.specs.Depth.{expr_depths, exprs_depths, selects_depths, enclosed}
use Rattle.vl_tree.specs.Derives.{Sinks}
use Rattle.vl_read.specs.declared.fault.Fault.{Fault}
use Rattle.vl_read.specs.Reading.{Took, Stuck, Sunk, Refuses, Any, Both, BothDepths}
use Rattle.vl_read.specs.Tokens.{one, one_deep, Not}
use Rattle.vl_read.proofs.Pieces.{Links, Nothing, took_nothing, took_after, link_any, stuck_here, sunk_here}
use Rattle.vl_read.proofs.Fails.{fails_first}
use Rattle.vl_read.proofs.Leads.{Leads, leads_on, leads_less, leads_after, leads_second, leads_where, leads_same}
use Rattle.vl_read.proofs.TokenRules.{somewhere, same_name, took_kind, link_kind}
use Rattle.vl_expr.specs.declared.operators.Start.{Start}
use Rattle.vl_expr.specs.declared.operators.Start.TheVariants as start
use Rattle.vl_expr.specs.Starts.{IsStart, starts, mark_starts, system_starts}
use Rattle.vl_expr.specs.Ends.{Ends, EndsExpr, EndsList}
use Rattle.vl_expr.specs.Lists.{named_at, named_depths, braces_at, braces_depths}
use Rattle.vl_expr.proofs.Common.{NB, ends_bracket, ends_paren, close_ends, close_list}
use Rattle.vl_expr.proofs.Common.{some_number, zero_literal, some_expr, some_list}
use Rattle.vl_expr.proofs.Levels.{level_some}

-- ---- what a primary begins with

-- the mark of an operator before its operand
abbrev unary_mark : Unary → Mark
unary_mark op_one.Plus = m.Plus
unary_mark op_one.Minus = m.Minus
unary_mark op_one.LogicNot = m.Not
unary_mark op_one.Not = m.Tilde
unary_mark op_one.And = m.And
unary_mark op_one.Nand = m.Nand
unary_mark op_one.Or = m.Or
unary_mark op_one.Nor = m.Nor
unary_mark op_one.Xor = m.Xor
unary_mark op_one.Xnor = m.Xnor

abbrev paren_no : Mark → Bool
paren_no m.OpenParen = false
paren_no m.OpenBrace = false
paren_no a = true

unary_is : (b : Mark) (op : Unary) → unary_of b ≡ Some op → (mark_starts b ≡ true) × (paren_no b ≡ true)
unary_is m.Plus op h = (refl, refl)
unary_is m.Minus op h = (refl, refl)
unary_is m.Not op h = (refl, refl)
unary_is m.Tilde op h = (refl, refl)
unary_is m.And op h = (refl, refl)
unary_is m.Nand op h = (refl, refl)
unary_is m.Or op h = (refl, refl)
unary_is m.Nor op h = (refl, refl)
unary_is m.Xor op h = (refl, refl)
unary_is m.Xnor op h = (refl, refl)
unary_is b op h = absurd cc

system_is : (f : SystemFunction) → system_starts (system_name f) ≡ true
system_is to_signed = refl
system_is to_unsigned = refl
system_is clog2 = refl

same_function : (f g : SystemFunction) → system_name f ≡ system_name g → f ≡ g
same_function to_signed to_signed h = refl
same_function to_signed to_unsigned h = absurd cc
same_function to_signed clog2 h = absurd cc
same_function to_unsigned to_signed h = absurd cc
same_function to_unsigned to_unsigned h = refl
same_function to_unsigned clog2 h = absurd cc
same_function clog2 to_signed h = absurd cc
same_function clog2 to_unsigned h = absurd cc
same_function clog2 clog2 h = refl

not_paren : (b : Mark) (op : Unary) → unary_of b ≡ Some op → k.mark m.OpenParen ≡ k.mark b → ⊥
not_paren b op e h = let i : m.OpenParen ≡ b = cc in let j : false ≡ true = ap paren_no i ∙ (unary_is b op e).1 in absurd cc

not_brace : (b : Mark) (op : Unary) → unary_of b ≡ Some op → k.mark m.OpenBrace ≡ k.mark b → ⊥
not_brace b op e h = let i : m.OpenBrace ≡ b = cc in let j : false ≡ true = ap paren_no i ∙ (unary_is b op e).1 in absurd cc

-- this token is the expression's first
abbrev IsHead : Kind → Place → Expr → Type 0
IsHead a p (number q l) = (a ≡ k.number l) × (p ≡ q)
IsHead a p (read n ss) = (a ≡ k.name n.text) × (p ≡ n.place)
IsHead a p (call n es) = (a ≡ k.name n.text) × (p ≡ n.place)
IsHead a p (system q f e) = (a ≡ k.system (system_name f)) × (p ≡ q)
IsHead a p (group q e) = (a ≡ k.mark m.OpenParen) × (p ≡ q)
IsHead a p (concat q es) = (a ≡ k.mark m.OpenBrace) × (p ≡ q)
IsHead a p (repeat q n es) = (a ≡ k.mark m.OpenBrace) × (p ≡ q)
IsHead a p (unary q op e) = (b : Mark) × (a ≡ k.mark b) × (unary_of b ≡ Some op) × (p ≡ q)
IsHead a p (chain e ls) = ⊥
IsHead a p (choose cs e) = ⊥

-- what comes after the first token
abbrev rest_at : Expr → Piece
rest_at (number q l) = nothing
rest_at (read n ss) = selects_at ss
rest_at (call n es) = in_parens (exprs_at es)
rest_at (system q f e) = in_parens (expr_at e)
rest_at (group q e) = expr_at e then mark m.CloseParen
rest_at (concat q es) = exprs_at es then mark m.CloseBrace
rest_at (repeat q n es) = expr_at n then mark m.OpenBrace then exprs_at es then mark m.CloseBrace then mark m.CloseBrace
rest_at (unary q op e) = below 1 e
rest_at (chain e ls) = nowhere
rest_at (choose cs e) = nowhere

not_one : (e : Expr) (ls : Chained) (ts z : List Placed) → below 1 (chain e ls) ts z → ⊥
not_one e no_link ts z h = h.1
not_one e (more_link op p x ls) ts z h = omega (arith, h.0, level_some op)

head_of : (u : Expr) (a : Kind) (p : Place) (us z : List Placed) → below 1 u (at a p ∷ us) z → IsHead a p u × rest_at u us z
head_of (number q l) a p us z (i, h) = let e : a ≡ k.number l = cc in let f : p ≡ q = cc in let g : us ≡ z = cc in ((e, f), g)
head_of (read n ss) a p us z (i, (mid, h, r)) =
    let e : a ≡ k.name n.text = cc in
    let f : p ≡ n.place = cc in
    let g : mid ≡ us = cc in
    ((e, f), subst (λ w. selects_at ss w z) g r)
head_of (call n es) a p us z (i, (mid, h, r)) =
    let e : a ≡ k.name n.text = cc in
    let f : p ≡ n.place = cc in
    let g : mid ≡ us = cc in
    ((e, f), subst (λ w. in_parens (exprs_at es) w z) g r)
head_of (system q v x) a p us z (i, (mid, h, r)) =
    let e : a ≡ k.system (system_name v) = cc in
    let f : p ≡ q = cc in
    let g : mid ≡ us = cc in
    ((e, f), subst (λ w. in_parens (expr_at x) w z) g r)
head_of (group q x) a p us z (i, (mid, h, r)) =
    let e : a ≡ k.mark m.OpenParen = cc in
    let f : p ≡ q = cc in
    let g : mid ≡ us = cc in
    ((e, f), subst (λ w. rest_at (group q x) w z) g r)
head_of (concat q es) a p us z (i, (mid, h, r)) =
    let e : a ≡ k.mark m.OpenBrace = cc in
    let f : p ≡ q = cc in
    let g : mid ≡ us = cc in
    ((e, f), subst (λ w. rest_at (concat q es) w z) g r)
head_of (repeat q n es) a p us z (i, (mid, h, r)) =
    let e : a ≡ k.mark m.OpenBrace = cc in
    let f : p ≡ q = cc in
    let g : mid ≡ us = cc in
    ((e, f), subst (λ w. rest_at (repeat q n es) w z) g r)
head_of (unary q op x) a p us z (i, (mid, (b, s, h), r)) =
    let e : a ≡ k.mark b = cc in
    let f : p ≡ q = cc in
    let g : mid ≡ us = cc in
    ((b, e, s, f), subst (λ w. below 1 x w z) g r)
head_of (chain e ls) a p us z h = absurd (not_one e ls (at a p ∷ us) z h)
head_of (choose cs e) a p us z h = absurd (omega (arith, h.0))

clash : (a b : Kind) → a ≡ b → starts a ≡ false → starts b ≡ true → ⊥
clash a b e f t = let j : false ≡ true = sym f ∙ ap starts e ∙ t in absurd cc

no_head : (u : Expr) (a : Kind) (p : Place) → starts a ≡ false → IsHead a p u → ⊥
no_head (number q l) a p f h = clash a (k.number l) h.0 f refl
no_head (read n ss) a p f h = clash a (k.name n.text) h.0 f refl
no_head (call n es) a p f h = clash a (k.name n.text) h.0 f refl
no_head (system q v x) a p f h = clash a (k.system (system_name v)) h.0 f (system_is v)
no_head (group q x) a p f h = clash a (k.mark m.OpenParen) h.0 f refl
no_head (concat q es) a p f h = clash a (k.mark m.OpenBrace) h.0 f refl
no_head (repeat q n es) a p f h = clash a (k.mark m.OpenBrace) h.0 f refl
no_head (unary q op x) a p f (b, e, s, w) = clash a (k.mark b) e f (unary_is b op s).0
no_head (chain e ls) a p f h = h
no_head (choose cs e) a p f h = h

no_end : (u : Expr) (z : List Placed) → below 1 u [] z → ⊥
no_end (number q l) z (i, h) = absurd cc
no_end (read n ss) z (i, (mid, h, r)) = absurd cc
no_end (call n es) z (i, (mid, h, r)) = absurd cc
no_end (system q v x) z (i, (mid, h, r)) = absurd cc
no_end (group q x) z (i, (mid, h, r)) = absurd cc
no_end (concat q es) z (i, (mid, h, r)) = absurd cc
no_end (repeat q n es) z (i, (mid, h, r)) = absurd cc
no_end (unary q op x) z (i, (mid, (b, s, h), r)) = absurd cc
no_end (chain e ls) z h = not_one e ls [] z h
no_end (choose cs e) z h = absurd (omega (arith, h.0))

module _ (d : ℕ) where
  some_below : (F : List Placed → Type 0) (z : List Placed) → F z → (t : Expr) × (y : List Placed) × below 1 t y z
  some_below F z f = (some_number, at (k.number zero_literal) somewhere ∷ z, (omega arith, refl))

  pub primary_end : (ts : List Placed) → ts ≡ [] → Stuck (below 1) (expr_depths d) (Ends 1) (Ends 1) ts (length ts)
  primary_end ts h =
      stuck_here (below 1) (expr_depths d) (Ends 1) (Ends 1) ts (some_below (Ends 1)) (λ a after e t y z c g. absurd cc)
      (λ t z c g. no_end t z c)

  pub primary_stuck : (a : Kind) (p : Place) (ts rest : List Placed) → ts ≡ at a p ∷ rest → starts a ≡ false
      → Stuck (below 1) (expr_depths d) (Ends 1) (Ends 1) ts (length ts)
  primary_stuck a p ts rest h f =
      stuck_here (below 1) (expr_depths d) (Ends 1) (Ends 1) ts (some_below (Ends 1))
      (λ b after e t y z c g.
      let i : at a p ≡ b = cc in
      let c2 = subst (λ w. below 1 t (w ∷ y) z) (sym i) c in
      no_head t a p f (head_of t a p y z c2).0)
      (λ t z c g. no_end t z c)

  -- ---- a token that begins a primary, too deep

  some_start : (a : Kind) (p : Place) (s : Start) → IsStart a s → (z : List Placed)
      → (t : Expr) × (y : List Placed) × below 1 t (at a p ∷ y) z × ((es : List ℕ) × (expr_depths d t ≡ d ∷ es))
  some_start a p (start.Number l) i z =
      (number p (literal_of l), z, (omega arith, ap (λ w. at w p ∷ z) i), ([], refl))
  some_start a p (start.Name n) i z =
      (read (record { text = n.now; place = p }) no_select, z, (omega arith, (z, ap (λ w. at w p ∷ z) i, refl)), ([], refl))
  some_start a p (start.System f) i z =
      let e = some_expr Any (at (k.mark m.CloseParen) somewhere ∷ z) tt in (
        system p (system_function f) e.0,
        at (k.mark m.OpenParen) somewhere ∷ e.1,
        (
          omega arith,
          (
            at (k.mark m.OpenParen) somewhere ∷ e.1,
            ap (λ w. at w p ∷ at (k.mark m.OpenParen) somewhere ∷ e.1) i,
            (e.1, (somewhere, refl), (at (k.mark m.CloseParen) somewhere ∷ z, e.2, (somewhere, refl))),
          ),
        ),
        (enclosed d (expr_depths (d + 1) e.0), refl),
      )
  some_start a p start.Paren i z =
      let e = some_expr Any (at (k.mark m.CloseParen) somewhere ∷ z) tt in (
        group p e.0,
        e.1,
        (omega arith, (e.1, ap (λ w. at w p ∷ e.1) i, (at (k.mark m.CloseParen) somewhere ∷ z, e.2, (somewhere, refl)))),
        (expr_depths (d + 1) e.0 ++ (d ∷ []), refl),
      )
  some_start a p start.Brace i z =
      let e = some_list Any (at (k.mark m.CloseBrace) somewhere ∷ z) tt in (
        concat p e.0,
        e.1,
        (omega arith, (e.1, ap (λ w. at w p ∷ e.1) i, (at (k.mark m.CloseBrace) somewhere ∷ z, e.2, (somewhere, refl)))),
        (exprs_depths (d + 1) e.0 ++ (d ∷ []), refl),
      )
  some_start a p (start.Unary op) (b, i, s) z =
      let e = some_below Any z tt in
      (unary p op e.0, e.1, (omega arith, (e.1, (b, s, ap (λ w. at w p ∷ e.1) i), e.2)), (expr_depths (d + 1) e.0, refl))

  sinks_here : (a : Placed) (ds es : List ℕ) → d ≡ 201 → ds ≡ d ∷ es → Sinks (a ∷ []) ds
  sinks_here a ds es i h = subst (Sinks (a ∷ [])) (sym h) i

  -- the first token of a primary stands at the primary's depth
  first_sinks : (x : Placed) (u : Expr) (a : Kind) (p : Place) → IsHead a p u → d ≡ 201 → Sinks (x ∷ []) (expr_depths d u)
  first_sinks x (number q l) a p h j = j
  first_sinks x (read n ss) a p h j = j
  first_sinks x (call n es) a p h j = j
  first_sinks x (system q f e) a p h j = j
  first_sinks x (group q e) a p h j = j
  first_sinks x (concat q es) a p h j = j
  first_sinks x (repeat q e es) a p h j = j
  first_sinks x (unary q op e) a p h j = j
  first_sinks x (chain e ls) a p h j = absurd h
  first_sinks x (choose cs e) a p h j = absurd h

  pub primary_sunk : (a : Kind) (p : Place) (s : Start) (ts rest : List Placed) → ts ≡ at a p ∷ rest → IsStart a s → d ≡ 201
      → Sunk (below 1) (expr_depths d) (Ends 1) (Ends 1) ts (length ts)
  primary_sunk a p s ts rest h i j =
      sunk_here (below 1) (expr_depths d) (Ends 1) (Ends 1) ts (at a p) rest h
      (λ z f. let o = some_start a p s i z in (o.0, o.1, o.2, sinks_here (at a p) (expr_depths d o.0) o.3.0 j o.3.1))
      (λ u y z c g. first_sinks (at a p) u a p (head_of u a p y z c).0 j)

  -- ---- the rules, each from after its first token on

  module _ (low : d ≤ 200) (p : Place) (ts us : List Placed) where
    number_out : (v : Literal) (u : Expr) (us z : List Placed) → below 1 u (at (k.number v) p ∷ us) z → Ends 1 z
        → (x : Unit {0}) × Nothing x us z × (u ≡ number p v)
    number_out v u us z c g = number_out_at u (head_of u (k.number v) p us z c).0 (head_of u (k.number v) p us z c).1
      where
        number_out_at : (u : Expr) → IsHead (k.number v) p u → rest_at u us z → (x : Unit {0}) × Nothing x us z × (u ≡ number p v)
        number_out_at (number q l) h r = let e : l ≡ v = cc in (tt, r, (λ i. number (sym h.1 i) (e i)))
        number_out_at (unary q op x) h r = let e = h.1 in absurd cc
        number_out_at (chain e ls) h r = absurd h
        number_out_at (choose cs e) h r = absurd h
        number_out_at u h r = let e = h.0 in absurd cc

    pub number_took : (v : Literal) → ts ≡ at (k.number v) p ∷ us → Took (below 1) (expr_depths d) (Ends 1) (Ends 1) (number p v) ts us
    number_took v h =
        took_after Nothing (λ u. []) (below 1) (expr_depths d) (Ends 1) (Ends 1) (λ u. number p v) (at (k.number v) p) d low (λ u. refl)
        (λ x us z c. (omega arith, ap (λ w. at (k.number v) p ∷ w) c)) (number_out v) tt ts us us h (took_nothing (Ends 1) (Ends 1) us)

    -- ---- a name with selects or arguments

    named_into : (t : List ℕ) (u : Expr) (us z : List Placed) → named_at t p u us z → below 1 u (at (k.name t) p ∷ us) z
    named_into t (read n ss) us z c = (omega arith, (us, (λ i. at (k.name (sym c.0.0 i)) (sym c.0.1 i) ∷ us), c.1))
    named_into t (call n es) us z c = (omega arith, (us, (λ i. at (k.name (sym c.0.0 i)) (sym c.0.1 i) ∷ us), c.1))
    named_into t u us z c = absurd c

    named_depth : (t : List ℕ) (u : Expr) (us z : List Placed) → named_at t p u us z → expr_depths d u ≡ d ∷ named_depths d u
    named_depth t (read n ss) us z c = refl
    named_depth t (call n es) us z c = refl
    named_depth t u us z c = absurd c

    named_out_at : (t : List ℕ) (u : Expr) (us z : List Placed) → IsHead (k.name t) p u → rest_at u us z → named_at t p u us z
    named_out_at t (read n ss) us z h r = let e : n.text ≡ t = cc in ((e, sym h.1), r)
    named_out_at t (call n es) us z h r = let e : n.text ≡ t = cc in ((e, sym h.1), r)
    named_out_at t (unary q op x) us z h r = let e = h.1 in absurd cc
    named_out_at t (chain e ls) us z h r = absurd h
    named_out_at t (choose cs e) us z h r = absurd h
    named_out_at t u us z h r = let e = h.0 in absurd cc

    pub named_part : (t : List ℕ) → ts ≡ at (k.name t) p ∷ us
        → Leads (named_at t p) (named_depths d) (Ends 1) (Ends 1) us (below 1) (expr_depths d) (Ends 1) (Ends 1) ts (λ u. u)
    named_part t h =
        leads_same (named_at t p) (named_depths d) (below 1) (expr_depths d) (Ends 1) (Ends 1) (at (k.name t) p) d low (named_depth t)
        (named_into t) (λ u us z c g. let o = head_of u (k.name t) p us z c in named_out_at t u us z o.0 o.1) ts us h

    -- ---- a function of the language

    abbrev Y1 : Expr × Unit {0} → List Placed → List Placed → Type 0
    Y1 = Both expr_at (one (mark m.CloseParen))

    abbrev Y1D : Expr × Unit {0} → List ℕ
    Y1D = BothDepths (expr_depths (d + 1)) (one_deep d)

    abbrev Y0 : Unit {0} × (Expr × Unit {0}) → List Placed → List Placed → Type 0
    Y0 = Both (one (mark m.OpenParen)) Y1

    abbrev Y0D : Unit {0} × (Expr × Unit {0}) → List ℕ
    Y0D = BothDepths (one_deep d) Y1D

    some_close : (z : List Placed) → Any z → (x : Expr × Unit {0}) × (a : List Placed) × Y1 x a z
    some_close z f =
        let e = some_expr Any (at (k.mark m.CloseParen) somewhere ∷ z) tt in
        ((e.0, tt), e.1, (at (k.mark m.CloseParen) somewhere ∷ z, e.2, (somewhere, refl)))

    y1_link : Links Y1 Any Any Any Any
    y1_link = link_any Y1 Any Any some_close

    close_link : Links (one (mark m.CloseParen)) Any Any EndsExpr EndsExpr
    close_link = link_kind (k.mark m.CloseParen) Any Any EndsExpr close_ends

    system_out_at : (f : SystemFunction) (u : Expr) (us z : List Placed) → IsHead (k.system (system_name f)) p u → rest_at u us z
        → (x : Unit {0} × (Expr × Unit {0})) × Y0 x us z × (u ≡ system p f x.1.0)
    system_out_at f (system q v x) us z h r =
        let e : system_name v ≡ system_name f = cc in
        ((tt, (x, tt)), r, (λ i. system (sym h.1 i) (same_function v f e i) x))
    system_out_at f (unary q op x) us z h r = let e = h.1 in absurd cc
    system_out_at f (chain e ls) us z h r = absurd h
    system_out_at f (choose cs e) us z h r = absurd h
    system_out_at f u us z h r = let e = h.0 in absurd cc

    module _ (f : SystemFunction) (h : ts ≡ at (k.system (system_name f)) p ∷ us) where
      abbrev system_part : Leads Y0 Y0D Any Any us (below 1) (expr_depths d) (Ends 1) (Ends 1) ts (λ x. system p f x.1.0)
      system_part =
          leads_on (leads_less Y0 Y0D Any Any (Ends 1) (Ends 1) (λ z g. tt) (λ z g. tt) us)
          (leads_after Y0 Y0D (below 1) (expr_depths d) (Ends 1) (Ends 1) (λ x. system p f x.1.0) (at (k.system (system_name f)) p) d low (λ x. refl)
          (λ x us z c. (omega arith, (us, refl, c)))
          (λ u us z c g. let o = head_of u (k.system (system_name f)) p us z c in system_out_at f u us z o.0 o.1) ts us h)

      pub system_fails_0 : (e : Fault) → Refuses (one (mark m.OpenParen)) (one_deep d) Any Any us e
          → Refuses (below 1) (expr_depths d) (Ends 1) (Ends 1) ts e
      system_fails_0 e r = system_part.fails e (fails_first (one (mark m.OpenParen)) (one_deep d) Y1 Y1D Any Any Any Any y1_link us e r)

      module _ (t1 : List Placed) (w : (o : Place) × (us ≡ at (k.mark m.OpenParen) o ∷ t1)) where
        abbrev system_open : Leads Y1 Y1D Any Any t1 (below 1) (expr_depths d) (Ends 1) (Ends 1) ts (λ x. system p f x.0)
        system_open =
            leads_on (leads_second (one (mark m.OpenParen)) (one_deep d) Y1 Y1D Any Any Any Any y1_link tt us t1
            (took_kind (k.mark m.OpenParen) d low w.0 us t1 w.1)) system_part

        pub system_fails_1 : (e : Fault) → Refuses expr_at (expr_depths (d + 1)) EndsExpr EndsExpr t1 e
            → Refuses (below 1) (expr_depths d) (Ends 1) (Ends 1) ts e
        system_fails_1 e r =
            system_open.fails e (fails_first expr_at (expr_depths (d + 1)) (one (mark m.CloseParen)) (one_deep d) Any Any EndsExpr EndsExpr close_link t1 e r)

        module _ (x : Expr) (t2 : List Placed) (q : Took expr_at (expr_depths (d + 1)) EndsExpr EndsExpr x t1 t2) where
          abbrev system_close : Leads (one (mark m.CloseParen)) (one_deep d) Any Any t2 (below 1) (expr_depths d) (Ends 1) (Ends 1) ts (λ u. system p f x)
          system_close =
              leads_on (leads_second expr_at (expr_depths (d + 1)) (one (mark m.CloseParen)) (one_deep d) Any Any EndsExpr EndsExpr close_link x t1 t2 q) system_open

          pub system_fails_2 : (e : Fault) → Refuses (one (mark m.CloseParen)) (one_deep d) Any Any t2 e
              → Refuses (below 1) (expr_depths d) (Ends 1) (Ends 1) ts e
          system_fails_2 e r = system_close.fails e r

          pub system_took : (t3 : List Placed) → (o : Place) × (t2 ≡ at (k.mark m.CloseParen) o ∷ t3)
              → Took (below 1) (expr_depths d) (Ends 1) (Ends 1) (system p f x) ts t3
          system_took t3 v = system_close.took tt t3 (took_kind (k.mark m.CloseParen) d low v.0 t2 t3 v.1)

    -- ---- an expression in parentheses

    group_out_at : (u : Expr) (us z : List Placed) → IsHead (k.mark m.OpenParen) p u → rest_at u us z
        → (x : Expr × Unit {0}) × Y1 x us z × (u ≡ group p x.0)
    group_out_at (group q x) us z h r = ((x, tt), r, ap (λ w. group w x) (sym h.1))
    group_out_at (unary q op x) us z (b, e, s, w) r = absurd (not_paren b op s e)
    group_out_at (chain e ls) us z h r = absurd h
    group_out_at (choose cs e) us z h r = absurd h
    group_out_at u us z h r = let e = h.0 in absurd cc

    module _ (h : ts ≡ at (k.mark m.OpenParen) p ∷ us) where
      abbrev group_part : Leads Y1 Y1D Any Any us (below 1) (expr_depths d) (Ends 1) (Ends 1) ts (λ x. group p x.0)
      group_part =
          leads_on (leads_less Y1 Y1D Any Any (Ends 1) (Ends 1) (λ z g. tt) (λ z g. tt) us)
          (leads_after Y1 Y1D (below 1) (expr_depths d) (Ends 1) (Ends 1) (λ x. group p x.0) (at (k.mark m.OpenParen) p) d low (λ x. refl)
          (λ x us z c. (omega arith, (us, refl, c)))
          (λ u us z c g. let o = head_of u (k.mark m.OpenParen) p us z c in group_out_at u us z o.0 o.1) ts us h)

      pub group_fails_0 : (e : Fault) → Refuses expr_at (expr_depths (d + 1)) EndsExpr EndsExpr us e
          → Refuses (below 1) (expr_depths d) (Ends 1) (Ends 1) ts e
      group_fails_0 e r =
          group_part.fails e (fails_first expr_at (expr_depths (d + 1)) (one (mark m.CloseParen)) (one_deep d) Any Any EndsExpr EndsExpr close_link us e r)

      module _ (x : Expr) (t2 : List Placed) (q : Took expr_at (expr_depths (d + 1)) EndsExpr EndsExpr x us t2) where
        abbrev group_close : Leads (one (mark m.CloseParen)) (one_deep d) Any Any t2 (below 1) (expr_depths d) (Ends 1) (Ends 1) ts (λ u. group p x)
        group_close =
            leads_on (leads_second expr_at (expr_depths (d + 1)) (one (mark m.CloseParen)) (one_deep d) Any Any EndsExpr EndsExpr close_link x us t2 q) group_part

        pub group_fails_1 : (e : Fault) → Refuses (one (mark m.CloseParen)) (one_deep d) Any Any t2 e
            → Refuses (below 1) (expr_depths d) (Ends 1) (Ends 1) ts e
        group_fails_1 e r = group_close.fails e r

        pub group_took : (t3 : List Placed) → (o : Place) × (t2 ≡ at (k.mark m.CloseParen) o ∷ t3)
            → Took (below 1) (expr_depths d) (Ends 1) (Ends 1) (group p x) ts t3
        group_took t3 v = group_close.took tt t3 (took_kind (k.mark m.CloseParen) d low v.0 t2 t3 v.1)

    -- ---- expressions in braces

    braces_into : (u : Expr) (us z : List Placed) → braces_at p u us z → below 1 u (at (k.mark m.OpenBrace) p ∷ us) z
    braces_into (concat q es) us z c = (omega arith, (us, (λ i. at (k.mark m.OpenBrace) (sym c.0 i) ∷ us), c.1))
    braces_into (repeat q n es) us z c = (omega arith, (us, (λ i. at (k.mark m.OpenBrace) (sym c.0 i) ∷ us), c.1))
    braces_into u us z c = absurd c

    braces_depth : (u : Expr) (us z : List Placed) → braces_at p u us z → expr_depths d u ≡ d ∷ braces_depths d u
    braces_depth (concat q es) us z c = refl
    braces_depth (repeat q n es) us z c = refl
    braces_depth u us z c = absurd c

    braces_out_at : (u : Expr) (us z : List Placed) → IsHead (k.mark m.OpenBrace) p u → rest_at u us z → braces_at p u us z
    braces_out_at (concat q es) us z h r = (sym h.1, r)
    braces_out_at (repeat q n es) us z h r = (sym h.1, r)
    braces_out_at (unary q op x) us z (b, e, s, w) r = absurd (not_brace b op s e)
    braces_out_at (chain e ls) us z h r = absurd h
    braces_out_at (choose cs e) us z h r = absurd h
    braces_out_at u us z h r = let e = h.0 in absurd cc

    pub braces_part : ts ≡ at (k.mark m.OpenBrace) p ∷ us
        → Leads (braces_at p) (braces_depths d) Any Any us (below 1) (expr_depths d) (Ends 1) (Ends 1) ts (λ u. u)
    braces_part h =
        leads_on (leads_less (braces_at p) (braces_depths d) Any Any (Ends 1) (Ends 1) (λ z g. tt) (λ z g. tt) us)
        (leads_same (braces_at p) (braces_depths d) (below 1) (expr_depths d) (Ends 1) (Ends 1) (at (k.mark m.OpenBrace) p) d low braces_depth
        braces_into (λ u us z c g. let o = head_of u (k.mark m.OpenBrace) p us z c in braces_out_at u us z o.0 o.1) ts us h)

    -- ---- an operator before its operand

    unary_out_at : (b : Mark) (op : Unary) → unary_of b ≡ Some op → (u : Expr) (us z : List Placed) → IsHead (k.mark b) p u → rest_at u us z
        → (x : Expr) × below 1 x us z × (u ≡ unary p op x)
    unary_out_at b op s (unary q v x) us z (c, e, w, f) r =
        let i : c ≡ b = cc in
        let j : Some v ≡ Some op = sym w ∙ ap unary_of i ∙ s in
        let o : v ≡ op = cc in
        (x, r, (λ t. unary (sym f t) (o t) x))
    unary_out_at b op s (group q x) us z h r = absurd (not_paren b op s (sym h.0))
    unary_out_at b op s (concat q es) us z h r = absurd (not_brace b op s (sym h.0))
    unary_out_at b op s (repeat q n es) us z h r = absurd (not_brace b op s (sym h.0))
    unary_out_at b op s (chain e ls) us z h r = absurd h
    unary_out_at b op s (choose cs e) us z h r = absurd h
    unary_out_at b op s u us z h r = let e = h.0 in absurd cc

    pub unary_part : (b : Mark) (op : Unary) → unary_of b ≡ Some op → ts ≡ at (k.mark b) p ∷ us
        → Leads (below 1) (expr_depths (d + 1)) (Ends 1) (Ends 1) us (below 1) (expr_depths d) (Ends 1) (Ends 1) ts (λ x. unary p op x)
    unary_part b op s h =
        leads_after (below 1) (expr_depths (d + 1)) (below 1) (expr_depths d) (Ends 1) (Ends 1) (λ x. unary p op x) (at (k.mark b) p) d low (λ x. refl)
        (λ x us z c. (omega arith, (us, (b, s, refl), c)))
        (λ u us z c g. let o = head_of u (k.mark b) p us z c in unary_out_at b op s u us z o.0 o.1) ts us h

-- ---- after a name

module _ (d : ℕ) (low : d ≤ 200) (t : List ℕ) (p : Place) (ts : List Placed) where
  abbrev this_name : Name
  this_name = record { text = t; place = p }

  abbrev A0 : Exprs × Unit {0} → List Placed → List Placed → Type 0
  A0 = Both exprs_at (one (mark m.CloseParen))

  abbrev A0D : Exprs × Unit {0} → List ℕ
  A0D = BothDepths (exprs_depths (d + 1)) (one_deep d)

  a0_link : Links (one (mark m.CloseParen)) (Ends 1) (Ends 1) EndsList EndsList
  a0_link = link_kind (k.mark m.CloseParen) (Ends 1) (Ends 1) EndsList close_list

  selects_first : (ss : Selects) (q : Place) (us z : List Placed) → selects_at ss (at (k.mark m.OpenParen) q ∷ us) z → Ends 1 z → ⊥
  selects_first no_select q us z c g = (subst (Not (k.mark m.OpenParen)) (sym c) (ends_paren z g)) refl
  selects_first (more_select o i ss) q us z (mid, h, r) g = absurd cc

  module _ (q : Place) (us : List Placed) (h : ts ≡ at (k.mark m.OpenParen) q ∷ us) where
    call_out : (u : Expr) (us z : List Placed) → named_at t p u (at (k.mark m.OpenParen) q ∷ us) z → Ends 1 z
        → (x : Exprs × Unit {0}) × A0 x us z × (u ≡ call this_name x.0)
    call_out (call n es) us z ((e, f), (mid, (o, i), r)) g =
        let j : mid ≡ us = cc in
        ((es, tt), subst (λ w. A0 (es, tt) w z) j r, ap (λ w. call w es) (same_name n this_name e f))
    call_out (read n ss) us z (i, c) g = absurd (selects_first ss q us z c g)
    call_out u us z c g = absurd c

    abbrev call_part : Leads A0 A0D (Ends 1) (Ends 1) us (named_at t p) (named_depths d) (Ends 1) (Ends 1) ts (λ x. call this_name x.0)
    call_part =
        leads_after A0 A0D (named_at t p) (named_depths d) (Ends 1) (Ends 1) (λ x. call this_name x.0) (at (k.mark m.OpenParen) q) d low (λ x. refl)
        (λ x us z c. ((refl, refl), (us, (q, refl), c))) call_out ts us h

    pub call_fails_0 : (e : Fault) → Refuses exprs_at (exprs_depths (d + 1)) EndsList EndsList us e
        → Refuses (named_at t p) (named_depths d) (Ends 1) (Ends 1) ts e
    call_fails_0 e r =
        call_part.fails e (fails_first exprs_at (exprs_depths (d + 1)) (one (mark m.CloseParen)) (one_deep d) (Ends 1) (Ends 1) EndsList EndsList a0_link us e r)

    module _ (es : Exprs) (t1 : List Placed) (i : Took exprs_at (exprs_depths (d + 1)) EndsList EndsList es us t1) where
      abbrev call_close : Leads (one (mark m.CloseParen)) (one_deep d) Any Any t1 (named_at t p) (named_depths d) (Ends 1) (Ends 1) ts (λ u. call this_name es)
      call_close =
          leads_on (leads_less (one (mark m.CloseParen)) (one_deep d) Any Any (Ends 1) (Ends 1) (λ z g. tt) (λ z g. tt) t1)
          (leads_on (leads_second exprs_at (exprs_depths (d + 1)) (one (mark m.CloseParen)) (one_deep d) (Ends 1) (Ends 1) EndsList EndsList a0_link es us t1 i) call_part)

      pub call_fails_1 : (e : Fault) → Refuses (one (mark m.CloseParen)) (one_deep d) Any Any t1 e
          → Refuses (named_at t p) (named_depths d) (Ends 1) (Ends 1) ts e
      call_fails_1 e r = call_close.fails e r

      pub call_took : (t2 : List Placed) → (o : Place) × (t1 ≡ at (k.mark m.CloseParen) o ∷ t2)
          → Took (named_at t p) (named_depths d) (Ends 1) (Ends 1) (call this_name es) ts t2
      call_took t2 v = call_close.took tt t2 (took_kind (k.mark m.CloseParen) d low v.0 t1 t2 v.1)

  read_out : (u : Expr) (us z : List Placed) → Not (k.mark m.OpenParen) us → named_at t p u us z → Ends 1 z
      → (x : Selects) × selects_at x us z × (u ≡ read this_name x)
  read_out (read n ss) us z o ((e, f), c) g = (ss, c, ap (λ w. read w ss) (same_name n this_name e f))
  read_out (call n es) us z o (i, (mid, (q, h), r)) g = absurd ((subst (Not (k.mark m.OpenParen)) h o) refl)
  read_out u us z o c g = absurd c

  not_first : Not (k.mark m.OpenParen) ts → (a : Placed) (after : List Placed) → ts ≡ a ∷ after → (y : List Placed) → Not (k.mark m.OpenParen) (a ∷ y)
  not_first n a after e y = subst (Not (k.mark m.OpenParen)) e n

  pub read_part : Not (k.mark m.OpenParen) ts
      → Leads selects_at (selects_depths d) NB NB ts (named_at t p) (named_depths d) (Ends 1) (Ends 1) ts (λ ss. read this_name ss)
  read_part n =
      leads_on (leads_less selects_at (selects_depths d) NB NB (Ends 1) (Ends 1) ends_bracket ends_bracket ts)
      (leads_where (Not (k.mark m.OpenParen)) ts tt (not_first n) selects_at (selects_depths d) (named_at t p) (named_depths d) (Ends 1) (Ends 1)
      (λ ss. read this_name ss) (λ x. refl) (λ x us z c. ((refl, refl), c)) read_out)

-- ---- from what a token begins to the token

module _ (a : Kind) (p : Place) (ts us : List Placed) (h : ts ≡ at a p ∷ us) (s : Start) (i : IsStart a s) where
  pub begins_number : (l : literal_code.Literal) → s ≡ start.Number l → ts ≡ at (k.number (literal_of l)) p ∷ us
  begins_number l e = h ∙ ap (λ w. at w p ∷ us) (subst (IsStart a) e i)

  pub begins_name : (n : Bor (List ℕ)) → s ≡ start.Name n → ts ≡ at (k.name n.now) p ∷ us
  begins_name n e = h ∙ ap (λ w. at w p ∷ us) (subst (IsStart a) e i)

  pub begins_system : (f : function_code.SystemFunction) → s ≡ start.System f
      → ts ≡ at (k.system (system_name (system_function f))) p ∷ us
  begins_system f e = h ∙ ap (λ w. at w p ∷ us) (subst (IsStart a) e i)

  pub begins_paren : s ≡ start.Paren → ts ≡ at (k.mark m.OpenParen) p ∷ us
  begins_paren e = h ∙ ap (λ w. at w p ∷ us) (subst (IsStart a) e i)

  pub begins_brace : s ≡ start.Brace → ts ≡ at (k.mark m.OpenBrace) p ∷ us
  begins_brace e = h ∙ ap (λ w. at w p ∷ us) (subst (IsStart a) e i)

  pub begins_unary : (op : Unary) → s ≡ start.Unary op
      → (b : Mark) × (unary_of b ≡ Some op) × (ts ≡ at (k.mark b) p ∷ us)
  begins_unary op e = let o = subst (IsStart a) e i in (o.0, o.2, h ∙ ap (λ w. at w p ∷ us) o.1)
