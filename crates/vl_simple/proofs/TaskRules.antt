-- The rules of system tasks.
use Rattle.std.proofs.Common.{◌≡◌, ◌≤◌, ◌+◌, ℕ, List, [], ◌∷◌, ◌++◌, refl, sym, ◌∙◌, ap, subst, append_assoc}
use Rattle.std.specs.Prelude.{Bool, true, false}
use Rattle.vl_tree.specs.declared.token.Mark.TheVariants as m
use Rattle.vl_tree.specs.declared.token.System.TheVariants as s
use Rattle.vl_tree.specs.Token as k
use Rattle.vl_tree.specs.Syntax.{Place, Expr, Exprs, no_expr, Print, display, write, Printed, Stopped}
use Rattle.vl_tree.specs.Syntax.{Stmt, conditional, print, file_print, stop, fatal, no_branch}
use Rattle.vl_tree.specs.Placed.{Placed, at, kind_of}
use Rattle.vl_tree.specs.Piece.{mark}
use Rattle.vl_tree.specs.Expressions.{expr_at}
use Rattle.vl_tree.specs.Statements.{printed_at, stopped_at, print_name, NoElse}
use Rattle.vl_tree.specs.Depth.{expr_depths, more_exprs_depths, printed_depths, stopped_depths}
use Rattle.vl_read.specs.Reading.{Took, Any, Both, BothDepths}
use Rattle.vl_read.specs.Tokens.{one, one_deep}
use Rattle.vl_read.proofs.Pieces.{Productive, link_any, took_empty}
use Rattle.vl_read.proofs.Leads.{Leads, leads_on, leads_less, leads_as, leads_after}
use Rattle.vl_read.proofs.TokenRules.{somewhere, link_kind, link_kind_first}
use Rattle.vl_expr.specs.Ends.{EndsExpr, EndsList}
use Rattle.vl_expr.proofs.Common.{some_expr, comma_ends, close_list}
use Rattle.vl_simple.specs.Simple.{after, after_depths, NoParen, format_at, format_depths, empty_list_at, empty_list_depths}
use Rattle.vl_simple.proofs.Steps.{Joint, both_some}
use Rattle.vl_simple.proofs.PartRules.{some_kind}
use Rattle.vl_simple.proofs.Heads.{IsHead, tail_at, head_of}

semicolon_paren : (p : Place) (z : List Placed) → NoParen (at (k.mark m.Semicolon) p ∷ z)
semicolon_paren p z = λ h. absurd cc

-- ---- () or nothing

module _ (d : ℕ) where
  no_list : (u : Bool) (a : Placed) (y z : List Placed) → (kind_of a ≡ k.mark m.OpenParen → ⊥) → empty_list_at u (a ∷ y) z
      → (u ≡ false) × (z ≡ a ∷ y)
  no_list false a y z n c = (refl, sym c)
  no_list true a y z n (mid, (q, h), r) = let e : a ≡ at (k.mark m.OpenParen) q = cc in absurd (n (ap kind_of e))

  no_list_end : (u : Bool) (z : List Placed) → empty_list_at u [] z → (u ≡ false) × (z ≡ [])
  no_list_end false z c = (refl, sym c)
  no_list_end true z (mid, (q, h), r) = absurd cc

  pub no_empty_list : (ts : List Placed) → NoParen ts → Took empty_list_at (empty_list_depths d) NoParen NoParen false ts ts
  no_empty_list ts f =
      took_empty empty_list_at (empty_list_depths d) NoParen NoParen false (λ z. refl) refl ts
      (λ a more e u y z c g. no_list u a y z (subst NoParen e f) c) (λ u z c g. no_list_end u z c)

  list_out : (p : Place) (u : Bool) (us z : List Placed) → empty_list_at u (at (k.mark m.OpenParen) p ∷ us) z → NoParen z
      → (x : Unit {0}) × one (mark m.CloseParen) x us z × (u ≡ true)
  list_out p false us z c g = absurd ((subst NoParen (sym c) g) refl)
  list_out p true us z (mid, (q, h), r) g = let f : mid ≡ us = cc in (tt, subst (λ v. mark m.CloseParen v z) f r, refl)

  pub empty_list_part : d ≤ 200 → (p : Place) (ts us : List Placed) → ts ≡ at (k.mark m.OpenParen) p ∷ us
      → Leads (one (mark m.CloseParen)) (one_deep d) Any Any us empty_list_at (empty_list_depths d) NoParen NoParen ts (λ x. true)
  empty_list_part low p ts us h =
      leads_on (leads_less (one (mark m.CloseParen)) (one_deep d) Any Any NoParen NoParen (λ z g. tt) (λ z g. tt) us)
      (leads_after (one (mark m.CloseParen)) (one_deep d) empty_list_at (empty_list_depths d) NoParen NoParen (λ x. true)
      (at (k.mark m.OpenParen) p) d low (λ x. refl) (λ x us z c. (us, (p, refl), c)) (list_out p) ts us h)

-- ---- $display and $write

module _ (d : ℕ) (p : Place) where
  abbrev pub PR : Printed × Unit {0} → List Placed → List Placed → Type 0
  PR = Both printed_at (one (mark m.Semicolon))

  abbrev pub PRD : Printed × Unit {0} → List ℕ
  PRD = BothDepths (printed_depths d) (one_deep d)

  pub printed_next : Joint printed_at (printed_depths d) (one (mark m.Semicolon)) (one_deep d) Any Any NoParen NoParen
  printed_next = record { link = link_kind (k.mark m.Semicolon) Any Any NoParen semicolon_paren }

  print_out : (a : Print) (u : Stmt) (us z : List Placed) → IsHead (k.system (print_name a)) p u → tail_at u us z
      → (x : Printed × Unit {0}) × PR x us z × (u ≡ print p a x.0)
  print_out display (print q display b) us z h r = ((b, tt), r, ap (λ w. print w display b) (sym h.1))
  print_out display (print q write b) us z h r = let e = h.0 in absurd cc
  print_out display (conditional no_branch o) us z h r = absurd h
  print_out display u us z h r = let e = h.0 in absurd cc
  print_out write (print q write b) us z h r = ((b, tt), r, ap (λ w. print w write b) (sym h.1))
  print_out write (print q display b) us z h r = let e = h.0 in absurd cc
  print_out write (conditional no_branch o) us z h r = absurd h
  print_out write u us z h r = let e = h.0 in absurd cc

  pub print_parts : (a : Print) (ts : List Placed)
      → Leads PR PRD Any Any ts (after (k.system (print_name a)) p) (after_depths d) NoElse Any ts (λ x. print p a x.0)
  print_parts a ts =
      leads_on (leads_less PR PRD Any Any NoElse Any (λ z g. tt) (λ z g. tt) ts)
      (leads_as PR PRD (after (k.system (print_name a)) p) (after_depths d) NoElse Any (λ x. print p a x.0) (λ x. refl)
      (λ x us z c. (us, refl, c)) (λ u us z c g. let o = head_of u (k.system (print_name a)) p us z c in print_out a u us z o.0 o.1) ts)

  -- ---- $stop

  abbrev pub ST : Stopped × Unit {0} → List Placed → List Placed → Type 0
  ST = Both stopped_at (one (mark m.Semicolon))

  abbrev pub STD : Stopped × Unit {0} → List ℕ
  STD = BothDepths (stopped_depths d) (one_deep d)

  pub stopped_next : Joint stopped_at (stopped_depths d) (one (mark m.Semicolon)) (one_deep d) Any Any NoParen NoParen
  stopped_next = record { link = link_kind (k.mark m.Semicolon) Any Any NoParen semicolon_paren }

  stop_out : (u : Stmt) (us z : List Placed) → IsHead (k.system s.Stop) p u → tail_at u us z
      → (x : Stopped × Unit {0}) × ST x us z × (u ≡ stop p x.0)
  stop_out (stop q b) us z h r = ((b, tt), r, ap (λ w. stop w b) (sym h.1))
  stop_out (print q display b) us z h r = let e = h.0 in absurd cc
  stop_out (print q write b) us z h r = let e = h.0 in absurd cc
  stop_out (conditional no_branch o) us z h r = absurd h
  stop_out u us z h r = let e = h.0 in absurd cc

  pub stop_parts : (ts : List Placed)
      → Leads ST STD Any Any ts (after (k.system s.Stop) p) (after_depths d) NoElse Any ts (λ x. stop p x.0)
  stop_parts ts =
      leads_on (leads_less ST STD Any Any NoElse Any (λ z g. tt) (λ z g. tt) ts)
      (leads_as ST STD (after (k.system s.Stop) p) (after_depths d) NoElse Any (λ x. stop p x.0) (λ x. refl)
      (λ x us z c. (us, refl, c)) (λ u us z c g. let o = head_of u (k.system s.Stop) p us z c in stop_out u us z o.0 o.1) ts)

  -- ---- $fatal

  abbrev pub FA : Bool × Unit {0} → List Placed → List Placed → Type 0
  FA = Both empty_list_at (one (mark m.Semicolon))

  abbrev pub FAD : Bool × Unit {0} → List ℕ
  FAD = BothDepths (empty_list_depths d) (one_deep d)

  pub list_next : Joint empty_list_at (empty_list_depths d) (one (mark m.Semicolon)) (one_deep d) Any Any NoParen NoParen
  list_next = record { link = link_kind (k.mark m.Semicolon) Any Any NoParen semicolon_paren }

  fatal_out : (u : Stmt) (us z : List Placed) → IsHead (k.system s.Fatal) p u → tail_at u us z
      → (x : Bool × Unit {0}) × FA x us z × (u ≡ fatal p x.0)
  fatal_out (fatal q b) us z h r = ((b, tt), r, ap (λ w. fatal w b) (sym h.1))
  fatal_out (print q display b) us z h r = let e = h.0 in absurd cc
  fatal_out (print q write b) us z h r = let e = h.0 in absurd cc
  fatal_out (conditional no_branch o) us z h r = absurd h
  fatal_out u us z h r = let e = h.0 in absurd cc

  fatal_depths : (x : Bool × Unit {0}) → after_depths d (fatal p x.0) ≡ FAD x
  fatal_depths (false, u) = refl
  fatal_depths (true, u) = refl

  pub fatal_parts : (ts : List Placed)
      → Leads FA FAD Any Any ts (after (k.system s.Fatal) p) (after_depths d) NoElse Any ts (λ x. fatal p x.0)
  fatal_parts ts =
      leads_on (leads_less FA FAD Any Any NoElse Any (λ z g. tt) (λ z g. tt) ts)
      (leads_as FA FAD (after (k.system s.Fatal) p) (after_depths d) NoElse Any (λ x. fatal p x.0) fatal_depths
      (λ x us z c. (us, refl, c)) (λ u us z c g. let o = head_of u (k.system s.Fatal) p us z c in fatal_out u us z o.0 o.1) ts)

  -- ---- $fwrite

  abbrev pub Form : Type 0
  Form = Place × List ℕ × Exprs

  abbrev pub F5 : Unit {0} × Unit {0} → List Placed → List Placed → Type 0
  F5 = Both (one (mark m.CloseParen)) (one (mark m.Semicolon))

  abbrev pub F5D : Unit {0} × Unit {0} → List ℕ
  F5D = BothDepths (one_deep d) (one_deep d)

  abbrev pub F4 : Form × (Unit {0} × Unit {0}) → List Placed → List Placed → Type 0
  F4 = Both format_at F5

  abbrev pub F4D : Form × (Unit {0} × Unit {0}) → List ℕ
  F4D = BothDepths (format_depths (d + 1)) F5D

  abbrev pub F3 : Unit {0} × (Form × (Unit {0} × Unit {0})) → List Placed → List Placed → Type 0
  F3 = Both (one (mark m.Comma)) F4

  abbrev pub F3D : Unit {0} × (Form × (Unit {0} × Unit {0})) → List ℕ
  F3D = BothDepths (one_deep (d + 1)) F4D

  abbrev pub F2 : Expr × (Unit {0} × (Form × (Unit {0} × Unit {0}))) → List Placed → List Placed → Type 0
  F2 = Both expr_at F3

  abbrev pub F2D : Expr × (Unit {0} × (Form × (Unit {0} × Unit {0}))) → List ℕ
  F2D = BothDepths (expr_depths (d + 1)) F3D

  abbrev pub F1 : Unit {0} × (Expr × (Unit {0} × (Form × (Unit {0} × Unit {0})))) → List Placed → List Placed → Type 0
  F1 = Both (one (mark m.OpenParen)) F2

  abbrev pub F1D : Unit {0} × (Expr × (Unit {0} × (Form × (Unit {0} × Unit {0})))) → List ℕ
  F1D = BothDepths (one_deep d) F2D

  some_format : Productive format_at Any
  some_format z f = ((somewhere, [], no_expr), at (k.str []) somewhere ∷ z, (z, refl, refl))

  f4_some : Productive F4 Any
  f4_some = both_some some_format (both_some (some_kind (k.mark m.CloseParen)) (some_kind (k.mark m.Semicolon)))

  pub f2_some : Productive F2 Any
  f2_some = both_some (some_expr Any) (both_some (some_kind (k.mark m.Comma)) f4_some)

  pub file_1 : Joint (one (mark m.OpenParen)) (one_deep d) F2 F2D Any Any Any Any
  file_1 = record { link = link_any F2 Any Any f2_some }

  pub file_2 : Joint expr_at (expr_depths (d + 1)) F3 F3D Any Any EndsExpr EndsExpr
  file_2 = record { link = link_kind_first (k.mark m.Comma) Any Any EndsExpr comma_ends F4 f4_some }

  pub file_3 : Joint (one (mark m.Comma)) (one_deep (d + 1)) F4 F4D Any Any Any Any
  file_3 = record { link = link_any F4 Any Any f4_some }

  pub file_4 : Joint format_at (format_depths (d + 1)) F5 F5D Any Any EndsList EndsList
  file_4 = record { link = link_kind_first (k.mark m.CloseParen) Any Any EndsList close_list (one (mark m.Semicolon)) (some_kind (k.mark m.Semicolon)) }

  pub file_5 : Joint (one (mark m.CloseParen)) (one_deep d) (one (mark m.Semicolon)) (one_deep d) Any Any Any Any
  file_5 = record { link = link_any (one (mark m.Semicolon)) Any Any (some_kind (k.mark m.Semicolon)) }

  abbrev pub make_file : Unit {0} × (Expr × (Unit {0} × (Form × (Unit {0} × Unit {0})))) → Stmt
  make_file x = file_print p x.1.0 x.1.1.1.0.0 x.1.1.1.0.1 x.1.1.1.0.2

  file_depths : (x : Unit {0} × (Expr × (Unit {0} × (Form × (Unit {0} × Unit {0}))))) → after_depths d (make_file x) ≡ F1D x
  file_depths (o, (e, (c, ((q, t, es), (b, v))))) =
      ap (λ w. d ∷ w)
      (append_assoc (expr_depths (d + 1) e ++ ((d + 1) ∷ (d + 1) ∷ more_exprs_depths (d + 1) es)) (d ∷ []) (d ∷ [])
      ∙ append_assoc (expr_depths (d + 1) e) ((d + 1) ∷ (d + 1) ∷ more_exprs_depths (d + 1) es) (d ∷ d ∷ []))

  pub file_into : (x : Unit {0} × (Expr × (Unit {0} × (Form × (Unit {0} × Unit {0}))))) (us z : List Placed) → F1 x us z
      → after (k.system s.Fwrite) p (make_file x) us z
  file_into (o, (e, (c, ((q, t, es), (b, v))))) us z (m1, i1, (m2, i2, (m3, i3, (m4, (a1, i4, i5), (m5, i6, i7))))) =
      (us, refl, (m5, (m1, i1, (m4, (m2, i2, (m3, i3, (a1, i4, i5))), i6)), i7))

  file_out : (u : Stmt) (us z : List Placed) → IsHead (k.system s.Fwrite) p u → tail_at u us z
      → (x : Unit {0} × (Expr × (Unit {0} × (Form × (Unit {0} × Unit {0}))))) × F1 x us z × (u ≡ make_file x)
  file_out (file_print q e o t es) us z h (m5, (m1, i1, (m4, (m2, i2, (m3, i3, (a1, i4, i5))), i6)), i7) = (
    (tt, (e, (tt, ((o, t, es), (tt, tt))))),
    (m1, i1, (m2, i2, (m3, i3, (m4, (a1, i4, i5), (m5, i6, i7))))),
    ap (λ w. file_print w e o t es) (sym h.1),
  )
  file_out (print q display b) us z h r = let e = h.0 in absurd cc
  file_out (print q write b) us z h r = let e = h.0 in absurd cc
  file_out (conditional no_branch o) us z h r = absurd h
  file_out u us z h r = let e = h.0 in absurd cc

  pub file_parts : (ts : List Placed)
      → Leads F1 F1D Any Any ts (after (k.system s.Fwrite) p) (after_depths d) NoElse Any ts make_file
  file_parts ts =
      leads_on (leads_less F1 F1D Any Any NoElse Any (λ z g. tt) (λ z g. tt) ts)
      (leads_as F1 F1D (after (k.system s.Fwrite) p) (after_depths d) NoElse Any make_file file_depths
      file_into (λ u us z c g. let o = head_of u (k.system s.Fwrite) p us z c in file_out u us z o.0 o.1) ts)
