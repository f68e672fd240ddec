-- A token that begins a statement: some statement that begins with it, and what follows from what comes first.
use Rattle.std.proofs.Common.{◌≡◌, ◌≤◌, ℕ, List, [], ◌∷◌, length, refl, sym, ◌∙◌, ap, subst}
use Rattle.std.specs.Prelude.{true, false, None}
use Rattle.vl_tree.specs.declared.token.Key.TheVariants as w
use Rattle.vl_tree.specs.declared.token.Mark.TheVariants as m
use Rattle.vl_tree.specs.declared.token.System.TheVariants as s
use Rattle.vl_tree.specs.Token.{Kind}
use Rattle.vl_tree.specs.Token as k
use Rattle.vl_tree.specs.Syntax.{Place, name, targets, no_select, no_target, more_target, blocking, bare, no_argument}
use Rattle.vl_tree.specs.Syntax.{Stmt, empty, block, conditional, select, loop, assign, print, stop, fatal}
use Rattle.vl_tree.specs.Syntax.{no_stmt, no_branch, more_branch, no_else}
use Rattle.vl_tree.specs.SyntaxView as plain
use Rattle.vl_tree.specs.Placed.{Placed, at}
use Rattle.vl_tree.specs.Statements.{stmt_at, case_word, print_name, NoElse}
use Rattle.vl_tree.specs.Depth.{stmt_depths}
use Rattle.vl_tree.specs.Derives.{Sinks}
use Rattle.vl_read.specs.Reading.{Took, Sunk, Any}
use Rattle.vl_read.proofs.Pieces.{Nothing, took_nothing, sunk_here}
use Rattle.vl_read.proofs.Leads.{Leads, leads_on, leads_less, leads_after, leads_same, leads_where}
use Rattle.vl_read.proofs.TokenRules.{somewhere}
use Rattle.vl_expr.proofs.Common.{some_number, zero_literal}
use Rattle.vl_simple.specs.declared.start.Start.{Start}
use Rattle.vl_simple.specs.declared.start.Start.TheVariants as start
use Rattle.vl_simple.specs.Starts.{IsStart, aims}
use Rattle.vl_simple.specs.Simple.{after, after_depths, rest_of, assign_at}
use Rattle.vl_simple.proofs.Steps.{both_some}
use Rattle.vl_simple.proofs.PartRules.{some_name, some_kind, some_grouped}
use Rattle.vl_statement.proofs.LoopRules.{some_loop}
use Rattle.vl_simple.proofs.Heads.{head_of, some_stmt, first_depth, stmt_end}
use Rattle.vl_simple.proofs.TaskRules.{f2_some, make_file, file_into}
use Rattle.vl_statement.proofs.ArmRules.{arms_some, make_select, select_into}

-- ---- some statement that begins with a token

some_aim : (a : Kind) (p : Place) → aims a ≡ true → (z : List Placed) → (t : Stmt) × (y : List Placed) × stmt_at t (at a p ∷ y) z
some_aim (k.name n) p i z =
    let last : List Placed = at (k.mark m.Semicolon) somewhere ∷ z in
    let value : List Placed = at (k.number zero_literal) somewhere ∷ last in
    let sign : List Placed = at (k.mark m.Equals) somewhere ∷ value in (
      assign (name (record { text = n; place = p }) no_select) blocking somewhere some_number,
      sign,
      (sign, (sign, refl, refl), (value, refl, (last, refl, (somewhere, refl)))),
    )
some_aim (k.mark m.OpenBrace) p i z =
    let last : List Placed = at (k.mark m.Semicolon) somewhere ∷ z in
    let value : List Placed = at (k.number zero_literal) somewhere ∷ last in
    let sign : List Placed = at (k.mark m.Equals) somewhere ∷ value in
    let close : List Placed = at (k.mark m.CloseBrace) somewhere ∷ sign in
    let first : List Placed = at (k.name []) somewhere ∷ close in (
      assign (targets p (more_target (name some_name no_select) no_target)) blocking somewhere some_number,
      first,
      (sign, (first, refl, (close, (close, (close, refl, refl), refl), (somewhere, refl))), (value, refl, (last, refl, (somewhere, refl)))),
    )
some_aim (k.mark b) p i z = absurd cc
some_aim (k.number l) p i z = absurd cc
some_aim (k.system n) p i z = absurd cc
some_aim (k.str t) p i z = absurd cc
some_aim (k.key v) p i z = absurd cc

-- ---- assignments

-- no token comes next but one with which a target begins
abbrev Aims : List Placed → Type 0
Aims [] = Unit {0}
Aims (at b q ∷ rest) = aims b ≡ true

assign_into : (x : Stmt) (us z : List Placed) → assign_at x us z → stmt_at x us z
assign_into (assign x v p e) us z c = c
assign_into u us z c = absurd c

assign_head : (u : Stmt) (b : Kind) (q : Place) (us z : List Placed) → aims b ≡ true → stmt_at u (at b q ∷ us) z
    → assign_at u (at b q ∷ us) z
assign_head (assign x v p e) b q us z i c = c
assign_head (select o false e arms) b q us z i c =
    let j : false ≡ true = sym (ap aims (head_of (select o false e arms) b q us z c).0.0) ∙ i in
    absurd cc
assign_head (select o true e arms) b q us z i c =
    let j : false ≡ true = sym (ap aims (head_of (select o true e arms) b q us z c).0.0) ∙ i in
    absurd cc
assign_head (conditional no_branch o) b q us z i c = absurd c
assign_head u b q us z i c = let j : false ≡ true = sym (ap aims (head_of u b q us z c).0.0) ∙ i in absurd cc

assign_is : (u : Stmt) (us z : List Placed) → Aims us → stmt_at u us z → Any z → (x : Stmt) × assign_at x us z × (u ≡ x)
assign_is u [] z n c g = absurd (stmt_end u z c)
assign_is u (at b q ∷ us) z n c g = (u, assign_head u b q us z n c, refl)

module _ (d : ℕ) where
  some_known : (a b : Kind) (p : Place) (z : List Placed) → a ≡ b → (t : Stmt) × (y : List Placed) × stmt_at t (at b p ∷ y) z
      → (t : Stmt) × (y : List Placed) × stmt_at t (at a p ∷ y) z
  some_known a b p z i o = (o.0, o.1, subst (λ v. stmt_at o.0 (at v p ∷ o.1) z) (sym i) o.2)

  some_start : (a : Kind) (p : Place) (x : Start) → IsStart a x → (z : List Placed) → NoElse z
      → (t : Stmt) × (y : List Placed) × stmt_at t (at a p ∷ y) z
  some_start a p start.Empty i z g = some_known a (k.mark m.Semicolon) p z i (empty p, z, refl)
  some_start a p start.Block i z g =
      let last : List Placed = at (k.key w.End) somewhere ∷ z in
      some_known a (k.key w.Begin) p z i (block p None no_stmt, last, (last, refl, (last, refl, (last, refl, (somewhere, refl)))))
  some_start a p start.Conditional i z g =
      let last : List Placed = at (k.mark m.Semicolon) somewhere ∷ z in
      let o = some_grouped d last tt in
      some_known a (k.key w.If) p z i
      (conditional (more_branch p o.0 (empty somewhere) no_branch) no_else, o.1, (o.1, refl, (last, o.2, (z, refl, (z, refl, (refl, g))))))
  some_start a p (start.Select v) i z g =
      let o = both_some (some_grouped d) (arms_some d p v) z tt in
      some_known a (k.key (case_word v)) p z i (make_select d p v o.0, o.1, select_into d p v o.0 o.1 z o.2)
  some_start a p start.Loop i z g =
      let o = both_some (some_loop d) (some_stmt NoElse) z g in
      some_known a (k.key w.For) p z i (loop p o.0.0 o.0.1, o.1, (o.1, refl, o.2))
  some_start a p start.Assign i z g = some_aim a p i z
  some_start a p (start.Print v) i z g =
      let last : List Placed = at (k.mark m.Semicolon) somewhere ∷ z in
      some_known a (k.system (print_name (plain.print v))) p z i (print p (plain.print v) bare, last, (last, refl, (last, refl, (somewhere, refl))))
  some_start a p start.FilePrint i z g =
      let o = both_some (some_kind (k.mark m.OpenParen)) (f2_some d p) z tt in
      some_known a (k.system s.Fwrite) p z i (make_file d p o.0, o.1, file_into d p o.0 o.1 z o.2)
  some_start a p start.Stop i z g =
      let last : List Placed = at (k.mark m.Semicolon) somewhere ∷ z in
      some_known a (k.system s.Stop) p z i (stop p no_argument, last, (last, refl, (last, refl, (somewhere, refl))))
  some_start a p start.Fatal i z g =
      let last : List Placed = at (k.mark m.Semicolon) somewhere ∷ z in
      some_known a (k.system s.Fatal) p z i (fatal p false, last, (last, refl, (last, refl, (somewhere, refl))))

  sinks_here : (a : Placed) (ds es : List ℕ) → d ≡ 201 → ds ≡ d ∷ es → Sinks (a ∷ []) ds
  sinks_here a ds es i h = subst (Sinks (a ∷ [])) (sym h) i

  pub start_sunk : (a : Kind) (p : Place) (x : Start) (ts us : List Placed) → ts ≡ at a p ∷ us → IsStart a x → d ≡ 201
      → Sunk stmt_at (stmt_depths d) NoElse Any ts (length ts)
  start_sunk a p x ts us h i j =
      sunk_here stmt_at (stmt_depths d) NoElse Any ts (at a p) us h
      (λ z g.
      let o = some_start a p x i z g in
      (o.0, o.1, o.2, sinks_here (at a p) (stmt_depths d o.0) (rest_of (stmt_depths d o.0)) j (first_depth d o.0 (at a p ∷ o.1) z o.2)))
      (λ u y z c g. sinks_here (at a p) (stmt_depths d u) (rest_of (stmt_depths d u)) j (first_depth d u (at a p ∷ y) z c))

  -- ---- after the first token

  module _ (low : d ≤ 200) (a : Kind) (p : Place) (ts us : List Placed) (h : ts ≡ at a p ∷ us) where
    pub rest_part : (b : Kind) → a ≡ b
        → Leads (after b p) (after_depths d) NoElse Any us stmt_at (stmt_depths d) NoElse Any ts (λ x. x)
    rest_part b i =
        leads_same (after b p) (after_depths d) stmt_at (stmt_depths d) NoElse Any (at b p) d low
        (λ x us z c. first_depth d x (at b p ∷ us) z c) (λ x us z c. c) (λ x us z c g. c) ts us (h ∙ ap (λ v. at v p ∷ us) i)

    empty_out : (u : Stmt) (us z : List Placed) → stmt_at u (at (k.mark m.Semicolon) p ∷ us) z → Any z
        → (x : Unit {0}) × Nothing x us z × (u ≡ empty p)
    empty_out (empty q) us z c g = let e : q ≡ p = cc in (tt, cc, ap empty e)
    empty_out (conditional no_branch o) us z c g = absurd c
    empty_out u us z c g = let i = (head_of u (k.mark m.Semicolon) p us z c).0.0 in absurd cc

    pub empty_took : a ≡ k.mark m.Semicolon → Took stmt_at (stmt_depths d) NoElse Any (empty p) ts us
    empty_took i =
        (leads_after Nothing (λ u. []) stmt_at (stmt_depths d) NoElse Any (λ u. empty p) (at (k.mark m.Semicolon) p) d low (λ x. refl)
        (λ x us z c. ap (λ v. at (k.mark m.Semicolon) p ∷ v) c) empty_out ts us (h ∙ ap (λ v. at v p ∷ us) i)).took tt us
        (took_nothing NoElse Any us)

    -- ---- where a target comes first

    aims_next : aims a ≡ true → (b : Placed) (more : List Placed) → ts ≡ b ∷ more → (y : List Placed) → Aims (b ∷ y)
    aims_next i (at b q) more e y = let j : a ≡ b = (let l = sym h ∙ e in cc) in subst (λ v. aims v ≡ true) j i

    pub assign_part : aims a ≡ true
        → Leads assign_at (stmt_depths d) Any Any ts stmt_at (stmt_depths d) NoElse Any ts (λ x. x)
    assign_part i =
        leads_on (leads_less assign_at (stmt_depths d) Any Any NoElse Any (λ z g. tt) (λ z g. tt) ts)
        (leads_where Aims ts tt (aims_next i) assign_at (stmt_depths d) stmt_at (stmt_depths d) NoElse Any (λ x. x) (λ x. refl)
        assign_into assign_is)
