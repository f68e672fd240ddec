-- The rules of `case` and its arms.
use Rattle.std.proofs.Common.{◌≡◌, ◌≤◌, ◌+◌, ℕ, List, [], ◌∷◌, ◌++◌, length, refl, sym, ◌∙◌, ap, subst, append_assoc, arith}
use Rattle.std.specs.Prelude.{Bool, false, true, IsTrue}
use Rattle.vl_tree.specs.declared.token.Key.TheVariants as w
use Rattle.vl_tree.specs.declared.token.Mark.TheVariants as m
use Rattle.vl_tree.specs.Token as k
use Rattle.vl_tree.specs.Syntax.{Place, Expr, Exprs, no_expr, more_expr, Arms, no_arm, more_arm, default_arm, no_branch}
use Rattle.vl_tree.specs.Syntax.{Stmt, empty, conditional, select}
use Rattle.vl_tree.specs.Placed.{Placed, at}
use Rattle.vl_tree.specs.Piece.{mark}
use Rattle.vl_tree.specs.Expressions.{exprs_at}
use Rattle.vl_tree.specs.Statements.{stmt_at, arms_at, has_arm, case_word, NoElse}
use Rattle.vl_tree.specs.Derives.{Sinks}
use Rattle.vl_tree.specs.Depth.{exprs_depths, stmt_depths, arms_depths, one_if}
use Rattle.vl_read.specs.Reading.{Took, Sunk, Any, Both, BothDepths}
use Rattle.vl_read.specs.Tokens.{one, one_deep, Not}
use Rattle.vl_read.proofs.Pieces.{Productive, Nothing, took_nothing, link_any, sunk_here}
use Rattle.vl_read.proofs.Leads.{Leads, leads_on, leads_less, leads_as, leads_after, leads_where}
use Rattle.vl_read.proofs.TokenRules.{somewhere, link_kind_first}
use Rattle.vl_expr.specs.Ends.{EndsList}
use Rattle.vl_simple.specs.Readers.{NoColon, grouped_at, grouped_depths}
use Rattle.vl_simple.specs.Simple.{after, after_depths}
use Rattle.vl_statement.specs.Parts.{PlainArm, labels, default, arm_at, arm_depths, with_arm, closed_at, closed_depths}
use Rattle.vl_simple.proofs.Steps.{Joint}
use Rattle.vl_simple.proofs.PartRules.{colon_at}
use Rattle.vl_simple.proofs.Heads.{IsHead, tail_at, head_of, some_stmt, stmt_not, expr_key}

exprs_key : (es : Exprs) (p : Place) (v : _) (us z : List Placed) → exprs_at es (at (k.key v) p ∷ us) z → ⊥
exprs_key no_expr p v us z h = absurd h
exprs_key (more_expr e es) p v us z (mid, h, r) = expr_key e v p us mid h

colon_list : (p : Place) (z : List Placed) → EndsList (at (k.mark m.Colon) p ∷ z)
colon_list p z = (λ h. absurd cc, omega arith)

-- ---- an arm

module _ (d : ℕ) where
  abbrev pub AB : Unit {0} × Stmt → List Placed → List Placed → Type 0
  AB = Both (one (mark m.Colon)) stmt_at

  abbrev pub ABD : Unit {0} × Stmt → List ℕ
  ABD = BothDepths (one_deep d) (stmt_depths (d + 1))

  abbrev pub AL : Exprs × (Unit {0} × Stmt) → List Placed → List Placed → Type 0
  AL = Both exprs_at AB

  abbrev pub ALD : Exprs × (Unit {0} × Stmt) → List ℕ
  ALD = BothDepths (exprs_depths d) ABD

  pub labels_next : Joint exprs_at (exprs_depths d) AB ABD NoElse Any EndsList EndsList
  labels_next = record { link = link_kind_first (k.mark m.Colon) NoElse Any EndsList colon_list stmt_at (some_stmt NoElse) }

  pub colon_next : Joint (one (mark m.Colon)) (one_deep d) stmt_at (stmt_depths (d + 1)) NoElse Any Any Any
  colon_next = record { link = link_any stmt_at NoElse Any (some_stmt NoElse) }

  labels_out : (u : PlainArm) (us z : List Placed) → Not (k.key w.Default) us → arm_at u us z → Any z
      → (x : Exprs × (Unit {0} × Stmt)) × AL x us z × (u ≡ labels x.0 x.1.1)
  labels_out (labels es b) us z n c g = ((es, (tt, b)), c, refl)
  labels_out (default p c b) us z n (mid, h, r) g = absurd ((subst (Not (k.key w.Default)) h n) refl)

  -- where no `default` comes next
  pub labels_part : (ts : List Placed) → Not (k.key w.Default) ts
      → Leads AL ALD NoElse Any ts arm_at (arm_depths d) NoElse Any ts (λ x. labels x.0 x.1.1)
  labels_part ts n =
      leads_where (Not (k.key w.Default)) ts tt (λ a more e y. subst (Not (k.key w.Default)) e n) AL ALD arm_at (arm_depths d) NoElse Any
      (λ x. labels x.0 x.1.1) (λ x. refl) (λ x us z c. c) labels_out

  abbrev pub AD : Bool × Stmt → List Placed → List Placed → Type 0
  AD = Both (colon_at d) stmt_at

  abbrev pub ADD : Bool × Stmt → List ℕ
  ADD = BothDepths (one_if d) (stmt_depths (d + 1))

  pub optional_next : Joint (colon_at d) (one_if d) stmt_at (stmt_depths (d + 1)) NoElse Any NoColon NoColon
  optional_next = record {
    link = record {
      some = λ z f. (empty somewhere, at (k.mark m.Semicolon) somewhere ∷ z, refl, λ h. absurd cc);
      empty = λ u z c f. stmt_not (k.mark m.Colon) refl u z z c;
      starts = λ u a z c g. stmt_not (k.mark m.Colon) refl u a z c;
    };
  }

  default_out : (p : Place) (u : PlainArm) (us z : List Placed) → arm_at u (at (k.key w.Default) p ∷ us) z → Any z
      → (x : Bool × Stmt) × AD x us z × (u ≡ default p x.0 x.1)
  default_out p (labels es b) us z (mid, h, r) g = absurd (exprs_key es p w.Default us mid h)
  default_out p (default q c b) us z (mid, h, r) g =
      let i : q ≡ p = cc in
      let e : mid ≡ us = cc in
      ((c, b), subst (λ v. AD (c, b) v z) e r, ap (λ v. default v c b) i)

  pub default_part : d ≤ 200 → (p : Place) (ts us : List Placed) → ts ≡ at (k.key w.Default) p ∷ us
      → Leads AD ADD NoElse Any us arm_at (arm_depths d) NoElse Any ts (λ x. default p x.0 x.1)
  default_part low p ts us h =
      leads_after AD ADD arm_at (arm_depths d) NoElse Any (λ x. default p x.0 x.1) (at (k.key w.Default) p) d low (λ x. refl)
      (λ x us z c. (us, refl, c)) (default_out p) ts us h

  pub default_sunk : (p : Place) (ts us : List Placed) → ts ≡ at (k.key w.Default) p ∷ us → d ≡ 201
      → Sunk arm_at (arm_depths d) NoElse Any ts (length ts)
  default_sunk p ts us h j =
      sunk_here arm_at (arm_depths d) NoElse Any ts (at (k.key w.Default) p) us h
      (λ z f.
      let rest : List Placed = at (k.mark m.Semicolon) somewhere ∷ z in
      (default p false (empty somewhere), rest, (rest, refl, (rest, refl, refl)), j))
      (λ u y z c g.
      let o = default_out p u y z c g in
      subst (λ v. Sinks (at (k.key w.Default) p ∷ []) (arm_depths d v)) (sym o.2) j)

  pub some_arm : Productive arm_at NoElse
  some_arm z f =
      let rest : List Placed = at (k.mark m.Semicolon) somewhere ∷ z in
      (default somewhere false (empty somewhere), at (k.key w.Default) somewhere ∷ rest, (rest, refl, (rest, refl, refl)))

-- ---- arms and `endcase`

arm_not_else : (x : PlainArm) (us z : List Placed) → arm_at x us z → NoElse us
arm_not_else x [] z c = tt
arm_not_else (labels es b) (at a p ∷ us) z (mid, h, r) =
    λ e. exprs_key es p w.Else us mid (subst (λ v. exprs_at es (at v p ∷ us) mid) e h)
arm_not_else (default q c b) (at a p ∷ us) z (mid, h, r) = λ e. absurd cc

split_arm : (u : Arms) (us z : List Placed) → arms_at u us z → IsTrue (has_arm u)
    → (x : PlainArm) × (more : Arms) × (mid : List Placed) × arm_at x us mid × arms_at more mid z × (u ≡ with_arm x more)
split_arm no_arm us z c i = absurd cc
split_arm (more_arm es b more) us z (m1, h, (m2, e, (m3, s, r))) i = (labels es b, more, m3, (m1, h, (m2, e, s)), r, refl)
split_arm (default_arm p c b more) us z (m1, h, (m2, e, (m3, s, r))) i = (default p c b, more, m3, (m1, h, (m2, e, s)), r, refl)

join_arm : (x : PlainArm) (more : Arms) (us mid z : List Placed) → arm_at x us mid → arms_at more mid z → arms_at (with_arm x more) us z
join_arm (labels es b) more us mid z (m1, h, (m2, e, s)) r = (m1, h, (m2, e, (mid, s, r)))
join_arm (default p c b) more us mid z (m1, h, (m2, e, s)) r = (m1, h, (m2, e, (mid, s, r)))

has_first : (x : PlainArm) (more : Arms) → has_arm (with_arm x more) ≡ true
has_first (labels es b) more = refl
has_first (default p c b) more = refl

closed_else : (u : Arms) (us z : List Placed) → closed_at u us z → NoElse us
closed_else no_arm us z (mid, e, (p, h)) = subst NoElse (sym (e ∙ h)) (λ i. absurd cc)
closed_else (more_arm es b more) us z (mid, c, e) = let o = split_arm (more_arm es b more) us mid c refl in arm_not_else o.0 us o.2 o.3
closed_else (default_arm p v b more) us z (mid, c, e) = let o = split_arm (default_arm p v b more) us mid c refl in arm_not_else o.0 us o.2 o.3

module _ (d : ℕ) where
  joined_depths : (x : PlainArm) (more : Arms) → closed_depths d (with_arm x more) ≡ arm_depths (d + 1) x ++ closed_depths d more
  joined_depths (labels es b) more =
      append_assoc (exprs_depths (d + 1) es) ((d + 1) ∷ (stmt_depths (d + 1 + 1) b ++ arms_depths (d + 1) more)) (d ∷ [])
      ∙ ap (λ v. exprs_depths (d + 1) es ++ ((d + 1) ∷ v)) (append_assoc (stmt_depths (d + 1 + 1) b) (arms_depths (d + 1) more) (d ∷ []))
      ∙ sym (append_assoc (exprs_depths (d + 1) es) ((d + 1) ∷ stmt_depths (d + 1 + 1) b) (arms_depths (d + 1) more ++ (d ∷ [])))
  joined_depths (default p c b) more =
      ap (λ v. (d + 1) ∷ v)
      (append_assoc (one_if (d + 1) c) (stmt_depths (d + 1 + 1) b ++ arms_depths (d + 1) more) (d ∷ [])
      ∙ ap (λ v. one_if (d + 1) c ++ v) (append_assoc (stmt_depths (d + 1 + 1) b) (arms_depths (d + 1) more) (d ∷ []))
      ∙ sym (append_assoc (one_if (d + 1) c) (stmt_depths (d + 1 + 1) b) (arms_depths (d + 1) more ++ (d ∷ []))))

  closed_out : (p : Place) (u : Arms) (us z : List Placed) → closed_at u (at (k.key w.Endcase) p ∷ us) z → Any z
      → (x : Unit {0}) × Nothing x us z × (u ≡ no_arm)
  closed_out p no_arm us z (mid, e, (q, h)) g = let i = e ∙ h in (tt, cc, refl)
  closed_out p (more_arm es b more) us z (mid, (m1, h, r), e) g = absurd (exprs_key es p w.Endcase us m1 h)
  closed_out p (default_arm q c b more) us z (mid, (m1, h, r), e) g = absurd cc

  pub endcase_took : d ≤ 200 → (p : Place) (ts us : List Placed) → ts ≡ at (k.key w.Endcase) p ∷ us
      → Took closed_at (closed_depths d) Any Any no_arm ts us
  endcase_took low p ts us h =
      (leads_after Nothing (λ u. []) closed_at (closed_depths d) Any Any (λ u. no_arm) (at (k.key w.Endcase) p) d low (λ x. refl)
      (λ x us z c. (at (k.key w.Endcase) p ∷ us, refl, (p, ap (λ v. at (k.key w.Endcase) p ∷ v) c))) (closed_out p) ts us h).took tt us
      (took_nothing Any Any us)

  abbrev pub AC : PlainArm × Arms → List Placed → List Placed → Type 0
  AC = Both arm_at closed_at

  abbrev pub ACD : PlainArm × Arms → List ℕ
  ACD = BothDepths (arm_depths (d + 1)) (closed_depths d)

  pub arm_closed : Joint arm_at (arm_depths (d + 1)) closed_at (closed_depths d) Any Any NoElse Any
  arm_closed = record {
    link = record {
      some = λ z f. (no_arm, at (k.key w.Endcase) somewhere ∷ z, (at (k.key w.Endcase) somewhere ∷ z, refl, (somewhere, refl)), λ h. absurd cc);
      empty = λ u z c f. closed_else u z z c;
      starts = λ u a z c g. tt;
    };
  }

  arm_into : (x : PlainArm × Arms) (us z : List Placed) → AC x us z → closed_at (with_arm x.0 x.1) us z
  arm_into x us z (m1, c, (m2, r, e)) = (m2, join_arm x.0 x.1 us m1 m2 c r, e)

  arm_out : (u : Arms) (us z : List Placed) → Not (k.key w.Endcase) us → closed_at u us z → Any z
      → (x : PlainArm × Arms) × AC x us z × (u ≡ with_arm x.0 x.1)
  arm_out no_arm us z n (mid, e, (p, h)) g = absurd ((subst (Not (k.key w.Endcase)) (e ∙ h) n) refl)
  arm_out (more_arm es b more) us z n (mid, c, e) g =
      let o = split_arm (more_arm es b more) us mid c refl in
      ((o.0, o.1), (o.2, o.3, (mid, o.4, e)), o.5)
  arm_out (default_arm p v b more) us z n (mid, c, e) g =
      let o = split_arm (default_arm p v b more) us mid c refl in
      ((o.0, o.1), (o.2, o.3, (mid, o.4, e)), o.5)

  -- where no `endcase` comes next
  pub arm_part : (ts : List Placed) → Not (k.key w.Endcase) ts
      → Leads AC ACD Any Any ts closed_at (closed_depths d) Any Any ts (λ x. with_arm x.0 x.1)
  arm_part ts n =
      leads_where (Not (k.key w.Endcase)) ts tt (λ a more e y. subst (Not (k.key w.Endcase)) e n) AC ACD closed_at (closed_depths d) Any Any
      (λ x. with_arm x.0 x.1) (λ x. joined_depths x.0 x.1) arm_into arm_out

  -- ---- `case`

  module _ (p : Place) (v : Bool) where
    abbrev pub SA : Expr × (PlainArm × Arms) → List Placed → List Placed → Type 0
    SA = Both grouped_at AC

    abbrev pub SAD : Expr × (PlainArm × Arms) → List ℕ
    SAD = BothDepths (grouped_depths d) ACD

    closed_some : Productive closed_at Any
    closed_some z f = (no_arm, at (k.key w.Endcase) somewhere ∷ z, (at (k.key w.Endcase) somewhere ∷ z, refl, (somewhere, refl)))

    pub arms_some : Productive AC Any
    arms_some z f =
        let rest : List Placed = at (k.key w.Endcase) somewhere ∷ z in
        let a = some_arm d rest (λ h. absurd cc) in
        ((a.0, no_arm), a.1, (rest, a.2, (rest, refl, (somewhere, refl))))

    pub selector_next : Joint grouped_at (grouped_depths d) AC ACD Any Any Any Any
    selector_next = record { link = link_any AC Any Any arms_some }

    abbrev pub make_select : Expr × (PlainArm × Arms) → Stmt
    make_select x = select p v x.0 (with_arm x.1.0 x.1.1)

    select_depths : (x : Expr × (PlainArm × Arms)) → after_depths d (make_select x) ≡ SAD x
    select_depths (e, (a, more)) = ap (λ y. grouped_depths d e ++ y) (joined_depths a more)

    pub select_into : (x : Expr × (PlainArm × Arms)) (us z : List Placed) → SA x us z → after (k.key (case_word v)) p (make_select x) us z
    select_into (e, (a, more)) us z (m1, g, (m2, c, (m3, r, t))) =
        (us, refl, (m1, g, (m3, (has_first a more, join_arm a more m1 m2 m3 c r), t)))

    select_is : (q : Place) (y : Bool) (e : Expr) (arms : Arms) (us z : List Placed) → p ≡ q → y ≡ v → tail_at (select q y e arms) us z
        → (x : Expr × (PlainArm × Arms)) × SA x us z × (select q y e arms ≡ make_select x)
    select_is q y e arms us z i j (m1, g, (m3, (h, c), t)) =
        let o = split_arm arms m1 m3 c h in
        ((e, (o.0, o.1)), (m1, g, (o.2, o.3, (m3, o.4, t))), (λ n. select (sym i n) (j n) e (o.5 n)))

  select_out : (p : Place) (v : Bool) (u : Stmt) (us z : List Placed) → IsHead (k.key (case_word v)) p u → tail_at u us z
      → (x : Expr × (PlainArm × Arms)) × SA p v x us z × (u ≡ make_select p v x)
  select_out p false (select q false e arms) us z h r = select_is p false q false e arms us z h.1 refl r
  select_out p false (select q true e arms) us z h r = let i = h.0 in absurd cc
  select_out p false (conditional no_branch o) us z h r = absurd h
  select_out p false u us z h r = let e = h.0 in absurd cc
  select_out p true (select q true e arms) us z h r = select_is p true q true e arms us z h.1 refl r
  select_out p true (select q false e arms) us z h r = let i = h.0 in absurd cc
  select_out p true (conditional no_branch o) us z h r = absurd h
  select_out p true u us z h r = let e = h.0 in absurd cc

  pub select_parts : (p : Place) (v : Bool) (ts : List Placed)
      → Leads (SA p v) (SAD p v) Any Any ts (after (k.key (case_word v)) p) (after_depths d) NoElse Any ts (make_select p v)
  select_parts p v ts =
      leads_on (leads_less (SA p v) (SAD p v) Any Any NoElse Any (λ z g. tt) (λ z g. tt) ts)
      (leads_as (SA p v) (SAD p v) (after (k.key (case_word v)) p) (after_depths d) NoElse Any (make_select p v) (select_depths p v)
      (select_into p v) (λ u us z c g. let o = head_of u (k.key (case_word v)) p us z c in select_out p v u us z o.0 o.1) ts)
