-- The rules of blocks and loops.
use Rattle.std.proofs.Common.{◌≡◌, ◌≤◌, ◌+◌, ℕ, List, [], ◌∷◌, refl, sym, ◌∙◌, ap, subst, append_assoc}
use Rattle.std.specs.Prelude.{Option, false, true}
use Rattle.vl_tree.specs.declared.token.Key.TheVariants as w
use Rattle.vl_tree.specs.declared.token.Mark.TheVariants as m
use Rattle.vl_tree.specs.Token as k
use Rattle.vl_tree.specs.Syntax.{Place, Name, Loop, Stmts, no_stmt, more_stmt, no_branch}
use Rattle.vl_tree.specs.Syntax.{Stmt, block, conditional, select, loop}
use Rattle.vl_tree.specs.Placed.{Placed, at}
use Rattle.vl_tree.specs.Statements.{label_at, loop_at, stmt_at, NoElse}
use Rattle.vl_tree.specs.Depth.{label_depths, loop_depths, stmt_depths, stmts_depths}
use Rattle.vl_read.specs.Reading.{Took, Any, Both, BothDepths}
use Rattle.vl_read.specs.Tokens.{Not}
use Rattle.vl_read.proofs.Pieces.{Nothing, took_nothing, link_any}
use Rattle.vl_read.proofs.Leads.{Leads, leads_on, leads_less, leads_as, leads_after, leads_where}
use Rattle.vl_read.proofs.TokenRules.{somewhere}
use Rattle.vl_simple.specs.Readers.{NoColon}
use Rattle.vl_simple.specs.Simple.{after, after_depths}
use Rattle.vl_statement.specs.Parts.{ended_at, ended_depths}
use Rattle.vl_simple.proofs.Steps.{Joint}
use Rattle.vl_simple.proofs.Heads.{IsHead, tail_at, head_of, stmt_not, some_stmt}

-- ---- statements and `end`

ended_colon : (u : Stmts) (us z : List Placed) → ended_at u us z → NoColon us
ended_colon no_stmt us z (mid, e, (p, h)) = subst NoColon (sym (e ∙ h)) (λ i. absurd cc)
ended_colon (more_stmt b bs) us z (m1, (m2, c, r), e) = stmt_not (k.mark m.Colon) refl b us m2 c

ended_else : (u : Stmts) (us z : List Placed) → ended_at u us z → NoElse us
ended_else no_stmt us z (mid, e, (p, h)) = subst NoElse (sym (e ∙ h)) (λ i. absurd cc)
ended_else (more_stmt b bs) [] z c = tt
ended_else (more_stmt b bs) (a ∷ us) z (m1, (m2, c, r), e) = stmt_not (k.key w.Else) refl b (a ∷ us) m2 c

module _ (d : ℕ) where
  ended_out : (p : Place) (u : Stmts) (us z : List Placed) → ended_at u (at (k.key w.End) p ∷ us) z → Any z
      → (x : Unit {0}) × Nothing x us z × (u ≡ no_stmt)
  ended_out p no_stmt us z (mid, e, (q, h)) g = let i = e ∙ h in (tt, cc, refl)
  ended_out p (more_stmt b bs) us z (m1, (m2, c, r), e) g =
      absurd ((stmt_not (k.key w.End) refl b (at (k.key w.End) p ∷ us) m2 c) refl)

  pub end_took : d ≤ 200 → (p : Place) (ts us : List Placed) → ts ≡ at (k.key w.End) p ∷ us
      → Took ended_at (ended_depths d) Any Any no_stmt ts us
  end_took low p ts us h =
      (leads_after Nothing (λ u. []) ended_at (ended_depths d) Any Any (λ u. no_stmt) (at (k.key w.End) p) d low (λ x. refl)
      (λ x us z c. (at (k.key w.End) p ∷ us, refl, (p, ap (λ v. at (k.key w.End) p ∷ v) c))) (ended_out p) ts us h).took tt us
      (took_nothing Any Any us)

  abbrev pub SE : Stmt × Stmts → List Placed → List Placed → Type 0
  SE = Both stmt_at ended_at

  abbrev pub SED : Stmt × Stmts → List ℕ
  SED = BothDepths (stmt_depths (d + 1)) (ended_depths d)

  pub stmt_ended : Joint stmt_at (stmt_depths (d + 1)) ended_at (ended_depths d) Any Any NoElse Any
  stmt_ended = record {
    link = record {
      some = λ z f. (no_stmt, at (k.key w.End) somewhere ∷ z, (at (k.key w.End) somewhere ∷ z, refl, (somewhere, refl)), λ h. absurd cc);
      empty = λ u z c f. ended_else u z z c;
      starts = λ u a z c g. tt;
    };
  }

  more_into : (x : Stmt × Stmts) (us z : List Placed) → SE x us z → ended_at (more_stmt x.0 x.1) us z
  more_into x us z (m1, c, (m2, r, e)) = (m2, (m1, c, r), e)

  more_out : (u : Stmts) (us z : List Placed) → Not (k.key w.End) us → ended_at u us z → Any z
      → (x : Stmt × Stmts) × SE x us z × (u ≡ more_stmt x.0 x.1)
  more_out no_stmt us z n (mid, e, (p, h)) g = absurd ((subst (Not (k.key w.End)) (e ∙ h) n) refl)
  more_out (more_stmt b bs) us z n (m2, (m1, c, r), e) g = ((b, bs), (m1, c, (m2, r, e)), refl)

  -- where no `end` comes next
  pub more_part : (ts : List Placed) → Not (k.key w.End) ts
      → Leads SE SED Any Any ts ended_at (ended_depths d) Any Any ts (λ x. more_stmt x.0 x.1)
  more_part ts n =
      leads_where (Not (k.key w.End)) ts tt (λ a rest e y. subst (Not (k.key w.End)) e n) SE SED ended_at (ended_depths d) Any Any
      (λ x. more_stmt x.0 x.1) (λ x. append_assoc (stmt_depths (d + 1) x.0) (stmts_depths (d + 1) x.1) (d ∷ [])) more_into more_out

  -- ---- blocks

  module _ (p : Place) where
    abbrev pub BL : Option Name × Stmts → List Placed → List Placed → Type 0
    BL = Both label_at ended_at

    abbrev pub BLD : Option Name × Stmts → List ℕ
    BLD = BothDepths (label_depths d) (ended_depths d)

    pub label_next : Joint label_at (label_depths d) ended_at (ended_depths d) Any Any NoColon NoColon
    label_next = record {
      link = record {
        some = λ z f. (no_stmt, at (k.key w.End) somewhere ∷ z, (at (k.key w.End) somewhere ∷ z, refl, (somewhere, refl)), λ h. absurd cc);
        empty = λ u z c f. ended_colon u z z c;
        starts = λ u a z c g. ended_colon u a z c;
      };
    }

    block_out : (u : Stmt) (us z : List Placed) → IsHead (k.key w.Begin) p u → tail_at u us z
        → (x : Option Name × Stmts) × BL x us z × (u ≡ block p x.0 x.1)
    block_out (block q n ss) us z h r = ((n, ss), r, ap (λ v. block v n ss) (sym h.1))
    block_out (select q false e arms) us z h r = let i = h.0 in absurd cc
    block_out (select q true e arms) us z h r = let i = h.0 in absurd cc
    block_out (conditional no_branch o) us z h r = absurd h
    block_out u us z h r = let e = h.0 in absurd cc

    pub block_parts : (ts : List Placed)
        → Leads BL BLD Any Any ts (after (k.key w.Begin) p) (after_depths d) NoElse Any ts (λ x. block p x.0 x.1)
    block_parts ts =
        leads_on (leads_less BL BLD Any Any NoElse Any (λ z g. tt) (λ z g. tt) ts)
        (leads_as BL BLD (after (k.key w.Begin) p) (after_depths d) NoElse Any (λ x. block p x.0 x.1) (λ x. refl)
        (λ x us z c. (us, refl, c)) (λ u us z c g. let o = head_of u (k.key w.Begin) p us z c in block_out u us z o.0 o.1) ts)

    -- ---- loops

    abbrev pub FO : Loop × Stmt → List Placed → List Placed → Type 0
    FO = Both loop_at stmt_at

    abbrev pub FOD : Loop × Stmt → List ℕ
    FOD = BothDepths (loop_depths d) (stmt_depths (d + 1))

    pub header_next : Joint loop_at (loop_depths d) stmt_at (stmt_depths (d + 1)) NoElse Any Any Any
    header_next = record { link = link_any stmt_at NoElse Any (some_stmt NoElse) }

    for_out : (u : Stmt) (us z : List Placed) → IsHead (k.key w.For) p u → tail_at u us z
        → (x : Loop × Stmt) × FO x us z × (u ≡ loop p x.0 x.1)
    for_out (loop q l b) us z h r = ((l, b), r, ap (λ v. loop v l b) (sym h.1))
    for_out (select q false e arms) us z h r = let i = h.0 in absurd cc
    for_out (select q true e arms) us z h r = let i = h.0 in absurd cc
    for_out (conditional no_branch o) us z h r = absurd h
    for_out u us z h r = let e = h.0 in absurd cc

    pub for_parts : (ts : List Placed)
        → Leads FO FOD NoElse Any ts (after (k.key w.For) p) (after_depths d) NoElse Any ts (λ x. loop p x.0 x.1)
    for_parts ts =
        leads_as FO FOD (after (k.key w.For) p) (after_depths d) NoElse Any (λ x. loop p x.0 x.1) (λ x. refl)
        (λ x us z c. (us, refl, c)) (λ u us z c g. let o = head_of u (k.key w.For) p us z c in for_out u us z o.0 o.1) ts
