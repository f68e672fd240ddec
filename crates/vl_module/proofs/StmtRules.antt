-- The rules of statements.
use Rattle.std.proofs.Common.{◌≡◌, ◌≤◌, ◌+◌, ℕ, ◌∷◌, [], true, false, refl, sym, ◌∙◌, ap, subst}
use Rattle.std.specs.Prelude.{Option, Some, None}
use Rattle.vl_tree.specs.declared.token.Key.TheVariants as w
use Rattle.vl_tree.specs.declared.token.Mark.TheVariants as m
use Rattle.vl_tree.specs.declared.token.System.TheVariants as s
use Rattle.vl_tree.specs.Token.{Kind, Token, Tokens, token, kind_of}
use Rattle.vl_tree.specs.Token as k
use Rattle.vl_tree.specs.Tree.{Text, Expr, Stmt, block, conditional, assign, display, stop, Stmts, no_stmt, more_stmt, Branches, no_branch, more_branch, Otherwise, no_else, else_stmt}
use Rattle.vl_tree.specs.Grammar.{word, mark, name_at, NoElse, is_conditional, stmt_at}
use Rattle.vl_module.specs.declared.stmt.Start.{Start}
use Rattle.vl_module.specs.declared.stmt.Start.TheVariants as start
use Rattle.vl_module.specs.Reading.{Any, Took, NoTree, one}
use Rattle.vl_module.specs.Rules.{assign_at, closing, shown_end, display_at, stop_at, stmts_end, block_at, branch_at, more_arms, arms_at, conditional_at, IsStart, Begins}
use Rattle.vl_module.proofs.Pieces.{lead, pair, took_lead, no_lead_2, took_pair, no_pair_1, no_pair_2, took_as, no_as}

-- ---- the first token

abbrev first_kind : Stmt → Kind
first_kind (block ss) = k.key w.Begin
first_kind (conditional bs o) = k.key w.If
first_kind (assign n e) = k.name n
first_kind (display f n) = k.system s.Display
first_kind (stop line) = k.system s.Stop

first_of : (b : Stmt) (d : ℕ) (ts z : Tokens) → stmt_at d b ts z → (line : ℕ) × (us : Tokens) × (ts ≡ token line (first_kind b) ∷ us)
first_of (block ss) d ts z c = (c.1.0, c.0, c.1.1.1)
first_of (conditional no_branch o) d ts z c = absurd c
first_of (conditional (more_branch a b bs) o) d ts z c = (c.1.0, c.0, c.1.1.1)
first_of (assign n e) d ts z c = (c.1.0, c.0, c.1.1.1)
first_of (display f n) d ts z c = (c.1.0, c.0, c.1.1.1)
first_of (stop line) d ts z c = (line, c.0, c.1.1)

same_first : (b : Stmt) (d line : ℕ) (a : Kind) (ts us z : Tokens) → ts ≡ token line a ∷ us → stmt_at d b ts z → first_kind b ≡ a
same_first b d line a ts us z e c = let f = first_of b d ts z c in let i = f.2 in cc

no_end : (b : Stmt) → first_kind b ≡ k.key w.End → ⊥
no_end (block ss) e = absurd cc
no_end (conditional bs o) e = absurd cc
no_end (assign n x) e = absurd cc
no_end (display f n) e = absurd cc
no_end (stop line) e = absurd cc

no_start : (b : Stmt) (a : Kind) → IsStart a start.Nothing → first_kind b ≡ a → ⊥
no_start (block ss) a n e = n.0 (sym e)
no_start (conditional bs o) a n e = n.1 (sym e)
no_start (assign x v) a n e = n.2 x (sym e)
no_start (display f x) a n e = n.3 (sym e)
no_start (stop line) a n e = n.4 (sym e)

pub begins : (d line : ℕ) (a : Kind) (ts us : Tokens) → ts ≡ token line a ∷ us → (st : Start) → IsStart a st → Begins d ts st
begins d line a ts us e start.Block i = (line, a, us, e, i)
begins d line a ts us e start.Conditional i = (line, a, us, e, i)
begins d line a ts us e start.Assign i = (line, a, us, e, i)
begins d line a ts us e start.Display i = (line, a, us, e, i)
begins d line a ts us e start.Stop i = (line, a, us, e, i)
begins d line a ts us e start.Nothing i = λ b z c g. no_start b a i (same_first b d line a ts us z e c)

-- ---- a statement, by its first token

abbrev pub conditional_tree : Branches × Otherwise → Stmt
conditional_tree x = conditional x.0 x.1

abbrev pub assign_tree : Text × Expr → Stmt
assign_tree x = assign x.0 x.1

abbrev pub display_tree : Text × Option Text → Stmt
display_tree x = display x.0 x.1

module _ (d : ℕ) (ts : Tokens) where
  block_out : Begins d ts start.Block → (b : Stmt) (z : Tokens) → stmt_at d b ts z → Any z → (x : Stmts) × (b ≡ block x) × block_at d x ts z
  block_out h (block ss) z c g = (ss, refl, c)
  block_out h b z c g = let i = same_first b d h.0 h.1 ts h.2 z h.3 c in let j = h.4 in absurd cc

  conditional_out : Begins d ts start.Conditional → (b : Stmt) (z : Tokens) → stmt_at d b ts z → Any z → (x : Branches × Otherwise) × (b ≡ conditional_tree x) × conditional_at d x ts z
  conditional_out h (conditional no_branch o) z c g = absurd c
  conditional_out h (conditional (more_branch a b bs) o) z c g =
      ((more_branch a b bs, o), refl, (c.0, c.1, (c.2.0, c.2.1, (c.2.2.0, c.2.2.1, c.2.2.2))))
  conditional_out h b z c g = let i = same_first b d h.0 h.1 ts h.2 z h.3 c in let j = h.4 in absurd cc

  conditional_into : (bs : Branches) (o : Otherwise) (z : Tokens) → conditional_at d (bs, o) ts z → stmt_at d (conditional bs o) ts z
  conditional_into no_branch o z c = absurd c.2
  conditional_into (more_branch a b bs) o z c = c

  assign_out : Begins d ts start.Assign → (b : Stmt) (z : Tokens) → stmt_at d b ts z → Any z → (x : Text × Expr) × (b ≡ assign_tree x) × assign_at d x ts z
  assign_out h (assign n e) z c g = ((n, e), refl, c)
  assign_out h b z c g = let i = same_first b d h.0 h.1 ts h.2 z h.3 c in let j = h.4.1 in absurd cc

  display_out : Begins d ts start.Display → (b : Stmt) (z : Tokens) → stmt_at d b ts z → Any z → (x : Text × Option Text) × (b ≡ display_tree x) × display_at d x ts z
  display_out h (display f n) z c g = ((f, n), refl, c)
  display_out h b z c g = let i = same_first b d h.0 h.1 ts h.2 z h.3 c in let j = h.4 in absurd cc

  stop_out : Begins d ts start.Stop → (b : Stmt) (z : Tokens) → stmt_at d b ts z → Any z → (x : ℕ) × (b ≡ stop x) × stop_at d x ts z
  stop_out h (stop line) z c g = (line, refl, c)
  stop_out h b z c g = let i = same_first b d h.0 h.1 ts h.2 z h.3 c in let j = h.4 in absurd cc

  pub block_took : Begins d ts start.Block → (x : Stmts) (rest : Tokens) → Took (block_at d) Any x ts rest → Took (stmt_at d) Any (block x) ts rest
  block_took h = took_as (block_at d) (stmt_at d) Any block ts (block_out h) (λ x z c. c)

  pub block_none : Begins d ts start.Block → NoTree (block_at d) Any ts → NoTree (stmt_at d) Any ts
  block_none h = no_as (block_at d) (stmt_at d) Any block ts (block_out h)

  pub conditional_took : Begins d ts start.Conditional → (x : Branches × Otherwise) (rest : Tokens) → Took (conditional_at d) Any x ts rest → Took (stmt_at d) Any (conditional_tree x) ts rest
  conditional_took h = took_as (conditional_at d) (stmt_at d) Any conditional_tree ts (conditional_out h) (λ x. conditional_into x.0 x.1)

  pub conditional_none : Begins d ts start.Conditional → NoTree (conditional_at d) Any ts → NoTree (stmt_at d) Any ts
  conditional_none h = no_as (conditional_at d) (stmt_at d) Any conditional_tree ts (conditional_out h)

  pub assign_took : Begins d ts start.Assign → (x : Text × Expr) (rest : Tokens) → Took (assign_at d) Any x ts rest → Took (stmt_at d) Any (assign_tree x) ts rest
  assign_took h = took_as (assign_at d) (stmt_at d) Any assign_tree ts (assign_out h) (λ x z c. c)

  pub assign_none : Begins d ts start.Assign → NoTree (assign_at d) Any ts → NoTree (stmt_at d) Any ts
  assign_none h = no_as (assign_at d) (stmt_at d) Any assign_tree ts (assign_out h)

  pub display_took : Begins d ts start.Display → (x : Text × Option Text) (rest : Tokens) → Took (display_at d) Any x ts rest → Took (stmt_at d) Any (display_tree x) ts rest
  display_took h = took_as (display_at d) (stmt_at d) Any display_tree ts (display_out h) (λ x z c. c)

  pub display_none : Begins d ts start.Display → NoTree (display_at d) Any ts → NoTree (stmt_at d) Any ts
  display_none h = no_as (display_at d) (stmt_at d) Any display_tree ts (display_out h)

  pub stop_took : Begins d ts start.Stop → (x : ℕ) (rest : Tokens) → Took (stop_at d) Any x ts rest → Took (stmt_at d) Any (stop x) ts rest
  stop_took h = took_as (stop_at d) (stmt_at d) Any stop ts (stop_out h) (λ x z c. c)

  pub stop_none : Begins d ts start.Stop → NoTree (stop_at d) Any ts → NoTree (stmt_at d) Any ts
  stop_none h = no_as (stop_at d) (stmt_at d) Any stop ts (stop_out h)

-- ---- the name that is shown

module _ (d : ℕ) (ts : Tokens) where
  module _ (us : Tokens) (h : Took (one (mark (d + 1) m.Comma)) Any tt ts us) where
    abbrev Named : Text × Unit {0} → Tokens → Tokens → Type 0
    Named = lead (mark (d + 1) m.Comma) (pair (name_at (d + 1)) (one (closing d)))

    abbrev some_name : Text × Unit {0} → Option Text
    some_name x = Some x.0

    named_out : (u : Option Text) (z : Tokens) → shown_end d u ts z → Any z → (x : Text × Unit {0}) × (u ≡ some_name x) × Named x ts z
    named_out None z c g = let i = h.here.1.1 in let e : ts ≡ c.0 = c.1 in let j = c.2.1.1.1 in absurd cc
    named_out (Some n) z c g = ((n, tt), refl, (c.1.0, c.1.1, (c.0, c.1.2, c.2)))

    named_into : (x : Text × Unit {0}) (z : Tokens) → Named x ts z → shown_end d (some_name x) ts z
    named_into x z c = (c.2.0, (c.0, c.1, c.2.1), c.2.2)

    pub named_none_1 : NoTree (name_at (d + 1)) Any us → NoTree (shown_end d) Any ts
    named_none_1 n =
        no_as Named (shown_end d) Any some_name ts named_out
        (no_lead_2 (mark (d + 1) m.Comma) (pair (name_at (d + 1)) (one (closing d))) ts us h (no_pair_1 (name_at (d + 1)) (one (closing d)) us n))

    module _ (a : Text) (vs : Tokens) (p : Took (name_at (d + 1)) Any a us vs) where
      pub named_none_2 : NoTree (one (closing d)) Any vs → NoTree (shown_end d) Any ts
      named_none_2 n =
          no_as Named (shown_end d) Any some_name ts named_out
          (no_lead_2 (mark (d + 1) m.Comma) (pair (name_at (d + 1)) (one (closing d))) ts us h (no_pair_2 (name_at (d + 1)) (one (closing d)) us a vs p n))

      pub named_took : (rest : Tokens) → Took (one (closing d)) Any tt vs rest → Took (shown_end d) Any (Some a) ts rest
      named_took rest q =
          took_as Named (shown_end d) Any some_name ts named_out named_into (a, tt) rest
          (took_lead (mark (d + 1) m.Comma) (pair (name_at (d + 1)) (one (closing d))) ts us h (a, tt) rest (took_pair (name_at (d + 1)) (one (closing d)) us a vs p tt rest q))

  module _ (f : NoTree (one (mark (d + 1) m.Comma)) Any ts) where
    abbrev no_name : Unit {0} → Option Text
    no_name x = None

    unnamed_out : (u : Option Text) (z : Tokens) → shown_end d u ts z → Any z → (x : Unit {0}) × (u ≡ no_name x) × one (closing d) x ts z
    unnamed_out None z c g = (tt, refl, subst (λ x. closing d x z) (sym c.1) c.2)
    unnamed_out (Some n) z c g = absurd (f tt c.1.0 c.1.1 tt)

    pub unnamed_none : NoTree (one (closing d)) Any ts → NoTree (shown_end d) Any ts
    unnamed_none n = no_as (one (closing d)) (shown_end d) Any no_name ts unnamed_out n

    pub unnamed_took : (rest : Tokens) → Took (one (closing d)) Any tt ts rest → Took (shown_end d) Any None ts rest
    unnamed_took rest q = took_as (one (closing d)) (shown_end d) Any no_name ts unnamed_out (λ x z c. (ts, refl, c)) tt rest q

-- ---- the statements of a block

abbrev more_of : Stmt × Stmts → Stmts
more_of x = more_stmt x.0 x.1

module _ (d : ℕ) (ts : Tokens) where
  module _ (rest : Tokens) (h : Took (one (word d w.End)) Any tt ts rest) where
    ended_only : (u : Stmts) (z : Tokens) → stmts_end d u ts z → Any z → (u ≡ no_stmt) × (z ≡ rest)
    ended_only no_stmt z c g = (refl, (h.only tt z (subst (λ x. word d w.End x z) (sym c.1) c.2) tt).1)
    ended_only (more_stmt b bs) z c g = absurd (no_end b (same_first b (d + 1) h.here.0 (k.key w.End) ts rest c.1.0 h.here.1.1 c.1.1))

    pub ended_took : Took (stmts_end d) Any no_stmt ts rest
    ended_took = record { here = (ts, refl, h.here); only = ended_only }

  module _ (f : NoTree (one (word d w.End)) Any ts) where
    more_out : (u : Stmts) (z : Tokens) → stmts_end d u ts z → Any z → (x : Stmt × Stmts) × (u ≡ more_of x) × pair (stmt_at (d + 1)) (stmts_end d) x ts z
    more_out no_stmt z c g = absurd (f tt z (subst (λ x. word d w.End x z) (sym c.1) c.2) tt)
    more_out (more_stmt b bs) z c g = ((b, bs), refl, (c.1.0, c.1.1, (c.0, c.1.2, c.2)))

    more_into : (x : Stmt × Stmts) (z : Tokens) → pair (stmt_at (d + 1)) (stmts_end d) x ts z → stmts_end d (more_of x) ts z
    more_into x z c = (c.2.0, (c.0, c.1, c.2.1), c.2.2)

    pub more_none_1 : NoTree (stmt_at (d + 1)) Any ts → NoTree (stmts_end d) Any ts
    more_none_1 n = no_as (pair (stmt_at (d + 1)) (stmts_end d)) (stmts_end d) Any more_of ts more_out (no_pair_1 (stmt_at (d + 1)) (stmts_end d) ts n)

    module _ (b : Stmt) (us : Tokens) (p : Took (stmt_at (d + 1)) Any b ts us) where
      pub more_none_2 : NoTree (stmts_end d) Any us → NoTree (stmts_end d) Any ts
      more_none_2 n = no_as (pair (stmt_at (d + 1)) (stmts_end d)) (stmts_end d) Any more_of ts more_out (no_pair_2 (stmt_at (d + 1)) (stmts_end d) ts b us p n)

      pub more_took : (bs : Stmts) (rest : Tokens) → Took (stmts_end d) Any bs us rest → Took (stmts_end d) Any (more_stmt b bs) ts rest
      more_took bs rest q =
          took_as (pair (stmt_at (d + 1)) (stmts_end d)) (stmts_end d) Any more_of ts more_out more_into (b, bs) rest (took_pair (stmt_at (d + 1)) (stmts_end d) ts b us p bs rest q)

-- ---- branches

abbrev Arm : ℕ → (Expr × Stmt) × (Branches × Otherwise) → Tokens → Tokens → Type 0
Arm d = pair (branch_at d) (more_arms d)

abbrev arm_of : (Expr × Stmt) × (Branches × Otherwise) → Branches × Otherwise
arm_of x = (more_branch x.0.0 x.0.1 x.1.0, x.1.1)

module _ (d : ℕ) (ts : Tokens) where
  arm_out : (bs : Branches) (o : Otherwise) (z : Tokens) → arms_at d (bs, o) ts z → Any z → (x : (Expr × Stmt) × (Branches × Otherwise)) × ((bs, o) ≡ arm_of x) × Arm d x ts z
  arm_out no_branch o z c g = absurd c
  arm_out (more_branch a b bs) o z c g = (((a, b), (bs, o)), refl, (c.2.0, (c.0, c.1, c.2.1), c.2.2))

  arm_into : (x : (Expr × Stmt) × (Branches × Otherwise)) (z : Tokens) → Arm d x ts z → arms_at d (arm_of x) ts z
  arm_into x z c = (c.1.0, c.1.1, (c.0, c.1.2, c.2))

  pub arm_none_1 : NoTree (branch_at d) Any ts → NoTree (arms_at d) Any ts
  arm_none_1 n = no_as (Arm d) (arms_at d) Any arm_of ts (λ u. arm_out u.0 u.1) (no_pair_1 (branch_at d) (more_arms d) ts n)

  module _ (b : Expr × Stmt) (us : Tokens) (p : Took (branch_at d) Any b ts us) where
    pub arm_none_2 : NoTree (more_arms d) Any us → NoTree (arms_at d) Any ts
    arm_none_2 n = no_as (Arm d) (arms_at d) Any arm_of ts (λ u. arm_out u.0 u.1) (no_pair_2 (branch_at d) (more_arms d) ts b us p n)

    pub arm_took : (x : Branches × Otherwise) (rest : Tokens) → Took (more_arms d) Any x us rest → Took (arms_at d) Any (more_branch b.0 b.1 x.0, x.1) ts rest
    arm_took x rest q = took_as (Arm d) (arms_at d) Any arm_of ts (λ u. arm_out u.0 u.1) arm_into (b, x) rest (took_pair (branch_at d) (more_arms d) ts b us p x rest q)

-- ---- after a branch

no_else_next : (d : ℕ) (ts : Tokens) → d ≤ 200 → NoTree (one (word d w.Else)) Any ts → NoElse ts
no_else_next d [] low f = tt
no_else_next d (token line a ∷ us) low f = λ e. f tt us (line, (low, ap (λ x. token line x ∷ us) e)) tt

else_next : (d : ℕ) (ts us : Tokens) → word d w.Else ts us → NoElse ts → ⊥
else_next d ts us h n = subst NoElse h.1.1 n refl

if_conditional : (b : Stmt) → first_kind b ≡ k.key w.If → is_conditional b ≡ true
if_conditional (block ss) e = absurd cc
if_conditional (conditional bs o) e = refl
if_conditional (assign n x) e = absurd cc
if_conditional (display f n) e = absurd cc
if_conditional (stop line) e = absurd cc

not_conditional : (b : Stmt) (d : ℕ) (ts z : Tokens) → d ≤ 200 → NoTree (one (word d w.If)) Any ts → stmt_at (d + 1) b ts z → is_conditional b ≡ false
not_conditional (conditional bs o) d ts z low f c = let i = first_of (conditional bs o) (d + 1) ts z c in absurd (f tt i.1 (i.0, (low, i.2)) tt)
not_conditional b d ts z low f c = refl

abbrev nothing_more : Branches × Otherwise
nothing_more = (no_branch, no_else)

abbrev last_of : Stmt → Branches × Otherwise
last_of b = (no_branch, else_stmt b)

module _ (d : ℕ) (ts : Tokens) where
  module _ (low : d ≤ 200) (f : NoTree (one (word d w.Else)) Any ts) where
    last_only : (bs : Branches) (o : Otherwise) (z : Tokens) → more_arms d (bs, o) ts z → Any z → ((bs, o) ≡ nothing_more) × (z ≡ ts)
    last_only no_branch no_else z c g = (refl, sym (c.1 ∙ c.2.0))
    last_only no_branch (else_stmt b) z c g = absurd (f tt c.2.0 (subst (λ x. word d w.Else x c.2.0) (sym c.1) c.2.1) tt)
    last_only (more_branch a b bs) o z c g = absurd (f tt c.1.0 c.1.1 tt)

    pub last_took : Took (more_arms d) Any (no_branch, no_else) ts ts
    last_took = record { here = (ts, refl, (refl, no_else_next d ts low f)); only = λ u. last_only u.0 u.1 }

  module _ (us : Tokens) (h : Took (one (word d w.Else)) Any tt ts us) where
    module _ (vs : Tokens) (i : Took (one (word d w.If)) Any tt us vs) where
      abbrev Next : Branches × Otherwise → Tokens → Tokens → Type 0
      Next = lead (word d w.Else) (lead (word d w.If) (arms_at d))

      next_out : (bs : Branches) (o : Otherwise) (z : Tokens) → more_arms d (bs, o) ts z → Any z → (x : Branches × Otherwise) × ((bs, o) ≡ x) × Next x ts z
      next_out no_branch no_else z c g = absurd (else_next d ts us h.here (subst NoElse (sym (c.1 ∙ c.2.0)) c.2.1))
      next_out no_branch (else_stmt b) z c g =
          let e : c.2.0 ≡ us = (h.only tt c.2.0 (subst (λ x. word d w.Else x c.2.0) (sym c.1) c.2.1) tt).1 in
          let p = if_conditional b (same_first b (d + 1) i.here.0 (k.key w.If) c.2.0 vs z (e ∙ i.here.1.1) c.2.2.1) in
          let q = c.2.2.0 in absurd cc
      next_out (more_branch a b bs) o z c g =
          ((more_branch a b bs, o), refl, (c.1.0, c.1.1, (c.1.2.0, c.1.2.1, (c.1.2.2.0, c.1.2.2.1, (c.1.2.2.2.0, c.1.2.2.2.1, (c.0, c.1.2.2.2.2, c.2))))))

      next_into : (bs : Branches) (o : Otherwise) (z : Tokens) → Next (bs, o) ts z → more_arms d (bs, o) ts z
      next_into no_branch o z c = absurd c.2.2
      next_into (more_branch a b bs) o z c =
          let r = c.2.2.2 in
          (r.2.0, (c.0, c.1, (c.2.0, c.2.1, (c.2.2.0, c.2.2.1, (r.0, r.1, r.2.1)))), r.2.2)

      pub next_none : NoTree (arms_at d) Any vs → NoTree (more_arms d) Any ts
      next_none n =
          no_as Next (more_arms d) Any (λ x. x) ts (λ u. next_out u.0 u.1)
          (no_lead_2 (word d w.Else) (lead (word d w.If) (arms_at d)) ts us h (no_lead_2 (word d w.If) (arms_at d) us vs i n))

      pub next_took : (x : Branches × Otherwise) (rest : Tokens) → Took (arms_at d) Any x vs rest → Took (more_arms d) Any x ts rest
      next_took x rest q =
          took_as Next (more_arms d) Any (λ y. y) ts (λ u. next_out u.0 u.1) (λ y. next_into y.0 y.1) x rest
          (took_lead (word d w.Else) (lead (word d w.If) (arms_at d)) ts us h x rest (took_lead (word d w.If) (arms_at d) us vs i x rest q))

    module _ (low : d ≤ 200) (f : NoTree (one (word d w.If)) Any us) where
      abbrev Last : Stmt → Tokens → Tokens → Type 0
      Last = lead (word d w.Else) (stmt_at (d + 1))

      else_out : (bs : Branches) (o : Otherwise) (z : Tokens) → more_arms d (bs, o) ts z → Any z → (x : Stmt) × ((bs, o) ≡ last_of x) × Last x ts z
      else_out no_branch no_else z c g = absurd (else_next d ts us h.here (subst NoElse (sym (c.1 ∙ c.2.0)) c.2.1))
      else_out no_branch (else_stmt b) z c g = (b, refl, (c.2.0, subst (λ x. word d w.Else x c.2.0) (sym c.1) c.2.1, c.2.2.1))
      else_out (more_branch a b bs) o z c g =
          let e : c.1.0 ≡ us = (h.only tt c.1.0 c.1.1 tt).1 in
          absurd (f tt c.1.2.0 (subst (λ x. word d w.If x c.1.2.0) e c.1.2.1) tt)

      else_into : (x : Stmt) (z : Tokens) → Last x ts z → more_arms d (last_of x) ts z
      else_into x z c =
          let e : c.0 ≡ us = (h.only tt c.0 c.1 tt).1 in
          (ts, refl, (c.0, c.1, (not_conditional x d us z low f (subst (λ y. stmt_at (d + 1) x y z) e c.2), c.2)))

      pub else_none : NoTree (stmt_at (d + 1)) Any us → NoTree (more_arms d) Any ts
      else_none n = no_as Last (more_arms d) Any last_of ts (λ u. else_out u.0 u.1) (no_lead_2 (word d w.Else) (stmt_at (d + 1)) ts us h n)

      pub else_took : (b : Stmt) (rest : Tokens) → Took (stmt_at (d + 1)) Any b us rest → Took (more_arms d) Any (no_branch, else_stmt b) ts rest
      else_took b rest q = took_as Last (more_arms d) Any last_of ts (λ u. else_out u.0 u.1) else_into b rest (took_lead (word d w.Else) (stmt_at (d + 1)) ts us h b rest q)
