-- What a statement begins with, and what it can't begin with.
use Rattle.std.proofs.Common.{◌≡◌, ℕ, List, [], ◌∷◌, length, refl, sym, ◌∙◌, ap, subst}
use Rattle.std.specs.Prelude.{Bool, true, false, IsTrue, Some}
use Rattle.vl_tree.specs.declared.token.Key.{Key}
use Rattle.vl_tree.specs.declared.token.Key.TheVariants as w
use Rattle.vl_tree.specs.declared.token.Mark.TheVariants as m
use Rattle.vl_tree.specs.declared.token.System.TheVariants as s
use Rattle.vl_tree.specs.Token.{Kind}
use Rattle.vl_tree.specs.Token as k
use Rattle.vl_tree.specs.Syntax.{Place, Expr, number, read, call, system, group, concat, repeat, unary, chain, choose}
use Rattle.vl_tree.specs.Syntax.{no_link, more_link, no_choice, more_choice}
use Rattle.vl_tree.specs.Syntax.{Target, name, targets, Print, display, write}
use Rattle.vl_tree.specs.Syntax.{Stmt, empty, block, conditional, select, loop, assign, print, file_print, stop, fatal}
use Rattle.vl_tree.specs.Syntax.{no_branch, more_branch}
use Rattle.vl_tree.specs.Placed.{Placed, at}
use Rattle.vl_tree.specs.Piece.{Piece, ◌then◌, nothing, nowhere, given, word, mark, kind_at, in_parens, where_true}
use Rattle.vl_tree.specs.Expressions.{unary_of, expr_at, more_exprs_at}
use Rattle.vl_tree.specs.Statements.{target_at, stmt_at, stmts_at, branches_at, otherwise_at, arms_at, label_at, loop_at}
use Rattle.vl_tree.specs.Statements.{printed_at, stopped_at, case_word, print_name, has_arm, is_conditional, NoElse}
use Rattle.vl_tree.specs.Depth.{stmt_depths, target_depths}
use Rattle.vl_read.specs.Reading.{Stuck, Any}
use Rattle.vl_read.specs.Tokens.{Not}
use Rattle.vl_read.proofs.Pieces.{Productive, stuck_here}
use Rattle.vl_read.proofs.TokenRules.{somewhere}
use Rattle.vl_simple.specs.Starts.{aims, starts}
use Rattle.vl_simple.specs.Simple.{rest_of}

-- ---- the first token

target_head : (x : Target) (a : Kind) (p : Place) (us z : List Placed) → target_at x (at a p ∷ us) z → aims a ≡ true
target_head (name n ss) a p us z (mid, h, r) = let e : a ≡ k.name n.text = cc in ap aims e
target_head (targets q xs) a p us z (mid, h, r) = let e : a ≡ k.mark m.OpenBrace = cc in ap aims e

-- this token is the statement's first
abbrev pub IsHead : Kind → Place → Stmt → Type 0
IsHead a p (empty q) = (a ≡ k.mark m.Semicolon) × (p ≡ q)
IsHead a p (block q n ss) = (a ≡ k.key w.Begin) × (p ≡ q)
IsHead a p (conditional no_branch o) = ⊥
IsHead a p (conditional (more_branch q c b bs) o) = (a ≡ k.key w.If) × (p ≡ q)
IsHead a p (select q v e arms) = (a ≡ k.key (case_word v)) × (p ≡ q)
IsHead a p (loop q l b) = (a ≡ k.key w.For) × (p ≡ q)
IsHead a p (assign x v q e) = (aims a ≡ true) × Unit {0}
IsHead a p (print q v b) = (a ≡ k.system (print_name v)) × (p ≡ q)
IsHead a p (file_print q e o t es) = (a ≡ k.system s.Fwrite) × (p ≡ q)
IsHead a p (stop q v) = (a ≡ k.system s.Stop) × (p ≡ q)
IsHead a p (fatal q v) = (a ≡ k.system s.Fatal) × (p ≡ q)

-- any tokens
abbrev anything : Piece
anything us z = Unit {0}

-- what comes after the first token, but for assignments
abbrev pub tail_at : Stmt → Piece
tail_at (empty q) = nothing
tail_at (block q n ss) = label_at n then stmts_at ss then word w.End
tail_at (conditional no_branch o) = nowhere
tail_at (conditional (more_branch q c b bs) o) = in_parens (expr_at c) then stmt_at b then branches_at bs then otherwise_at o
tail_at (select q v e arms) = in_parens (expr_at e) then given (IsTrue (has_arm arms)) (arms_at arms) then word w.Endcase
tail_at (loop q l b) = loop_at l then stmt_at b
tail_at (assign x v q e) = anything
tail_at (print q v b) = printed_at b then mark m.Semicolon
tail_at (file_print q e o t es) = in_parens (expr_at e then mark m.Comma then kind_at (k.str t) o then more_exprs_at es)
    then mark m.Semicolon
tail_at (stop q v) = stopped_at v then mark m.Semicolon
tail_at (fatal q v) = where_true v (mark m.OpenParen then mark m.CloseParen) then mark m.Semicolon

pub head_of : (u : Stmt) (a : Kind) (p : Place) (us z : List Placed) → stmt_at u (at a p ∷ us) z → IsHead a p u × tail_at u us z
head_of (empty q) a p us z h =
    let e : a ≡ k.mark m.Semicolon = cc in
    let f : p ≡ q = cc in
    let g : us ≡ z = cc in
    ((e, f), g)
head_of (block q n ss) a p us z (mid, h, r) =
    let e : a ≡ k.key w.Begin = cc in
    let f : p ≡ q = cc in
    let g : mid ≡ us = cc in
    ((e, f), subst (λ v. tail_at (block q n ss) v z) g r)
head_of (conditional no_branch o) a p us z h = absurd h
head_of (conditional (more_branch q c b bs) o) a p us z (mid, h, r) =
    let e : a ≡ k.key w.If = cc in
    let f : p ≡ q = cc in
    let g : mid ≡ us = cc in
    ((e, f), subst (λ v. tail_at (conditional (more_branch q c b bs) o) v z) g r)
head_of (select q v e arms) a p us z (mid, h, r) =
    let i : a ≡ k.key (case_word v) = cc in
    let f : p ≡ q = cc in
    let g : mid ≡ us = cc in
    ((i, f), subst (λ y. tail_at (select q v e arms) y z) g r)
head_of (loop q l b) a p us z (mid, h, r) =
    let e : a ≡ k.key w.For = cc in
    let f : p ≡ q = cc in
    let g : mid ≡ us = cc in
    ((e, f), subst (λ v. tail_at (loop q l b) v z) g r)
head_of (assign x v q e) a p us z (mid, h, r) = ((target_head x a p us mid h, tt), tt)
head_of (print q v b) a p us z (mid, h, r) =
    let e : a ≡ k.system (print_name v) = cc in
    let f : p ≡ q = cc in
    let g : mid ≡ us = cc in
    ((e, f), subst (λ y. tail_at (print q v b) y z) g r)
head_of (file_print q x o t es) a p us z (mid, h, r) =
    let e : a ≡ k.system s.Fwrite = cc in
    let f : p ≡ q = cc in
    let g : mid ≡ us = cc in
    ((e, f), subst (λ v. tail_at (file_print q x o t es) v z) g r)
head_of (stop q x) a p us z (mid, h, r) =
    let e : a ≡ k.system s.Stop = cc in
    let f : p ≡ q = cc in
    let g : mid ≡ us = cc in
    ((e, f), subst (λ v. tail_at (stop q x) v z) g r)
head_of (fatal q x) a p us z (mid, h, r) =
    let e : a ≡ k.system s.Fatal = cc in
    let f : p ≡ q = cc in
    let g : mid ≡ us = cc in
    ((e, f), subst (λ v. tail_at (fatal q x) v z) g r)

-- ---- where no statement begins

clash : (a b : Kind) → a ≡ b → starts a ≡ false → starts b ≡ true → ⊥
clash a b e f t = let j : false ≡ true = sym f ∙ ap starts e ∙ t in absurd cc

select_starts : (v : Bool) → starts (k.key (case_word v)) ≡ true
select_starts false = refl
select_starts true = refl

print_starts : (v : Print) → starts (k.system (print_name v)) ≡ true
print_starts display = refl
print_starts write = refl

target_starts : (x : Target) (a : Kind) (p : Place) (us z : List Placed) → target_at x (at a p ∷ us) z → starts a ≡ true
target_starts (name n ss) a p us z (mid, h, r) = let e : a ≡ k.name n.text = cc in ap starts e
target_starts (targets q xs) a p us z (mid, h, r) = let e : a ≡ k.mark m.OpenBrace = cc in ap starts e

no_head : (u : Stmt) (a : Kind) (p : Place) (us z : List Placed) → starts a ≡ false → stmt_at u (at a p ∷ us) z → ⊥
no_head (empty q) a p us z f h = clash a (k.mark m.Semicolon) (head_of (empty q) a p us z h).0.0 f refl
no_head (block q n ss) a p us z f h = clash a (k.key w.Begin) (head_of (block q n ss) a p us z h).0.0 f refl
no_head (conditional no_branch o) a p us z f h = absurd h
no_head (conditional (more_branch q c b bs) o) a p us z f h =
    clash a (k.key w.If) (head_of (conditional (more_branch q c b bs) o) a p us z h).0.0 f refl
no_head (select q v e arms) a p us z f h =
    clash a (k.key (case_word v)) (head_of (select q v e arms) a p us z h).0.0 f (select_starts v)
no_head (loop q l b) a p us z f h = clash a (k.key w.For) (head_of (loop q l b) a p us z h).0.0 f refl
no_head (assign x v q e) a p us z f (mid, h, r) = let j : false ≡ true = sym f ∙ target_starts x a p us mid h in absurd cc
no_head (print q v b) a p us z f h =
    clash a (k.system (print_name v)) (head_of (print q v b) a p us z h).0.0 f (print_starts v)
no_head (file_print q x o t es) a p us z f h =
    clash a (k.system s.Fwrite) (head_of (file_print q x o t es) a p us z h).0.0 f refl
no_head (stop q x) a p us z f h = clash a (k.system s.Stop) (head_of (stop q x) a p us z h).0.0 f refl
no_head (fatal q x) a p us z f h = clash a (k.system s.Fatal) (head_of (fatal q x) a p us z h).0.0 f refl

pub stmt_end : (u : Stmt) (z : List Placed) → stmt_at u [] z → ⊥
stmt_end (empty q) z h = absurd cc
stmt_end (block q n ss) z (mid, h, r) = absurd cc
stmt_end (conditional no_branch o) z h = absurd h
stmt_end (conditional (more_branch q c b bs) o) z (mid, h, r) = absurd cc
stmt_end (select q v e arms) z (mid, h, r) = absurd cc
stmt_end (loop q l b) z (mid, h, r) = absurd cc
stmt_end (assign (name n ss) v q e) z (mid, (m1, h, t), r) = absurd cc
stmt_end (assign (targets o xs) v q e) z (mid, (m1, h, t), r) = absurd cc
stmt_end (print q v b) z (mid, h, r) = absurd cc
stmt_end (file_print q x o t es) z (mid, h, r) = absurd cc
stmt_end (stop q x) z (mid, h, r) = absurd cc
stmt_end (fatal q x) z (mid, h, r) = absurd cc

-- a token with which no statement begins doesn't stand before one
pub stmt_not : (b : Kind) → starts b ≡ false → (u : Stmt) (us z : List Placed) → stmt_at u us z → Not b us
stmt_not b f u [] z c = tt
stmt_not b f u (at a p ∷ us) z c = λ e. no_head u a p us z (ap starts e ∙ f) c

-- an `if` begins a conditional alone
pub if_conditional : (u : Stmt) (p : Place) (us z : List Placed) → stmt_at u (at (k.key w.If) p ∷ us) z → is_conditional u ≡ true
if_conditional (conditional bs o) p us z h = refl
if_conditional (select q false e arms) p us z h =
    let i = (head_of (select q false e arms) (k.key w.If) p us z h).0.0 in absurd cc
if_conditional (select q true e arms) p us z h =
    let i = (head_of (select q true e arms) (k.key w.If) p us z h).0.0 in absurd cc
if_conditional (print q v b) p us z h = let i = (head_of (print q v b) (k.key w.If) p us z h).0.0 in absurd cc
if_conditional u p us z h = let i = (head_of u (k.key w.If) p us z h).0.0 in absurd cc

pub not_if : (u : Stmt) (us z : List Placed) → Not (k.key w.If) us → stmt_at u us z → is_conditional u ≡ false
not_if (conditional no_branch o) us z n h = absurd h
not_if (conditional (more_branch q c b bs) o) us z n (mid, h, r) = absurd ((subst (Not (k.key w.If)) h n) refl)
not_if u us z n h = refl

-- no expression begins with a keyword
pub expr_key : (e : Expr) (v : Key) (p : Place) (us z : List Placed) → expr_at e (at (k.key v) p ∷ us) z → ⊥
expr_key (number q l) v p us z h = absurd cc
expr_key (read n ss) v p us z (mid, h, r) = absurd cc
expr_key (call n es) v p us z (mid, h, r) = absurd cc
expr_key (system q f x) v p us z (mid, h, r) = absurd cc
expr_key (group q x) v p us z (mid, h, r) = absurd cc
expr_key (concat q es) v p us z (mid, h, r) = absurd cc
expr_key (repeat q n es) v p us z (mid, h, r) = absurd cc
expr_key (unary q op x) v p us z (mid, (b, i, h), r) = absurd cc
expr_key (chain x no_link) v p us z h = absurd h
expr_key (chain x (more_link op q y ls)) v p us z (mid, (i, h), r) = expr_key x v p us mid h
expr_key (choose no_choice x) v p us z h = absurd h
expr_key (choose (more_choice c q y cs) x) v p us z (mid, (m1, (i, h), t), r) = expr_key c v p us m1 h

-- no expression begins with `)`
pub expr_close : (e : Expr) (p : Place) (us z : List Placed) → expr_at e (at (k.mark m.CloseParen) p ∷ us) z → ⊥
expr_close (number q l) p us z h = absurd cc
expr_close (read n ss) p us z (mid, h, r) = absurd cc
expr_close (call n es) p us z (mid, h, r) = absurd cc
expr_close (system q f x) p us z (mid, h, r) = absurd cc
expr_close (group q x) p us z (mid, h, r) = absurd cc
expr_close (concat q es) p us z (mid, h, r) = absurd cc
expr_close (repeat q n es) p us z (mid, h, r) = absurd cc
expr_close (unary q op x) p us z (mid, (b, i, h), r) =
    let e : m.CloseParen ≡ b = cc in
    let j : unary_of m.CloseParen ≡ Some op = ap unary_of e ∙ i in
    absurd cc
expr_close (chain x no_link) p us z h = absurd h
expr_close (chain x (more_link op q y ls)) p us z (mid, (i, h), r) = expr_close x p us mid h
expr_close (choose no_choice x) p us z h = absurd h
expr_close (choose (more_choice c q y cs) x) p us z (mid, (m1, (i, h), t), r) = expr_close c p us m1 h

-- ---- a statement that stands for any other

pub some_stmt : (F : List Placed → Type 0) → Productive stmt_at F
some_stmt F z f = (empty somewhere, at (k.mark m.Semicolon) somewhere ∷ z, refl)

module _ (d : ℕ) where
  pub statement_end : (ts : List Placed) → ts ≡ [] → Stuck stmt_at (stmt_depths d) NoElse Any ts (length ts)
  statement_end ts h =
      stuck_here stmt_at (stmt_depths d) NoElse Any ts (some_stmt NoElse) (λ a rest e t y z c g. absurd cc) (λ t z c g. stmt_end t z c)

  pub statement_stuck : (a : Kind) (p : Place) (ts rest : List Placed) → ts ≡ at a p ∷ rest → starts a ≡ false
      → Stuck stmt_at (stmt_depths d) NoElse Any ts (length ts)
  statement_stuck a p ts rest h f =
      stuck_here stmt_at (stmt_depths d) NoElse Any ts (some_stmt NoElse)
      (λ b more e t y z c g.
      let i : at a p ≡ b = cc in
      no_head t a p y z f (subst (λ v. stmt_at t (v ∷ y) z) (sym i) c))
      (λ t z c g. stmt_end t z c)

  target_depth : (x : Target) → target_depths d x ≡ d ∷ rest_of (target_depths d x)
  target_depth (name n ss) = refl
  target_depth (targets p xs) = refl

  pub first_depth : (u : Stmt) (us z : List Placed) → stmt_at u us z → stmt_depths d u ≡ d ∷ rest_of (stmt_depths d u)
  first_depth (empty q) us z h = refl
  first_depth (block q n ss) us z h = refl
  first_depth (conditional no_branch o) us z h = absurd h
  first_depth (conditional (more_branch q c b bs) o) us z h = refl
  first_depth (select q v e arms) us z h = refl
  first_depth (loop q l b) us z h = refl
  first_depth (assign (name n ss) v q e) us z h = refl
  first_depth (assign (targets o xs) v q e) us z h = refl
  first_depth (print q v b) us z h = refl
  first_depth (file_print q x o t es) us z h = refl
  first_depth (stop q x) us z h = refl
  first_depth (fatal q x) us z h = refl
