-- The rules of expressions.
use Rattle.std.proofs.Common.{◌≡◌, ◌≤◌, ◌+◌, ℕ, ◌∷◌, refl, sym, ap, subst}
use Rattle.vl_tree.specs.declared.token.Mark.{Mark}
use Rattle.vl_tree.specs.declared.token.Mark.TheVariants as m
use Rattle.vl_tree.specs.declared.expr.Unary.{Unary}
use Rattle.vl_tree.specs.declared.expr.Binary.{Binary}
use Rattle.vl_tree.specs.declared.expr.Binary.TheVariants as two
use Rattle.vl_tree.specs.Token.{Kind, Token, Tokens, Literal, token, kind_of}
use Rattle.vl_tree.specs.Token as k
use Rattle.vl_tree.specs.Tree.{Text, Primary, name, number, Expr, primary, unary, binary}
use Rattle.vl_tree.specs.Grammar.{mark, unary_mark, binary_mark, primary_at, expr_at}
use Rattle.vl_module.specs.Reading.{Any, Took, NoTree}
use Rattle.vl_module.specs.Rules.{operator_at, Ends}
use Rattle.vl_module.proofs.Pieces.{trail, pair, took_less, no_less, took_pair, no_pair_2, took_as, no_as}
use Rattle.vl_module.proofs.OneToken.{took_name, took_number}

-- ---- operators

module _ {O : Type 0} (table : O → Mark) (d : ℕ) (ts : Tokens) where
  pub no_operator : NoTree (mark d) Any ts → NoTree (operator_at table d) Any ts
  no_operator n op z c g = n (table op) z c tt

  module _ (a : Mark) (us : Tokens) (h : Took (mark d) Any a ts us) where
    pub operator_none : ((op : O) → table op ≡ a → ⊥) → NoTree (operator_at table d) Any ts
    operator_none n op z c g = n op (h.only (table op) z c tt).0

    pub operator_took : (op : O) → (table op ≡ a) × ((other : O) → table other ≡ a → other ≡ op) → Took (operator_at table d) Any op ts us
    operator_took op e = record {
      here = subst (λ x. mark d x ts us) (sym e.0) h.here;
      only = λ other z c g. let i = h.only (table other) z c tt in (e.1 other i.0, i.1);
    }

-- ---- what may follow an expression

mark_ends : (a : Mark) → ((op : Binary) → k.mark a ≡ k.mark (binary_mark op) → ⊥) → (d : ℕ) (us z : Tokens) → mark d a us z → Ends us
mark_ends a apart d us z c = subst Ends (sym c.1.1) apart

semicolon_apart : (op : Binary) → k.mark m.Semicolon ≡ k.mark (binary_mark op) → ⊥
semicolon_apart two.Add e = absurd cc
semicolon_apart two.Equal e = absurd cc

close_apart : (op : Binary) → k.mark m.CloseParen ≡ k.mark (binary_mark op) → ⊥
close_apart two.Add e = absurd cc
close_apart two.Equal e = absurd cc

pub semicolon_ends : (d : ℕ) (us z : Tokens) → mark d m.Semicolon us z → Ends us
semicolon_ends = mark_ends m.Semicolon semicolon_apart

pub close_ends : (d : ℕ) (us z : Tokens) → mark d m.CloseParen us z → Ends us
close_ends = mark_ends m.CloseParen close_apart

-- ---- primaries

-- a primary begins with no mark
no_mark : (o : Primary) (d e : ℕ) (a : Mark) (ts us z : Tokens) → mark e a ts us → primary_at d o ts z → ⊥
no_mark (name n) d e a ts us z h c = let i = h.1.1 in let j = c.1.1 in absurd cc
no_mark (number l) d e a ts us z h c = let i = h.1.1 in let j = c.1.1 in absurd cc

module _ (d : ℕ) (low : d ≤ 200) (line : ℕ) (ts us : Tokens) where
  module _ (n : Text) (e : ts ≡ token line (k.name n) ∷ us) where
    name_only : (o : Primary) (z : Tokens) → primary_at d o ts z → Any z → (o ≡ name n) × (z ≡ us)
    name_only (name x) z c g = let i = (took_name d low line ts us n e).only x z c tt in (ap name i.0, i.1)
    name_only (number x) z c g = let i = c.1.1 in absurd cc

    pub name_took : Took (primary_at d) Any (name n) ts us
    name_took = record { here = (line, (low, e)); only = name_only }

  module _ (l : Literal) (e : ts ≡ token line (k.number l) ∷ us) where
    number_only : (o : Primary) (z : Tokens) → primary_at d o ts z → Any z → (o ≡ number l) × (z ≡ us)
    number_only (name x) z c g = let i = c.1.1 in absurd cc
    number_only (number x) z c g = let i = (took_number d low line ts us l e).only x z c tt in (ap number i.0, i.1)

    pub number_took : Took (primary_at d) Any (number l) ts us
    number_took = record { here = (line, (low, e)); only = number_only }

-- ---- an operator before its operand

-- an operator and its operand
abbrev unary_parts : ℕ → Unary × Primary → Tokens → Tokens → Type 0
unary_parts d = pair (operator_at unary_mark d) (primary_at (d + 1))

abbrev unary_tree : Unary × Primary → Expr
unary_tree x = unary x.0 x.1

module _ (d : ℕ) (ts : Tokens) (op : Unary) (us : Tokens) (h : Took (operator_at unary_mark d) Any op ts us) where
  unary_out : (u : Expr) (z : Tokens) → expr_at d u ts z → Ends z → (x : Unary × Primary) × (u ≡ unary_tree x) × unary_parts d x ts z
  unary_out (primary o) z c g = absurd (no_mark o d d (unary_mark op) ts us z h.here c)
  unary_out (unary p o) z c g = ((p, o), refl, c)
  unary_out (binary o p b) z c g = absurd (no_mark o d d (unary_mark op) ts us c.0 h.here c.1)

  pub unary_took : (a : Primary) (rest : Tokens) → Took (primary_at (d + 1)) Any a us rest → Took (expr_at d) Ends (unary op a) ts rest
  unary_took a rest p =
      took_as (unary_parts d) (expr_at d) Ends unary_tree ts unary_out (λ x z c. c) (op, a) rest (took_less (unary_parts d) Ends ts (op, a) rest
      (took_pair (operator_at unary_mark d) (primary_at (d + 1)) ts op us h a rest p))

  pub unary_none : NoTree (primary_at (d + 1)) Any us → NoTree (expr_at d) Ends ts
  unary_none n = no_as (unary_parts d) (expr_at d) Ends unary_tree ts unary_out (no_less (unary_parts d) Ends ts (no_pair_2 (operator_at unary_mark d) (primary_at (d + 1)) ts op us h n))

-- ---- what begins with an operand

-- an operator and its right operand
abbrev right_parts : ℕ → Binary × Primary → Tokens → Tokens → Type 0
right_parts d = pair (operator_at binary_mark d) (primary_at d)

-- the left operand, and those
abbrev binary_parts : ℕ → Primary × (Binary × Primary) → Tokens → Tokens → Type 0
binary_parts d = pair (primary_at d) (right_parts d)

abbrev binary_tree : Primary × (Binary × Primary) → Expr
binary_tree x = binary x.0 x.1.0 x.1.1

module _ (d : ℕ) (ts : Tokens) (n : NoTree (operator_at unary_mark d) Any ts) where
  pub expr_none : NoTree (primary_at d) Any ts → NoTree (expr_at d) Ends ts
  expr_none f (primary o) z c g = f o z c tt
  expr_none f (unary op o) z c g = n op c.0 c.1 tt
  expr_none f (binary o op b) z c g = f o c.0 c.1 tt

  module _ (a : Primary) (us : Tokens) (p : Took (primary_at d) Any a ts us) where
    -- an operator comes at `us` in each tree that has one
    moved : (o : Primary) (op : Binary) (b : Primary) (z : Tokens) → binary_parts d (o, (op, b)) ts z → (w : Tokens) × mark d (binary_mark op) us w
    moved o op b z c = (c.2.0, subst (λ w. mark d (binary_mark op) w c.2.0) (p.only o c.0 c.1 tt).1 c.2.1)

    module _ (f : NoTree (operator_at binary_mark d) Any us) where
      primary_only : (u : Expr) (z : Tokens) → expr_at d u ts z → Ends z → (u ≡ primary a) × (z ≡ us)
      primary_only (primary o) z c g = let i = p.only o z c tt in (ap primary i.0, i.1)
      primary_only (unary op o) z c g = absurd (n op c.0 c.1 tt)
      primary_only (binary o op b) z c g = let i = moved o op b z c in absurd (f op i.0 i.1 tt)

      pub primary_took : Took (expr_at d) Ends (primary a) ts us
      primary_took = record { here = p.here; only = primary_only }

    module _ (op : Binary) (vs : Tokens) (h : Took (operator_at binary_mark d) Any op us vs) where
      binary_out : (u : Expr) (z : Tokens) → expr_at d u ts z → Ends z → (x : Primary × (Binary × Primary)) × (u ≡ binary_tree x) × binary_parts d x ts z
      binary_out (primary o) z c g = absurd ((subst Ends (h.here.1.1) (subst Ends (p.only o z c tt).1 g)) op refl)
      binary_out (unary q o) z c g = absurd (n q c.0 c.1 tt)
      binary_out (binary o q b) z c g = ((o, (q, b)), refl, c)

      pub binary_took : (b : Primary) (rest : Tokens) → Took (primary_at d) Any b vs rest → Took (expr_at d) Ends (binary a op b) ts rest
      binary_took b rest q =
          took_as (binary_parts d) (expr_at d) Ends binary_tree ts binary_out (λ x z c. c) (a, (op, b)) rest (took_less (binary_parts d) Ends ts (a, (op, b)) rest
          (took_pair (primary_at d) (right_parts d) ts a us p (op, b) rest (took_pair (operator_at binary_mark d) (primary_at d) us op vs h b rest q)))

      pub binary_none : NoTree (primary_at d) Any vs → NoTree (expr_at d) Ends ts
      binary_none f =
          no_as (binary_parts d) (expr_at d) Ends binary_tree ts binary_out (no_less (binary_parts d) Ends ts
          (no_pair_2 (primary_at d) (right_parts d) ts a us p (no_pair_2 (operator_at binary_mark d) (primary_at d) us op vs h f)))

-- ---- a condition

abbrev pub closed : ℕ → Expr → Tokens → Tokens → Type 0
closed d = trail (expr_at (d + 1)) (mark d m.CloseParen)
