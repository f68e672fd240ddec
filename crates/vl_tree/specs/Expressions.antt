-- The grammar of expressions (IEEE 1364-2005, A.8.1 to A.8.6, cut down to the profile).
use Rattle.std.specs.Prelude.{ℕ, ◌≡◌, ◌<◌, Option, Some, None}
use Rattle.bit_ops.specs.declared.operator.Unary.{Unary}
use Rattle.bit_ops.specs.declared.operator.Unary.TheVariants as one
use Rattle.bit_ops.specs.declared.operator.Binary.{Binary}
use Rattle.bit_ops.specs.declared.operator.Binary.TheVariants as two
use Rattle.vl_tree.specs.declared.token.Mark.{Mark}
use Rattle.vl_tree.specs.declared.token.Mark.TheVariants as m
use Rattle.vl_tree.specs.declared.token.System.{System}
use Rattle.vl_tree.specs.declared.token.System.TheVariants as s
use Rattle.vl_tree.specs.Syntax.{SystemFunction, to_signed, to_unsigned, clog2, Range}
use Rattle.vl_tree.specs.Syntax.{Expr, number, read, call, system, group, concat, repeat, unary, chain, choose}
use Rattle.vl_tree.specs.Syntax.{Exprs, no_expr, more_expr, Links, no_link, more_link, Choices, no_choice, more_choice}
use Rattle.vl_tree.specs.Syntax.{Selects, no_select, more_select, Select, index, part, upward, downward}
use Rattle.vl_tree.specs.Token as k
use Rattle.vl_tree.specs.Piece.{Piece, ◌then◌, nothing, nowhere, given, kind_at, mark, mark_at, operator_at, system_at}
use Rattle.vl_tree.specs.Piece.{name_at, in_parens}

-- the operator that a mark is before an operand (A.8.6)
abbrev pub unary_of : Mark → Option Unary
unary_of m.Plus = Some one.Plus
unary_of m.Minus = Some one.Minus
unary_of m.Not = Some one.LogicNot
unary_of m.Tilde = Some one.Not
unary_of m.And = Some one.And
unary_of m.Nand = Some one.Nand
unary_of m.Or = Some one.Or
unary_of m.Nor = Some one.Nor
unary_of m.Xor = Some one.Xor
unary_of m.Xnor = Some one.Xnor
unary_of a = None

-- The operator that a mark is between operands (A.8.6). `<<<` is `<<`; as values have two states, `===` is `==` and
-- `!==` is `!=`, which is this project's own.
abbrev pub binary_of : Mark → Option Binary
binary_of m.Star = Some two.Mul
binary_of m.Slash = Some two.Div
binary_of m.Percent = Some two.Rem
binary_of m.Plus = Some two.Add
binary_of m.Minus = Some two.Sub
binary_of m.ShiftLeft = Some two.Shl
binary_of m.ArithmeticLeft = Some two.Shl
binary_of m.ShiftRight = Some two.Shr
binary_of m.ArithmeticRight = Some two.Sar
binary_of m.Less = Some two.Lt
binary_of m.LessEqual = Some two.Le
binary_of m.Greater = Some two.Gt
binary_of m.GreaterEqual = Some two.Ge
binary_of m.EqualEqual = Some two.Eq
binary_of m.CaseEqual = Some two.Eq
binary_of m.NotEqual = Some two.Ne
binary_of m.CaseNotEqual = Some two.Ne
binary_of m.And = Some two.And
binary_of m.Xor = Some two.Xor
binary_of m.Xnor = Some two.Xnor
binary_of m.Or = Some two.Or
binary_of m.AndAnd = Some two.LogicAnd
binary_of m.OrOr = Some two.LogicOr
binary_of a = None

-- the level of an operator between operands (5.1.2, table 5-4): 1 binds most tightly
abbrev pub binary_level : Binary → ℕ
binary_level two.Mul = 1
binary_level two.Div = 1
binary_level two.Rem = 1
binary_level two.Add = 2
binary_level two.Sub = 2
binary_level two.Shl = 3
binary_level two.Shr = 3
binary_level two.Sar = 3
binary_level two.Lt = 4
binary_level two.Le = 4
binary_level two.Gt = 4
binary_level two.Ge = 4
binary_level two.Eq = 5
binary_level two.Ne = 5
binary_level two.And = 6
binary_level two.Xor = 7
binary_level two.Xnor = 7
binary_level two.Or = 8
binary_level two.LogicAnd = 9
binary_level two.LogicOr = 10

-- the system name of a function (17.8, 17.11.1)
abbrev pub system_name : SystemFunction → System
system_name to_signed = s.Signed
system_name to_unsigned = s.Unsigned
system_name clog2 = s.Clog2

-- the level of operators that stand in a row: that of the first
abbrev pub links_level : Links → ℕ
links_level no_link = 0
links_level (more_link op p e ls) = binary_level op

-- the level of an expression: that of its operators, 11 for choices, 0 for the rest (5.1.2)
abbrev pub level : Expr → ℕ
level (number p l) = 0
level (read n ss) = 0
level (call n es) = 0
level (system p f e) = 0
level (group p e) = 0
level (concat p es) = 0
level (repeat p n es) = 0
level (unary p op e) = 0
level (chain e ls) = links_level ls
level (choose cs e) = 11

abbrev mutual
  -- an expression (A.8.3, A.8.4)
  pub expr_at : Expr → Piece
  expr_at (number p l) = kind_at (k.number l) p
  expr_at (read n ss) = name_at n then selects_at ss
  expr_at (call n es) = name_at n then in_parens (exprs_at es)
  expr_at (system p f e) = system_at (system_name f) p then in_parens (expr_at e)
  expr_at (group p e) = mark_at m.OpenParen p then expr_at e then mark m.CloseParen
  expr_at (concat p es) = mark_at m.OpenBrace p then exprs_at es then mark m.CloseBrace
  expr_at (repeat p n es) = mark_at m.OpenBrace p then expr_at n then mark m.OpenBrace then exprs_at es
      then mark m.CloseBrace then mark m.CloseBrace
  expr_at (unary p op e) = operator_at unary_of op p then given (level e < 1) (expr_at e)
  expr_at (chain e no_link) = nowhere
  expr_at (chain e (more_link op p x ls)) = given (level e < binary_level op) (expr_at e)
      then links_at (binary_level op) (more_link op p x ls)
  expr_at (choose no_choice e) = nowhere
  expr_at (choose (more_choice c p v cs) e) = choices_at (more_choice c p v cs) then given (level e < 11) (expr_at e)

  -- expressions with commas between them, one at least
  pub exprs_at : Exprs → Piece
  exprs_at no_expr = nowhere
  exprs_at (more_expr e es) = expr_at e then more_exprs_at es

  -- expressions with a comma before each
  pub more_exprs_at : Exprs → Piece
  more_exprs_at no_expr = nothing
  more_exprs_at (more_expr e es) = mark m.Comma then expr_at e then more_exprs_at es

  -- operators of one level, each with its right operand
  pub links_at : ℕ → Links → Piece
  links_at n no_link = nothing
  links_at n (more_link op p e ls) = given (binary_level op ≡ n) (operator_at binary_of op p)
      then given (level e < n) (expr_at e) then links_at n ls

  -- choices, each to its colon
  pub choices_at : Choices → Piece
  choices_at no_choice = nothing
  choices_at (more_choice c p v cs) = given (level c < 11) (expr_at c) then mark_at m.Question p then expr_at v
      then mark m.Colon then choices_at cs

  -- selects, one after another
  pub selects_at : Selects → Piece
  selects_at no_select = nothing
  selects_at (more_select p x ss) = mark_at m.OpenBracket p then select_at x then mark m.CloseBracket then selects_at ss

  -- what stands between `[` and `]`
  pub select_at : Select → Piece
  select_at (index i) = expr_at i
  select_at (part a b) = expr_at a then mark m.Colon then expr_at b
  select_at (upward b w) = expr_at b then mark m.PlusColon then expr_at w
  select_at (downward b w) = expr_at b then mark m.MinusColon then expr_at w

-- an expression whose level is below this
abbrev pub below : ℕ → Expr → Piece
below n e = given (level e < n) (expr_at e)

-- a range (A.2.5)
abbrev pub range_at : Range → Piece
range_at r = mark_at m.OpenBracket r.place then expr_at r.left then mark m.Colon then expr_at r.right
    then mark m.CloseBracket
