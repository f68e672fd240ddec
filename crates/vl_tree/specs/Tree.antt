-- The syntax tree of a module with one clocked block (IEEE 1364-2005, annex A, cut down), as plain data: one constructor for each
-- alternative of the grammar.
-- Lists inside a type that is defined with them are types of their own, `no_x` and `more_x`.
use Rattle.std.specs.Prelude.{ℕ, List, Option}
use Rattle.vl_tree.specs.declared.expr.Unary.{Unary}
use Rattle.vl_tree.specs.declared.expr.Binary.{Binary}
use Rattle.vl_tree.specs.Token.{Literal}

abbrev pub Text : Type 0
Text = List ℕ

-- what an operator stands beside (A.8.4)
pub data Primary : Type 0 where
  name : Text → Primary
  number : Literal → Primary

-- a primary, an operator before one, or an operator between two (A.8.3); the operators are those of the code
pub data Expr : Type 0 where
  primary : Primary → Expr
  unary : Unary → Primary → Expr
  binary : Primary → Binary → Primary → Expr

mutual
  pub data Stmt : Type 0 where
    -- begin .. end
    block : Stmts → Stmt
    -- if .. else if .. else: one branch at least
    conditional : Branches → Otherwise → Stmt
    -- the target and the value
    assign : Text → Expr → Stmt
    -- the format, and the name that it shows
    display : Text → Option Text → Stmt
    -- the line where it stands
    stop : ℕ → Stmt

  pub data Stmts : Type 0 where
    no_stmt : Stmts
    more_stmt : Stmt → Stmts → Stmts

  -- a condition, and the statement where it is the first that holds
  pub data Branches : Type 0 where
    no_branch : Branches
    more_branch : Expr → Stmt → Branches → Branches

  pub data Otherwise : Type 0 where
    no_else : Otherwise
    else_stmt : Stmt → Otherwise

-- input name, and output reg [left:right] name
pub data Port : Type 0 where
  input : Text → Port
  output : Text → Literal → Literal → Port

-- a module: its name, its ports in order, the clock of its block, and the block's statements
pub record Module : Type 0 where
  pub name : Text
  pub ports : List Port
  pub clock : Text
  pub body : Stmts
