-- The grammar of a module with one clocked block (IEEE 1364-2005, annex A, cut down): which tokens stand for a tree, from where they
-- begin to what is left after them. Each token stands at a depth, the number of constructs that enclose it, of 200 at most: this
-- project's own. The nearest `if` is 9.4.
use Rattle.std.specs.Prelude.{ℕ, ◌+◌, ◌≡◌, ◌≤◌, Bool, true, false, List, [], ◌∷◌, Option, Some, None}
use Rattle.vl_tree.specs.declared.token.Key.{Key}
use Rattle.vl_tree.specs.declared.token.Key.TheVariants as w
use Rattle.vl_tree.specs.declared.token.Mark.{Mark}
use Rattle.vl_tree.specs.declared.token.Mark.TheVariants as m
use Rattle.vl_tree.specs.declared.token.System.TheVariants as s
use Rattle.vl_tree.specs.declared.expr.Unary.{Unary}
use Rattle.vl_tree.specs.declared.expr.Unary.TheVariants as one
use Rattle.vl_tree.specs.declared.expr.Binary.{Binary}
use Rattle.vl_tree.specs.declared.expr.Binary.TheVariants as two
use Rattle.vl_tree.specs.Token.{Kind, Token, token, Tokens, kind_of}
use Rattle.vl_tree.specs.Token as k
use Rattle.vl_tree.specs.Tree.{Text, Primary, name, number, Expr, primary, unary, binary, Stmt, block, conditional, assign, display, stop, Stmts, no_stmt, more_stmt, Branches, no_branch, more_branch, Otherwise, no_else, else_stmt, Port, input, output, Module}

-- ---- pieces

-- from these tokens to those that are left
abbrev pub Piece : Type 1
Piece = Tokens → Tokens → Type 0

-- one piece and then another
infixr 20 ◌then◌
abbrev pub ◌then◌ : Piece → Piece → Piece
(p then q) ts rest = (mid : Tokens) × p ts mid × q mid rest

-- no token
abbrev pub nothing : Piece
nothing ts rest = ts ≡ rest

-- no tokens stand for it
abbrev pub nowhere : Piece
nowhere ts rest = ⊥

-- a piece under a condition
abbrev pub given : Type 0 → Piece → Piece
given condition p ts rest = condition × p ts rest

-- a token of this kind on this line, at this depth
abbrev pub kind_on : ℕ → ℕ → Kind → Piece
kind_on d line a ts rest = (d ≤ 200) × (ts ≡ token line a ∷ rest)

-- a token of this kind, at this depth
abbrev pub kind : ℕ → Kind → Piece
kind d a ts rest = (line : ℕ) × kind_on d line a ts rest

abbrev pub word : ℕ → Key → Piece
word d a = kind d (k.key a)

abbrev pub mark : ℕ → Mark → Piece
mark d a = kind d (k.mark a)

abbrev pub name_at : ℕ → Text → Piece
name_at d n = kind d (k.name n)

-- ---- expressions

-- the mark of an operator before its operand (A.8.6)
abbrev pub unary_mark : Unary → Mark
unary_mark one.LogicNot = m.Not

-- the mark of an operator between its operands (A.8.6)
abbrev pub binary_mark : Binary → Mark
binary_mark two.Add = m.Plus
binary_mark two.Equal = m.EqualEqual

-- primary = ID | NUM
abbrev pub primary_at : ℕ → Primary → Piece
primary_at d (name n) = name_at d n
primary_at d (number l) = kind d (k.number l)

-- expr = primary | unary primary | primary binary primary; what follows a unary operator is enclosed by it
abbrev pub expr_at : ℕ → Expr → Piece
expr_at d (primary a) = primary_at d a
expr_at d (unary op a) = mark d (unary_mark op) then primary_at (d + 1) a
expr_at d (binary a op b) = primary_at d a then mark d (binary_mark op) then primary_at d b

-- ---- statements

-- no `else` comes next
abbrev pub NoElse : Tokens → Type 0
NoElse [] = Unit {0}
NoElse (a ∷ rest) = kind_of a ≡ k.key w.Else → ⊥

-- no token, and no `else` comes next
abbrev pub no_else_next : Piece
no_else_next ts rest = (ts ≡ rest) × NoElse rest

abbrev pub is_conditional : Stmt → Bool
is_conditional (block ss) = false
is_conditional (conditional bs o) = true
is_conditional (assign n e) = false
is_conditional (display f n) = false
is_conditional (stop line) = false

-- a comma and the name that is shown, if there is one
abbrev pub shown_at : ℕ → Option Text → Piece
shown_at d None = nothing
shown_at d (Some n) = mark d m.Comma then name_at d n

-- `( expr )`
abbrev pub condition_at : ℕ → Expr → Piece
condition_at d e = mark d m.OpenParen then expr_at (d + 1) e then mark d m.CloseParen

abbrev mutual
  -- stmt = "begin" { stmt } "end" | "if" "(" expr ")" stmt [ "else" stmt ]
  --      | ID "<=" expr ";" | "$display" "(" STR [ "," ID ] ")" ";" | "$stop" ";"
  pub stmt_at : ℕ → Stmt → Piece
  stmt_at d (block ss) = word d w.Begin then stmts_at (d + 1) ss then word d w.End
  stmt_at d (conditional no_branch o) = nowhere
  stmt_at d (conditional (more_branch c b bs) o) = word d w.If then condition_at d c then stmt_at (d + 1) b
      then branches_at d bs then otherwise_at d o
  stmt_at d (assign n e) = name_at d n then mark d m.LessEqual then expr_at d e then mark d m.Semicolon
  stmt_at d (display f n) = kind d (k.system s.Display) then mark d m.OpenParen then kind (d + 1) (k.str f)
      then shown_at (d + 1) n then mark d m.CloseParen then mark d m.Semicolon
  stmt_at d (stop line) = kind_on d line (k.system s.Stop) then mark d m.Semicolon

  pub stmts_at : ℕ → Stmts → Piece
  stmts_at d no_stmt = nothing
  stmts_at d (more_stmt b bs) = stmt_at d b then stmts_at d bs

  -- the branches after the first
  pub branches_at : ℕ → Branches → Piece
  branches_at d no_branch = nothing
  branches_at d (more_branch c b bs) = word d w.Else then word d w.If then condition_at d c then stmt_at (d + 1) b then branches_at d bs

  -- The last `else`. Its statement is no `if`, which would be one branch more. Without one no `else` comes
  -- next, so that an `else` belongs to the nearest `if` that has none.
  pub otherwise_at : ℕ → Otherwise → Piece
  otherwise_at d no_else = no_else_next
  otherwise_at d (else_stmt b) = word d w.Else then given (is_conditional b ≡ false) (stmt_at (d + 1) b)

-- ---- modules

-- port = "input" ID | "output" "reg" "[" NUM ":" NUM "]" ID
abbrev pub port_at : ℕ → Port → Piece
port_at d (input n) = word d w.Input then name_at d n
port_at d (output n l r) = word d w.Output then word d w.Reg then mark d m.OpenBracket then kind (d + 1) (k.number l)
    then mark (d + 1) m.Colon then kind (d + 1) (k.number r)
    then mark d m.CloseBracket then name_at d n

-- ports with a comma before each
abbrev pub more_ports_at : ℕ → List Port → Piece
more_ports_at d [] = nothing
more_ports_at d (p ∷ ps) = mark d m.Comma then port_at d p then more_ports_at d ps

-- ports with commas between them, one at least
abbrev pub ports_at : ℕ → List Port → Piece
ports_at d [] = nowhere
ports_at d (p ∷ ps) = port_at d p then more_ports_at d ps

-- always = "always" "@" "(" "posedge" ID ")" "begin" { stmt } "end"
abbrev pub always_at : ℕ → Text → Stmts → Piece
always_at d clock body = word d w.Always then mark d m.At then mark d m.OpenParen then word (d + 1) w.Posedge
    then name_at (d + 1) clock then mark d m.CloseParen
    then word d w.Begin then stmts_at (d + 1) body then word d w.End

-- source = "module" ID "(" port { "," port } ")" ";" always "endmodule"
abbrev pub module_at : Module → Piece
module_at x = word 0 w.Module then name_at 0 x.name then mark 0 m.OpenParen then ports_at 1 x.ports then mark 0 m.CloseParen
    then mark 0 m.Semicolon
    then always_at 1 x.clock x.body then word 0 w.Endmodule

-- the tokens are the module's, all of them
abbrev pub Derives : Tokens → Module → Type 0
Derives ts x = module_at x ts []
