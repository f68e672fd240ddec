-- The parts of the grammar's rules that one reader reads at a time, with the trees of a part as a pair. This project's own.
use Rattle.std.specs.Prelude.{ℕ, ◌+◌, ◌≡◌, ◌∷◌, [], List, Option, Some, None, map, Vec}
use Rattle.vl_tree.specs.declared.token.Key.TheVariants as w
use Rattle.vl_tree.specs.declared.token.Mark.{Mark}
use Rattle.vl_tree.specs.declared.token.Mark.TheVariants as m
use Rattle.vl_tree.specs.declared.token.System.TheVariants as s
use Rattle.vl_tree.specs.declared.token.Literal as literal_code
use Rattle.vl_tree.specs.declared.expr.Expr as expr_code
use Rattle.vl_tree.specs.declared.expr.Binary.{Binary}
use Rattle.vl_tree.specs.declared.tree.Branch as branch_code
use Rattle.vl_tree.specs.declared.tree.Stmt as stmt_code
use Rattle.vl_tree.specs.declared.tree.Port as port_code
use Rattle.vl_tree.specs.Token.{Literal, Kind, Tokens, token, kind_of, literal_of}
use Rattle.vl_tree.specs.Token as k
use Rattle.vl_tree.specs.Tree.{Text, Expr, Stmt, Stmts, Branches, no_branch, more_branch, Otherwise, Port}
use Rattle.vl_tree.specs.View as view
use Rattle.vl_tree.specs.Grammar.{Piece, nowhere, ◌then◌, kind, kind_on, word, mark, name_at, binary_mark, expr_at, condition_at, shown_at, stmt_at, stmts_at, branches_at, otherwise_at, ports_at}
use Rattle.vl_module.specs.Reading.{Any, NoTree}
use Rattle.vl_module.specs.declared.stmt.Start.{Start}
use Rattle.vl_module.specs.declared.stmt.Start.TheVariants as start

-- ---- expressions

-- the one operator that a table gives this mark, or that it gives the mark to none
abbrev pub IsOperator : {O : Type 0} → (O → Mark) → Mark → Option O → Type 0
IsOperator table a (Some op) = (table op ≡ a) × ((other : _) → table other ≡ a → other ≡ op)
IsOperator table a None = (op : _) → table op ≡ a → ⊥

-- a token of an operator's mark, at this depth
abbrev pub operator_at : {O : Type 0} → (O → Mark) → ℕ → O → Piece
operator_at table d op = mark d (table op)

-- no operator comes next, which would go on with an operand
abbrev pub Ends : Tokens → Type 0
Ends [] = Unit {0}
Ends (a ∷ rest) = (op : Binary) → kind_of a ≡ k.mark (binary_mark op) → ⊥

-- ---- statements

-- target `<=` value `;`
abbrev pub assign_at : ℕ → Text × Expr → Piece
assign_at d x = name_at d x.0 then mark d m.LessEqual then expr_at d x.1 then mark d m.Semicolon

-- the plain trees of a target and a value
abbrev pub assign_of : List ℕ × expr_code.Expr → Text × Expr
assign_of x = (x.0, view.expr x.1)

-- `)` `;`
abbrev pub closing : ℕ → Piece
closing d = mark d m.CloseParen then mark d m.Semicolon

-- the name that is shown, if there is one, `)` `;`
abbrev pub shown_end : ℕ → Option Text → Piece
shown_end d n = shown_at (d + 1) n then closing d

-- `$display` `(` format, what is shown, `)` `;`
abbrev pub display_at : ℕ → Text × Option Text → Piece
display_at d x = kind d (k.system s.Display) then mark d m.OpenParen then kind (d + 1) (k.str x.0) then shown_end d x.1

-- `$stop` on this line, `;`
abbrev pub stop_at : ℕ → ℕ → Piece
stop_at d line = kind_on d line (k.system s.Stop) then mark d m.Semicolon

-- statements and `end`
abbrev pub stmts_end : ℕ → Stmts → Piece
stmts_end d ss = stmts_at (d + 1) ss then word d w.End

-- `begin`, statements, `end`
abbrev pub block_at : ℕ → Stmts → Piece
block_at d ss = word d w.Begin then stmts_end d ss

-- a condition and its statement
abbrev pub branch_at : ℕ → Expr × Stmt → Piece
branch_at d x = condition_at d x.0 then stmt_at (d + 1) x.1

-- the plain trees of a condition and its statement
abbrev pub branch_of : branch_code.Branch stmt_code.Stmt → Expr × Stmt
branch_of b = (view.expr b.condition, view.stmt b.body)

-- what comes after a branch
abbrev pub more_arms : ℕ → Branches × Otherwise → Piece
more_arms d x = branches_at d x.0 then otherwise_at d x.1

-- branches, one at least, from the condition of the first on, and the last `else`
abbrev pub arms_from : ℕ → Branches → Otherwise → Piece
arms_from d no_branch o = nowhere
arms_from d (more_branch c b bs) o = condition_at d c then stmt_at (d + 1) b then more_arms d (bs, o)

-- the same, with the branches and the last `else` as a pair
abbrev pub arms_at : ℕ → Branches × Otherwise → Piece
arms_at d x = arms_from d x.0 x.1

-- `if`, its branches and the last `else`
abbrev pub conditional_at : ℕ → Branches × Otherwise → Piece
conditional_at d x = word d w.If then arms_at d x

-- the plain trees of branches and of the last `else`
abbrev pub conditional_of : List (branch_code.Branch stmt_code.Stmt) × Option stmt_code.Stmt → Branches × Otherwise
conditional_of x = (view.branches x.0, view.otherwise x.1)

-- a token of this kind begins this statement, or none
abbrev pub IsStart : Kind → Start → Type 0
IsStart a start.Block = a ≡ k.key w.Begin
IsStart a start.Conditional = a ≡ k.key w.If
IsStart a start.Assign = (n : Text) × (a ≡ k.name n)
IsStart a start.Display = a ≡ k.system s.Display
IsStart a start.Stop = a ≡ k.system s.Stop
IsStart a start.Nothing = (a ≡ k.key w.Begin → ⊥) × (a ≡ k.key w.If → ⊥) × ((n : Text) → a ≡ k.name n → ⊥) × (a ≡ k.system s.Display → ⊥) × (a ≡ k.system s.Stop → ⊥)

-- the first token begins this statement, or the tokens begin with none
abbrev pub Begins : ℕ → Tokens → Start → Type 0
Begins d ts start.Nothing = NoTree (stmt_at d) Any ts
Begins d ts st = (line : ℕ) × (a : Kind) × (us : Tokens) × (ts ≡ token line a ∷ us) × IsStart a st

-- ---- the module

-- `[` left `:` right `]`
abbrev pub range_at : ℕ → Literal × Literal → Piece
range_at d x = mark d m.OpenBracket then kind (d + 1) (k.number x.0) then mark (d + 1) m.Colon then kind (d + 1) (k.number x.1) then mark d m.CloseBracket

-- the plain data of two bounds
abbrev pub range_of : literal_code.Literal × literal_code.Literal → Literal × Literal
range_of x = (literal_of x.0, literal_of x.1)

-- an output's range and its name
abbrev pub output_at : ℕ → (Literal × Literal) × Text → Piece
output_at d x = word d w.Output then word d w.Reg then range_at d x.0 then name_at d x.1

-- the plain data of an output's range and its name
abbrev pub output_of : (literal_code.Literal × literal_code.Literal) × List ℕ → (Literal × Literal) × Text
output_of x = (range_of x.0, x.1)

-- ports, one at least, and what closes their list
abbrev pub ports_end : List Port → Piece
ports_end ps = ports_at 1 ps then closing 0

-- `(` ports `)` `;`
abbrev pub list_at : List Port → Piece
list_at ps = mark 0 m.OpenParen then ports_end ps

-- the plain trees of ports
abbrev pub list_of : {A : Type 0} → Vec port_code.Port A → List Port
list_of ps = map view.port ps.items

-- the module's name and its ports
abbrev pub header_at : Text × List Port → Piece
header_at x = word 0 w.Module then name_at 0 x.0 then list_at x.1

-- the plain data of a name and ports
abbrev pub header_of : {A : Type 0} → List ℕ × Vec port_code.Port A → Text × List Port
header_of x = (x.0, list_of x.1)

-- `always` `@` `(` `posedge` clock `)`
abbrev pub clock_at : ℕ → Text → Piece
clock_at d clock = word d w.Always then mark d m.At then mark d m.OpenParen then word (d + 1) w.Posedge then name_at (d + 1) clock then mark d m.CloseParen

-- the clock and the statements of the clocked block
abbrev pub clocked_at : ℕ → Text × Stmts → Piece
clocked_at d x = clock_at d x.0 then block_at d x.1

-- the plain trees of a clock and its statements
abbrev pub clocked_of : List ℕ × List stmt_code.Stmt → Text × Stmts
clocked_of x = (x.0, view.stmts x.1)
