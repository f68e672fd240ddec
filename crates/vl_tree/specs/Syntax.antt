-- The syntax tree of a source (IEEE 1364-2005, annex A, cut down to the profile), as plain data: one constructor for
-- each alternative of the grammar. Operators are those of `bit_ops`. Lists inside a type that is defined with them are
-- types of their own, `no_x` and `more_x`. Each place is that of the node's first token, where nothing else is said.
use Rattle.std.specs.Prelude.{ℕ, Bool, List, Option}
use Rattle.bit_ops.specs.declared.operator.Unary.{Unary}
use Rattle.bit_ops.specs.declared.operator.Binary.{Binary}
use Rattle.vl_tree.specs.Token.{Literal}

-- where a token stands: its number, from 0, and its line, from 1; this project's own
pub record Place : Type 0 where
  pub token : ℕ
  pub line : ℕ

-- a name, and where it stands (A.9.3)
pub record Name : Type 0 where
  pub text : List ℕ
  pub place : Place

-- ---- expressions

-- $signed, $unsigned and $clog2 (A.8.2, 17.8, 17.11.1)
pub data SystemFunction : Type 0 where
  to_signed : SystemFunction
  to_unsigned : SystemFunction
  clog2 : SystemFunction

mutual
  -- an expression (A.8.3, A.8.4)
  pub data Expr : Type 0 where
    number : Place → Literal → Expr
    -- a name with its selects
    read : Name → Selects → Expr
    -- a function's name and its arguments, one at least
    call : Name → Exprs → Expr
    -- $clog2(expr) and the like
    system : Place → SystemFunction → Expr → Expr
    -- (expr)
    group : Place → Expr → Expr
    -- {expr, expr}, one at least
    concat : Place → Exprs → Expr
    -- {count {expr, expr}}
    repeat : Place → Expr → Exprs → Expr
    -- an operator before its operand
    unary : Place → Unary → Expr → Expr
    -- operands with operators of one level between them, taken from left to right: one link at least
    chain : Expr → Links → Expr
    -- a ? b : c ? d : e, with the choices (a, b), (c, d) and the last value e: one choice at least
    choose : Choices → Expr → Expr

  -- expressions in order
  pub data Exprs : Type 0 where
    no_expr : Exprs
    more_expr : Expr → Exprs → Exprs

  -- operators, each with its place and its right operand
  pub data Links : Type 0 where
    no_link : Links
    more_link : Binary → Place → Expr → Links → Links

  -- choices: a condition, the place of its `?`, and the value where it holds
  pub data Choices : Type 0 where
    no_choice : Choices
    more_choice : Expr → Place → Expr → Choices → Choices

  -- selects, from left to right, each with the place of its `[`
  pub data Selects : Type 0 where
    no_select : Selects
    more_select : Place → Select → Selects → Selects

  -- [i], [a:b], [b +: w], [b -: w]
  pub data Select : Type 0 where
    index : Expr → Select
    part : Expr → Expr → Select
    upward : Expr → Expr → Select
    downward : Expr → Expr → Select

-- [left:right], with the place of its `[` (A.2.5)
pub record Range : Type 0 where
  pub place : Place
  pub left : Expr
  pub right : Expr

-- ---- statements

mutual
  -- what an assignment writes (A.8.5): a name with its selects, or {target, target}, one at least
  pub data Target : Type 0 where
    name : Name → Selects → Target
    targets : Place → Targets → Target

  -- targets in order
  pub data Targets : Type 0 where
    no_target : Targets
    more_target : Target → Targets → Targets

-- = and <= (A.6.2)
pub data Assignment : Type 0 where
  blocking : Assignment
  nonblocking : Assignment

-- $display and $write (17.1)
pub data Print : Type 0 where
  display : Print
  write : Print

-- what stands after $display: nothing, (), or ("format", expr, expr) with the place of the format
pub data Printed : Type 0 where
  bare : Printed
  empty_list : Printed
  format : Place → List ℕ → Exprs → Printed

-- what stands after $stop: nothing, (), or (expr) (17.4)
pub data Stopped : Type 0 where
  no_argument : Stopped
  empty_argument : Stopped
  argument : Expr → Stopped

-- the header of a loop (A.4.2, A.6.8): variable = first; condition; stepped = step
pub record Loop : Type 0 where
  pub variable : Name
  pub first : Expr
  pub condition : Expr
  pub stepped : Name
  pub step : Expr

mutual
  -- a statement (A.6.4)
  pub data Stmt : Type 0 where
    empty : Place → Stmt
    -- begin : label .. end (A.6.3)
    block : Place → Option Name → Stmts → Stmt
    -- if .. else if .. else (A.6.6): one branch at least
    conditional : Branches → Otherwise → Stmt
    -- case, or casez where true (A.6.7): one arm at least
    select : Place → Bool → Expr → Arms → Stmt
    -- for (A.6.8)
    loop : Place → Loop → Stmt → Stmt
    -- the target, the assignment, the place of = or <=, and the value (A.6.2)
    assign : Target → Assignment → Place → Expr → Stmt
    -- $display and $write (A.6.9)
    print : Place → Print → Printed → Stmt
    -- $fwrite(file, "format", expr, expr), with the place of the format
    file_print : Place → Expr → Place → List ℕ → Exprs → Stmt
    -- $stop
    stop : Place → Stopped → Stmt
    -- $fatal, or $fatal() where true; this project's own
    fatal : Place → Bool → Stmt

  -- statements in order
  pub data Stmts : Type 0 where
    no_stmt : Stmts
    more_stmt : Stmt → Stmts → Stmts

  -- branches: the place of an `if`, its condition, and the statement where it is the first that holds
  pub data Branches : Type 0 where
    no_branch : Branches
    more_branch : Place → Expr → Stmt → Branches → Branches

  -- the last `else`, if there is one
  pub data Otherwise : Type 0 where
    no_else : Otherwise
    else_stmt : Stmt → Otherwise

  -- arms: labels, one at least, or `default`, with a colon where true
  pub data Arms : Type 0 where
    no_arm : Arms
    more_arm : Exprs → Stmt → Arms → Arms
    default_arm : Place → Bool → Stmt → Arms → Arms

-- ---- declarations

-- input and output (A.2.1.2)
pub data Direction : Type 0 where
  input : Direction
  output : Direction

-- wire and reg, where a declaration of a direction says one
pub data Kept : Type 0 where
  wire : Kept
  reg : Kept

-- a declaration of a direction (A.2.1.2), as input reg signed [7:0]
pub record Directed : Type 0 where
  pub place : Place
  pub direction : Direction
  pub kept : Option Kept
  pub signed : Bool
  pub range : Option Range

-- a parameter of a module's header (A.1.3): parameter signed [7:0] P = 1, or P = 1 after another
pub data HeaderParameter : Type 0 where
  declared_parameter : Place → Bool → Option Range → Name → Expr → HeaderParameter
  next_parameter : Name → Expr → HeaderParameter

-- a port of a module's header (A.1.3): input [7:0] a, or a alone
pub data Port : Type 0 where
  declared_port : Directed → Name → Port
  named_port : Name → Port

-- a name and its value (A.2.4)
pub record Valued : Type 0 where
  pub name : Name
  pub value : Expr

-- a net and its value, if it has one (A.2.3)
pub record Net : Type 0 where
  pub name : Name
  pub value : Option Expr

-- a variable, one with a first value, or a memory (A.2.2.1)
pub data Variable : Type 0 where
  variable : Name → Variable
  valued : Name → Expr → Variable
  memory : Name → Range → Variable

-- a continuous assignment (A.6.1): the target, the place of =, and the value
pub record Driven : Type 0 where
  pub target : Target
  pub place : Place
  pub value : Expr

-- posedge, negedge, or neither, with the place of the word (A.6.5)
pub data Edge : Type 0 where
  positive_edge : Place → Edge
  negative_edge : Place → Edge
  no_edge : Edge

-- an edge of a signal (A.6.5)
pub record Sensed : Type 0 where
  pub edge : Edge
  pub signal : Expr

-- @*, @(*), or @(edge or edge), one at least (A.6.5)
pub data Event : Type 0 where
  any_read : Event
  any_read_list : Event
  sensed : List Sensed → Event

-- .name(value), or .name(), with the place of its dot (A.4.1)
pub record NamedBind : Type 0 where
  pub place : Place
  pub name : Name
  pub value : Option Expr

-- connections of an instance, or values of its parameters (A.4.1): in order, or by name; one at least
pub data Binds : Type 0 where
  ordered : Exprs → Binds
  by_name : List NamedBind → Binds

-- an instance's name and what stands in its parentheses (A.4.1)
pub record Instance : Type 0 where
  pub name : Name
  pub binds : Option Binds

-- ---- functions

-- a function's result (A.2.6): nothing said, a range, or `integer`
pub data FunctionType : Type 0 where
  bit_result : FunctionType
  range_result : Range → FunctionType
  integer_result : FunctionType

-- an input of a function's header (A.2.6): input signed [7:0] a, or a alone
pub data FunctionPort : Type 0 where
  declared_input : Place → Bool → Option Range → Name → FunctionPort
  named_input : Name → FunctionPort

-- a declaration in a function (A.2.8): its inputs, or its own variables
pub data FunctionDeclaration : Type 0 where
  inputs : Place → Bool → Option Range → List Name → FunctionDeclaration
  variables : Place → Bool → Option Range → List Name → FunctionDeclaration
  integers : Place → List Name → FunctionDeclaration

-- a function (A.2.6); its ports are none where its header has no parentheses
pub record Function : Type 0 where
  pub place : Place
  pub automatic : Bool
  pub signed : Bool
  pub result : FunctionType
  pub name : Name
  pub ports : List FunctionPort
  pub declarations : List FunctionDeclaration
  pub body : Stmt

-- ---- items

mutual
  -- an item of a module or a generate block (A.1.4, A.4.2)
  pub data Item : Type 0 where
    -- parameter, or localparam where true (A.2.1.1)
    parameter : Place → Bool → Bool → Option Range → List Valued → Item
    -- input and output (A.2.1.2)
    directed : Directed → List Name → Item
    -- wire (A.2.1.3)
    nets : Place → Bool → Option Range → List Net → Item
    -- reg (A.2.1.3)
    registers : Place → Bool → Option Range → List Variable → Item
    -- integer (A.2.1.3)
    integer : Place → List Variable → Item
    -- genvar (A.2.1.3)
    genvar : Place → List Name → Item
    -- assign (A.6.1)
    continuous : Place → List Driven → Item
    -- always (A.6.2)
    always : Place → Event → Stmt → Item
    -- initial (A.6.2)
    initial : Place → Stmt → Item
    -- function (A.2.6)
    function : Function → Item
    -- a module's name, the parameters' values if there is a #(..), and the instances (A.4.1)
    instances : Name → Option (Option Binds) → List Instance → Item
    -- generate .. endgenerate (A.4.2)
    region : Place → Items → Item
    -- for (A.4.2)
    generate_loop : Place → Loop → GenerateBlock → Item
    -- if .. else if .. else (A.4.2): one branch at least
    generate_if : GenerateBranches → GenerateElse → Item

  -- items in order
  pub data Items : Type 0 where
    no_item : Items
    more_item : Item → Items → Items

  -- an item, or begin : label .. end (A.4.2)
  pub data GenerateBlock : Type 0 where
    single : Item → GenerateBlock
    several : Place → Option Name → Items → GenerateBlock

  -- branches: the place of an `if`, its condition, and its block
  pub data GenerateBranches : Type 0 where
    no_generate_branch : GenerateBranches
    more_generate_branch : Place → Expr → GenerateBlock → GenerateBranches → GenerateBranches

  -- the last `else`, if there is one
  pub data GenerateElse : Type 0 where
    no_generate_else : GenerateElse
    generate_else : GenerateBlock → GenerateElse

-- a module (A.1.2): its name, the parameters of its #(..), none where it has none, the ports of its (..) if it has one,
-- its items
pub record Module : Type 0 where
  pub place : Place
  pub name : Name
  pub parameters : List HeaderParameter
  pub ports : Option (List Port)
  pub items : Items

-- a source is its modules in order (A.1.2)
abbrev pub Source : Type 0
Source = List Module
