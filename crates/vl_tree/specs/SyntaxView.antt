-- The plain tree of each tree of the program. This project's own.
use Rattle.std.specs.Prelude.{List, [], ◌∷◌, Option, Some, None, map}
use Rattle.std.specs.Option.{option_map}
use Rattle.vl_tree.specs.Syntax as t
use Rattle.dt_core.specs.declared.place.Place.{Place}
use Rattle.vl_tree.specs.Token.{literal_of}
use Rattle.vl_tree.specs.declared.expression.Name.{Name}
use Rattle.vl_tree.specs.declared.expression.SystemFunction.{SystemFunction}
use Rattle.vl_tree.specs.declared.expression.SystemFunction.TheVariants as called
use Rattle.vl_tree.specs.declared.expression.Link.{Link}
use Rattle.vl_tree.specs.declared.expression.Choice.{Choice}
use Rattle.vl_tree.specs.declared.expression.Select.{Select}
use Rattle.vl_tree.specs.declared.expression.Select.TheVariants as chosen
use Rattle.vl_tree.specs.declared.expression.Selected.{Selected}
use Rattle.vl_tree.specs.declared.expression.Expr.{Expr}
use Rattle.vl_tree.specs.declared.expression.Expr.TheOpen.{Expr-F}
use Rattle.vl_tree.specs.declared.expression.Expr.TheFolds.{fold-Expr}
use Rattle.vl_tree.specs.declared.expression.Range.{Range}
use Rattle.vl_tree.specs.declared.statement.Target.{Target}
use Rattle.vl_tree.specs.declared.statement.Target.TheOpen.{Target-F}
use Rattle.vl_tree.specs.declared.statement.Target.TheFolds.{fold-Target}
use Rattle.vl_tree.specs.declared.statement.Assignment.{Assignment}
use Rattle.vl_tree.specs.declared.statement.Assignment.TheVariants as sign
use Rattle.vl_tree.specs.declared.statement.Print.{Print}
use Rattle.vl_tree.specs.declared.statement.Print.TheVariants as task
use Rattle.vl_tree.specs.declared.statement.Printed.{Printed}
use Rattle.vl_tree.specs.declared.statement.Printed.TheVariants as text
use Rattle.vl_tree.specs.declared.statement.Stopped.{Stopped}
use Rattle.vl_tree.specs.declared.statement.Stopped.TheVariants as stopping
use Rattle.vl_tree.specs.declared.statement.Loop.{Loop}
use Rattle.vl_tree.specs.declared.statement.Branch.{Branch}
use Rattle.vl_tree.specs.declared.statement.Arm.{Arm}
use Rattle.vl_tree.specs.declared.statement.Arm.TheVariants as arm
use Rattle.vl_tree.specs.declared.statement.Stmt.{Stmt}
use Rattle.vl_tree.specs.declared.statement.Stmt.TheOpen.{Stmt-F}
use Rattle.vl_tree.specs.declared.statement.Stmt.TheFolds.{fold-Stmt}
use Rattle.vl_tree.specs.declared.item.Direction.{Direction}
use Rattle.vl_tree.specs.declared.item.Direction.TheVariants as way
use Rattle.vl_tree.specs.declared.item.Kept.{Kept}
use Rattle.vl_tree.specs.declared.item.Kept.TheVariants as kind
use Rattle.vl_tree.specs.declared.item.Directed.{Directed}
use Rattle.vl_tree.specs.declared.item.HeaderParameter.{HeaderParameter}
use Rattle.vl_tree.specs.declared.item.HeaderParameter.TheVariants as header
use Rattle.vl_tree.specs.declared.item.Port.{Port}
use Rattle.vl_tree.specs.declared.item.Port.TheVariants as from_header
use Rattle.vl_tree.specs.declared.item.Valued.{Valued}
use Rattle.vl_tree.specs.declared.item.Net.{Net}
use Rattle.vl_tree.specs.declared.item.Variable.{Variable}
use Rattle.vl_tree.specs.declared.item.Variable.TheVariants as var
use Rattle.vl_tree.specs.declared.item.Driven.{Driven}
use Rattle.vl_tree.specs.declared.item.Edge.{Edge}
use Rattle.vl_tree.specs.declared.item.Edge.TheVariants as sort
use Rattle.vl_tree.specs.declared.item.Sensed.{Sensed}
use Rattle.vl_tree.specs.declared.item.Event.{Event}
use Rattle.vl_tree.specs.declared.item.Event.TheVariants as awaited
use Rattle.vl_tree.specs.declared.item.NamedBind.{NamedBind}
use Rattle.vl_tree.specs.declared.item.Binds.{Binds}
use Rattle.vl_tree.specs.declared.item.Binds.TheVariants as bind
use Rattle.vl_tree.specs.declared.item.Instance.{Instance}
use Rattle.vl_tree.specs.declared.item.FunctionType.{FunctionType}
use Rattle.vl_tree.specs.declared.item.FunctionType.TheVariants as type_of
use Rattle.vl_tree.specs.declared.item.FunctionPort.{FunctionPort}
use Rattle.vl_tree.specs.declared.item.FunctionPort.TheVariants as taken
use Rattle.vl_tree.specs.declared.item.FunctionDeclaration.{FunctionDeclaration}
use Rattle.vl_tree.specs.declared.item.FunctionDeclaration.TheVariants as own
use Rattle.vl_tree.specs.declared.item.Function.{Function}
use Rattle.vl_tree.specs.declared.item.GenerateBlock.{GenerateBlock}
use Rattle.vl_tree.specs.declared.item.GenerateBlock.TheVariants as body
use Rattle.vl_tree.specs.declared.item.GenerateBranch.{GenerateBranch}
use Rattle.vl_tree.specs.declared.item.Item.{Item}
use Rattle.vl_tree.specs.declared.item.Item.TheOpen.{Item-F}
use Rattle.vl_tree.specs.declared.item.Item.TheFolds.{fold-Item}
use Rattle.vl_tree.specs.declared.item.Module.{Module}
use Rattle.vl_tree.specs.declared.item.Source.{Source}

-- a place
abbrev pub place : Place → t.Place
place p = record { token = p.token; line = p.line }

-- a name
abbrev pub name : Name → t.Name
name n = record { text = n.text; place = place n.place }

-- a function of the language
abbrev pub system_function : SystemFunction → t.SystemFunction
system_function called.ToSigned = t.to_signed
system_function called.ToUnsigned = t.to_unsigned
system_function called.Clog2 = t.clog2

-- expressions whose parts are plain already
abbrev pub exprs : List t.Expr → t.Exprs
exprs [] = t.no_expr
exprs (e ∷ es) = t.more_expr e (exprs es)

-- operators with operands that are plain already
abbrev pub links : List (Link t.Expr) → t.Links
links [] = t.no_link
links (l ∷ ls) = t.more_link l.operator (place l.place) l.operand (links ls)

-- choices whose parts are plain already
abbrev pub choices : List (Choice t.Expr) → t.Choices
choices [] = t.no_choice
choices (c ∷ cs) = t.more_choice c.condition (place c.place) c.value (choices cs)

-- a select whose parts are plain already
abbrev pub select : Select t.Expr → t.Select
select (chosen.Index e) = t.index e
select (chosen.Part a b) = t.part a b
select (chosen.Upward a b) = t.upward a b
select (chosen.Downward a b) = t.downward a b

-- selects whose parts are plain already
abbrev pub selects : List (Selected t.Expr) → t.Selects
selects [] = t.no_select
selects (s ∷ ss) = t.more_select (place s.place) (select s.select) (selects ss)

-- one level of an expression, from the plain trees of its parts
abbrev pub expr_layer : Expr-F t.Expr → t.Expr
expr_layer (Expr-F.Number p l) = t.number (place p) (literal_of l)
expr_layer (Expr-F.Read n ss) = t.read (name n) (selects ss)
expr_layer (Expr-F.Call n es) = t.call (name n) (exprs es)
expr_layer (Expr-F.System p f e) = t.system (place p) (system_function f) e
expr_layer (Expr-F.Group p e) = t.group (place p) e
expr_layer (Expr-F.Concat p es) = t.concat (place p) (exprs es)
expr_layer (Expr-F.Repeat p n es) = t.repeat (place p) n (exprs es)
expr_layer (Expr-F.Unary p op e) = t.unary (place p) op e
expr_layer (Expr-F.Chain e ls) = t.chain e (links ls)
expr_layer (Expr-F.Choose cs e) = t.choose (choices cs) e

-- an expression
abbrev pub expr : Expr → t.Expr
expr = fold-Expr t.Expr expr_layer

-- a select of the code, whose parts are expressions of the code
abbrev pub read_select : Select Expr → t.Select
read_select (chosen.Index e) = t.index (expr e)
read_select (chosen.Part a b) = t.part (expr a) (expr b)
read_select (chosen.Upward a b) = t.upward (expr a) (expr b)
read_select (chosen.Downward a b) = t.downward (expr a) (expr b)

-- selects of the program
abbrev pub read_selects : List (Selected Expr) → t.Selects
read_selects [] = t.no_select
read_selects (s ∷ ss) = t.more_select (place s.place) (read_select s.select) (read_selects ss)

-- a range
abbrev pub range : Range → t.Range
range r = record { place = place r.place; left = expr r.left; right = expr r.right }

-- targets that are plain already
abbrev pub targets : List t.Target → t.Targets
targets [] = t.no_target
targets (x ∷ xs) = t.more_target x (targets xs)

-- one level of a target
abbrev pub target_layer : Target-F t.Target → t.Target
target_layer (Target-F.Name n ss) = t.name (name n) (read_selects ss)
target_layer (Target-F.Targets p xs) = t.targets (place p) (targets xs)

-- a target
abbrev pub target : Target → t.Target
target = fold-Target t.Target target_layer

-- an assignment
abbrev pub assignment : Assignment → t.Assignment
assignment sign.Blocking = t.blocking
assignment sign.Nonblocking = t.nonblocking

-- a print
abbrev pub print : Print → t.Print
print task.Display = t.display
print task.Write = t.write

-- what stands after $display
abbrev pub printed : Printed → t.Printed
printed text.Bare = t.bare
printed text.EmptyList = t.empty_list
printed (text.Format p s es) = t.format (place p) s (exprs (map expr es))

-- what stands after $stop
abbrev pub stopped : Stopped → t.Stopped
stopped stopping.NoArgument = t.no_argument
stopped stopping.EmptyArgument = t.empty_argument
stopped (stopping.Argument e) = t.argument (expr e)

-- the header of a loop
abbrev pub loop : Loop → t.Loop
loop l = record {
  variable = name l.variable;
  first = expr l.first;
  condition = expr l.condition;
  stepped = name l.stepped;
  step = expr l.step;
}

-- statements that are plain already
abbrev pub stmts : List t.Stmt → t.Stmts
stmts [] = t.no_stmt
stmts (s ∷ ss) = t.more_stmt s (stmts ss)

-- branches whose statements are plain already
abbrev pub branches : List (Branch t.Stmt) → t.Branches
branches [] = t.no_branch
branches (b ∷ bs) = t.more_branch (place b.place) (expr b.condition) b.body (branches bs)

-- a last `else` that is plain already
abbrev pub otherwise : Option t.Stmt → t.Otherwise
otherwise None = t.no_else
otherwise (Some s) = t.else_stmt s

-- arms whose statements are plain already
abbrev pub arms : List (Arm t.Stmt) → t.Arms
arms [] = t.no_arm
arms (arm.Labels es s ∷ rest) = t.more_arm (exprs (map expr es)) s (arms rest)
arms (arm.Default p c s ∷ rest) = t.default_arm (place p) c s (arms rest)

-- one level of a statement
abbrev pub stmt_layer : Stmt-F t.Stmt → t.Stmt
stmt_layer (Stmt-F.Empty p) = t.empty (place p)
stmt_layer (Stmt-F.Block p n ss) = t.block (place p) (option_map name n) (stmts ss)
stmt_layer (Stmt-F.Conditional bs o) = t.conditional (branches bs) (otherwise o)
stmt_layer (Stmt-F.Select p z e rest) = t.select (place p) z (expr e) (arms rest)
stmt_layer (Stmt-F.Loop p l s) = t.loop (place p) (loop l) s
stmt_layer (Stmt-F.Assign x a p e) = t.assign (target x) (assignment a) (place p) (expr e)
stmt_layer (Stmt-F.Print p a b) = t.print (place p) (print a) (printed b)
stmt_layer (Stmt-F.FilePrint p e q s es) = t.file_print (place p) (expr e) (place q) s (exprs (map expr es))
stmt_layer (Stmt-F.Stop p a) = t.stop (place p) (stopped a)
stmt_layer (Stmt-F.Fatal p a) = t.fatal (place p) a

-- a statement
abbrev pub stmt : Stmt → t.Stmt
stmt = fold-Stmt t.Stmt stmt_layer

-- a direction
abbrev pub direction : Direction → t.Direction
direction way.Input = t.input
direction way.Output = t.output

-- wire or reg
abbrev pub kept : Kept → t.Kept
kept kind.Wire = t.wire
kept kind.Reg = t.reg

-- a declaration of a direction
abbrev pub directed : Directed → t.Directed
directed d = record {
  place = place d.place;
  direction = direction d.direction;
  kept = option_map kept d.kept;
  signed = d.signed;
  range = option_map range d.range;
}

-- a parameter of a header
abbrev pub header_parameter : HeaderParameter → t.HeaderParameter
header_parameter (header.Declared p s r n e) = t.declared_parameter (place p) s (option_map range r) (name n) (expr e)
header_parameter (header.Next n e) = t.next_parameter (name n) (expr e)

-- a port
abbrev pub port : Port → t.Port
port (from_header.Declared d n) = t.declared_port (directed d) (name n)
port (from_header.Named n) = t.named_port (name n)

-- a name and its value
abbrev pub valued : Valued → t.Valued
valued v = record { name = name v.name; value = expr v.value }

-- a net
abbrev pub net : Net → t.Net
net v = record { name = name v.name; value = option_map expr v.value }

-- a variable
abbrev pub variable : Variable → t.Variable
variable (var.Plain n) = t.variable (name n)
variable (var.Valued n e) = t.valued (name n) (expr e)
variable (var.Memory n r) = t.memory (name n) (range r)

-- a continuous assignment
abbrev pub driven : Driven → t.Driven
driven d = record { target = target d.target; place = place d.place; value = expr d.value }

-- an edge
abbrev pub edge : Edge → t.Edge
edge (sort.Positive p) = t.positive_edge (place p)
edge (sort.Negative p) = t.negative_edge (place p)
edge sort.No = t.no_edge

-- an edge of a signal
abbrev pub sensed : Sensed → t.Sensed
sensed s = record { edge = edge s.edge; signal = expr s.signal }

-- an event
abbrev pub event : Event → t.Event
event awaited.AnyRead = t.any_read
event awaited.AnyReadList = t.any_read_list
event (awaited.Sensed ss) = t.sensed (map sensed ss)

-- a bind by name
abbrev pub named_bind : NamedBind → t.NamedBind
named_bind b = record { place = place b.place; name = name b.name; value = option_map expr b.value }

-- binds
abbrev pub binds : Binds → t.Binds
binds (bind.Ordered es) = t.ordered (exprs (map expr es))
binds (bind.ByName bs) = t.by_name (map named_bind bs)

-- an instance
abbrev pub instance : Instance → t.Instance
instance i = record { name = name i.name; binds = option_map binds i.binds }

-- a function's result
abbrev pub function_type : FunctionType → t.FunctionType
function_type type_of.Bit = t.bit_result
function_type (type_of.Range r) = t.range_result (range r)
function_type type_of.Integer = t.integer_result

-- an input of a function's header
abbrev pub function_port : FunctionPort → t.FunctionPort
function_port (taken.Declared p s r n) = t.declared_input (place p) s (option_map range r) (name n)
function_port (taken.Named n) = t.named_input (name n)

-- a declaration in a function
abbrev pub function_declaration : FunctionDeclaration → t.FunctionDeclaration
function_declaration (own.Inputs p s r ns) = t.inputs (place p) s (option_map range r) (map name ns)
function_declaration (own.Variables p s r ns) = t.variables (place p) s (option_map range r) (map name ns)
function_declaration (own.Integers p ns) = t.integers (place p) (map name ns)

-- a function
abbrev pub function : Function → t.Function
function f = record {
  place = place f.place;
  automatic = f.automatic;
  signed = f.signed;
  result = function_type f.result;
  name = name f.name;
  ports = map function_port f.ports;
  declarations = map function_declaration f.declarations;
  body = stmt f.body;
}

-- items that are plain already
abbrev pub items : List t.Item → t.Items
items [] = t.no_item
items (i ∷ is) = t.more_item i (items is)

-- a generate block whose items are plain already
abbrev pub generate_block : GenerateBlock t.Item → t.GenerateBlock
generate_block (body.Single i) = t.single i
generate_block (body.Several p n is) = t.several (place p) (option_map name n) (items is)

-- branches whose items are plain already
abbrev pub generate_branches : List (GenerateBranch t.Item) → t.GenerateBranches
generate_branches [] = t.no_generate_branch
generate_branches (b ∷ bs) = t.more_generate_branch (place b.place) (expr b.condition) (generate_block b.block)
    (generate_branches bs)

-- a last `else` whose items are plain already
abbrev pub generate_otherwise : Option (GenerateBlock t.Item) → t.GenerateElse
generate_otherwise None = t.no_generate_else
generate_otherwise (Some b) = t.generate_else (generate_block b)

-- one level of an item
abbrev pub item_layer : Item-F t.Item → t.Item
item_layer (Item-F.Parameter p l s r vs) = t.parameter (place p) l s (option_map range r) (map valued vs)
item_layer (Item-F.Directed d ns) = t.directed (directed d) (map name ns)
item_layer (Item-F.Nets p s r ns) = t.nets (place p) s (option_map range r) (map net ns)
item_layer (Item-F.Registers p s r vs) = t.registers (place p) s (option_map range r) (map variable vs)
item_layer (Item-F.Integer p vs) = t.integer (place p) (map variable vs)
item_layer (Item-F.Genvar p ns) = t.genvar (place p) (map name ns)
item_layer (Item-F.Continuous p ds) = t.continuous (place p) (map driven ds)
item_layer (Item-F.Always p e s) = t.always (place p) (event e) (stmt s)
item_layer (Item-F.Initial p s) = t.initial (place p) (stmt s)
item_layer (Item-F.Function f) = t.function (function f)
item_layer (Item-F.Instances n b is) = t.instances (name n) (option_map (option_map binds) b) (map instance is)
item_layer (Item-F.Region p is) = t.region (place p) (items is)
item_layer (Item-F.GenerateLoop p l b) = t.generate_loop (place p) (loop l) (generate_block b)
item_layer (Item-F.GenerateIf bs o) = t.generate_if (generate_branches bs) (generate_otherwise o)

-- an item
abbrev pub item : Item → t.Item
item = fold-Item t.Item item_layer

-- a module
abbrev pub module_tree : Module → t.Module
module_tree m = record {
  place = place m.place;
  name = name m.name;
  parameters = map header_parameter m.parameters;
  ports = option_map (map port) m.ports;
  items = items (map item m.items);
}

-- a source
abbrev pub source : Source → t.Source
source s = map module_tree s.modules
