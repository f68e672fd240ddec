-- The depth of each token of a tree, in order of text: the number of constructs that enclose it. This project's own. A
-- tree of depth `d` has its own tokens at `d`; what it encloses is deeper by one. Deeper is what stands between
-- brackets, braces or parentheses, between the `?` and `:` of a choice, after an operator that stands before its
-- operand, the body of `begin` (after its label), `case` and `casez` (after the selector), `generate`, a function and a
-- module (after the semicolon), and a statement or block that `if`, `else`, `for` or an arm of a `case` controls. A
-- later branch of one `else if`, or choice of one `?:`, is no deeper.
use Rattle.std.specs.Prelude.{ℕ, ◌+◌, Bool, true, false, List, [], ◌∷◌, ◌++◌, Option, Some, None}
use Rattle.vl_tree.specs.Syntax as t
use Rattle.vl_tree.specs.Syntax.{Range, Loop, Name}

-- between an opening token and a closing one
abbrev pub enclosed : ℕ → List ℕ → List ℕ
enclosed d inside = d ∷ (inside ++ (d ∷ []))

-- a token where it stands
abbrev pub one_if : ℕ → Bool → List ℕ
one_if d false = []
one_if d true = d ∷ []

-- what is there, at a depth
abbrev pub depths_of : {A : Type 0} → (ℕ → A → List ℕ) → ℕ → Option A → List ℕ
depths_of f d None = []
depths_of f d (Some a) = f d a

-- one after another
abbrev pub each_depth : {A : Type 0} → (ℕ → A → List ℕ) → ℕ → List A → List ℕ
each_depth f d [] = []
each_depth f d (a ∷ more) = f d a ++ each_depth f d more

-- each with a comma before it
abbrev pub more_depths : {A : Type 0} → (ℕ → A → List ℕ) → ℕ → List A → List ℕ
more_depths f d [] = []
more_depths f d (a ∷ more) = d ∷ (f d a ++ more_depths f d more)

-- with commas between them
abbrev pub comma_depths : {A : Type 0} → (ℕ → A → List ℕ) → ℕ → List A → List ℕ
comma_depths f d [] = []
comma_depths f d (a ∷ more) = f d a ++ more_depths f d more

-- a name
abbrev pub name_depth : ℕ → Name → List ℕ
name_depth d n = d ∷ []

abbrev mutual
  -- an expression
  pub expr_depths : ℕ → t.Expr → List ℕ
  expr_depths d (t.number p l) = d ∷ []
  expr_depths d (t.read n ss) = d ∷ selects_depths d ss
  expr_depths d (t.call n es) = d ∷ enclosed d (exprs_depths (d + 1) es)
  expr_depths d (t.system p f e) = d ∷ enclosed d (expr_depths (d + 1) e)
  expr_depths d (t.group p e) = enclosed d (expr_depths (d + 1) e)
  expr_depths d (t.concat p es) = enclosed d (exprs_depths (d + 1) es)
  expr_depths d (t.repeat p n es) = enclosed d (expr_depths (d + 1) n ++ enclosed (d + 1) (exprs_depths (d + 1 + 1) es))
  expr_depths d (t.unary p op e) = d ∷ expr_depths (d + 1) e
  expr_depths d (t.chain e ls) = expr_depths d e ++ links_depths d ls
  expr_depths d (t.choose cs e) = choices_depths d cs ++ expr_depths d e

  -- expressions with commas between them
  pub exprs_depths : ℕ → t.Exprs → List ℕ
  exprs_depths d t.no_expr = []
  exprs_depths d (t.more_expr e es) = expr_depths d e ++ more_exprs_depths d es

  -- expressions with a comma before each
  pub more_exprs_depths : ℕ → t.Exprs → List ℕ
  more_exprs_depths d t.no_expr = []
  more_exprs_depths d (t.more_expr e es) = d ∷ (expr_depths d e ++ more_exprs_depths d es)

  -- operators and their right operands
  pub links_depths : ℕ → t.Links → List ℕ
  links_depths d t.no_link = []
  links_depths d (t.more_link op p e ls) = d ∷ (expr_depths d e ++ links_depths d ls)

  -- choices, each to its colon: the value between `?` and `:` is enclosed
  pub choices_depths : ℕ → t.Choices → List ℕ
  choices_depths d t.no_choice = []
  choices_depths d (t.more_choice c p v cs) = expr_depths d c ++ (d ∷ (expr_depths (d + 1) v
      ++ (d ∷ choices_depths d cs)))

  -- selects
  pub selects_depths : ℕ → t.Selects → List ℕ
  selects_depths d t.no_select = []
  selects_depths d (t.more_select p x ss) = enclosed d (select_depths (d + 1) x) ++ selects_depths d ss

  -- what stands between `[` and `]`
  pub select_depths : ℕ → t.Select → List ℕ
  select_depths d (t.index i) = expr_depths d i
  select_depths d (t.part a b) = expr_depths d a ++ (d ∷ expr_depths d b)
  select_depths d (t.upward a b) = expr_depths d a ++ (d ∷ expr_depths d b)
  select_depths d (t.downward a b) = expr_depths d a ++ (d ∷ expr_depths d b)

-- a range
abbrev pub range_depths : ℕ → Range → List ℕ
range_depths d r = enclosed d (expr_depths (d + 1) r.left ++ ((d + 1) ∷ expr_depths (d + 1) r.right))

abbrev mutual
  -- what an assignment writes
  pub target_depths : ℕ → t.Target → List ℕ
  target_depths d (t.name n ss) = d ∷ selects_depths d ss
  target_depths d (t.targets p xs) = enclosed d (targets_depths (d + 1) xs)

  -- targets with commas between them
  pub targets_depths : ℕ → t.Targets → List ℕ
  targets_depths d t.no_target = []
  targets_depths d (t.more_target x xs) = target_depths d x ++ more_targets_depths d xs

  -- targets with a comma before each
  pub more_targets_depths : ℕ → t.Targets → List ℕ
  more_targets_depths d t.no_target = []
  more_targets_depths d (t.more_target x xs) = d ∷ (target_depths d x ++ more_targets_depths d xs)

-- : label
abbrev pub label_depths : ℕ → Option Name → List ℕ
label_depths d None = []
label_depths d (Some n) = d ∷ d ∷ []

-- the header of a loop
abbrev pub loop_depths : ℕ → Loop → List ℕ
loop_depths d l = enclosed d ((d + 1) ∷ (d + 1) ∷ (expr_depths (d + 1) l.first
    ++ ((d + 1) ∷ (expr_depths (d + 1) l.condition
    ++ ((d + 1) ∷ (d + 1) ∷ (d + 1) ∷ expr_depths (d + 1) l.step)))))

-- what stands after $display
abbrev pub printed_depths : ℕ → t.Printed → List ℕ
printed_depths d t.bare = []
printed_depths d t.empty_list = d ∷ d ∷ []
printed_depths d (t.format p s es) = enclosed d ((d + 1) ∷ more_exprs_depths (d + 1) es)

-- what stands after $stop
abbrev pub stopped_depths : ℕ → t.Stopped → List ℕ
stopped_depths d t.no_argument = []
stopped_depths d t.empty_argument = d ∷ d ∷ []
stopped_depths d (t.argument e) = enclosed d (expr_depths (d + 1) e)

abbrev mutual
  -- a statement
  pub stmt_depths : ℕ → t.Stmt → List ℕ
  stmt_depths d (t.empty p) = d ∷ []
  stmt_depths d (t.block p n ss) = d ∷ (label_depths d n ++ (stmts_depths (d + 1) ss ++ (d ∷ [])))
  stmt_depths d (t.conditional bs o) = branches_depths d bs ++ otherwise_depths d o
  stmt_depths d (t.select p z e arms) = d ∷ (enclosed d (expr_depths (d + 1) e) ++ (arms_depths (d + 1) arms
      ++ (d ∷ [])))
  stmt_depths d (t.loop p l b) = d ∷ (loop_depths d l ++ stmt_depths (d + 1) b)
  stmt_depths d (t.assign x a p e) = target_depths d x ++ (d ∷ (expr_depths d e ++ (d ∷ [])))
  stmt_depths d (t.print p a b) = d ∷ (printed_depths d b ++ (d ∷ []))
  stmt_depths d (t.file_print p e q s es) =
      d ∷ (enclosed d (expr_depths (d + 1) e ++ ((d + 1) ∷ (d + 1) ∷ more_exprs_depths (d + 1) es)) ++ (d ∷ []))
  stmt_depths d (t.stop p a) = d ∷ (stopped_depths d a ++ (d ∷ []))
  stmt_depths d (t.fatal p a) = d ∷ (one_if d a ++ (one_if d a ++ (d ∷ [])))

  -- statements
  pub stmts_depths : ℕ → t.Stmts → List ℕ
  stmts_depths d t.no_stmt = []
  stmts_depths d (t.more_stmt b bs) = stmt_depths d b ++ stmts_depths d bs

  -- the branches with their `if`: a later one is no deeper than the first
  pub branches_depths : ℕ → t.Branches → List ℕ
  branches_depths d t.no_branch = []
  branches_depths d (t.more_branch p c b bs) =
      d ∷ (enclosed d (expr_depths (d + 1) c) ++ (stmt_depths (d + 1) b ++ more_branches_depths d bs))

  -- each with its `else`
  pub more_branches_depths : ℕ → t.Branches → List ℕ
  more_branches_depths d t.no_branch = []
  more_branches_depths d (t.more_branch p c b bs) =
      d ∷ d ∷ (enclosed d (expr_depths (d + 1) c) ++ (stmt_depths (d + 1) b ++ more_branches_depths d bs))

  -- the last `else`
  pub otherwise_depths : ℕ → t.Otherwise → List ℕ
  otherwise_depths d t.no_else = []
  otherwise_depths d (t.else_stmt b) = d ∷ stmt_depths (d + 1) b

  -- arms of a `case`
  pub arms_depths : ℕ → t.Arms → List ℕ
  arms_depths d t.no_arm = []
  arms_depths d (t.more_arm es b more) = exprs_depths d es ++ (d ∷ (stmt_depths (d + 1) b ++ arms_depths d more))
  arms_depths d (t.default_arm p colon b more) = d ∷ (one_if d colon ++ (stmt_depths (d + 1) b ++ arms_depths d more))

-- [ "signed" ] [ range ]
abbrev pub type_depths : ℕ → Bool → Option Range → List ℕ
type_depths d signed range = one_if d signed ++ depths_of range_depths d range

-- wire or reg
abbrev pub kept_depth : ℕ → t.Kept → List ℕ
kept_depth d k = d ∷ []

-- a declaration of a direction
abbrev pub directed_depths : ℕ → t.Directed → List ℕ
directed_depths d x = d ∷ (depths_of kept_depth d x.kept ++ type_depths d x.signed x.range)

-- a name and its value
abbrev pub valued_depths : ℕ → t.Valued → List ℕ
valued_depths d v = d ∷ d ∷ expr_depths d v.value

-- `=` and a value
abbrev pub value_depths : ℕ → t.Expr → List ℕ
value_depths d e = d ∷ expr_depths d e

-- a net
abbrev pub net_depths : ℕ → t.Net → List ℕ
net_depths d n = d ∷ depths_of value_depths d n.value

-- a variable
abbrev pub variable_depths : ℕ → t.Variable → List ℕ
variable_depths d (t.variable n) = d ∷ []
variable_depths d (t.valued n e) = d ∷ value_depths d e
variable_depths d (t.memory n r) = d ∷ range_depths d r

-- a continuous assignment
abbrev pub driven_depths : ℕ → t.Driven → List ℕ
driven_depths d x = target_depths d x.target ++ value_depths d x.value

-- posedge, negedge, or neither
abbrev pub edge_depths : ℕ → t.Edge → List ℕ
edge_depths d (t.positive_edge p) = d ∷ []
edge_depths d (t.negative_edge p) = d ∷ []
edge_depths d t.no_edge = []

-- an edge of a signal
abbrev pub sensed_depths : ℕ → t.Sensed → List ℕ
sensed_depths d x = edge_depths d x.edge ++ expr_depths d x.signal

-- an event
abbrev pub event_depths : ℕ → t.Event → List ℕ
event_depths d t.any_read = d ∷ d ∷ []
event_depths d t.any_read_list = d ∷ enclosed d ((d + 1) ∷ [])
event_depths d (t.sensed xs) = d ∷ enclosed d (comma_depths sensed_depths (d + 1) xs)

-- a bind by name
abbrev pub named_bind_depths : ℕ → t.NamedBind → List ℕ
named_bind_depths d b = d ∷ d ∷ enclosed d (depths_of expr_depths (d + 1) b.value)

-- binds
abbrev pub binds_depths : ℕ → t.Binds → List ℕ
binds_depths d (t.ordered es) = exprs_depths d es
binds_depths d (t.by_name bs) = comma_depths named_bind_depths d bs

-- an instance
abbrev pub instance_depths : ℕ → t.Instance → List ℕ
instance_depths d i = d ∷ enclosed d (depths_of binds_depths (d + 1) i.binds)

-- #( .. )
abbrev pub parameter_binds_depths : ℕ → Option t.Binds → List ℕ
parameter_binds_depths d b = d ∷ enclosed d (depths_of binds_depths (d + 1) b)

-- a parameter of a module's header
abbrev pub header_parameter_depths : ℕ → t.HeaderParameter → List ℕ
header_parameter_depths d (t.declared_parameter p s r n e) = d ∷ (type_depths d s r ++ (d ∷ value_depths d e))
header_parameter_depths d (t.next_parameter n e) = d ∷ value_depths d e

-- the parameters of a module's header
abbrev pub header_parameters_depths : ℕ → List t.HeaderParameter → List ℕ
header_parameters_depths d [] = []
header_parameters_depths d (x ∷ more) = d ∷ enclosed d (comma_depths header_parameter_depths (d + 1) (x ∷ more))

-- a port
abbrev pub port_depths : ℕ → t.Port → List ℕ
port_depths d (t.declared_port x n) = directed_depths d x ++ (d ∷ [])
port_depths d (t.named_port n) = d ∷ []

-- the ports of a module's header
abbrev pub ports_depths : ℕ → List t.Port → List ℕ
ports_depths d ps = enclosed d (comma_depths port_depths (d + 1) ps)

-- a function's result
abbrev pub function_type_depths : ℕ → t.FunctionType → List ℕ
function_type_depths d t.bit_result = []
function_type_depths d (t.range_result r) = range_depths d r
function_type_depths d t.integer_result = d ∷ []

-- an input of a function's header
abbrev pub function_port_depths : ℕ → t.FunctionPort → List ℕ
function_port_depths d (t.declared_input p s r n) = d ∷ (type_depths d s r ++ (d ∷ []))
function_port_depths d (t.named_input n) = d ∷ []

-- the inputs of a function's header
abbrev pub function_ports_depths : ℕ → List t.FunctionPort → List ℕ
function_ports_depths d [] = []
function_ports_depths d (x ∷ more) = enclosed d (comma_depths function_port_depths (d + 1) (x ∷ more))

-- a declaration in a function
abbrev pub function_declaration_depths : ℕ → t.FunctionDeclaration → List ℕ
function_declaration_depths d (t.inputs p s r ns) = d ∷ (type_depths d s r ++ (comma_depths name_depth d ns
    ++ (d ∷ [])))
function_declaration_depths d (t.variables p s r ns) = d ∷ (type_depths d s r ++ (comma_depths name_depth d ns
    ++ (d ∷ [])))
function_declaration_depths d (t.integers p ns) = d ∷ (comma_depths name_depth d ns ++ (d ∷ []))

-- a function
abbrev pub function_depths : ℕ → t.Function → List ℕ
function_depths d f = d ∷ (one_if d f.automatic ++ (one_if d f.signed ++ (function_type_depths d f.result
    ++ (d ∷ (function_ports_depths d f.ports ++ (d ∷ (each_depth function_declaration_depths (d + 1) f.declarations
    ++ (stmt_depths (d + 1) f.body ++ (d ∷ [])))))))))

abbrev mutual
  -- an item
  pub item_depths : ℕ → t.Item → List ℕ
  item_depths d (t.parameter p l s r vs) = d ∷ (type_depths d s r ++ (comma_depths valued_depths d vs ++ (d ∷ [])))
  item_depths d (t.directed x ns) = directed_depths d x ++ (comma_depths name_depth d ns ++ (d ∷ []))
  item_depths d (t.nets p s r ns) = d ∷ (type_depths d s r ++ (comma_depths net_depths d ns ++ (d ∷ [])))
  item_depths d (t.registers p s r vs) = d ∷ (type_depths d s r ++ (comma_depths variable_depths d vs ++ (d ∷ [])))
  item_depths d (t.integer p vs) = d ∷ (comma_depths variable_depths d vs ++ (d ∷ []))
  item_depths d (t.genvar p ns) = d ∷ (comma_depths name_depth d ns ++ (d ∷ []))
  item_depths d (t.continuous p ds) = d ∷ (comma_depths driven_depths d ds ++ (d ∷ []))
  item_depths d (t.always p e b) = d ∷ (event_depths d e ++ stmt_depths d b)
  item_depths d (t.initial p b) = d ∷ stmt_depths d b
  item_depths d (t.function f) = function_depths d f
  item_depths d (t.instances n b is) =
      d ∷ (depths_of parameter_binds_depths d b ++ (comma_depths instance_depths d is ++ (d ∷ [])))
  item_depths d (t.region p is) = enclosed d (items_depths (d + 1) is)
  item_depths d (t.generate_loop p l b) = d ∷ (loop_depths d l ++ generate_block_depths (d + 1) b)
  item_depths d (t.generate_if bs o) = generate_branches_depths d bs ++ generate_else_depths d o

  -- items
  pub items_depths : ℕ → t.Items → List ℕ
  items_depths d t.no_item = []
  items_depths d (t.more_item i is) = item_depths d i ++ items_depths d is

  -- a generate block
  pub generate_block_depths : ℕ → t.GenerateBlock → List ℕ
  generate_block_depths d (t.single i) = item_depths d i
  generate_block_depths d (t.several p n is) = d ∷ (label_depths d n ++ (items_depths (d + 1) is ++ (d ∷ [])))

  -- the branches of a generate `if`, with the first `if`
  pub generate_branches_depths : ℕ → t.GenerateBranches → List ℕ
  generate_branches_depths d t.no_generate_branch = []
  generate_branches_depths d (t.more_generate_branch p c b bs) =
      d ∷ (enclosed d (expr_depths (d + 1) c) ++ (generate_block_depths (d + 1) b
      ++ more_generate_branches_depths d bs))

  -- the branches after the first, each with its `else`
  pub more_generate_branches_depths : ℕ → t.GenerateBranches → List ℕ
  more_generate_branches_depths d t.no_generate_branch = []
  more_generate_branches_depths d (t.more_generate_branch p c b bs) =
      d ∷ d ∷ (enclosed d (expr_depths (d + 1) c)
      ++ (generate_block_depths (d + 1) b ++ more_generate_branches_depths d bs))

  -- the last `else` of a generate `if`
  pub generate_else_depths : ℕ → t.GenerateElse → List ℕ
  generate_else_depths d t.no_generate_else = []
  generate_else_depths d (t.generate_else b) = d ∷ generate_block_depths (d + 1) b

-- a module
abbrev pub module_depths : ℕ → t.Module → List ℕ
module_depths d x = d ∷ d ∷ (header_parameters_depths d x.parameters ++ (depths_of ports_depths d x.ports
    ++ (d ∷ (items_depths (d + 1) x.items ++ (d ∷ [])))))

-- the depths of all tokens of a source
abbrev pub source_depths : t.Source → List ℕ
source_depths s = each_depth module_depths 0 s
