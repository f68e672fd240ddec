-- A tree whose places are moved, and nothing else. This project's own.
use Rattle.std.specs.Prelude.{map}
use Rattle.std.specs.Option.{option_map}
use Rattle.vl_tree.specs.Syntax as t
use Rattle.vl_tree.specs.Syntax.{Place, Name, Range, Loop, Source}

module _ (f : Place → Place) where
  abbrev pub move_name : Name → Name
  move_name n = record { text = n.text; place = f n.place }

  abbrev mutual
    pub move_expr : t.Expr → t.Expr
    move_expr (t.number p l) = t.number (f p) l
    move_expr (t.read n ss) = t.read (move_name n) (move_selects ss)
    move_expr (t.call n es) = t.call (move_name n) (move_exprs es)
    move_expr (t.system p s e) = t.system (f p) s (move_expr e)
    move_expr (t.group p e) = t.group (f p) (move_expr e)
    move_expr (t.concat p es) = t.concat (f p) (move_exprs es)
    move_expr (t.repeat p n es) = t.repeat (f p) (move_expr n) (move_exprs es)
    move_expr (t.unary p op e) = t.unary (f p) op (move_expr e)
    move_expr (t.chain e ls) = t.chain (move_expr e) (move_links ls)
    move_expr (t.choose cs e) = t.choose (move_choices cs) (move_expr e)

    pub move_exprs : t.Exprs → t.Exprs
    move_exprs t.no_expr = t.no_expr
    move_exprs (t.more_expr e es) = t.more_expr (move_expr e) (move_exprs es)

    pub move_links : t.Links → t.Links
    move_links t.no_link = t.no_link
    move_links (t.more_link op p e ls) = t.more_link op (f p) (move_expr e) (move_links ls)

    pub move_choices : t.Choices → t.Choices
    move_choices t.no_choice = t.no_choice
    move_choices (t.more_choice c p v cs) = t.more_choice (move_expr c) (f p) (move_expr v) (move_choices cs)

    pub move_selects : t.Selects → t.Selects
    move_selects t.no_select = t.no_select
    move_selects (t.more_select p x ss) = t.more_select (f p) (move_select x) (move_selects ss)

    pub move_select : t.Select → t.Select
    move_select (t.index i) = t.index (move_expr i)
    move_select (t.part a b) = t.part (move_expr a) (move_expr b)
    move_select (t.upward a b) = t.upward (move_expr a) (move_expr b)
    move_select (t.downward a b) = t.downward (move_expr a) (move_expr b)

  abbrev pub move_range : Range → Range
  move_range r = record { place = f r.place; left = move_expr r.left; right = move_expr r.right }

  abbrev mutual
    pub move_target : t.Target → t.Target
    move_target (t.name n ss) = t.name (move_name n) (move_selects ss)
    move_target (t.targets p xs) = t.targets (f p) (move_targets xs)

    pub move_targets : t.Targets → t.Targets
    move_targets t.no_target = t.no_target
    move_targets (t.more_target x xs) = t.more_target (move_target x) (move_targets xs)

  abbrev pub move_printed : t.Printed → t.Printed
  move_printed t.bare = t.bare
  move_printed t.empty_list = t.empty_list
  move_printed (t.format p s es) = t.format (f p) s (move_exprs es)

  abbrev pub move_stopped : t.Stopped → t.Stopped
  move_stopped t.no_argument = t.no_argument
  move_stopped t.empty_argument = t.empty_argument
  move_stopped (t.argument e) = t.argument (move_expr e)

  abbrev pub move_loop : Loop → Loop
  move_loop l = record {
    variable = move_name l.variable;
    first = move_expr l.first;
    condition = move_expr l.condition;
    stepped = move_name l.stepped;
    step = move_expr l.step;
  }

  abbrev mutual
    pub move_stmt : t.Stmt → t.Stmt
    move_stmt (t.empty p) = t.empty (f p)
    move_stmt (t.block p n ss) = t.block (f p) (option_map move_name n) (move_stmts ss)
    move_stmt (t.conditional bs o) = t.conditional (move_branches bs) (move_otherwise o)
    move_stmt (t.select p z e arms) = t.select (f p) z (move_expr e) (move_arms arms)
    move_stmt (t.loop p l b) = t.loop (f p) (move_loop l) (move_stmt b)
    move_stmt (t.assign x a p e) = t.assign (move_target x) a (f p) (move_expr e)
    move_stmt (t.print p a b) = t.print (f p) a (move_printed b)
    move_stmt (t.file_print p e q s es) = t.file_print (f p) (move_expr e) (f q) s (move_exprs es)
    move_stmt (t.stop p a) = t.stop (f p) (move_stopped a)
    move_stmt (t.fatal p a) = t.fatal (f p) a

    pub move_stmts : t.Stmts → t.Stmts
    move_stmts t.no_stmt = t.no_stmt
    move_stmts (t.more_stmt b bs) = t.more_stmt (move_stmt b) (move_stmts bs)

    pub move_branches : t.Branches → t.Branches
    move_branches t.no_branch = t.no_branch
    move_branches (t.more_branch p c b bs) = t.more_branch (f p) (move_expr c) (move_stmt b) (move_branches bs)

    pub move_otherwise : t.Otherwise → t.Otherwise
    move_otherwise t.no_else = t.no_else
    move_otherwise (t.else_stmt b) = t.else_stmt (move_stmt b)

    pub move_arms : t.Arms → t.Arms
    move_arms t.no_arm = t.no_arm
    move_arms (t.more_arm es b more) = t.more_arm (move_exprs es) (move_stmt b) (move_arms more)
    move_arms (t.default_arm p c b more) = t.default_arm (f p) c (move_stmt b) (move_arms more)

  abbrev pub move_directed : t.Directed → t.Directed
  move_directed d = record {
    place = f d.place;
    direction = d.direction;
    kept = d.kept;
    signed = d.signed;
    range = option_map move_range d.range;
  }

  abbrev pub move_header_parameter : t.HeaderParameter → t.HeaderParameter
  move_header_parameter (t.declared_parameter p s r n e) =
      t.declared_parameter (f p) s (option_map move_range r) (move_name n) (move_expr e)
  move_header_parameter (t.next_parameter n e) = t.next_parameter (move_name n) (move_expr e)

  abbrev pub move_port : t.Port → t.Port
  move_port (t.declared_port d n) = t.declared_port (move_directed d) (move_name n)
  move_port (t.named_port n) = t.named_port (move_name n)

  abbrev pub move_valued : t.Valued → t.Valued
  move_valued v = record { name = move_name v.name; value = move_expr v.value }

  abbrev pub move_net : t.Net → t.Net
  move_net n = record { name = move_name n.name; value = option_map move_expr n.value }

  abbrev pub move_variable : t.Variable → t.Variable
  move_variable (t.variable n) = t.variable (move_name n)
  move_variable (t.valued n e) = t.valued (move_name n) (move_expr e)
  move_variable (t.memory n r) = t.memory (move_name n) (move_range r)

  abbrev pub move_driven : t.Driven → t.Driven
  move_driven d = record { target = move_target d.target; place = f d.place; value = move_expr d.value }

  abbrev pub move_edge : t.Edge → t.Edge
  move_edge (t.positive_edge p) = t.positive_edge (f p)
  move_edge (t.negative_edge p) = t.negative_edge (f p)
  move_edge t.no_edge = t.no_edge

  abbrev pub move_sensed : t.Sensed → t.Sensed
  move_sensed s = record { edge = move_edge s.edge; signal = move_expr s.signal }

  abbrev pub move_event : t.Event → t.Event
  move_event t.any_read = t.any_read
  move_event t.any_read_list = t.any_read_list
  move_event (t.sensed xs) = t.sensed (map move_sensed xs)

  abbrev pub move_named_bind : t.NamedBind → t.NamedBind
  move_named_bind b = record { place = f b.place; name = move_name b.name; value = option_map move_expr b.value }

  abbrev pub move_binds : t.Binds → t.Binds
  move_binds (t.ordered es) = t.ordered (move_exprs es)
  move_binds (t.by_name bs) = t.by_name (map move_named_bind bs)

  abbrev pub move_instance : t.Instance → t.Instance
  move_instance i = record { name = move_name i.name; binds = option_map move_binds i.binds }

  abbrev pub move_function_type : t.FunctionType → t.FunctionType
  move_function_type t.bit_result = t.bit_result
  move_function_type (t.range_result r) = t.range_result (move_range r)
  move_function_type t.integer_result = t.integer_result

  abbrev pub move_function_port : t.FunctionPort → t.FunctionPort
  move_function_port (t.declared_input p s r n) = t.declared_input (f p) s (option_map move_range r) (move_name n)
  move_function_port (t.named_input n) = t.named_input (move_name n)

  abbrev pub move_function_declaration : t.FunctionDeclaration → t.FunctionDeclaration
  move_function_declaration (t.inputs p s r ns) = t.inputs (f p) s (option_map move_range r) (map move_name ns)
  move_function_declaration (t.variables p s r ns) = t.variables (f p) s (option_map move_range r) (map move_name ns)
  move_function_declaration (t.integers p ns) = t.integers (f p) (map move_name ns)

  abbrev pub move_function : t.Function → t.Function
  move_function x = record {
    place = f x.place;
    automatic = x.automatic;
    signed = x.signed;
    result = move_function_type x.result;
    name = move_name x.name;
    ports = map move_function_port x.ports;
    declarations = map move_function_declaration x.declarations;
    body = move_stmt x.body;
  }

  abbrev mutual
    pub move_item : t.Item → t.Item
    move_item (t.parameter p l s r vs) = t.parameter (f p) l s (option_map move_range r) (map move_valued vs)
    move_item (t.directed d ns) = t.directed (move_directed d) (map move_name ns)
    move_item (t.nets p s r ns) = t.nets (f p) s (option_map move_range r) (map move_net ns)
    move_item (t.registers p s r vs) = t.registers (f p) s (option_map move_range r) (map move_variable vs)
    move_item (t.integer p vs) = t.integer (f p) (map move_variable vs)
    move_item (t.genvar p ns) = t.genvar (f p) (map move_name ns)
    move_item (t.continuous p ds) = t.continuous (f p) (map move_driven ds)
    move_item (t.always p e b) = t.always (f p) (move_event e) (move_stmt b)
    move_item (t.initial p b) = t.initial (f p) (move_stmt b)
    move_item (t.function x) = t.function (move_function x)
    move_item (t.instances n b is) =
        t.instances (move_name n) (option_map (option_map move_binds) b) (map move_instance is)
    move_item (t.region p is) = t.region (f p) (move_items is)
    move_item (t.generate_loop p l b) = t.generate_loop (f p) (move_loop l) (move_generate_block b)
    move_item (t.generate_if bs o) = t.generate_if (move_generate_branches bs) (move_generate_else o)

    pub move_items : t.Items → t.Items
    move_items t.no_item = t.no_item
    move_items (t.more_item i is) = t.more_item (move_item i) (move_items is)

    pub move_generate_block : t.GenerateBlock → t.GenerateBlock
    move_generate_block (t.single i) = t.single (move_item i)
    move_generate_block (t.several p n is) = t.several (f p) (option_map move_name n) (move_items is)

    pub move_generate_branches : t.GenerateBranches → t.GenerateBranches
    move_generate_branches t.no_generate_branch = t.no_generate_branch
    move_generate_branches (t.more_generate_branch p c b bs) =
        t.more_generate_branch (f p) (move_expr c) (move_generate_block b) (move_generate_branches bs)

    pub move_generate_else : t.GenerateElse → t.GenerateElse
    move_generate_else t.no_generate_else = t.no_generate_else
    move_generate_else (t.generate_else b) = t.generate_else (move_generate_block b)

  abbrev pub move_module : t.Module → t.Module
  move_module m = record {
    place = f m.place;
    name = move_name m.name;
    parameters = map move_header_parameter m.parameters;
    ports = option_map (map move_port) m.ports;
    items = move_items m.items;
  }

  abbrev pub move_source : Source → Source
  move_source s = map move_module s
