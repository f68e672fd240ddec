-- The grammar over tokens whose places are moved: the same tree, moved.
use Rattle.std.proofs.Common.{◌≡◌, ◌<◌, ℕ, Bool, false, List, [], ◌∷◌, map, Option, Some, None, inl, inr, refl, sym, ◌∙◌, subst}
use Rattle.std.specs.Prelude.{IsTrue}
use Rattle.std.specs.Option.{option_map}
use Rattle.vl_tree.specs.declared.token.Key.TheVariants as w
use Rattle.vl_tree.specs.declared.token.Mark.TheVariants as m
use Rattle.vl_tree.specs.declared.token.System.TheVariants as s
use Rattle.vl_tree.specs.Token as k
use Rattle.vl_tree.specs.Syntax as t
use Rattle.vl_tree.specs.Syntax.{Place, Name, Range, Loop, Source}
use Rattle.vl_tree.specs.Placed.{Placed}
use Rattle.vl_tree.specs.Piece.{◌then◌, name_at, mark, maybe, commas, in_parens}
use Rattle.vl_tree.specs.Expressions.{expr_at, exprs_at, more_exprs_at, links_at, choices_at, selects_at, select_at, range_at, level, binary_level, unary_of, binary_of, system_name}
use Rattle.vl_tree.specs.Statements.{target_at, targets_at, more_targets_at, label_at, loop_at, printed_at, stopped_at, assignment_mark, print_name, case_word, is_conditional, has_arm, stmt_at, stmts_at, branches_at, otherwise_at, arms_at}
use Rattle.vl_tree.specs.Modules as g
use Rattle.vl_tree.specs.Modules.{type_at, kept_at, directed_at, direction_word, valued_at, net_at, variable_at, driven_at, edge_at, sensed_at, separator_at, more_sensed_at, event_at, named_bind_at, binds_at, instance_at, header_parameter_at, header_parameters_at, port_at, named_port_at, ports_at, function_type_at, function_port_at, function_ports_at, function_declaration_at, function_at, parameter_word, is_generate_if, item_at, items_at, generate_block_at, generate_branches_at, generate_else_at, module_at, source_at}
use Rattle.line_laws.specs.Moved as v
use Rattle.line_laws.proofs.Pieces.{moved, Moves, m_then, m_nothing, m_nowhere, m_given, m_kind_at, m_kind, m_name, m_operator, m_where, m_parens, m_maybe, m_each, m_more, m_commas, m_no_else}

module _ (f : Place → Place) where
  -- ---- expressions

  links_level_moved : (ls : t.Links) → level (t.chain (t.number (record { token = 0; line = 0 }) (record { width = 0; sized = false; signed = false; value = 0; wild = 0 })) (v.move_links f ls))
      ≡ level (t.chain (t.number (record { token = 0; line = 0 }) (record { width = 0; sized = false; signed = false; value = 0; wild = 0 })) ls)
  links_level_moved t.no_link = refl
  links_level_moved (t.more_link op p e ls) = refl

  level_moved : (e : t.Expr) → level (v.move_expr f e) ≡ level e
  level_moved (t.number p l) = refl
  level_moved (t.read n ss) = refl
  level_moved (t.call n es) = refl
  level_moved (t.system p x e) = refl
  level_moved (t.group p e) = refl
  level_moved (t.concat p es) = refl
  level_moved (t.repeat p n es) = refl
  level_moved (t.unary p op e) = refl
  level_moved (t.chain e ls) = links_level_moved ls
  level_moved (t.choose cs e) = refl

  below : (e : t.Expr) (n : ℕ) → level e < n → level (v.move_expr f e) < n
  below e n l = subst (λ x. x < n) (sym (level_moved e)) l

  mutual
    m_expr : (e : t.Expr) → Moves f (expr_at e) (expr_at (v.move_expr f e))
    m_expr (t.number p l) = m_kind_at f (k.number l) p
    m_expr (t.read n ss) = m_then f (m_name f n) (m_selects ss)
    m_expr (t.call n es) = m_then f (m_name f n) (m_parens f (m_exprs es))
    m_expr (t.system p x e) = m_then f (m_kind_at f (k.system (system_name x)) p) (m_parens f (m_expr e))
    m_expr (t.group p e) = m_then f (m_kind_at f (k.mark m.OpenParen) p) (m_then f (m_expr e) (m_kind f (k.mark m.CloseParen)))
    m_expr (t.concat p es) = m_then f (m_kind_at f (k.mark m.OpenBrace) p) (m_then f (m_exprs es) (m_kind f (k.mark m.CloseBrace)))
    m_expr (t.repeat p n es) =
        m_then f (m_kind_at f (k.mark m.OpenBrace) p) (m_then f (m_expr n) (m_then f (m_kind f (k.mark m.OpenBrace)) (m_then f (m_exprs es)
        (m_then f (m_kind f (k.mark m.CloseBrace)) (m_kind f (k.mark m.CloseBrace))))))
    m_expr (t.unary p op e) = m_then f (m_operator f unary_of op p) (m_given f (below e 1) (m_expr e))
    m_expr (t.chain e t.no_link) = m_nowhere f
    m_expr (t.chain e (t.more_link op p x ls)) =
        m_then f (m_given f (below e (binary_level op)) (m_expr e)) (m_links (binary_level op) (t.more_link op p x ls))
    m_expr (t.choose t.no_choice e) = m_nowhere f
    m_expr (t.choose (t.more_choice c p x cs) e) =
        m_then f (m_choices (t.more_choice c p x cs)) (m_given f (below e 11) (m_expr e))

    m_exprs : (es : t.Exprs) → Moves f (exprs_at es) (exprs_at (v.move_exprs f es))
    m_exprs t.no_expr = m_nowhere f
    m_exprs (t.more_expr e es) = m_then f (m_expr e) (m_more_exprs es)

    m_more_exprs : (es : t.Exprs) → Moves f (more_exprs_at es) (more_exprs_at (v.move_exprs f es))
    m_more_exprs t.no_expr = m_nothing f
    m_more_exprs (t.more_expr e es) = m_then f (m_kind f (k.mark m.Comma)) (m_then f (m_expr e) (m_more_exprs es))

    m_links : (n : ℕ) (ls : t.Links) → Moves f (links_at n ls) (links_at n (v.move_links f ls))
    m_links n t.no_link = m_nothing f
    m_links n (t.more_link op p e ls) =
        m_then f (m_given f (λ c. c) (m_operator f binary_of op p)) (m_then f (m_given f (below e n) (m_expr e)) (m_links n ls))

    m_choices : (cs : t.Choices) → Moves f (choices_at cs) (choices_at (v.move_choices f cs))
    m_choices t.no_choice = m_nothing f
    m_choices (t.more_choice c p x cs) =
        m_then f (m_given f (below c 11) (m_expr c)) (m_then f (m_kind_at f (k.mark m.Question) p) (m_then f (m_expr x)
        (m_then f (m_kind f (k.mark m.Colon)) (m_choices cs))))

    m_selects : (ss : t.Selects) → Moves f (selects_at ss) (selects_at (v.move_selects f ss))
    m_selects t.no_select = m_nothing f
    m_selects (t.more_select p x ss) =
        m_then f (m_kind_at f (k.mark m.OpenBracket) p) (m_then f (m_select x) (m_then f (m_kind f (k.mark m.CloseBracket)) (m_selects ss)))

    m_select : (x : t.Select) → Moves f (select_at x) (select_at (v.move_select f x))
    m_select (t.index i) = m_expr i
    m_select (t.part a b) = m_then f (m_expr a) (m_then f (m_kind f (k.mark m.Colon)) (m_expr b))
    m_select (t.upward a b) = m_then f (m_expr a) (m_then f (m_kind f (k.mark m.PlusColon)) (m_expr b))
    m_select (t.downward a b) = m_then f (m_expr a) (m_then f (m_kind f (k.mark m.MinusColon)) (m_expr b))

  m_range : (r : Range) → Moves f (range_at r) (range_at (v.move_range f r))
  m_range r =
      m_then f (m_kind_at f (k.mark m.OpenBracket) r.place) (m_then f (m_expr r.left) (m_then f (m_kind f (k.mark m.Colon)) (m_then f (m_expr r.right)
      (m_kind f (k.mark m.CloseBracket)))))

  -- ---- statements

  mutual
    m_target : (x : t.Target) → Moves f (target_at x) (target_at (v.move_target f x))
    m_target (t.name n ss) = m_then f (m_name f n) (m_selects ss)
    m_target (t.targets p xs) = m_then f (m_kind_at f (k.mark m.OpenBrace) p) (m_then f (m_targets xs) (m_kind f (k.mark m.CloseBrace)))

    m_targets : (xs : t.Targets) → Moves f (targets_at xs) (targets_at (v.move_targets f xs))
    m_targets t.no_target = m_nowhere f
    m_targets (t.more_target x xs) = m_then f (m_target x) (m_more_targets xs)

    m_more_targets : (xs : t.Targets) → Moves f (more_targets_at xs) (more_targets_at (v.move_targets f xs))
    m_more_targets t.no_target = m_nothing f
    m_more_targets (t.more_target x xs) = m_then f (m_kind f (k.mark m.Comma)) (m_then f (m_target x) (m_more_targets xs))

  m_label : (n : Option Name) → Moves f (label_at n) (label_at (option_map (v.move_name f) n))
  m_label None = m_nothing f
  m_label (Some n) = m_then f (m_kind f (k.mark m.Colon)) (m_name f n)

  m_loop : (l : Loop) → Moves f (loop_at l) (loop_at (v.move_loop f l))
  m_loop l =
      m_parens f (m_then f (m_name f l.variable) (m_then f (m_kind f (k.mark m.Equals)) (m_then f (m_expr l.first) (m_then f (m_kind f (k.mark m.Semicolon))
      (m_then f (m_expr l.condition) (m_then f (m_kind f (k.mark m.Semicolon)) (m_then f (m_name f l.stepped) (m_then f (m_kind f (k.mark m.Equals))
      (m_expr l.step)))))))))

  m_printed : (x : t.Printed) → Moves f (printed_at x) (printed_at (v.move_printed f x))
  m_printed t.bare = m_nothing f
  m_printed t.empty_list = m_then f (m_kind f (k.mark m.OpenParen)) (m_kind f (k.mark m.CloseParen))
  m_printed (t.format p x es) = m_parens f (m_then f (m_kind_at f (k.str x) p) (m_more_exprs es))

  m_stopped : (x : t.Stopped) → Moves f (stopped_at x) (stopped_at (v.move_stopped f x))
  m_stopped t.no_argument = m_nothing f
  m_stopped t.empty_argument = m_then f (m_kind f (k.mark m.OpenParen)) (m_kind f (k.mark m.CloseParen))
  m_stopped (t.argument e) = m_parens f (m_expr e)

  conditional_moved : (b : t.Stmt) → is_conditional (v.move_stmt f b) ≡ is_conditional b
  conditional_moved (t.empty p) = refl
  conditional_moved (t.block p n ss) = refl
  conditional_moved (t.conditional bs o) = refl
  conditional_moved (t.select p z e arms) = refl
  conditional_moved (t.loop p l b) = refl
  conditional_moved (t.assign x a p e) = refl
  conditional_moved (t.print p a b) = refl
  conditional_moved (t.file_print p e q x es) = refl
  conditional_moved (t.stop p a) = refl
  conditional_moved (t.fatal p a) = refl

  arm_moved : (arms : t.Arms) → IsTrue (has_arm arms) → IsTrue (has_arm (v.move_arms f arms))
  arm_moved t.no_arm i = i
  arm_moved (t.more_arm es b more) i = i
  arm_moved (t.default_arm p c b more) i = i

  mutual
    m_stmt : (b : t.Stmt) → Moves f (stmt_at b) (stmt_at (v.move_stmt f b))
    m_stmt (t.empty p) = m_kind_at f (k.mark m.Semicolon) p
    m_stmt (t.block p n ss) = m_then f (m_kind_at f (k.key w.Begin) p) (m_then f (m_label n) (m_then f (m_stmts ss) (m_kind f (k.key w.End))))
    m_stmt (t.conditional t.no_branch o) = m_nowhere f
    m_stmt (t.conditional (t.more_branch p c b bs) o) =
        m_then f (m_kind_at f (k.key w.If) p) (m_then f (m_parens f (m_expr c)) (m_then f (m_stmt b) (m_then f (m_branches bs) (m_otherwise o))))
    m_stmt (t.select p z e arms) =
        m_then f (m_kind_at f (k.key (case_word z)) p) (m_then f (m_parens f (m_expr e)) (m_then f (m_given f (arm_moved arms) (m_arms arms))
        (m_kind f (k.key w.Endcase))))
    m_stmt (t.loop p l b) = m_then f (m_kind_at f (k.key w.For) p) (m_then f (m_loop l) (m_stmt b))
    m_stmt (t.assign x a p e) =
        m_then f (m_target x) (m_then f (m_kind_at f (k.mark (assignment_mark a)) p) (m_then f (m_expr e) (m_kind f (k.mark m.Semicolon))))
    m_stmt (t.print p a b) = m_then f (m_kind_at f (k.system (print_name a)) p) (m_then f (m_printed b) (m_kind f (k.mark m.Semicolon)))
    m_stmt (t.file_print p e q x es) =
        m_then f (m_kind_at f (k.system s.Fwrite) p) (m_then f (m_parens f (m_then f (m_expr e) (m_then f (m_kind f (k.mark m.Comma))
        (m_then f (m_kind_at f (k.str x) q) (m_more_exprs es))))) (m_kind f (k.mark m.Semicolon)))
    m_stmt (t.stop p a) = m_then f (m_kind_at f (k.system s.Stop) p) (m_then f (m_stopped a) (m_kind f (k.mark m.Semicolon)))
    m_stmt (t.fatal p a) =
        m_then f (m_kind_at f (k.system s.Fatal) p) (m_then f (m_where f a (m_then f (m_kind f (k.mark m.OpenParen)) (m_kind f (k.mark m.CloseParen))))
        (m_kind f (k.mark m.Semicolon)))

    m_stmts : (bs : t.Stmts) → Moves f (stmts_at bs) (stmts_at (v.move_stmts f bs))
    m_stmts t.no_stmt = m_nothing f
    m_stmts (t.more_stmt b bs) = m_then f (m_stmt b) (m_stmts bs)

    m_branches : (bs : t.Branches) → Moves f (branches_at bs) (branches_at (v.move_branches f bs))
    m_branches t.no_branch = m_nothing f
    m_branches (t.more_branch p c b bs) =
        m_then f (m_kind f (k.key w.Else)) (m_then f (m_kind_at f (k.key w.If) p) (m_then f (m_parens f (m_expr c)) (m_then f (m_stmt b) (m_branches bs))))

    m_otherwise : (o : t.Otherwise) → Moves f (otherwise_at o) (otherwise_at (v.move_otherwise f o))
    m_otherwise t.no_else = m_no_else f
    m_otherwise (t.else_stmt b) = m_then f (m_kind f (k.key w.Else)) (m_given f (λ e. conditional_moved b ∙ e) (m_stmt b))

    m_arms : (xs : t.Arms) → Moves f (arms_at xs) (arms_at (v.move_arms f xs))
    m_arms t.no_arm = m_nothing f
    m_arms (t.more_arm es b more) = m_then f (m_exprs es) (m_then f (m_kind f (k.mark m.Colon)) (m_then f (m_stmt b) (m_arms more)))
    m_arms (t.default_arm p c b more) =
        m_then f (m_kind_at f (k.key w.Default) p) (m_then f (m_where f c (m_kind f (k.mark m.Colon))) (m_then f (m_stmt b) (m_arms more)))

  -- ---- declarations

  m_type : (x : Bool) (r : Option Range) → Moves f (type_at x r) (type_at x (option_map (v.move_range f) r))
  m_type x r = m_then f (m_where f x (m_kind f (k.key w.Signed))) (m_maybe f range_at range_at (v.move_range f) m_range r)

  m_kept : (x : t.Kept) → Moves f (kept_at x) (kept_at x)
  m_kept t.wire = m_kind f (k.key w.Wire)
  m_kept t.reg = m_kind f (k.key w.Reg)

  m_maybe_kept : (x : Option t.Kept) → Moves f (maybe kept_at x) (maybe kept_at x)
  m_maybe_kept None = m_nothing f
  m_maybe_kept (Some x) = m_kept x

  m_directed : (d : t.Directed) → Moves f (directed_at d) (directed_at (v.move_directed f d))
  m_directed d = m_then f (m_kind_at f (k.key (direction_word d.direction)) d.place) (m_then f (m_maybe_kept d.kept) (m_type d.signed d.range))

  m_value : (e : t.Expr) → Moves f (mark m.Equals then expr_at e) (mark m.Equals then expr_at (v.move_expr f e))
  m_value e = m_then f (m_kind f (k.mark m.Equals)) (m_expr e)

  m_valued : (x : t.Valued) → Moves f (valued_at x) (valued_at (v.move_valued f x))
  m_valued x = m_then f (m_name f x.name) (m_value x.value)

  m_net : (x : t.Net) → Moves f (net_at x) (net_at (v.move_net f x))
  m_net x = m_then f (m_name f x.name) (m_maybe f (λ e. mark m.Equals then expr_at e) (λ e. mark m.Equals then expr_at e) (v.move_expr f) m_value x.value)

  m_variable : (x : t.Variable) → Moves f (variable_at x) (variable_at (v.move_variable f x))
  m_variable (t.variable n) = m_name f n
  m_variable (t.valued n e) = m_then f (m_name f n) (m_value e)
  m_variable (t.memory n r) = m_then f (m_name f n) (m_range r)

  m_driven : (x : t.Driven) → Moves f (driven_at x) (driven_at (v.move_driven f x))
  m_driven x = m_then f (m_target x.target) (m_then f (m_kind_at f (k.mark m.Equals) x.place) (m_expr x.value))

  m_edge : (x : t.Edge) → Moves f (edge_at x) (edge_at (v.move_edge f x))
  m_edge (t.positive_edge p) = m_kind_at f (k.key w.Posedge) p
  m_edge (t.negative_edge p) = m_kind_at f (k.key w.Negedge) p
  m_edge t.no_edge = m_nothing f

  m_sensed : (x : t.Sensed) → Moves f (sensed_at x) (sensed_at (v.move_sensed f x))
  m_sensed x = m_then f (m_edge x.edge) (m_expr x.signal)

  m_separator : Moves f separator_at separator_at
  m_separator = record { by = separated }
    where
      separated : (ts rest : List Placed) → separator_at ts rest → separator_at (moved f ts) (moved f rest)
      separated ts rest (inl c) = inl ((m_kind f (k.key w.Or)).by ts rest c)
      separated ts rest (inr c) = inr ((m_kind f (k.mark m.Comma)).by ts rest c)

  m_more_sensed : (xs : List t.Sensed) → Moves f (more_sensed_at xs) (more_sensed_at (map (v.move_sensed f) xs))
  m_more_sensed [] = m_nothing f
  m_more_sensed (x ∷ xs) = m_then f m_separator (m_then f (m_sensed x) (m_more_sensed xs))

  m_sensed_list : (xs : List t.Sensed) → Moves f (g.sensed_list_at xs) (g.sensed_list_at (map (v.move_sensed f) xs))
  m_sensed_list [] = m_nowhere f
  m_sensed_list (x ∷ xs) = m_then f (m_sensed x) (m_more_sensed xs)

  m_event : (x : t.Event) → Moves f (event_at x) (event_at (v.move_event f x))
  m_event t.any_read = m_then f (m_kind f (k.mark m.At)) (m_kind f (k.mark m.Star))
  m_event t.any_read_list = m_then f (m_kind f (k.mark m.At)) (m_parens f (m_kind f (k.mark m.Star)))
  m_event (t.sensed xs) = m_then f (m_kind f (k.mark m.At)) (m_parens f (m_sensed_list xs))

  m_named_bind : (b : t.NamedBind) → Moves f (named_bind_at b) (named_bind_at (v.move_named_bind f b))
  m_named_bind b =
      m_then f (m_kind_at f (k.mark m.Dot) b.place) (m_then f (m_name f b.name) (m_parens f (m_maybe f expr_at expr_at (v.move_expr f) m_expr b.value)))

  m_binds : (x : t.Binds) → Moves f (binds_at x) (binds_at (v.move_binds f x))
  m_binds (t.ordered es) = m_exprs es
  m_binds (t.by_name bs) = m_commas f named_bind_at named_bind_at (v.move_named_bind f) m_named_bind bs

  m_maybe_binds : (x : Option t.Binds) → Moves f (maybe binds_at x) (maybe binds_at (option_map (v.move_binds f) x))
  m_maybe_binds = m_maybe f binds_at binds_at (v.move_binds f) m_binds

  m_instance : (x : t.Instance) → Moves f (instance_at x) (instance_at (v.move_instance f x))
  m_instance x = m_then f (m_name f x.name) (m_parens f (m_maybe_binds x.binds))

  m_header_parameter : (x : t.HeaderParameter) → Moves f (header_parameter_at x) (header_parameter_at (v.move_header_parameter f x))
  m_header_parameter (t.declared_parameter p x r n e) =
      m_then f (m_kind_at f (k.key w.Parameter) p) (m_then f (m_type x r) (m_then f (m_name f n) (m_value e)))
  m_header_parameter (t.next_parameter n e) = m_then f (m_name f n) (m_value e)

  m_header_parameters : (xs : List t.HeaderParameter)
      → Moves f (header_parameters_at xs) (header_parameters_at (map (v.move_header_parameter f) xs))
  m_header_parameters [] = m_nothing f
  m_header_parameters (t.declared_parameter p x r n e ∷ more) =
      m_then f (m_kind f (k.mark m.Hash)) (m_parens f (m_then f (m_header_parameter (t.declared_parameter p x r n e))
      (m_more f header_parameter_at header_parameter_at (v.move_header_parameter f) m_header_parameter more)))
  m_header_parameters (t.next_parameter n e ∷ more) = m_nowhere f

  m_port : (x : t.Port) → Moves f (port_at x) (port_at (v.move_port f x))
  m_port (t.declared_port d n) = m_then f (m_directed d) (m_name f n)
  m_port (t.named_port n) = m_name f n

  m_named_port : (x : t.Port) → Moves f (named_port_at x) (named_port_at (v.move_port f x))
  m_named_port (t.declared_port d n) = m_nowhere f
  m_named_port (t.named_port n) = m_name f n

  m_ports : (xs : List t.Port) → Moves f (ports_at xs) (ports_at (map (v.move_port f) xs))
  m_ports [] = m_nothing f
  m_ports (t.declared_port d n ∷ more) = m_then f (m_port (t.declared_port d n)) (m_more f port_at port_at (v.move_port f) m_port more)
  m_ports (t.named_port n ∷ more) = m_then f (m_name f n) (m_more f named_port_at named_port_at (v.move_port f) m_named_port more)

  m_function_type : (x : t.FunctionType) → Moves f (function_type_at x) (function_type_at (v.move_function_type f x))
  m_function_type t.bit_result = m_nothing f
  m_function_type (t.range_result r) = m_range r
  m_function_type t.integer_result = m_kind f (k.key w.Integer)

  m_function_port : (x : t.FunctionPort) → Moves f (function_port_at x) (function_port_at (v.move_function_port f x))
  m_function_port (t.declared_input p x r n) = m_then f (m_kind_at f (k.key w.Input) p) (m_then f (m_type x r) (m_name f n))
  m_function_port (t.named_input n) = m_name f n

  m_function_ports : (xs : List t.FunctionPort) → Moves f (function_ports_at xs) (function_ports_at (map (v.move_function_port f) xs))
  m_function_ports [] = m_nothing f
  m_function_ports (t.declared_input p x r n ∷ more) =
      m_parens f (m_then f (m_function_port (t.declared_input p x r n))
      (m_more f function_port_at function_port_at (v.move_function_port f) m_function_port more))
  m_function_ports (t.named_input n ∷ more) = m_nowhere f

  m_names : (ns : List Name) → Moves f (commas name_at ns) (commas name_at (map (v.move_name f) ns))
  m_names = m_commas f name_at name_at (v.move_name f) (m_name f)

  m_end : Moves f (mark m.Semicolon) (mark m.Semicolon)
  m_end = m_kind f (k.mark m.Semicolon)

  m_function_declaration : (x : t.FunctionDeclaration)
      → Moves f (function_declaration_at x) (function_declaration_at (v.move_function_declaration f x))
  m_function_declaration (t.inputs p x r ns) = m_then f (m_kind_at f (k.key w.Input) p) (m_then f (m_type x r) (m_then f (m_names ns) m_end))
  m_function_declaration (t.variables p x r ns) = m_then f (m_kind_at f (k.key w.Reg) p) (m_then f (m_type x r) (m_then f (m_names ns) m_end))
  m_function_declaration (t.integers p ns) = m_then f (m_kind_at f (k.key w.Integer) p) (m_then f (m_names ns) m_end)

  m_function : (x : t.Function) → Moves f (function_at x) (function_at (v.move_function f x))
  m_function x =
      m_then f (m_kind_at f (k.key w.Function) x.place) (m_then f (m_where f x.automatic (m_kind f (k.key w.Automatic)))
      (m_then f (m_where f x.signed (m_kind f (k.key w.Signed))) (m_then f (m_function_type x.result) (m_then f (m_name f x.name)
      (m_then f (m_function_ports x.ports) (m_then f m_end
      (m_then f (m_each f function_declaration_at function_declaration_at (v.move_function_declaration f) m_function_declaration x.declarations)
      (m_then f (m_stmt x.body) (m_kind f (k.key w.Endfunction))))))))))

  -- ---- items

  generate_if_moved : (b : t.GenerateBlock) → is_generate_if (v.move_generate_block f b) ≡ is_generate_if b
  generate_if_moved (t.single (t.parameter p l x r vs)) = refl
  generate_if_moved (t.single (t.directed d ns)) = refl
  generate_if_moved (t.single (t.nets p x r ns)) = refl
  generate_if_moved (t.single (t.registers p x r vs)) = refl
  generate_if_moved (t.single (t.integer p vs)) = refl
  generate_if_moved (t.single (t.genvar p ns)) = refl
  generate_if_moved (t.single (t.continuous p ds)) = refl
  generate_if_moved (t.single (t.always p e b)) = refl
  generate_if_moved (t.single (t.initial p b)) = refl
  generate_if_moved (t.single (t.function x)) = refl
  generate_if_moved (t.single (t.instances n b is)) = refl
  generate_if_moved (t.single (t.region p is)) = refl
  generate_if_moved (t.single (t.generate_loop p l b)) = refl
  generate_if_moved (t.single (t.generate_if bs o)) = refl
  generate_if_moved (t.several p n is) = refl

  m_values : (x : Option (Option t.Binds)) → Moves f (maybe (λ y. mark m.Hash then in_parens (maybe binds_at y)) x)
      (maybe (λ y. mark m.Hash then in_parens (maybe binds_at y)) (option_map (option_map (v.move_binds f)) x))
  m_values None = m_nothing f
  m_values (Some y) = m_then f (m_kind f (k.mark m.Hash)) (m_parens f (m_maybe_binds y))

  mutual
    m_item : (i : t.Item) → Moves f (item_at i) (item_at (v.move_item f i))
    m_item (t.parameter p l x r vs) =
        m_then f (m_kind_at f (k.key (parameter_word l)) p) (m_then f (m_type x r)
        (m_then f (m_commas f valued_at valued_at (v.move_valued f) m_valued vs) m_end))
    m_item (t.directed d ns) = m_then f (m_directed d) (m_then f (m_names ns) m_end)
    m_item (t.nets p x r ns) =
        m_then f (m_kind_at f (k.key w.Wire) p) (m_then f (m_type x r) (m_then f (m_commas f net_at net_at (v.move_net f) m_net ns) m_end))
    m_item (t.registers p x r vs) =
        m_then f (m_kind_at f (k.key w.Reg) p) (m_then f (m_type x r)
        (m_then f (m_commas f variable_at variable_at (v.move_variable f) m_variable vs) m_end))
    m_item (t.integer p vs) =
        m_then f (m_kind_at f (k.key w.Integer) p) (m_then f (m_commas f variable_at variable_at (v.move_variable f) m_variable vs) m_end)
    m_item (t.genvar p ns) = m_then f (m_kind_at f (k.key w.Genvar) p) (m_then f (m_names ns) m_end)
    m_item (t.continuous p ds) =
        m_then f (m_kind_at f (k.key w.Assign) p) (m_then f (m_commas f driven_at driven_at (v.move_driven f) m_driven ds) m_end)
    m_item (t.always p e b) = m_then f (m_kind_at f (k.key w.Always) p) (m_then f (m_event e) (m_stmt b))
    m_item (t.initial p b) = m_then f (m_kind_at f (k.key w.Initial) p) (m_stmt b)
    m_item (t.function x) = m_function x
    m_item (t.instances n b is) =
        m_then f (m_name f n) (m_then f (m_values b) (m_then f (m_commas f instance_at instance_at (v.move_instance f) m_instance is) m_end))
    m_item (t.region p is) = m_then f (m_kind_at f (k.key w.Generate) p) (m_then f (m_items is) (m_kind f (k.key w.Endgenerate)))
    m_item (t.generate_loop p l b) = m_then f (m_kind_at f (k.key w.For) p) (m_then f (m_loop l) (m_generate_block b))
    m_item (t.generate_if t.no_generate_branch o) = m_nowhere f
    m_item (t.generate_if (t.more_generate_branch p c b bs) o) =
        m_then f (m_kind_at f (k.key w.If) p) (m_then f (m_parens f (m_expr c)) (m_then f (m_generate_block b)
        (m_then f (m_generate_branches bs) (m_generate_else o))))

    m_items : (is : t.Items) → Moves f (items_at is) (items_at (v.move_items f is))
    m_items t.no_item = m_nothing f
    m_items (t.more_item i is) = m_then f (m_item i) (m_items is)

    m_generate_block : (b : t.GenerateBlock) → Moves f (generate_block_at b) (generate_block_at (v.move_generate_block f b))
    m_generate_block (t.single i) = m_item i
    m_generate_block (t.several p n is) =
        m_then f (m_kind_at f (k.key w.Begin) p) (m_then f (m_label n) (m_then f (m_items is) (m_kind f (k.key w.End))))

    m_generate_branches : (bs : t.GenerateBranches)
        → Moves f (generate_branches_at bs) (generate_branches_at (v.move_generate_branches f bs))
    m_generate_branches t.no_generate_branch = m_nothing f
    m_generate_branches (t.more_generate_branch p c b bs) =
        m_then f (m_kind f (k.key w.Else)) (m_then f (m_kind_at f (k.key w.If) p) (m_then f (m_parens f (m_expr c)) (m_then f (m_generate_block b)
        (m_generate_branches bs))))

    m_generate_else : (o : t.GenerateElse) → Moves f (generate_else_at o) (generate_else_at (v.move_generate_else f o))
    m_generate_else t.no_generate_else = m_no_else f
    m_generate_else (t.generate_else b) = m_then f (m_kind f (k.key w.Else)) (m_given f (λ e. generate_if_moved b ∙ e) (m_generate_block b))

  m_header_ports : (x : Option (List t.Port))
      → Moves f (maybe (λ ps. in_parens (ports_at ps)) x) (maybe (λ ps. in_parens (ports_at ps)) (option_map (map (v.move_port f)) x))
  m_header_ports None = m_nothing f
  m_header_ports (Some ps) = m_parens f (m_ports ps)

  m_module : (x : t.Module) → Moves f (module_at x) (module_at (v.move_module f x))
  m_module x =
      m_then f (m_kind_at f (k.key w.Module) x.place) (m_then f (m_name f x.name) (m_then f (m_header_parameters x.parameters)
      (m_then f (m_header_ports x.ports) (m_then f m_end (m_then f (m_items x.items) (m_kind f (k.key w.Endmodule)))))))

  pub m_source : (x : Source) → Moves f (source_at x) (source_at (v.move_source f x))
  m_source = m_each f module_at module_at (v.move_module f) m_module
