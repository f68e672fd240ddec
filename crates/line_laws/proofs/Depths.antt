-- Depths don't depend on places.
use Rattle.std.proofs.Common.{◌≡◌, ◌+◌, ℕ, Bool, List, [], ◌∷◌, ◌++◌, map, Option, Some, None, refl, ◌∙◌, ap}
use Rattle.std.specs.Option.{option_map}
use Rattle.vl_tree.specs.Syntax as t
use Rattle.vl_tree.specs.Syntax.{Place, Name, Range, Loop, Source}
use Rattle.vl_tree.specs.Depth as d
use Rattle.line_laws.specs.Moved as v

-- ---- lists

pub d_append : {xs ys zs us : List ℕ} → xs ≡ ys → zs ≡ us → xs ++ zs ≡ ys ++ us
d_append {ys} {zs} p q = ap (λ x. x ++ zs) p ∙ ap (λ x. ys ++ x) q

d_cons : (n : ℕ) {xs ys : List ℕ} → xs ≡ ys → n ∷ xs ≡ n ∷ ys
d_cons n p = ap (λ x. n ∷ x) p

d_enclosed : (n : ℕ) {xs ys : List ℕ} → xs ≡ ys → d.enclosed n xs ≡ d.enclosed n ys
d_enclosed n p = ap (λ x. n ∷ (x ++ (n ∷ []))) p

module _ {A : Type 0} (h : ℕ → A → List ℕ) (g : A → A) (e : (n : ℕ) (x : A) → h n (g x) ≡ h n x) where
  d_maybe : (n : ℕ) (x : Option A) → d.depths_of h n (option_map g x) ≡ d.depths_of h n x
  d_maybe n None = refl
  d_maybe n (Some x) = e n x

  d_each : (n : ℕ) (xs : List A) → d.each_depth h n (map g xs) ≡ d.each_depth h n xs
  d_each n [] = refl
  d_each n (x ∷ xs) = d_append (e n x) (d_each n xs)

  d_more : (n : ℕ) (xs : List A) → d.more_depths h n (map g xs) ≡ d.more_depths h n xs
  d_more n [] = refl
  d_more n (x ∷ xs) = d_cons n (d_append (e n x) (d_more n xs))

  d_commas : (n : ℕ) (xs : List A) → d.comma_depths h n (map g xs) ≡ d.comma_depths h n xs
  d_commas n [] = refl
  d_commas n (x ∷ xs) = d_append (e n x) (d_more n xs)

module _ (f : Place → Place) where
  -- ---- expressions

  mutual
    d_expr : (n : ℕ) (e : t.Expr) → d.expr_depths n (v.move_expr f e) ≡ d.expr_depths n e
    d_expr n (t.number p l) = refl
    d_expr n (t.read x ss) = d_cons n (d_selects n ss)
    d_expr n (t.call x es) = d_cons n (d_enclosed n (d_exprs (n + 1) es))
    d_expr n (t.system p x e) = d_cons n (d_enclosed n (d_expr (n + 1) e))
    d_expr n (t.group p e) = d_enclosed n (d_expr (n + 1) e)
    d_expr n (t.concat p es) = d_enclosed n (d_exprs (n + 1) es)
    d_expr n (t.repeat p e es) = d_enclosed n (d_append (d_expr (n + 1) e) (d_enclosed (n + 1) (d_exprs (n + 1 + 1) es)))
    d_expr n (t.unary p op e) = d_cons n (d_expr (n + 1) e)
    d_expr n (t.chain e ls) = d_append (d_expr n e) (d_links n ls)
    d_expr n (t.choose cs e) = d_append (d_choices n cs) (d_expr n e)

    d_exprs : (n : ℕ) (es : t.Exprs) → d.exprs_depths n (v.move_exprs f es) ≡ d.exprs_depths n es
    d_exprs n t.no_expr = refl
    d_exprs n (t.more_expr e es) = d_append (d_expr n e) (d_more_exprs n es)

    d_more_exprs : (n : ℕ) (es : t.Exprs) → d.more_exprs_depths n (v.move_exprs f es) ≡ d.more_exprs_depths n es
    d_more_exprs n t.no_expr = refl
    d_more_exprs n (t.more_expr e es) = d_cons n (d_append (d_expr n e) (d_more_exprs n es))

    d_links : (n : ℕ) (ls : t.Links) → d.links_depths n (v.move_links f ls) ≡ d.links_depths n ls
    d_links n t.no_link = refl
    d_links n (t.more_link op p e ls) = d_cons n (d_append (d_expr n e) (d_links n ls))

    d_choices : (n : ℕ) (cs : t.Choices) → d.choices_depths n (v.move_choices f cs) ≡ d.choices_depths n cs
    d_choices n t.no_choice = refl
    d_choices n (t.more_choice c p x cs) =
        d_append (d_expr n c) (d_cons n (d_append (d_expr (n + 1) x) (d_cons n (d_choices n cs))))

    d_selects : (n : ℕ) (ss : t.Selects) → d.selects_depths n (v.move_selects f ss) ≡ d.selects_depths n ss
    d_selects n t.no_select = refl
    d_selects n (t.more_select p x ss) = d_append (d_enclosed n (d_select (n + 1) x)) (d_selects n ss)

    d_select : (n : ℕ) (x : t.Select) → d.select_depths n (v.move_select f x) ≡ d.select_depths n x
    d_select n (t.index i) = d_expr n i
    d_select n (t.part a b) = d_append (d_expr n a) (d_cons n (d_expr n b))
    d_select n (t.upward a b) = d_append (d_expr n a) (d_cons n (d_expr n b))
    d_select n (t.downward a b) = d_append (d_expr n a) (d_cons n (d_expr n b))

  d_range : (n : ℕ) (r : Range) → d.range_depths n (v.move_range f r) ≡ d.range_depths n r
  d_range n r = d_enclosed n (d_append (d_expr (n + 1) r.left) (d_cons (n + 1) (d_expr (n + 1) r.right)))

  -- ---- statements

  mutual
    d_target : (n : ℕ) (x : t.Target) → d.target_depths n (v.move_target f x) ≡ d.target_depths n x
    d_target n (t.name x ss) = d_cons n (d_selects n ss)
    d_target n (t.targets p xs) = d_enclosed n (d_targets (n + 1) xs)

    d_targets : (n : ℕ) (xs : t.Targets) → d.targets_depths n (v.move_targets f xs) ≡ d.targets_depths n xs
    d_targets n t.no_target = refl
    d_targets n (t.more_target x xs) = d_append (d_target n x) (d_more_targets n xs)

    d_more_targets : (n : ℕ) (xs : t.Targets) → d.more_targets_depths n (v.move_targets f xs) ≡ d.more_targets_depths n xs
    d_more_targets n t.no_target = refl
    d_more_targets n (t.more_target x xs) = d_cons n (d_append (d_target n x) (d_more_targets n xs))

  d_label : (n : ℕ) (x : Option Name) → d.label_depths n (option_map (v.move_name f) x) ≡ d.label_depths n x
  d_label n None = refl
  d_label n (Some x) = refl

  d_loop : (n : ℕ) (l : Loop) → d.loop_depths n (v.move_loop f l) ≡ d.loop_depths n l
  d_loop n l =
      d_enclosed n (d_cons (n + 1) (d_cons (n + 1) (d_append (d_expr (n + 1) l.first) (d_cons (n + 1) (d_append (d_expr (n + 1) l.condition)
      (d_cons (n + 1) (d_cons (n + 1) (d_cons (n + 1) (d_expr (n + 1) l.step)))))))))

  d_printed : (n : ℕ) (x : t.Printed) → d.printed_depths n (v.move_printed f x) ≡ d.printed_depths n x
  d_printed n t.bare = refl
  d_printed n t.empty_list = refl
  d_printed n (t.format p s es) = d_enclosed n (d_cons (n + 1) (d_more_exprs (n + 1) es))

  d_stopped : (n : ℕ) (x : t.Stopped) → d.stopped_depths n (v.move_stopped f x) ≡ d.stopped_depths n x
  d_stopped n t.no_argument = refl
  d_stopped n t.empty_argument = refl
  d_stopped n (t.argument e) = d_enclosed n (d_expr (n + 1) e)

  mutual
    d_stmt : (n : ℕ) (b : t.Stmt) → d.stmt_depths n (v.move_stmt f b) ≡ d.stmt_depths n b
    d_stmt n (t.empty p) = refl
    d_stmt n (t.block p x ss) = d_cons n (d_append (d_label n x) (d_append (d_stmts (n + 1) ss) refl))
    d_stmt n (t.conditional bs o) = d_append (d_branches n bs) (d_otherwise n o)
    d_stmt n (t.select p z e arms) = d_cons n (d_append (d_enclosed n (d_expr (n + 1) e)) (d_append (d_arms (n + 1) arms) refl))
    d_stmt n (t.loop p l b) = d_cons n (d_append (d_loop n l) (d_stmt (n + 1) b))
    d_stmt n (t.assign x a p e) = d_append (d_target n x) (d_cons n (d_append (d_expr n e) refl))
    d_stmt n (t.print p a b) = d_cons n (d_append (d_printed n b) refl)
    d_stmt n (t.file_print p e q s es) =
        d_cons n (d_append (d_enclosed n (d_append (d_expr (n + 1) e) (d_cons (n + 1) (d_cons (n + 1) (d_more_exprs (n + 1) es))))) refl)
    d_stmt n (t.stop p a) = d_cons n (d_append (d_stopped n a) refl)
    d_stmt n (t.fatal p a) = refl

    d_stmts : (n : ℕ) (bs : t.Stmts) → d.stmts_depths n (v.move_stmts f bs) ≡ d.stmts_depths n bs
    d_stmts n t.no_stmt = refl
    d_stmts n (t.more_stmt b bs) = d_append (d_stmt n b) (d_stmts n bs)

    d_branches : (n : ℕ) (bs : t.Branches) → d.branches_depths n (v.move_branches f bs) ≡ d.branches_depths n bs
    d_branches n t.no_branch = refl
    d_branches n (t.more_branch p c b bs) =
        d_cons n (d_append (d_enclosed n (d_expr (n + 1) c)) (d_append (d_stmt (n + 1) b) (d_more_branches n bs)))

    d_more_branches : (n : ℕ) (bs : t.Branches) → d.more_branches_depths n (v.move_branches f bs) ≡ d.more_branches_depths n bs
    d_more_branches n t.no_branch = refl
    d_more_branches n (t.more_branch p c b bs) =
        d_cons n (d_cons n (d_append (d_enclosed n (d_expr (n + 1) c)) (d_append (d_stmt (n + 1) b) (d_more_branches n bs))))

    d_otherwise : (n : ℕ) (o : t.Otherwise) → d.otherwise_depths n (v.move_otherwise f o) ≡ d.otherwise_depths n o
    d_otherwise n t.no_else = refl
    d_otherwise n (t.else_stmt b) = d_cons n (d_stmt (n + 1) b)

    d_arms : (n : ℕ) (xs : t.Arms) → d.arms_depths n (v.move_arms f xs) ≡ d.arms_depths n xs
    d_arms n t.no_arm = refl
    d_arms n (t.more_arm es b more) = d_append (d_exprs n es) (d_cons n (d_append (d_stmt (n + 1) b) (d_arms n more)))
    d_arms n (t.default_arm p c b more) = d_cons n (d_append refl (d_append (d_stmt (n + 1) b) (d_arms n more)))

  -- ---- declarations

  d_type : (n : ℕ) (x : Bool) (r : Option Range) → d.type_depths n x (option_map (v.move_range f) r) ≡ d.type_depths n x r
  d_type n x r = d_append refl (d_maybe d.range_depths (v.move_range f) d_range n r)

  d_directed : (n : ℕ) (x : t.Directed) → d.directed_depths n (v.move_directed f x) ≡ d.directed_depths n x
  d_directed n x = d_cons n (d_append refl (d_type n x.signed x.range))

  d_value : (n : ℕ) (e : t.Expr) → d.value_depths n (v.move_expr f e) ≡ d.value_depths n e
  d_value n e = d_cons n (d_expr n e)

  d_valued : (n : ℕ) (x : t.Valued) → d.valued_depths n (v.move_valued f x) ≡ d.valued_depths n x
  d_valued n x = d_cons n (d_cons n (d_expr n x.value))

  d_net : (n : ℕ) (x : t.Net) → d.net_depths n (v.move_net f x) ≡ d.net_depths n x
  d_net n x = d_cons n (d_maybe d.value_depths (v.move_expr f) d_value n x.value)

  d_variable : (n : ℕ) (x : t.Variable) → d.variable_depths n (v.move_variable f x) ≡ d.variable_depths n x
  d_variable n (t.variable x) = refl
  d_variable n (t.valued x e) = d_cons n (d_value n e)
  d_variable n (t.memory x r) = d_cons n (d_range n r)

  d_driven : (n : ℕ) (x : t.Driven) → d.driven_depths n (v.move_driven f x) ≡ d.driven_depths n x
  d_driven n x = d_append (d_target n x.target) (d_value n x.value)

  d_edge : (n : ℕ) (x : t.Edge) → d.edge_depths n (v.move_edge f x) ≡ d.edge_depths n x
  d_edge n (t.positive_edge p) = refl
  d_edge n (t.negative_edge p) = refl
  d_edge n t.no_edge = refl

  d_sensed : (n : ℕ) (x : t.Sensed) → d.sensed_depths n (v.move_sensed f x) ≡ d.sensed_depths n x
  d_sensed n x = d_append (d_edge n x.edge) (d_expr n x.signal)

  d_event : (n : ℕ) (x : t.Event) → d.event_depths n (v.move_event f x) ≡ d.event_depths n x
  d_event n t.any_read = refl
  d_event n t.any_read_list = refl
  d_event n (t.sensed xs) = d_cons n (d_enclosed n (d_commas d.sensed_depths (v.move_sensed f) d_sensed (n + 1) xs))

  d_named_bind : (n : ℕ) (x : t.NamedBind) → d.named_bind_depths n (v.move_named_bind f x) ≡ d.named_bind_depths n x
  d_named_bind n x = d_cons n (d_cons n (d_enclosed n (d_maybe d.expr_depths (v.move_expr f) d_expr (n + 1) x.value)))

  d_binds : (n : ℕ) (x : t.Binds) → d.binds_depths n (v.move_binds f x) ≡ d.binds_depths n x
  d_binds n (t.ordered es) = d_exprs n es
  d_binds n (t.by_name bs) = d_commas d.named_bind_depths (v.move_named_bind f) d_named_bind n bs

  d_maybe_binds : (n : ℕ) (x : Option t.Binds)
      → d.depths_of d.binds_depths n (option_map (v.move_binds f) x) ≡ d.depths_of d.binds_depths n x
  d_maybe_binds = d_maybe d.binds_depths (v.move_binds f) d_binds

  d_instance : (n : ℕ) (x : t.Instance) → d.instance_depths n (v.move_instance f x) ≡ d.instance_depths n x
  d_instance n x = d_cons n (d_enclosed n (d_maybe_binds (n + 1) x.binds))

  d_parameter_binds : (n : ℕ) (x : Option t.Binds)
      → d.parameter_binds_depths n (option_map (v.move_binds f) x) ≡ d.parameter_binds_depths n x
  d_parameter_binds n x = d_cons n (d_enclosed n (d_maybe_binds (n + 1) x))

  d_header_parameter : (n : ℕ) (x : t.HeaderParameter)
      → d.header_parameter_depths n (v.move_header_parameter f x) ≡ d.header_parameter_depths n x
  d_header_parameter n (t.declared_parameter p s r x e) = d_cons n (d_append (d_type n s r) (d_cons n (d_value n e)))
  d_header_parameter n (t.next_parameter x e) = d_cons n (d_value n e)

  d_header_parameters : (n : ℕ) (xs : List t.HeaderParameter)
      → d.header_parameters_depths n (map (v.move_header_parameter f) xs) ≡ d.header_parameters_depths n xs
  d_header_parameters n [] = refl
  d_header_parameters n (x ∷ xs) =
      d_cons n (d_enclosed n (d_commas d.header_parameter_depths (v.move_header_parameter f) d_header_parameter (n + 1) (x ∷ xs)))

  d_port : (n : ℕ) (x : t.Port) → d.port_depths n (v.move_port f x) ≡ d.port_depths n x
  d_port n (t.declared_port x y) = d_append (d_directed n x) refl
  d_port n (t.named_port x) = refl

  d_function_type : (n : ℕ) (x : t.FunctionType) → d.function_type_depths n (v.move_function_type f x) ≡ d.function_type_depths n x
  d_function_type n t.bit_result = refl
  d_function_type n (t.range_result r) = d_range n r
  d_function_type n t.integer_result = refl

  d_function_port : (n : ℕ) (x : t.FunctionPort) → d.function_port_depths n (v.move_function_port f x) ≡ d.function_port_depths n x
  d_function_port n (t.declared_input p s r x) = d_cons n (d_append (d_type n s r) refl)
  d_function_port n (t.named_input x) = refl

  d_ports : (n : ℕ) (xs : List t.Port) → d.ports_depths n (map (v.move_port f) xs) ≡ d.ports_depths n xs
  d_ports n xs = d_enclosed n (d_commas d.port_depths (v.move_port f) d_port (n + 1) xs)

  d_function_ports : (n : ℕ) (xs : List t.FunctionPort)
      → d.function_ports_depths n (map (v.move_function_port f) xs) ≡ d.function_ports_depths n xs
  d_function_ports n [] = refl
  d_function_ports n (x ∷ xs) =
      d_enclosed n (d_commas d.function_port_depths (v.move_function_port f) d_function_port (n + 1) (x ∷ xs))

  d_names : (n : ℕ) (xs : List Name) → d.comma_depths d.name_depth n (map (v.move_name f) xs) ≡ d.comma_depths d.name_depth n xs
  d_names = d_commas d.name_depth (v.move_name f) (λ n x. refl)

  d_function_declaration : (n : ℕ) (x : t.FunctionDeclaration)
      → d.function_declaration_depths n (v.move_function_declaration f x) ≡ d.function_declaration_depths n x
  d_function_declaration n (t.inputs p s r ns) = d_cons n (d_append (d_type n s r) (d_append (d_names n ns) refl))
  d_function_declaration n (t.variables p s r ns) = d_cons n (d_append (d_type n s r) (d_append (d_names n ns) refl))
  d_function_declaration n (t.integers p ns) = d_cons n (d_append (d_names n ns) refl)

  d_function : (n : ℕ) (x : t.Function) → d.function_depths n (v.move_function f x) ≡ d.function_depths n x
  d_function n x =
      d_cons n (d_append refl (d_append refl (d_append (d_function_type n x.result) (d_cons n (d_append (d_function_ports n x.ports) (d_cons n
      (d_append (d_each d.function_declaration_depths (v.move_function_declaration f) d_function_declaration (n + 1) x.declarations)
      (d_append (d_stmt (n + 1) x.body) refl))))))))

  -- ---- items

  mutual
    d_item : (n : ℕ) (i : t.Item) → d.item_depths n (v.move_item f i) ≡ d.item_depths n i
    d_item n (t.parameter p l s r vs) =
        d_cons n (d_append (d_type n s r) (d_append (d_commas d.valued_depths (v.move_valued f) d_valued n vs) refl))
    d_item n (t.directed x ns) = d_append (d_directed n x) (d_append (d_names n ns) refl)
    d_item n (t.nets p s r ns) = d_cons n (d_append (d_type n s r) (d_append (d_commas d.net_depths (v.move_net f) d_net n ns) refl))
    d_item n (t.registers p s r vs) =
        d_cons n (d_append (d_type n s r) (d_append (d_commas d.variable_depths (v.move_variable f) d_variable n vs) refl))
    d_item n (t.integer p vs) = d_cons n (d_append (d_commas d.variable_depths (v.move_variable f) d_variable n vs) refl)
    d_item n (t.genvar p ns) = d_cons n (d_append (d_names n ns) refl)
    d_item n (t.continuous p ds) = d_cons n (d_append (d_commas d.driven_depths (v.move_driven f) d_driven n ds) refl)
    d_item n (t.always p e b) = d_cons n (d_append (d_event n e) (d_stmt n b))
    d_item n (t.initial p b) = d_cons n (d_stmt n b)
    d_item n (t.function x) = d_function n x
    d_item n (t.instances x b is) =
        d_cons n (d_append (d_maybe d.parameter_binds_depths (option_map (v.move_binds f)) d_parameter_binds n b)
        (d_append (d_commas d.instance_depths (v.move_instance f) d_instance n is) refl))
    d_item n (t.region p is) = d_enclosed n (d_items (n + 1) is)
    d_item n (t.generate_loop p l b) = d_cons n (d_append (d_loop n l) (d_generate_block (n + 1) b))
    d_item n (t.generate_if bs o) = d_append (d_generate_branches n bs) (d_generate_else n o)

    d_items : (n : ℕ) (is : t.Items) → d.items_depths n (v.move_items f is) ≡ d.items_depths n is
    d_items n t.no_item = refl
    d_items n (t.more_item i is) = d_append (d_item n i) (d_items n is)

    d_generate_block : (n : ℕ) (b : t.GenerateBlock) → d.generate_block_depths n (v.move_generate_block f b) ≡ d.generate_block_depths n b
    d_generate_block n (t.single i) = d_item n i
    d_generate_block n (t.several p x is) = d_cons n (d_append (d_label n x) (d_append (d_items (n + 1) is) refl))

    d_generate_branches : (n : ℕ) (bs : t.GenerateBranches)
        → d.generate_branches_depths n (v.move_generate_branches f bs) ≡ d.generate_branches_depths n bs
    d_generate_branches n t.no_generate_branch = refl
    d_generate_branches n (t.more_generate_branch p c b bs) =
        d_cons n (d_append (d_enclosed n (d_expr (n + 1) c)) (d_append (d_generate_block (n + 1) b) (d_more_generate_branches n bs)))

    d_more_generate_branches : (n : ℕ) (bs : t.GenerateBranches)
        → d.more_generate_branches_depths n (v.move_generate_branches f bs) ≡ d.more_generate_branches_depths n bs
    d_more_generate_branches n t.no_generate_branch = refl
    d_more_generate_branches n (t.more_generate_branch p c b bs) =
        d_cons n (d_cons n (d_append (d_enclosed n (d_expr (n + 1) c)) (d_append (d_generate_block (n + 1) b) (d_more_generate_branches n bs))))

    d_generate_else : (n : ℕ) (o : t.GenerateElse) → d.generate_else_depths n (v.move_generate_else f o) ≡ d.generate_else_depths n o
    d_generate_else n t.no_generate_else = refl
    d_generate_else n (t.generate_else b) = d_cons n (d_generate_block (n + 1) b)

  d_header_ports : (n : ℕ) (x : Option (List t.Port))
      → d.depths_of d.ports_depths n (option_map (map (v.move_port f)) x) ≡ d.depths_of d.ports_depths n x
  d_header_ports = d_maybe d.ports_depths (map (v.move_port f)) d_ports

  d_module : (n : ℕ) (x : t.Module) → d.module_depths n (v.move_module f x) ≡ d.module_depths n x
  d_module n x =
      d_cons n (d_cons n (d_append (d_header_parameters n x.parameters) (d_append (d_header_ports n x.ports) (d_cons n
      (d_append (d_items (n + 1) x.items) refl)))))

  pub d_source : (s : Source) → d.source_depths (v.move_source f s) ≡ d.source_depths s
  d_source s = d_each d.module_depths (v.move_module f) d_module 0 s
