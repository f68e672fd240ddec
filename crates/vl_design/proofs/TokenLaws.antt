-- How many tokens a tree has doesn't depend on how deep it stands.
use Rattle.std.proofs.Common.{◌≡◌, refl, ap, sym, ◌∙◌, ℕ, suc, ◌+◌, Bool, true, false, List, [], ◌∷◌, ◌++◌, length, Option, Some, None, arith}
use Rattle.vl_tree.specs.Syntax as t
use Rattle.vl_tree.specs.Syntax.{Range, Loop, Name}
use Rattle.vl_tree.specs.Depth.{arms_depths, binds_depths, branches_depths, choices_depths, comma_depths, depths_of, directed_depths, driven_depths, each_depth, edge_depths, enclosed, event_depths, expr_depths, exprs_depths, function_declaration_depths, function_depths, function_port_depths, function_ports_depths, function_type_depths, generate_block_depths, generate_branches_depths, generate_else_depths, instance_depths, item_depths, items_depths, kept_depth, label_depths, links_depths, loop_depths, more_branches_depths, more_depths, more_exprs_depths, more_generate_branches_depths, more_targets_depths, name_depth, named_bind_depths, net_depths, one_if, otherwise_depths, parameter_binds_depths, printed_depths, range_depths, select_depths, selects_depths, sensed_depths, stmt_depths, stmts_depths, stopped_depths, target_depths, targets_depths, type_depths, value_depths, valued_depths, variable_depths}

-- ---- lists

pub lengthened : (xs us : List ℕ) → length (xs ++ us) ≡ length xs + length us
lengthened [] us = omega arith
lengthened (x ∷ xs) us = let h = lengthened xs us in omega (arith, h)

appended : (xs ys us vs : List ℕ) → length xs ≡ length ys → length us ≡ length vs → length (xs ++ us) ≡ length (ys ++ vs)
appended xs ys us vs h k = lengthened xs us ∙ (λ i. h i + k i) ∙ sym (lengthened ys vs)

bracketed : (d e : ℕ) (xs ys : List ℕ) → length xs ≡ length ys → length (enclosed d xs) ≡ length (enclosed e ys)
bracketed d e xs ys h = ap suc (appended xs ys (d ∷ []) (e ∷ []) h refl)

if_alike : (d e : ℕ) (b : Bool) → length (one_if d b) ≡ length (one_if e b)
if_alike d e true = refl
if_alike d e false = refl

-- a function whose lists have one length at every depth
abbrev IsAlike : {A : Type 0} → (ℕ → A → List ℕ) → Type 0
IsAlike {A} f = (d e : ℕ) (a : A) → length (f d a) ≡ length (f e a)

of_option : {A : Type 0} → (f : ℕ → A → List ℕ) → IsAlike f → (d e : ℕ) (o : Option A) → length (depths_of f d o) ≡ length (depths_of f e o)
of_option f h d e None = refl
of_option f h d e (Some a) = h d e a

of_each : {A : Type 0} → (f : ℕ → A → List ℕ) → IsAlike f → (d e : ℕ) (l : List A) → length (each_depth f d l) ≡ length (each_depth f e l)
of_each f h d e [] = refl
of_each f h d e (a ∷ more) = appended (f d a) (f e a) (each_depth f d more) (each_depth f e more) (h d e a) (of_each f h d e more)

of_more : {A : Type 0} → (f : ℕ → A → List ℕ) → IsAlike f → (d e : ℕ) (l : List A) → length (more_depths f d l) ≡ length (more_depths f e l)
of_more f h d e [] = refl
of_more f h d e (a ∷ more) = ap suc (appended (f d a) (f e a) (more_depths f d more) (more_depths f e more) (h d e a) (of_more f h d e more))

of_commas : {A : Type 0} → (f : ℕ → A → List ℕ) → IsAlike f → (d e : ℕ) (l : List A) → length (comma_depths f d l) ≡ length (comma_depths f e l)
of_commas f h d e [] = refl
of_commas f h d e (a ∷ more) = appended (f d a) (f e a) (more_depths f d more) (more_depths f e more) (h d e a) (of_more f h d e more)

-- ---- trees

pub name_alike : (d m : ℕ) (x : Name) → length (name_depth d x) ≡ length (name_depth m x)
name_alike d m n = ap suc refl

mutual
  pub expr_alike : (d m : ℕ) (x : t.Expr) → length (expr_depths d x) ≡ length (expr_depths m x)
  expr_alike d m (t.number p l) = ap suc refl
  expr_alike d m (t.read n ss) = ap suc (selects_alike d m ss)
  expr_alike d m (t.call n es) = ap suc (bracketed d m ((exprs_depths (d + 1) es)) ((exprs_depths (m + 1) es))
      (exprs_alike (d + 1) (m + 1) es))
  expr_alike d m (t.system p f e) = ap suc (bracketed d m ((expr_depths (d + 1) e)) ((expr_depths (m + 1) e))
      (expr_alike (d + 1) (m + 1) e))
  expr_alike d m (t.group p e) = bracketed d m ((expr_depths (d + 1) e)) ((expr_depths (m + 1) e)) (expr_alike (d +
      1) (m + 1) e)
  expr_alike d m (t.concat p es) = bracketed d m ((exprs_depths (d + 1) es)) ((exprs_depths (m + 1) es))
      (exprs_alike (d + 1) (m + 1) es)
  expr_alike d m (t.repeat p n es) = bracketed d m ((expr_depths (d + 1) n ++ enclosed (d + 1) (exprs_depths (d + 1
      + 1) es))) ((expr_depths (m + 1) n ++ enclosed (m + 1) (exprs_depths (m + 1 + 1) es))) (appended (expr_depths
      (d + 1) n) (expr_depths (m + 1) n) (enclosed (d + 1) (exprs_depths (d + 1 + 1) es)) (enclosed (m + 1)
      (exprs_depths (m + 1 + 1) es)) (expr_alike (d + 1) (m + 1) n) (bracketed (d + 1) (m + 1) ((exprs_depths (d +
      1 + 1) es)) ((exprs_depths (m + 1 + 1) es)) (exprs_alike (d + 1 + 1) (m + 1 + 1) es)))
  expr_alike d m (t.unary p op e) = ap suc (expr_alike (d + 1) (m + 1) e)
  expr_alike d m (t.chain e ls) = appended (expr_depths d e) (expr_depths m e) (links_depths d ls) (links_depths m
      ls) (expr_alike d m e) (links_alike d m ls)
  expr_alike d m (t.choose cs e) = appended (choices_depths d cs) (choices_depths m cs) (expr_depths d e)
      (expr_depths m e) (choices_alike d m cs) (expr_alike d m e)

  pub exprs_alike : (d m : ℕ) (x : t.Exprs) → length (exprs_depths d x) ≡ length (exprs_depths m x)
  exprs_alike d m t.no_expr = refl
  exprs_alike d m (t.more_expr e es) = appended (expr_depths d e) (expr_depths m e) (more_exprs_depths d es)
      (more_exprs_depths m es) (expr_alike d m e) (more_exprs_alike d m es)

  pub more_exprs_alike : (d m : ℕ) (x : t.Exprs) → length (more_exprs_depths d x) ≡ length (more_exprs_depths m x)
  more_exprs_alike d m t.no_expr = refl
  more_exprs_alike d m (t.more_expr e es) = ap suc (appended (expr_depths d e) (expr_depths m e) (more_exprs_depths
      d es) (more_exprs_depths m es) (expr_alike d m e) (more_exprs_alike d m es))

  pub links_alike : (d m : ℕ) (x : t.Links) → length (links_depths d x) ≡ length (links_depths m x)
  links_alike d m t.no_link = refl
  links_alike d m (t.more_link op p e ls) = ap suc (appended (expr_depths d e) (expr_depths m e) (links_depths d
      ls) (links_depths m ls) (expr_alike d m e) (links_alike d m ls))

  pub choices_alike : (d m : ℕ) (x : t.Choices) → length (choices_depths d x) ≡ length (choices_depths m x)
  choices_alike d m t.no_choice = refl
  choices_alike d m (t.more_choice c p v cs) = appended (expr_depths d c) (expr_depths m c) ((d ∷ (expr_depths (d +
      1) v ++ (d ∷ choices_depths d cs)))) ((m ∷ (expr_depths (m + 1) v ++ (m ∷ choices_depths m cs)))) (expr_alike
      d m c) (ap suc (appended (expr_depths (d + 1) v) (expr_depths (m + 1) v) (d ∷ choices_depths d cs) (m ∷
      choices_depths m cs) (expr_alike (d + 1) (m + 1) v) (ap suc (choices_alike d m cs))))

  pub selects_alike : (d m : ℕ) (x : t.Selects) → length (selects_depths d x) ≡ length (selects_depths m x)
  selects_alike d m t.no_select = refl
  selects_alike d m (t.more_select p x ss) = appended (enclosed d (select_depths (d + 1) x)) (enclosed m
      (select_depths (m + 1) x)) (selects_depths d ss) (selects_depths m ss) (bracketed d m ((select_depths (d + 1)
      x)) ((select_depths (m + 1) x)) (select_alike (d + 1) (m + 1) x)) (selects_alike d m ss)

  pub select_alike : (d m : ℕ) (x : t.Select) → length (select_depths d x) ≡ length (select_depths m x)
  select_alike d m (t.index i) = expr_alike d m i
  select_alike d m (t.part a b) = appended (expr_depths d a) (expr_depths m a) (d ∷ expr_depths d b) (m ∷
      expr_depths m b) (expr_alike d m a) (ap suc (expr_alike d m b))
  select_alike d m (t.upward a b) = appended (expr_depths d a) (expr_depths m a) (d ∷ expr_depths d b) (m ∷
      expr_depths m b) (expr_alike d m a) (ap suc (expr_alike d m b))
  select_alike d m (t.downward a b) = appended (expr_depths d a) (expr_depths m a) (d ∷ expr_depths d b) (m ∷
      expr_depths m b) (expr_alike d m a) (ap suc (expr_alike d m b))

pub range_alike : (d m : ℕ) (x : Range) → length (range_depths d x) ≡ length (range_depths m x)
range_alike d m r = bracketed d m ((expr_depths (d + 1) r.left ++ ((d + 1) ∷ expr_depths (d + 1) r.right)))
    ((expr_depths (m + 1) r.left ++ ((m + 1) ∷ expr_depths (m + 1) r.right))) (appended (expr_depths (d + 1)
    r.left) (expr_depths (m + 1) r.left) (((d + 1) ∷ expr_depths (d + 1) r.right)) (((m + 1) ∷ expr_depths (m + 1)
    r.right)) (expr_alike (d + 1) (m + 1) r.left) (ap suc (expr_alike (d + 1) (m + 1) r.right)))

mutual
  pub target_alike : (d m : ℕ) (x : t.Target) → length (target_depths d x) ≡ length (target_depths m x)
  target_alike d m (t.name n ss) = ap suc (selects_alike d m ss)
  target_alike d m (t.targets p xs) = bracketed d m ((targets_depths (d + 1) xs)) ((targets_depths (m + 1) xs))
      (targets_alike (d + 1) (m + 1) xs)

  pub targets_alike : (d m : ℕ) (x : t.Targets) → length (targets_depths d x) ≡ length (targets_depths m x)
  targets_alike d m t.no_target = refl
  targets_alike d m (t.more_target x xs) = appended (target_depths d x) (target_depths m x) (more_targets_depths d
      xs) (more_targets_depths m xs) (target_alike d m x) (more_targets_alike d m xs)

  pub more_targets_alike : (d m : ℕ) (x : t.Targets) → length (more_targets_depths d x) ≡ length (more_targets_depths m x)
  more_targets_alike d m t.no_target = refl
  more_targets_alike d m (t.more_target x xs) = ap suc (appended (target_depths d x) (target_depths m x)
      (more_targets_depths d xs) (more_targets_depths m xs) (target_alike d m x) (more_targets_alike d m xs))

pub label_alike : (d m : ℕ) (x : Option Name) → length (label_depths d x) ≡ length (label_depths m x)
label_alike d m None = refl
label_alike d m (Some n) = ap suc (ap suc refl)

pub loop_alike : (d m : ℕ) (x : Loop) → length (loop_depths d x) ≡ length (loop_depths m x)
loop_alike d m l = bracketed d m (((d + 1) ∷ (d + 1) ∷ (expr_depths (d + 1) l.first ++ ((d + 1) ∷ (expr_depths (d +
    1) l.condition ++ ((d + 1) ∷ (d + 1) ∷ (d + 1) ∷ expr_depths (d + 1) l.step)))))) (((m + 1) ∷ (m + 1) ∷
    (expr_depths (m + 1) l.first ++ ((m + 1) ∷ (expr_depths (m + 1) l.condition ++ ((m + 1) ∷ (m + 1) ∷ (m + 1) ∷
    expr_depths (m + 1) l.step)))))) (ap suc (ap suc (appended (expr_depths (d + 1) l.first) (expr_depths (m + 1)
    l.first) (((d + 1) ∷ (expr_depths (d + 1) l.condition ++ ((d + 1) ∷ (d + 1) ∷ (d + 1) ∷ expr_depths (d + 1)
    l.step)))) (((m + 1) ∷ (expr_depths (m + 1) l.condition ++ ((m + 1) ∷ (m + 1) ∷ (m + 1) ∷ expr_depths (m + 1)
    l.step)))) (expr_alike (d + 1) (m + 1) l.first) (ap suc (appended (expr_depths (d + 1) l.condition)
    (expr_depths (m + 1) l.condition) (((d + 1) ∷ (d + 1) ∷ (d + 1) ∷ expr_depths (d + 1) l.step)) (((m + 1) ∷ (m +
    1) ∷ (m + 1) ∷ expr_depths (m + 1) l.step)) (expr_alike (d + 1) (m + 1) l.condition) (ap suc (ap suc (ap suc
    (expr_alike (d + 1) (m + 1) l.step)))))))))

pub printed_alike : (d m : ℕ) (x : t.Printed) → length (printed_depths d x) ≡ length (printed_depths m x)
printed_alike d m t.bare = refl
printed_alike d m t.empty_list = ap suc (ap suc refl)
printed_alike d m (t.format p s es) = bracketed d m (((d + 1) ∷ more_exprs_depths (d + 1) es)) (((m + 1) ∷
    more_exprs_depths (m + 1) es)) (ap suc (more_exprs_alike (d + 1) (m + 1) es))

pub stopped_alike : (d m : ℕ) (x : t.Stopped) → length (stopped_depths d x) ≡ length (stopped_depths m x)
stopped_alike d m t.no_argument = refl
stopped_alike d m t.empty_argument = ap suc (ap suc refl)
stopped_alike d m (t.argument e) = bracketed d m ((expr_depths (d + 1) e)) ((expr_depths (m + 1) e)) (expr_alike (d
    + 1) (m + 1) e)

mutual
  pub stmt_alike : (d m : ℕ) (x : t.Stmt) → length (stmt_depths d x) ≡ length (stmt_depths m x)
  stmt_alike d m (t.empty p) = ap suc refl
  stmt_alike d m (t.block p n ss) = ap suc (appended (label_depths d n) (label_depths m n) ((stmts_depths (d + 1)
      ss ++ (d ∷ []))) ((stmts_depths (m + 1) ss ++ (m ∷ []))) (label_alike d m n) (appended (stmts_depths (d + 1)
      ss) (stmts_depths (m + 1) ss) (d ∷ []) (m ∷ []) (stmts_alike (d + 1) (m + 1) ss) (ap suc refl)))
  stmt_alike d m (t.conditional bs o) = appended (branches_depths d bs) (branches_depths m bs) (otherwise_depths d
      o) (otherwise_depths m o) (branches_alike d m bs) (otherwise_alike d m o)
  stmt_alike d m (t.select p z e arms) = ap suc (appended (enclosed d (expr_depths (d + 1) e)) (enclosed m
      (expr_depths (m + 1) e)) ((arms_depths (d + 1) arms ++ (d ∷ []))) ((arms_depths (m + 1) arms ++ (m ∷ [])))
      (bracketed d m ((expr_depths (d + 1) e)) ((expr_depths (m + 1) e)) (expr_alike (d + 1) (m + 1) e)) (appended
      (arms_depths (d + 1) arms) (arms_depths (m + 1) arms) (d ∷ []) (m ∷ []) (arms_alike (d + 1) (m + 1) arms) (ap
      suc refl)))
  stmt_alike d m (t.loop p l b) = ap suc (appended (loop_depths d l) (loop_depths m l) (stmt_depths (d + 1) b)
      (stmt_depths (m + 1) b) (loop_alike d m l) (stmt_alike (d + 1) (m + 1) b))
  stmt_alike d m (t.assign x a p e) = appended (target_depths d x) (target_depths m x) ((d ∷ (expr_depths d e ++ (d
      ∷ [])))) ((m ∷ (expr_depths m e ++ (m ∷ [])))) (target_alike d m x) (ap suc (appended (expr_depths d e)
      (expr_depths m e) (d ∷ []) (m ∷ []) (expr_alike d m e) (ap suc refl)))
  stmt_alike d m (t.print p a b) = ap suc (appended (printed_depths d b) (printed_depths m b) (d ∷ []) (m ∷ [])
      (printed_alike d m b) (ap suc refl))
  stmt_alike d m (t.file_print p e q s es) = ap suc (appended (enclosed d (expr_depths (d + 1) e ++ ((d + 1) ∷ (d +
      1) ∷ more_exprs_depths (d + 1) es))) (enclosed m (expr_depths (m + 1) e ++ ((m + 1) ∷ (m + 1) ∷
      more_exprs_depths (m + 1) es))) (d ∷ []) (m ∷ []) (bracketed d m ((expr_depths (d + 1) e ++ ((d + 1) ∷ (d +
      1) ∷ more_exprs_depths (d + 1) es))) ((expr_depths (m + 1) e ++ ((m + 1) ∷ (m + 1) ∷ more_exprs_depths (m +
      1) es))) (appended (expr_depths (d + 1) e) (expr_depths (m + 1) e) (((d + 1) ∷ (d + 1) ∷ more_exprs_depths (d
      + 1) es)) (((m + 1) ∷ (m + 1) ∷ more_exprs_depths (m + 1) es)) (expr_alike (d + 1) (m + 1) e) (ap suc (ap suc
      (more_exprs_alike (d + 1) (m + 1) es))))) (ap suc refl))
  stmt_alike d m (t.stop p a) = ap suc (appended (stopped_depths d a) (stopped_depths m a) (d ∷ []) (m ∷ [])
      (stopped_alike d m a) (ap suc refl))
  stmt_alike d m (t.fatal p a) = ap suc (appended (one_if d a) (one_if m a) ((one_if d a ++ (d ∷ []))) ((one_if m a
      ++ (m ∷ []))) (if_alike d m a) (appended (one_if d a) (one_if m a) (d ∷ []) (m ∷ []) (if_alike d m a) (ap suc
      refl)))

  pub stmts_alike : (d m : ℕ) (x : t.Stmts) → length (stmts_depths d x) ≡ length (stmts_depths m x)
  stmts_alike d m t.no_stmt = refl
  stmts_alike d m (t.more_stmt b bs) = appended (stmt_depths d b) (stmt_depths m b) (stmts_depths d bs)
      (stmts_depths m bs) (stmt_alike d m b) (stmts_alike d m bs)

  pub branches_alike : (d m : ℕ) (x : t.Branches) → length (branches_depths d x) ≡ length (branches_depths m x)
  branches_alike d m t.no_branch = refl
  branches_alike d m (t.more_branch p c b bs) = ap suc (appended (enclosed d (expr_depths (d + 1) c)) (enclosed m
      (expr_depths (m + 1) c)) ((stmt_depths (d + 1) b ++ more_branches_depths d bs)) ((stmt_depths (m + 1) b ++
      more_branches_depths m bs)) (bracketed d m ((expr_depths (d + 1) c)) ((expr_depths (m + 1) c)) (expr_alike (d
      + 1) (m + 1) c)) (appended (stmt_depths (d + 1) b) (stmt_depths (m + 1) b) (more_branches_depths d bs)
      (more_branches_depths m bs) (stmt_alike (d + 1) (m + 1) b) (more_branches_alike d m bs)))

  pub more_branches_alike : (d m : ℕ) (x : t.Branches) → length (more_branches_depths d x) ≡ length (more_branches_depths m x)
  more_branches_alike d m t.no_branch = refl
  more_branches_alike d m (t.more_branch p c b bs) = ap suc (ap suc (appended (enclosed d (expr_depths (d + 1) c))
      (enclosed m (expr_depths (m + 1) c)) ((stmt_depths (d + 1) b ++ more_branches_depths d bs)) ((stmt_depths (m
      + 1) b ++ more_branches_depths m bs)) (bracketed d m ((expr_depths (d + 1) c)) ((expr_depths (m + 1) c))
      (expr_alike (d + 1) (m + 1) c)) (appended (stmt_depths (d + 1) b) (stmt_depths (m + 1) b)
      (more_branches_depths d bs) (more_branches_depths m bs) (stmt_alike (d + 1) (m + 1) b) (more_branches_alike d
      m bs))))

  pub otherwise_alike : (d m : ℕ) (x : t.Otherwise) → length (otherwise_depths d x) ≡ length (otherwise_depths m x)
  otherwise_alike d m t.no_else = refl
  otherwise_alike d m (t.else_stmt b) = ap suc (stmt_alike (d + 1) (m + 1) b)

  pub arms_alike : (d m : ℕ) (x : t.Arms) → length (arms_depths d x) ≡ length (arms_depths m x)
  arms_alike d m t.no_arm = refl
  arms_alike d m (t.more_arm es b more) = appended (exprs_depths d es) (exprs_depths m es) ((d ∷ (stmt_depths (d +
      1) b ++ arms_depths d more))) ((m ∷ (stmt_depths (m + 1) b ++ arms_depths m more))) (exprs_alike d m es) (ap
      suc (appended (stmt_depths (d + 1) b) (stmt_depths (m + 1) b) (arms_depths d more) (arms_depths m more)
      (stmt_alike (d + 1) (m + 1) b) (arms_alike d m more)))
  arms_alike d m (t.default_arm p colon b more) = ap suc (appended (one_if d colon) (one_if m colon) ((stmt_depths
      (d + 1) b ++ arms_depths d more)) ((stmt_depths (m + 1) b ++ arms_depths m more)) (if_alike d m colon)
      (appended (stmt_depths (d + 1) b) (stmt_depths (m + 1) b) (arms_depths d more) (arms_depths m more)
      (stmt_alike (d + 1) (m + 1) b) (arms_alike d m more)))

pub type_alike : (d m : ℕ) (x0 : Bool) (x1 : Option Range) → length (type_depths d x0 x1) ≡ length (type_depths m x0 x1)
type_alike d m signed range = appended (one_if d signed) (one_if m signed) (depths_of range_depths d range)
    (depths_of range_depths m range) (if_alike d m signed) (of_option range_depths range_alike d m range)

pub kept_alike : (d m : ℕ) (x : t.Kept) → length (kept_depth d x) ≡ length (kept_depth m x)
kept_alike d m k = ap suc refl

pub directed_alike : (d m : ℕ) (x : t.Directed) → length (directed_depths d x) ≡ length (directed_depths m x)
directed_alike d m x = ap suc (appended (depths_of kept_depth d x.kept) (depths_of kept_depth m x.kept)
    (type_depths d x.signed x.range) (type_depths m x.signed x.range) (of_option kept_depth kept_alike d m x.kept)
    (type_alike d m x.signed x.range))

pub valued_alike : (d m : ℕ) (x : t.Valued) → length (valued_depths d x) ≡ length (valued_depths m x)
valued_alike d m v = ap suc (ap suc (expr_alike d m v.value))

pub value_alike : (d m : ℕ) (x : t.Expr) → length (value_depths d x) ≡ length (value_depths m x)
value_alike d m e = ap suc (expr_alike d m e)

pub net_alike : (d m : ℕ) (x : t.Net) → length (net_depths d x) ≡ length (net_depths m x)
net_alike d m n = ap suc (of_option value_depths value_alike d m n.value)

pub variable_alike : (d m : ℕ) (x : t.Variable) → length (variable_depths d x) ≡ length (variable_depths m x)
variable_alike d m (t.variable n) = ap suc refl
variable_alike d m (t.valued n e) = ap suc (value_alike d m e)
variable_alike d m (t.memory n r) = ap suc (range_alike d m r)

pub driven_alike : (d m : ℕ) (x : t.Driven) → length (driven_depths d x) ≡ length (driven_depths m x)
driven_alike d m x = appended (target_depths d x.target) (target_depths m x.target) (value_depths d x.value)
    (value_depths m x.value) (target_alike d m x.target) (value_alike d m x.value)

pub edge_alike : (d m : ℕ) (x : t.Edge) → length (edge_depths d x) ≡ length (edge_depths m x)
edge_alike d m (t.positive_edge p) = ap suc refl
edge_alike d m (t.negative_edge p) = ap suc refl
edge_alike d m t.no_edge = refl

pub sensed_alike : (d m : ℕ) (x : t.Sensed) → length (sensed_depths d x) ≡ length (sensed_depths m x)
sensed_alike d m x = appended (edge_depths d x.edge) (edge_depths m x.edge) (expr_depths d x.signal) (expr_depths m
    x.signal) (edge_alike d m x.edge) (expr_alike d m x.signal)

pub event_alike : (d m : ℕ) (x : t.Event) → length (event_depths d x) ≡ length (event_depths m x)
event_alike d m t.any_read = ap suc (ap suc refl)
event_alike d m t.any_read_list = ap suc (bracketed d m (((d + 1) ∷ [])) (((m + 1) ∷ [])) (ap suc refl))
event_alike d m (t.sensed xs) = ap suc (bracketed d m ((comma_depths sensed_depths (d + 1) xs)) ((comma_depths
    sensed_depths (m + 1) xs)) (of_commas sensed_depths sensed_alike (d + 1) (m + 1) xs))

pub named_bind_alike : (d m : ℕ) (x : t.NamedBind) → length (named_bind_depths d x) ≡ length (named_bind_depths m x)
named_bind_alike d m b = ap suc (ap suc (bracketed d m ((depths_of expr_depths (d + 1) b.value)) ((depths_of
    expr_depths (m + 1) b.value)) (of_option expr_depths expr_alike (d + 1) (m + 1) b.value)))

pub binds_alike : (d m : ℕ) (x : t.Binds) → length (binds_depths d x) ≡ length (binds_depths m x)
binds_alike d m (t.ordered es) = exprs_alike d m es
binds_alike d m (t.by_name bs) = of_commas named_bind_depths named_bind_alike d m bs

pub instance_alike : (d m : ℕ) (x : t.Instance) → length (instance_depths d x) ≡ length (instance_depths m x)
instance_alike d m i = ap suc (bracketed d m ((depths_of binds_depths (d + 1) i.binds)) ((depths_of binds_depths (m
    + 1) i.binds)) (of_option binds_depths binds_alike (d + 1) (m + 1) i.binds))

pub parameter_binds_alike : (d m : ℕ) (x : Option t.Binds) → length (parameter_binds_depths d x) ≡ length (parameter_binds_depths m x)
parameter_binds_alike d m b = ap suc (bracketed d m ((depths_of binds_depths (d + 1) b)) ((depths_of binds_depths
    (m + 1) b)) (of_option binds_depths binds_alike (d + 1) (m + 1) b))

pub function_type_alike : (d m : ℕ) (x : t.FunctionType) → length (function_type_depths d x) ≡ length (function_type_depths m x)
function_type_alike d m t.bit_result = refl
function_type_alike d m (t.range_result r) = range_alike d m r
function_type_alike d m t.integer_result = ap suc refl

pub function_port_alike : (d m : ℕ) (x : t.FunctionPort) → length (function_port_depths d x) ≡ length (function_port_depths m x)
function_port_alike d m (t.declared_input p s r n) = ap suc (appended (type_depths d s r) (type_depths m s r) (d ∷
    []) (m ∷ []) (type_alike d m s r) (ap suc refl))
function_port_alike d m (t.named_input n) = ap suc refl

pub function_ports_alike : (d m : ℕ) (x : List t.FunctionPort) → length (function_ports_depths d x) ≡ length (function_ports_depths m x)
function_ports_alike d m [] = refl
function_ports_alike d m (x ∷ more) = bracketed d m ((comma_depths function_port_depths (d + 1) (x ∷ more)))
    ((comma_depths function_port_depths (m + 1) (x ∷ more))) (of_commas function_port_depths function_port_alike (d
    + 1) (m + 1) (x ∷ more))

pub function_declaration_alike : (d m : ℕ) (x : t.FunctionDeclaration) → length (function_declaration_depths d x) ≡ length (function_declaration_depths m x)
function_declaration_alike d m (t.inputs p s r ns) = ap suc (appended (type_depths d s r) (type_depths m s r)
    ((comma_depths name_depth d ns ++ (d ∷ []))) ((comma_depths name_depth m ns ++ (m ∷ []))) (type_alike d m s r)
    (appended (comma_depths name_depth d ns) (comma_depths name_depth m ns) (d ∷ []) (m ∷ []) (of_commas name_depth
    name_alike d m ns) (ap suc refl)))
function_declaration_alike d m (t.variables p s r ns) = ap suc (appended (type_depths d s r) (type_depths m s r)
    ((comma_depths name_depth d ns ++ (d ∷ []))) ((comma_depths name_depth m ns ++ (m ∷ []))) (type_alike d m s r)
    (appended (comma_depths name_depth d ns) (comma_depths name_depth m ns) (d ∷ []) (m ∷ []) (of_commas name_depth
    name_alike d m ns) (ap suc refl)))
function_declaration_alike d m (t.integers p ns) = ap suc (appended (comma_depths name_depth d ns) (comma_depths
    name_depth m ns) (d ∷ []) (m ∷ []) (of_commas name_depth name_alike d m ns) (ap suc refl))

pub function_alike : (d m : ℕ) (x : t.Function) → length (function_depths d x) ≡ length (function_depths m x)
function_alike d m f = ap suc (appended (one_if d f.automatic) (one_if m f.automatic) ((one_if d f.signed ++
    (function_type_depths d f.result ++ (d ∷ (function_ports_depths d f.ports ++ (d ∷ (each_depth
    function_declaration_depths (d + 1) f.declarations ++ (stmt_depths (d + 1) f.body ++ (d ∷ []))))))))) ((one_if
    m f.signed ++ (function_type_depths m f.result ++ (m ∷ (function_ports_depths m f.ports ++ (m ∷ (each_depth
    function_declaration_depths (m + 1) f.declarations ++ (stmt_depths (m + 1) f.body ++ (m ∷ []))))))))) (if_alike
    d m f.automatic) (appended (one_if d f.signed) (one_if m f.signed) ((function_type_depths d f.result ++ (d ∷
    (function_ports_depths d f.ports ++ (d ∷ (each_depth function_declaration_depths (d + 1) f.declarations ++
    (stmt_depths (d + 1) f.body ++ (d ∷ [])))))))) ((function_type_depths m f.result ++ (m ∷ (function_ports_depths
    m f.ports ++ (m ∷ (each_depth function_declaration_depths (m + 1) f.declarations ++ (stmt_depths (m + 1) f.body
    ++ (m ∷ [])))))))) (if_alike d m f.signed) (appended (function_type_depths d f.result) (function_type_depths m
    f.result) ((d ∷ (function_ports_depths d f.ports ++ (d ∷ (each_depth function_declaration_depths (d + 1)
    f.declarations ++ (stmt_depths (d + 1) f.body ++ (d ∷ []))))))) ((m ∷ (function_ports_depths m f.ports ++ (m ∷
    (each_depth function_declaration_depths (m + 1) f.declarations ++ (stmt_depths (m + 1) f.body ++ (m ∷ [])))))))
    (function_type_alike d m f.result) (ap suc (appended (function_ports_depths d f.ports) (function_ports_depths m
    f.ports) ((d ∷ (each_depth function_declaration_depths (d + 1) f.declarations ++ (stmt_depths (d + 1) f.body ++
    (d ∷ []))))) ((m ∷ (each_depth function_declaration_depths (m + 1) f.declarations ++ (stmt_depths (m + 1)
    f.body ++ (m ∷ []))))) (function_ports_alike d m f.ports) (ap suc (appended (each_depth
    function_declaration_depths (d + 1) f.declarations) (each_depth function_declaration_depths (m + 1)
    f.declarations) ((stmt_depths (d + 1) f.body ++ (d ∷ []))) ((stmt_depths (m + 1) f.body ++ (m ∷ []))) (of_each
    function_declaration_depths function_declaration_alike (d + 1) (m + 1) f.declarations) (appended (stmt_depths
    (d + 1) f.body) (stmt_depths (m + 1) f.body) (d ∷ []) (m ∷ []) (stmt_alike (d + 1) (m + 1) f.body) (ap suc
    refl)))))))))

mutual
  pub item_alike : (d m : ℕ) (x : t.Item) → length (item_depths d x) ≡ length (item_depths m x)
  item_alike d m (t.parameter p l s r vs) = ap suc (appended (type_depths d s r) (type_depths m s r) ((comma_depths
      valued_depths d vs ++ (d ∷ []))) ((comma_depths valued_depths m vs ++ (m ∷ []))) (type_alike d m s r)
      (appended (comma_depths valued_depths d vs) (comma_depths valued_depths m vs) (d ∷ []) (m ∷ []) (of_commas
      valued_depths valued_alike d m vs) (ap suc refl)))
  item_alike d m (t.directed x ns) = appended (directed_depths d x) (directed_depths m x) ((comma_depths name_depth
      d ns ++ (d ∷ []))) ((comma_depths name_depth m ns ++ (m ∷ []))) (directed_alike d m x) (appended
      (comma_depths name_depth d ns) (comma_depths name_depth m ns) (d ∷ []) (m ∷ []) (of_commas name_depth
      name_alike d m ns) (ap suc refl))
  item_alike d m (t.nets p s r ns) = ap suc (appended (type_depths d s r) (type_depths m s r) ((comma_depths
      net_depths d ns ++ (d ∷ []))) ((comma_depths net_depths m ns ++ (m ∷ []))) (type_alike d m s r) (appended
      (comma_depths net_depths d ns) (comma_depths net_depths m ns) (d ∷ []) (m ∷ []) (of_commas net_depths
      net_alike d m ns) (ap suc refl)))
  item_alike d m (t.registers p s r vs) = ap suc (appended (type_depths d s r) (type_depths m s r) ((comma_depths
      variable_depths d vs ++ (d ∷ []))) ((comma_depths variable_depths m vs ++ (m ∷ []))) (type_alike d m s r)
      (appended (comma_depths variable_depths d vs) (comma_depths variable_depths m vs) (d ∷ []) (m ∷ [])
      (of_commas variable_depths variable_alike d m vs) (ap suc refl)))
  item_alike d m (t.integer p vs) = ap suc (appended (comma_depths variable_depths d vs) (comma_depths
      variable_depths m vs) (d ∷ []) (m ∷ []) (of_commas variable_depths variable_alike d m vs) (ap suc refl))
  item_alike d m (t.genvar p ns) = ap suc (appended (comma_depths name_depth d ns) (comma_depths name_depth m ns)
      (d ∷ []) (m ∷ []) (of_commas name_depth name_alike d m ns) (ap suc refl))
  item_alike d m (t.continuous p ds) = ap suc (appended (comma_depths driven_depths d ds) (comma_depths
      driven_depths m ds) (d ∷ []) (m ∷ []) (of_commas driven_depths driven_alike d m ds) (ap suc refl))
  item_alike d m (t.always p e b) = ap suc (appended (event_depths d e) (event_depths m e) (stmt_depths d b)
      (stmt_depths m b) (event_alike d m e) (stmt_alike d m b))
  item_alike d m (t.initial p b) = ap suc (stmt_alike d m b)
  item_alike d m (t.function f) = function_alike d m f
  item_alike d m (t.instances n b is) = ap suc (appended (depths_of parameter_binds_depths d b) (depths_of
      parameter_binds_depths m b) ((comma_depths instance_depths d is ++ (d ∷ []))) ((comma_depths instance_depths
      m is ++ (m ∷ []))) (of_option parameter_binds_depths parameter_binds_alike d m b) (appended (comma_depths
      instance_depths d is) (comma_depths instance_depths m is) (d ∷ []) (m ∷ []) (of_commas instance_depths
      instance_alike d m is) (ap suc refl)))
  item_alike d m (t.region p is) = bracketed d m ((items_depths (d + 1) is)) ((items_depths (m + 1) is))
      (items_alike (d + 1) (m + 1) is)
  item_alike d m (t.generate_loop p l b) = ap suc (appended (loop_depths d l) (loop_depths m l)
      (generate_block_depths (d + 1) b) (generate_block_depths (m + 1) b) (loop_alike d m l) (generate_block_alike
      (d + 1) (m + 1) b))
  item_alike d m (t.generate_if bs o) = appended (generate_branches_depths d bs) (generate_branches_depths m bs)
      (generate_else_depths d o) (generate_else_depths m o) (generate_branches_alike d m bs) (generate_else_alike d
      m o)

  pub items_alike : (d m : ℕ) (x : t.Items) → length (items_depths d x) ≡ length (items_depths m x)
  items_alike d m t.no_item = refl
  items_alike d m (t.more_item i is) = appended (item_depths d i) (item_depths m i) (items_depths d is)
      (items_depths m is) (item_alike d m i) (items_alike d m is)

  pub generate_block_alike : (d m : ℕ) (x : t.GenerateBlock) → length (generate_block_depths d x) ≡ length (generate_block_depths m x)
  generate_block_alike d m (t.single i) = item_alike d m i
  generate_block_alike d m (t.several p n is) = ap suc (appended (label_depths d n) (label_depths m n)
      ((items_depths (d + 1) is ++ (d ∷ []))) ((items_depths (m + 1) is ++ (m ∷ []))) (label_alike d m n) (appended
      (items_depths (d + 1) is) (items_depths (m + 1) is) (d ∷ []) (m ∷ []) (items_alike (d + 1) (m + 1) is) (ap
      suc refl)))

  pub generate_branches_alike : (d m : ℕ) (x : t.GenerateBranches) → length (generate_branches_depths d x) ≡ length (generate_branches_depths m x)
  generate_branches_alike d m t.no_generate_branch = refl
  generate_branches_alike d m (t.more_generate_branch p c b bs) = ap suc (appended (enclosed d (expr_depths (d + 1)
      c)) (enclosed m (expr_depths (m + 1) c)) ((generate_block_depths (d + 1) b ++ more_generate_branches_depths d
      bs)) ((generate_block_depths (m + 1) b ++ more_generate_branches_depths m bs)) (bracketed d m ((expr_depths
      (d + 1) c)) ((expr_depths (m + 1) c)) (expr_alike (d + 1) (m + 1) c)) (appended (generate_block_depths (d +
      1) b) (generate_block_depths (m + 1) b) (more_generate_branches_depths d bs) (more_generate_branches_depths m
      bs) (generate_block_alike (d + 1) (m + 1) b) (more_generate_branches_alike d m bs)))

  pub more_generate_branches_alike : (d m : ℕ) (x : t.GenerateBranches) → length (more_generate_branches_depths d x) ≡ length (more_generate_branches_depths m x)
  more_generate_branches_alike d m t.no_generate_branch = refl
  more_generate_branches_alike d m (t.more_generate_branch p c b bs) = ap suc (ap suc (appended (enclosed d
      (expr_depths (d + 1) c)) (enclosed m (expr_depths (m + 1) c)) ((generate_block_depths (d + 1) b ++
      more_generate_branches_depths d bs)) ((generate_block_depths (m + 1) b ++ more_generate_branches_depths m
      bs)) (bracketed d m ((expr_depths (d + 1) c)) ((expr_depths (m + 1) c)) (expr_alike (d + 1) (m + 1) c))
      (appended (generate_block_depths (d + 1) b) (generate_block_depths (m + 1) b) (more_generate_branches_depths
      d bs) (more_generate_branches_depths m bs) (generate_block_alike (d + 1) (m + 1) b)
      (more_generate_branches_alike d m bs))))

  pub generate_else_alike : (d m : ℕ) (x : t.GenerateElse) → length (generate_else_depths d x) ≡ length (generate_else_depths m x)
  generate_else_alike d m t.no_generate_else = refl
  generate_else_alike d m (t.generate_else b) = ap suc (generate_block_alike (d + 1) (m + 1) b)
