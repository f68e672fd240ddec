-- Tokens of items, part by part.
use Rattle.std.proofs.Common.{◌≡◌, refl, ap, sym, ◌∙◌, ℕ, ◌+◌, ◌-◌, Bool, true, false, List, [], ◌∷◌, ◌++◌, ◌≤◌, length, map, drop, rules, Option, Some, None, arith}
use Rattle.std.specs.Option.{option_map}
use Rattle.std.proofs.lemmas.List.{drop_all}
use Rattle.dt_core.specs.declared.place.Place as code_place
use Rattle.vl_tree.specs.declared.expression.Name as code_name
use Rattle.vl_tree.specs.declared.expression.Range as code_range
use Rattle.vl_tree.specs.declared.statement.Loop as code_loop
use Rattle.vl_tree.specs.declared.statement.Stmt as code_stmt
use Rattle.vl_tree.specs.declared.item.Valued.{Valued}
use Rattle.vl_tree.specs.declared.item.Net.{Net}
use Rattle.vl_tree.specs.declared.item.Variable.{Variable}
use Rattle.vl_tree.specs.declared.item.Driven.{Driven}
use Rattle.vl_tree.specs.declared.item.Directed.{Directed}
use Rattle.vl_tree.specs.declared.item.Event.{Event}
use Rattle.vl_tree.specs.declared.item.Function.{Function}
use Rattle.vl_tree.specs.declared.item.Binds.{Binds}
use Rattle.vl_tree.specs.declared.item.Instance.{Instance}
use Rattle.vl_tree.specs.declared.item.GenerateBlock.{GenerateBlock}
use Rattle.vl_tree.specs.declared.item.GenerateBlock.TheVariants as body
use Rattle.vl_tree.specs.declared.item.GenerateBranch.{GenerateBranch}
use Rattle.vl_tree.specs.declared.item.Item.{Item, the_lemmas}
use Rattle.vl_tree.specs.declared.item.Item.TheVariants as x
use Rattle.vl_tree.specs.Syntax as t
use Rattle.vl_tree.specs.Syntax.{Place, Name}
use Rattle.vl_tree.specs.SyntaxView as view
use Rattle.vl_tree.specs.Depth.{enclosed, one_if, depths_of, comma_depths, expr_depths, stmt_depths, type_depths, directed_depths, name_depth, valued_depths, net_depths, variable_depths, driven_depths, event_depths, instance_depths, parameter_binds_depths, function_depths, generate_block_depths, generate_branches_depths, more_generate_branches_depths, generate_else_depths}
use Rattle.vl_views.specs.Blocks.{items_of, block_of, branches_of, else_of}
use Rattle.vl_views.proofs.ItemViews.{region_is, loop_is, if_is}
use Rattle.vl_design.specs.Generate.{items_tokens, turn_tokens}
use Rattle.vl_design.proofs.OwnTokens.{region_tokens, loop_tokens, several_tokens, block_fewer, branches_fewer, more_fewer, else_fewer}
use Rattle.vl_design.proofs.TokenLaws.{lengthened, expr_alike, generate_block_alike}
use Rattle.vl_tokens.specs.Counted.{capped, expr_tokens, in_list}
use Rattle.vl_tokens.proofs.Counting.{Counts, all_counted}
use Rattle.vl_tokens.specs.Statements as s
use Rattle.vl_tokens.specs.Items.{item_tokens, branches_listed, else_tokens, given_tokens}

-- what encloses has two more
within : (d : ℕ) (xs : List ℕ) → length (enclosed d xs) ≡ 2 + length xs
within d xs = let h = lengthened xs (d ∷ []) in omega (arith, h)

-- a word, a type, what has commas between it, and a semicolon
typed : (ts cs : List ℕ) → length (0 ∷ (ts ++ (cs ++ (0 ∷ [])))) - 0 ≡ length ts + (2 + length cs)
typed ts cs = let h = lengthened ts (cs ++ (0 ∷ [])) in let k = lengthened cs (0 ∷ []) in omega (arith, h, k)

-- a word, what has commas between it, and a semicolon
worded : (cs : List ℕ) → length (0 ∷ (cs ++ (0 ∷ []))) - 0 ≡ 2 + length cs
worded cs = let k = lengthened cs (0 ∷ []) in omega (arith, k)

pub of_parameter : (i : Item) (p : code_place.Place) (l g : Bool) (r : Option code_range.Range) (vs : List Valued) → i ≡ x.Parameter p l g r vs
    → length (type_depths 0 g (option_map view.range r)) + (2 + in_list valued_depths false (map view.valued vs)) ≡ item_tokens (view.item i)
of_parameter i p l g r vs is =
    let v : view.item (x.Parameter p l g r vs) ≡ t.parameter (view.place p) l g (option_map view.range r) (map view.valued vs) = search (rules, the_lemmas) in
    sym (ap (λ y. item_tokens (view.item y)) is ∙ ap item_tokens v
    ∙ typed (type_depths 0 g (option_map view.range r)) (comma_depths valued_depths 0 (map view.valued vs)))

pub of_directed : (i : Item) (d : Directed) (ns : List code_name.Name) → i ≡ x.Directed d ns
    → length (directed_depths 0 (view.directed d)) + (1 + in_list name_depth false (map view.name ns)) ≡ item_tokens (view.item i)
of_directed i d ns is =
    let v : view.item (x.Directed d ns) ≡ t.directed (view.directed d) (map view.name ns) = search (rules, the_lemmas) in
    let ds = directed_depths 0 (view.directed d) in let cs = comma_depths name_depth 0 (map view.name ns) in
    let h = lengthened ds (cs ++ (0 ∷ [])) in let k = lengthened cs (0 ∷ []) in
    let e = ap (λ y. item_tokens (view.item y)) is ∙ ap item_tokens v in omega (arith, h, k, e)

pub of_nets : (i : Item) (p : code_place.Place) (g : Bool) (r : Option code_range.Range) (ns : List Net) → i ≡ x.Nets p g r ns
    → length (type_depths 0 g (option_map view.range r)) + (2 + in_list net_depths false (map view.net ns)) ≡ item_tokens (view.item i)
of_nets i p g r ns is =
    let v : view.item (x.Nets p g r ns) ≡ t.nets (view.place p) g (option_map view.range r) (map view.net ns) = search (rules, the_lemmas) in
    sym (ap (λ y. item_tokens (view.item y)) is ∙ ap item_tokens v
    ∙ typed (type_depths 0 g (option_map view.range r)) (comma_depths net_depths 0 (map view.net ns)))

pub of_registers : (i : Item) (p : code_place.Place) (g : Bool) (r : Option code_range.Range) (vs : List Variable) → i ≡ x.Registers p g r vs
    → length (type_depths 0 g (option_map view.range r)) + (2 + in_list variable_depths false (map view.variable vs)) ≡ item_tokens (view.item i)
of_registers i p g r vs is =
    let v : view.item (x.Registers p g r vs) ≡ t.registers (view.place p) g (option_map view.range r) (map view.variable vs) = search (rules, the_lemmas) in
    sym (ap (λ y. item_tokens (view.item y)) is ∙ ap item_tokens v
    ∙ typed (type_depths 0 g (option_map view.range r)) (comma_depths variable_depths 0 (map view.variable vs)))

pub of_integer : (i : Item) (p : code_place.Place) (vs : List Variable) → i ≡ x.Integer p vs
    → 2 + in_list variable_depths false (map view.variable vs) ≡ item_tokens (view.item i)
of_integer i p vs is =
    let v : view.item (x.Integer p vs) ≡ t.integer (view.place p) (map view.variable vs) = search (rules, the_lemmas) in
    sym (ap (λ y. item_tokens (view.item y)) is ∙ ap item_tokens v ∙ worded (comma_depths variable_depths 0 (map view.variable vs)))

pub of_genvar : (i : Item) (p : code_place.Place) (ns : List code_name.Name) → i ≡ x.Genvar p ns
    → 2 + in_list name_depth false (map view.name ns) ≡ item_tokens (view.item i)
of_genvar i p ns is =
    let v : view.item (x.Genvar p ns) ≡ t.genvar (view.place p) (map view.name ns) = search (rules, the_lemmas) in
    sym (ap (λ y. item_tokens (view.item y)) is ∙ ap item_tokens v ∙ worded (comma_depths name_depth 0 (map view.name ns)))

pub of_continuous : (i : Item) (p : code_place.Place) (ds : List Driven) → i ≡ x.Continuous p ds
    → 2 + in_list driven_depths false (map view.driven ds) ≡ item_tokens (view.item i)
of_continuous i p ds is =
    let v : view.item (x.Continuous p ds) ≡ t.continuous (view.place p) (map view.driven ds) = search (rules, the_lemmas) in
    sym (ap (λ y. item_tokens (view.item y)) is ∙ ap item_tokens v ∙ worded (comma_depths driven_depths 0 (map view.driven ds)))

pub of_always : (i : Item) (p : code_place.Place) (a : Event) (b : code_stmt.Stmt) → i ≡ x.Always p a b
    → length (event_depths 0 (view.event a)) + (1 + s.stmt_tokens (view.stmt b)) ≡ item_tokens (view.item i)
of_always i p a b is =
    let v : view.item (x.Always p a b) ≡ t.always (view.place p) (view.event a) (view.stmt b) = search (rules, the_lemmas) in
    let h = lengthened (event_depths 0 (view.event a)) (stmt_depths 0 (view.stmt b)) in
    let e = ap (λ y. item_tokens (view.item y)) is ∙ ap item_tokens v in omega (arith, h, e)

pub of_initial : (i : Item) (p : code_place.Place) (b : code_stmt.Stmt) → i ≡ x.Initial p b → 1 + s.stmt_tokens (view.stmt b) ≡ item_tokens (view.item i)
of_initial i p b is =
    let v : view.item (x.Initial p b) ≡ t.initial (view.place p) (view.stmt b) = search (rules, the_lemmas) in
    let e = ap (λ y. item_tokens (view.item y)) is ∙ ap item_tokens v in omega (arith, e)

pub of_function : (i : Item) (f : Function) → i ≡ x.Function f → length (function_depths 0 (view.function f)) ≡ item_tokens (view.item i)
of_function i f is =
    let v : view.item (x.Function f) ≡ t.function (view.function f) = search (rules, the_lemmas) in
    let e = ap (λ y. item_tokens (view.item y)) is ∙ ap item_tokens v in omega (arith, e)

pub of_instances : (i : Item) (n : code_name.Name) (b : Option (Option Binds)) (all : List Instance) → i ≡ x.Instances n b all
    → given_tokens b + (2 + in_list instance_depths false (map view.instance all)) ≡ item_tokens (view.item i)
of_instances i n b all is =
    let v : view.item (x.Instances n b all) ≡ t.instances (view.name n) (option_map (option_map view.binds) b) (map view.instance all) = search (rules, the_lemmas) in
    sym (ap (λ y. item_tokens (view.item y)) is ∙ ap item_tokens v
    ∙ typed (depths_of parameter_binds_depths 0 (option_map (option_map view.binds) b)) (comma_depths instance_depths 0 (map view.instance all)))

pub of_region : (i : Item) (p : code_place.Place) (all : List Item) → i ≡ x.Region p all → 2 + items_tokens (items_of all) ≡ item_tokens (view.item i)
of_region i p all is = sym (ap item_tokens (region_is i p all all is refl) ∙ region_tokens (view.place p) (items_of all))

pub of_loop : (i : Item) (p : code_place.Place) (l : code_loop.Loop) (b : GenerateBlock Item) → i ≡ x.GenerateLoop p l b
    → 1 + s.loop_tokens (view.loop l) ≡ item_tokens (view.item i)
of_loop i p l b is = sym (ap item_tokens (loop_is i p l b is) ∙ loop_tokens (view.place p) (view.loop l) (block_of b))

-- ---- blocks and branches

pub of_single : (b : GenerateBlock Item) (i : Item) → b ≡ body.Single i → item_tokens (view.item i) ≡ turn_tokens (block_of b)
of_single b i is = sym (ap (λ y. turn_tokens (block_of y)) is)

pub of_several : (b : GenerateBlock Item) (p : code_place.Place) (n : Option code_name.Name) (all : List Item) → b ≡ body.Several p n all
    → s.label_tokens (option_map view.name n) + (2 + items_tokens (items_of all)) ≡ turn_tokens (block_of b)
of_several b p n all is =
    let h = several_tokens (view.place p) (option_map view.name n) (items_of all) in
    let e = ap (λ y. turn_tokens (block_of y)) is in omega (arith, h, e)

if_tokens : (bs : t.GenerateBranches) (e : t.GenerateElse) → item_tokens (t.generate_if bs e) ≡ branches_listed false bs + else_tokens e
if_tokens bs e =
    let h = lengthened (generate_branches_depths 0 bs) (generate_else_depths 0 e) in
    let k = branches_fewer bs in let l = else_fewer e in omega (arith, h, k, l)

one_else : (b : t.GenerateBlock) → else_tokens (t.generate_else b) ≡ 1 + turn_tokens b
one_else b = let a = generate_block_alike 1 0 b in let h = block_fewer b in omega (arith, a, h)

pub of_if : (i : Item) (bs : List (GenerateBranch Item)) (o : Option (GenerateBlock Item)) → i ≡ x.GenerateIf bs o → o ≡ None
    → branches_listed false (branches_of bs) ≡ item_tokens (view.item i)
of_if i bs o is none =
    let h = ap item_tokens (if_is i bs bs o is refl) ∙ if_tokens (branches_of bs) (else_of o) in
    let k = ap (λ y. else_tokens (else_of y)) none in omega (arith, h, k)

pub of_if_else : (i : Item) (bs : List (GenerateBranch Item)) (o : Option (GenerateBlock Item)) (b : GenerateBlock Item) → i ≡ x.GenerateIf bs o → o ≡ Some b
    → branches_listed false (branches_of bs) + (1 + turn_tokens (block_of b)) ≡ item_tokens (view.item i)
of_if_else i bs o b is some =
    let h = ap item_tokens (if_is i bs bs o is refl) ∙ if_tokens (branches_of bs) (else_of o) in
    let k = ap (λ y. else_tokens (else_of y)) some in let l = one_else (block_of b) in omega (arith, h, k, l)

pub of_if_single : (i : Item) (bs : List (GenerateBranch Item)) (o : Option (GenerateBlock Item)) (b : GenerateBlock Item) (a : Item)
    → i ≡ x.GenerateIf bs o → o ≡ Some b → b ≡ body.Single a
    → branches_listed false (branches_of bs) + (1 + item_tokens (view.item a)) ≡ item_tokens (view.item i)
of_if_single i bs o b a is some single =
    let h = of_if_else i bs o b is some in let k = of_single b a single in omega (arith, h, k)

pub of_if_several : (i : Item) (bs : List (GenerateBranch Item)) (o : Option (GenerateBlock Item)) (b : GenerateBlock Item)
    (p : code_place.Place) (n : Option code_name.Name) (all : List Item) → i ≡ x.GenerateIf bs o → o ≡ Some b → b ≡ body.Several p n all
    → branches_listed false (branches_of bs) + (s.label_tokens (option_map view.name n) + (3 + items_tokens (items_of all))) ≡ item_tokens (view.item i)
of_if_several i bs o b p n all is some several =
    let h = of_if_else i bs o b is some in let k = of_several b p n all several in omega (arith, h, k)

pub none_more : items_tokens t.no_item ≡ 0
none_more = refl

pub no_branches : (b : Bool) → branches_listed b t.no_generate_branch ≡ 0
no_branches true = refl
no_branches false = refl

pub more_branches : (later : Bool) (p : Place) (e : t.Expr) (b : t.GenerateBlock) (bs : t.GenerateBranches)
    → branches_listed later (t.more_generate_branch p e b bs) ≡ (length (one_if 0 later) + (expr_tokens e + (3 + turn_tokens b))) + branches_listed true bs
more_branches true p e b bs =
    let h = lengthened (enclosed 0 (expr_depths 1 e)) (generate_block_depths 1 b ++ more_generate_branches_depths 0 bs) in
    let k = within 0 (expr_depths 1 e) in let l = lengthened (generate_block_depths 1 b) (more_generate_branches_depths 0 bs) in
    let a = expr_alike 1 0 e in let g = generate_block_alike 1 0 b in
    let m = block_fewer b in let n = more_fewer bs in omega (arith, h, k, l, a, g, m, n)
more_branches false p e b bs =
    let h = lengthened (enclosed 0 (expr_depths 1 e)) (generate_block_depths 1 b ++ more_generate_branches_depths 0 bs) in
    let k = within 0 (expr_depths 1 e) in let l = lengthened (generate_block_depths 1 b) (more_generate_branches_depths 0 bs) in
    let a = expr_alike 1 0 e in let g = generate_block_alike 1 0 b in
    let m = block_fewer b in let n = more_fewer bs in omega (arith, h, k, l, a, g, m, n)

-- no branch is left
pub all_branches : {first : ℕ} → (later : Bool) (xs : List (GenerateBranch Item)) (k : ℕ) (bs : List (GenerateBranch Item))
    → Counts first (branches_listed later (branches_of (drop k xs))) (branches_listed false (branches_of xs)) → length xs ≤ k → xs ≡ bs
    → first ≡ capped (branches_listed false (branches_of bs))
all_branches later xs k bs c past e =
    all_counted c (ap (λ ys. branches_listed later (branches_of ys)) (drop_all k xs past) ∙ no_branches later)
    ∙ ap (λ ys. capped (branches_listed false (branches_of ys))) e
