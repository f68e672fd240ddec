-- Tokens of expressions, part by part.
use Rattle.std.proofs.Common.{◌≡◌, refl, ap, sym, ◌∙◌, ℕ, ◌+◌, Bool, true, false, List, [], ◌∷◌, ◌++◌, length, arith}
use Rattle.vl_tree.specs.Syntax as t
use Rattle.vl_tree.specs.Syntax.{Place, Name}
use Rattle.vl_tree.specs.Depth.{enclosed, one_if, expr_depths, exprs_depths, more_exprs_depths, links_depths, choices_depths, selects_depths, select_depths}
use Rattle.vl_design.proofs.TokenLaws.{lengthened, expr_alike, exprs_alike, select_alike}
use Rattle.bit_ops.specs.declared.operator.Unary.{Unary}
use Rattle.bit_ops.specs.declared.operator.Binary.{Binary}
use Rattle.dt_core.specs.declared.place.Place as code_place
use Rattle.vl_tree.specs.declared.token.Literal.{Literal}
use Rattle.vl_tree.specs.declared.expression.Expr.{Expr}
use Rattle.vl_tree.specs.declared.expression.Expr.TheVariants as x
use Rattle.vl_tree.specs.declared.expression.Name as code_name
use Rattle.vl_tree.specs.declared.expression.SystemFunction.{SystemFunction}
use Rattle.vl_tree.specs.declared.expression.Link.{Link}
use Rattle.vl_tree.specs.declared.expression.Choice.{Choice}
use Rattle.vl_tree.specs.declared.expression.Selected.{Selected}
use Rattle.vl_tree.specs.SyntaxView as view
use Rattle.vl_width.specs.Lists.{exprs_of, links_of, choices_of}
use Rattle.vl_width.proofs.Views.{expr-number, expr-read, expr-call, expr-system, expr-group, expr-concat, expr-repeat, expr-unary, expr-chain, expr-choose}
use Rattle.vl_tokens.specs.Counted.{expr_tokens, listed, links_tokens, choices_tokens, selects_tokens, select_tokens, range_tokens}

-- what encloses has two more
within : (d : ℕ) (xs : List ℕ) → length (enclosed d xs) ≡ 2 + length xs
within d xs = let h = lengthened xs (d ∷ []) in omega (arith, h)

pub read_tokens : (n : Name) (ss : t.Selects) → expr_tokens (t.read n ss) ≡ 1 + selects_tokens ss
read_tokens n ss = omega arith

pub call_tokens : (n : Name) (es : t.Exprs) → expr_tokens (t.call n es) ≡ 3 + listed false es
call_tokens n es = let h = within 0 (exprs_depths 1 es) in let a = exprs_alike 1 0 es in omega (arith, h, a)

pub system_tokens : (p : Place) (f : t.SystemFunction) (e : t.Expr) → expr_tokens (t.system p f e) ≡ 3 + expr_tokens e
system_tokens p f e = let h = within 0 (expr_depths 1 e) in let a = expr_alike 1 0 e in omega (arith, h, a)

pub group_tokens : (p : Place) (e : t.Expr) → expr_tokens (t.group p e) ≡ 2 + expr_tokens e
group_tokens p e = let h = within 0 (expr_depths 1 e) in let a = expr_alike 1 0 e in omega (arith, h, a)

pub concat_tokens : (p : Place) (es : t.Exprs) → expr_tokens (t.concat p es) ≡ 2 + listed false es
concat_tokens p es = let h = within 0 (exprs_depths 1 es) in let a = exprs_alike 1 0 es in omega (arith, h, a)

pub repeat_tokens : (p : Place) (n : t.Expr) (es : t.Exprs) → expr_tokens (t.repeat p n es) ≡ 4 + (expr_tokens n + listed false es)
repeat_tokens p n es =
    let h = within 0 (expr_depths 1 n ++ enclosed 1 (exprs_depths 2 es)) in
    let k = lengthened (expr_depths 1 n) (enclosed 1 (exprs_depths 2 es)) in
    let l = within 1 (exprs_depths 2 es) in
    let a = expr_alike 1 0 n in let b = exprs_alike 2 0 es in omega (arith, h, k, l, a, b)

pub unary_tokens : (p : Place) (op : Unary) (e : t.Expr) → expr_tokens (t.unary p op e) ≡ 1 + expr_tokens e
unary_tokens p op e = let a = expr_alike 1 0 e in omega (arith, a)

pub chain_tokens : (e : t.Expr) (ls : t.Links) → expr_tokens (t.chain e ls) ≡ expr_tokens e + links_tokens ls
chain_tokens e ls = lengthened (expr_depths 0 e) (links_depths 0 ls)

pub choose_tokens : (cs : t.Choices) (e : t.Expr) → expr_tokens (t.choose cs e) ≡ choices_tokens cs + expr_tokens e
choose_tokens cs e = lengthened (choices_depths 0 cs) (expr_depths 0 e)

-- ---- one more in front

pub none_listed : (b : Bool) → listed b t.no_expr ≡ 0
none_listed true = refl
none_listed false = refl

pub more_listed : (b : Bool) (e : t.Expr) (es : t.Exprs)
    → listed b (t.more_expr e es) ≡ (length (one_if 0 b) + expr_tokens e) + listed true es
more_listed true e es = let h = lengthened (expr_depths 0 e) (more_exprs_depths 0 es) in omega (arith, h)
more_listed false e es = let h = lengthened (expr_depths 0 e) (more_exprs_depths 0 es) in omega (arith, h)

pub more_linked : (op : Binary) (p : Place) (e : t.Expr) (ls : t.Links)
    → links_tokens (t.more_link op p e ls) ≡ (1 + expr_tokens e) + links_tokens ls
more_linked op p e ls = let h = lengthened (expr_depths 0 e) (links_depths 0 ls) in omega (arith, h)

pub more_chosen : (c : t.Expr) (p : Place) (v : t.Expr) (cs : t.Choices)
    → choices_tokens (t.more_choice c p v cs) ≡ (expr_tokens c + (2 + expr_tokens v)) + choices_tokens cs
more_chosen c p v cs =
    let h = lengthened (expr_depths 0 c) (0 ∷ (expr_depths 1 v ++ (0 ∷ choices_depths 0 cs))) in
    let k = lengthened (expr_depths 1 v) (0 ∷ choices_depths 0 cs) in
    let a = expr_alike 1 0 v in omega (arith, h, k, a)

pub more_selected : (p : Place) (s : t.Select) (ss : t.Selects)
    → selects_tokens (t.more_select p s ss) ≡ (2 + select_tokens s) + selects_tokens ss
more_selected p s ss =
    let h = lengthened (enclosed 0 (select_depths 1 s)) (selects_depths 0 ss) in
    let k = within 0 (select_depths 1 s) in let a = select_alike 1 0 s in omega (arith, h, k, a)

pub pair_tokens : (a b : t.Expr) → length (expr_depths 0 a ++ (0 ∷ expr_depths 0 b)) ≡ expr_tokens a + (1 + expr_tokens b)
pair_tokens a b = let h = lengthened (expr_depths 0 a) (0 ∷ expr_depths 0 b) in omega (arith, h)

pub bounds_tokens : (r : t.Range) → range_tokens r ≡ expr_tokens r.left + (3 + expr_tokens r.right)
bounds_tokens r =
    let h = within 0 (expr_depths 1 r.left ++ (1 ∷ expr_depths 1 r.right)) in
    let k = lengthened (expr_depths 1 r.left) (1 ∷ expr_depths 1 r.right) in
    let a = expr_alike 1 0 r.left in let b = expr_alike 1 0 r.right in omega (arith, h, k, a, b)

-- ---- an expression whose parts are in hand

pub of_number : (e : Expr) (p : code_place.Place) (l : Literal) → e ≡ x.Number p l → 1 ≡ expr_tokens (view.expr e)
of_number e p l is = sym (ap (λ y. expr_tokens (view.expr y)) is ∙ ap expr_tokens (expr-number p l))

pub of_read : (e : Expr) (n : code_name.Name) (ss : List (Selected Expr)) → e ≡ x.Read n ss
    → 1 + selects_tokens (view.read_selects ss) ≡ expr_tokens (view.expr e)
of_read e n ss is = sym (ap (λ y. expr_tokens (view.expr y)) is ∙ ap expr_tokens (expr-read n ss)
    ∙ read_tokens (view.name n) (view.read_selects ss))

pub of_call : (e : Expr) (n : code_name.Name) (es : List Expr) → e ≡ x.Call n es → 3 + listed false (exprs_of es) ≡ expr_tokens (view.expr e)
of_call e n es is = sym (ap (λ y. expr_tokens (view.expr y)) is ∙ ap expr_tokens (expr-call n es) ∙ call_tokens (view.name n) (exprs_of es))

pub of_system : (e : Expr) (p : code_place.Place) (f : SystemFunction) (a : Expr) → e ≡ x.System p f a
    → 3 + expr_tokens (view.expr a) ≡ expr_tokens (view.expr e)
of_system e p f a is = sym (ap (λ y. expr_tokens (view.expr y)) is ∙ ap expr_tokens (expr-system p f a)
    ∙ system_tokens (view.place p) (view.system_function f) (view.expr a))

pub of_group : (e : Expr) (p : code_place.Place) (a : Expr) → e ≡ x.Group p a → 2 + expr_tokens (view.expr a) ≡ expr_tokens (view.expr e)
of_group e p a is = sym (ap (λ y. expr_tokens (view.expr y)) is ∙ ap expr_tokens (expr-group p a) ∙ group_tokens (view.place p) (view.expr a))

pub of_concat : (e : Expr) (p : code_place.Place) (es : List Expr) → e ≡ x.Concat p es → 2 + listed false (exprs_of es) ≡ expr_tokens (view.expr e)
of_concat e p es is = sym (ap (λ y. expr_tokens (view.expr y)) is ∙ ap expr_tokens (expr-concat p es) ∙ concat_tokens (view.place p) (exprs_of es))

pub of_repeat : (e : Expr) (p : code_place.Place) (n : Expr) (es : List Expr) → e ≡ x.Repeat p n es
    → 4 + (expr_tokens (view.expr n) + listed false (exprs_of es)) ≡ expr_tokens (view.expr e)
of_repeat e p n es is = sym (ap (λ y. expr_tokens (view.expr y)) is ∙ ap expr_tokens (expr-repeat p n es)
    ∙ repeat_tokens (view.place p) (view.expr n) (exprs_of es))

pub of_unary : (e : Expr) (p : code_place.Place) (op : Unary) (a : Expr) → e ≡ x.Unary p op a
    → 1 + expr_tokens (view.expr a) ≡ expr_tokens (view.expr e)
of_unary e p op a is = sym (ap (λ y. expr_tokens (view.expr y)) is ∙ ap expr_tokens (expr-unary p op a) ∙ unary_tokens (view.place p) op (view.expr a))

pub of_chain : (e a : Expr) (ls : List (Link Expr)) → e ≡ x.Chain a ls
    → expr_tokens (view.expr a) + links_tokens (links_of ls) ≡ expr_tokens (view.expr e)
of_chain e a ls is = sym (ap (λ y. expr_tokens (view.expr y)) is ∙ ap expr_tokens (expr-chain a ls) ∙ chain_tokens (view.expr a) (links_of ls))

pub of_choose : (e : Expr) (cs : List (Choice Expr)) (a : Expr) → e ≡ x.Choose cs a
    → choices_tokens (choices_of cs) + expr_tokens (view.expr a) ≡ expr_tokens (view.expr e)
of_choose e cs a is = sym (ap (λ y. expr_tokens (view.expr y)) is ∙ ap expr_tokens (expr-choose cs a) ∙ choose_tokens (choices_of cs) (view.expr a))
