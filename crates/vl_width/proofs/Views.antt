-- The plain trees of expressions, and what terms are worth.
use Rattle.std.proofs.Common.{◌≡◌, List, [], ◌∷◌, rules, map, refl, ap, ◌∙◌}
use Rattle.bit_ops.specs.declared.operator.Unary.{Unary}
use Rattle.dt_core.specs.declared.place.Place.{Place}
use Rattle.vl_tree.specs.declared.token.Literal.{Literal}
use Rattle.vl_tree.specs.declared.expression.Expr.{Expr, the_lemmas}
use Rattle.vl_tree.specs.declared.expression.Expr.TheVariants as x
use Rattle.vl_tree.specs.declared.expression.Name.{Name}
use Rattle.vl_tree.specs.declared.expression.SystemFunction.{SystemFunction}
use Rattle.vl_tree.specs.declared.expression.Link.{Link}
use Rattle.vl_tree.specs.declared.expression.Choice.{Choice}
use Rattle.vl_tree.specs.declared.expression.Select.{Select}
use Rattle.vl_tree.specs.declared.expression.Select.TheVariants as chosen_select
use Rattle.vl_tree.specs.declared.expression.Selected.{Selected}
use Rattle.vl_tree.specs.Token.{literal_of}
use Rattle.vl_tree.specs.Syntax as t
use Rattle.vl_tree.specs.SyntaxView.{expr, place, name, exprs, links, choices, selects, system_function, read_select, read_selects}
use Rattle.vl_tree.specs.SyntaxView as view
use Rattle.vl_width.specs.Lists.{exprs_of, links_of, choices_of}

pub expr-number : (p : Place) (l : Literal) → expr (x.Number p l) ≡ t.number (place p) (literal_of l)
expr-number p l = search (rules, the_lemmas)

pub expr-system : (p : Place) (f : SystemFunction) (e : Expr) → expr (x.System p f e) ≡ t.system (place p) (system_function f) (expr e)
expr-system p f e = search (rules, the_lemmas)

pub expr-group : (p : Place) (e : Expr) → expr (x.Group p e) ≡ t.group (place p) (expr e)
expr-group p e = search (rules, the_lemmas)

pub expr-unary : (p : Place) (op : Unary) (e : Expr) → expr (x.Unary p op e) ≡ t.unary (place p) op (expr e)
expr-unary p op e = search (rules, the_lemmas)

-- ---- expressions in order

exprs-map : (es : List Expr) → exprs (map expr es) ≡ exprs_of es
exprs-map [] = refl
exprs-map (e ∷ es) = ap (t.more_expr (expr e)) (exprs-map es)

expr-call-map : (n : Name) (es : List Expr) → expr (x.Call n es) ≡ t.call (name n) (exprs (map expr es))
expr-call-map n es = search (rules, the_lemmas)

pub expr-call : (n : Name) (es : List Expr) → expr (x.Call n es) ≡ t.call (name n) (exprs_of es)
expr-call n es = expr-call-map n es ∙ ap (t.call (name n)) (exprs-map es)

expr-concat-map : (p : Place) (es : List Expr) → expr (x.Concat p es) ≡ t.concat (place p) (exprs (map expr es))
expr-concat-map p es = search (rules, the_lemmas)

pub expr-concat : (p : Place) (es : List Expr) → expr (x.Concat p es) ≡ t.concat (place p) (exprs_of es)
expr-concat p es = expr-concat-map p es ∙ ap (t.concat (place p)) (exprs-map es)

expr-repeat-map : (p : Place) (n : Expr) (es : List Expr) → expr (x.Repeat p n es) ≡ t.repeat (place p) (expr n) (exprs (map expr es))
expr-repeat-map p n es = search (rules, the_lemmas)

pub expr-repeat : (p : Place) (n : Expr) (es : List Expr) → expr (x.Repeat p n es) ≡ t.repeat (place p) (expr n) (exprs_of es)
expr-repeat p n es = expr-repeat-map p n es ∙ ap (t.repeat (place p) (expr n)) (exprs-map es)

-- ---- operators in order

abbrev link_tree : Link Expr → Link t.Expr
link_tree l = record { operator = l.operator; place = l.place; operand = expr l.operand }

expr-chain-map : (e : Expr) (ls : List (Link Expr)) → expr (x.Chain e ls) ≡ t.chain (expr e) (links (map link_tree ls))
expr-chain-map e ls = search (rules, the_lemmas)

links-map : (ls : List (Link Expr)) → links (map link_tree ls) ≡ links_of ls
links-map [] = refl
links-map (l ∷ ls) = ap (t.more_link l.operator (place l.place) (expr l.operand)) (links-map ls)

pub expr-chain : (e : Expr) (ls : List (Link Expr)) → expr (x.Chain e ls) ≡ t.chain (expr e) (links_of ls)
expr-chain e ls = expr-chain-map e ls ∙ ap (t.chain (expr e)) (links-map ls)

-- ---- choices

abbrev choice_tree : Choice Expr → Choice t.Expr
choice_tree c = record { condition = expr c.condition; place = c.place; value = expr c.value }

expr-choose-map : (cs : List (Choice Expr)) (e : Expr) → expr (x.Choose cs e) ≡ t.choose (choices (map choice_tree cs)) (expr e)
expr-choose-map cs e = search (rules, the_lemmas)

choices-map : (cs : List (Choice Expr)) → choices (map choice_tree cs) ≡ choices_of cs
choices-map [] = refl
choices-map (c ∷ cs) = ap (t.more_choice (expr c.condition) (place c.place) (expr c.value)) (choices-map cs)

pub expr-choose : (cs : List (Choice Expr)) (e : Expr) → expr (x.Choose cs e) ≡ t.choose (choices_of cs) (expr e)
expr-choose cs e = expr-choose-map cs e ∙ ap (λ w. t.choose w (expr e)) (choices-map cs)

-- ---- a name with selects

abbrev select_plain : Select Expr → Select t.Expr
select_plain (chosen_select.Index e) = chosen_select.Index (expr e)
select_plain (chosen_select.Part a b) = chosen_select.Part (expr a) (expr b)
select_plain (chosen_select.Upward a b) = chosen_select.Upward (expr a) (expr b)
select_plain (chosen_select.Downward a b) = chosen_select.Downward (expr a) (expr b)

abbrev plain_selected : Selected Expr → Selected t.Expr
plain_selected s = record { place = s.place; select = select_plain s.select }

expr-read-map : (n : Name) (ss : List (Selected Expr)) → expr (x.Read n ss) ≡ t.read (name n) (selects (map plain_selected ss))
expr-read-map n ss = search (rules, the_lemmas)

select-plain : (s : Select Expr) → view.select (select_plain s) ≡ read_select s
select-plain (chosen_select.Index e) = refl
select-plain (chosen_select.Part a b) = refl
select-plain (chosen_select.Upward a b) = refl
select-plain (chosen_select.Downward a b) = refl

selects-map : (ss : List (Selected Expr)) → selects (map plain_selected ss) ≡ read_selects ss
selects-map [] = refl
selects-map (s ∷ ss) = λ i. t.more_select (place s.place) (select-plain s.select i) (selects-map ss i)

pub expr-read : (n : Name) (ss : List (Selected Expr)) → expr (x.Read n ss) ≡ t.read (name n) (read_selects ss)
expr-read n ss = expr-read-map n ss ∙ ap (t.read (name n)) (selects-map ss)
