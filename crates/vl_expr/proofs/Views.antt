-- The plain trees of the program's expressions, and of their lists.
use Rattle.std.proofs.Common.{◌≡◌, List, [], ◌∷◌, ◌++◌, rules, map, refl, ap, sym, ◌∙◌}
use Rattle.bit_ops.specs.declared.operator.Unary.{Unary}
use Rattle.dt_core.specs.declared.place.Place.{Place}
use Rattle.vl_tree.specs.declared.token.Literal.{Literal}
use Rattle.vl_tree.specs.declared.expression.Expr.{Expr, the_lemmas}
use Rattle.vl_tree.specs.declared.expression.Expr.TheVariants as x
use Rattle.vl_tree.specs.declared.expression.Name.{Name}
use Rattle.vl_tree.specs.declared.expression.SystemFunction.{SystemFunction}
use Rattle.vl_tree.specs.declared.expression.Link.{Link}
use Rattle.vl_tree.specs.declared.expression.Choice.{Choice}
use Rattle.vl_tree.specs.declared.expression.Select.{Select}
use Rattle.vl_tree.specs.declared.expression.Select.TheVariants as chosen_select
use Rattle.vl_tree.specs.declared.expression.Selected.{Selected}
use Rattle.vl_tree.specs.Token.{literal_of}
use Rattle.vl_tree.specs.Syntax as t
use Rattle.vl_tree.specs.SyntaxView.{expr, place, name, exprs, links, choices, selects, system_function, read_select, read_selects}
use Rattle.vl_tree.specs.SyntaxView as view
use Rattle.vl_expr.specs.Lists.{exprs_of, links_of, choices_of, exprs_on, links_on, choices_on, selects_on, linked, chosen}

pub expr-number : (p : Place) (l : Literal) → expr (x.Number p l) ≡ t.number (place p) (literal_of l)
expr-number p l = search (rules, the_lemmas)

pub expr-system : (p : Place) (f : SystemFunction) (e : Expr) → expr (x.System p f e) ≡ t.system (place p) (system_function f) (expr e)
expr-system p f e = search (rules, the_lemmas)

pub expr-group : (p : Place) (e : Expr) → expr (x.Group p e) ≡ t.group (place p) (expr e)
expr-group p e = search (rules, the_lemmas)

pub expr-unary : (p : Place) (op : Unary) (e : Expr) → expr (x.Unary p op e) ≡ t.unary (place p) op (expr e)
expr-unary p op e = search (rules, the_lemmas)

-- ---- expressions in order

pub exprs-map : (es : List Expr) → exprs (map expr es) ≡ exprs_of es
exprs-map [] = refl
exprs-map (e ∷ es) = ap (t.more_expr (expr e)) (exprs-map es)

expr-call-map : (n : Name) (es : List Expr) → expr (x.Call n es) ≡ t.call (name n) (exprs (map expr es))
expr-call-map n es = search (rules, the_lemmas)

pub expr-call : (n : Name) (es : List Expr) → expr (x.Call n es) ≡ t.call (name n) (exprs_of es)
expr-call n es = expr-call-map n es ∙ ap (t.call (name n)) (exprs-map es)

expr-concat-map : (p : Place) (es : List Expr) → expr (x.Concat p es) ≡ t.concat (place p) (exprs (map expr es))
expr-concat-map p es = search (rules, the_lemmas)

pub expr-concat : (p : Place) (es : List Expr) → expr (x.Concat p es) ≡ t.concat (place p) (exprs_of es)
expr-concat p es = expr-concat-map p es ∙ ap (t.concat (place p)) (exprs-map es)

expr-repeat-map : (p : Place) (n : Expr) (es : List Expr) → expr (x.Repeat p n es) ≡ t.repeat (place p) (expr n) (exprs (map expr es))
expr-repeat-map p n es = search (rules, the_lemmas)

pub expr-repeat : (p : Place) (n : Expr) (es : List Expr) → expr (x.Repeat p n es) ≡ t.repeat (place p) (expr n) (exprs_of es)
expr-repeat p n es = expr-repeat-map p n es ∙ ap (t.repeat (place p) (expr n)) (exprs-map es)

pub exprs_on-none : (es : List Expr) → exprs_on es t.no_expr ≡ exprs_of es
exprs_on-none [] = refl
exprs_on-none (e ∷ es) = ap (t.more_expr (expr e)) (exprs_on-none es)

pub exprs_on-one : (es : List Expr) (e : Expr) (more : t.Exprs) → exprs_on (es ++ e ∷ []) more ≡ exprs_on es (t.more_expr (expr e) more)
exprs_on-one [] e more = refl
exprs_on-one (a ∷ es) e more = ap (t.more_expr (expr a)) (exprs_on-one es e more)

-- ---- selects

abbrev select_plain : Select Expr → Select t.Expr
select_plain (chosen_select.Index e) = chosen_select.Index (expr e)
select_plain (chosen_select.Part a b) = chosen_select.Part (expr a) (expr b)
select_plain (chosen_select.Upward a b) = chosen_select.Upward (expr a) (expr b)
select_plain (chosen_select.Downward a b) = chosen_select.Downward (expr a) (expr b)

pub selects_on-none : (ss : List (Selected Expr)) → selects_on ss t.no_select ≡ read_selects ss
selects_on-none [] = refl
selects_on-none (s ∷ ss) = ap (t.more_select (place s.place) (read_select s.select)) (selects_on-none ss)

pub selects_on-one : (ss : List (Selected Expr)) (s : Selected Expr) (more : t.Selects)
    → selects_on (ss ++ s ∷ []) more ≡ selects_on ss (t.more_select (place s.place) (read_select s.select) more)
selects_on-one [] s more = refl
selects_on-one (a ∷ ss) s more = ap (t.more_select (place a.place) (read_select a.select)) (selects_on-one ss s more)

-- ---- operators in order

abbrev link_tree : Link Expr → Link t.Expr
link_tree l = record { operator = l.operator; place = l.place; operand = expr l.operand }

expr-chain-map : (e : Expr) (ls : List (Link Expr)) → expr (x.Chain e ls) ≡ t.chain (expr e) (links (map link_tree ls))
expr-chain-map e ls = search (rules, the_lemmas)

links-map : (ls : List (Link Expr)) → links (map link_tree ls) ≡ links_of ls
links-map [] = refl
links-map (l ∷ ls) = ap (t.more_link l.operator (place l.place) (expr l.operand)) (links-map ls)

pub linked-none : (e : t.Expr) (ls : List (Link Expr)) → ls ≡ [] → e ≡ linked e (links_of ls)
linked-none e [] h = refl
linked-none e (l ∷ ls) h = absurd cc

linked-some : (e : t.Expr) (ls : List (Link Expr)) → (ls ≡ [] → ⊥) → linked e (links_of ls) ≡ t.chain e (links_of ls)
linked-some e [] h = absurd (h refl)
linked-some e (l ∷ ls) h = refl

pub expr-linked : (e : Expr) (ls : List (Link Expr)) → (ls ≡ [] → ⊥) → expr (x.Chain e ls) ≡ linked (expr e) (links_of ls)
expr-linked e ls h = expr-chain-map e ls ∙ ap (t.chain (expr e)) (links-map ls) ∙ sym (linked-some (expr e) ls h)

pub links_on-none : (ls : List (Link Expr)) → links_on ls t.no_link ≡ links_of ls
links_on-none [] = refl
links_on-none (l ∷ ls) = ap (t.more_link l.operator (place l.place) (expr l.operand)) (links_on-none ls)

pub links_on-one : (ls : List (Link Expr)) (l : Link Expr) (more : t.Links)
    → links_on (ls ++ l ∷ []) more ≡ links_on ls (t.more_link l.operator (place l.place) (expr l.operand) more)
links_on-one [] l more = refl
links_on-one (a ∷ ls) l more = ap (t.more_link a.operator (place a.place) (expr a.operand)) (links_on-one ls l more)

-- ---- choices

abbrev choice_tree : Choice Expr → Choice t.Expr
choice_tree c = record { condition = expr c.condition; place = c.place; value = expr c.value }

expr-choose-map : (cs : List (Choice Expr)) (e : Expr) → expr (x.Choose cs e) ≡ t.choose (choices (map choice_tree cs)) (expr e)
expr-choose-map cs e = search (rules, the_lemmas)

choices-map : (cs : List (Choice Expr)) → choices (map choice_tree cs) ≡ choices_of cs
choices-map [] = refl
choices-map (c ∷ cs) = ap (t.more_choice (expr c.condition) (place c.place) (expr c.value)) (choices-map cs)

pub chosen-none : (cs : List (Choice Expr)) (e : t.Expr) → cs ≡ [] → e ≡ chosen (choices_of cs) e
chosen-none [] e h = refl
chosen-none (c ∷ cs) e h = absurd cc

chosen-some : (cs : List (Choice Expr)) (e : t.Expr) → (cs ≡ [] → ⊥) → chosen (choices_of cs) e ≡ t.choose (choices_of cs) e
chosen-some [] e h = absurd (h refl)
chosen-some (c ∷ cs) e h = refl

pub expr-chosen : (cs : List (Choice Expr)) (e : Expr) → (cs ≡ [] → ⊥) → expr (x.Choose cs e) ≡ chosen (choices_of cs) (expr e)
expr-chosen cs e h =
    expr-choose-map cs e ∙ ap (λ w. t.choose w (expr e)) (choices-map cs) ∙ sym (chosen-some cs (expr e) h)

pub choices_on-none : (cs : List (Choice Expr)) → choices_on cs t.no_choice ≡ choices_of cs
choices_on-none [] = refl
choices_on-none (c ∷ cs) = ap (t.more_choice (expr c.condition) (place c.place) (expr c.value)) (choices_on-none cs)

pub choices_on-one : (cs : List (Choice Expr)) (c : Choice Expr) (more : t.Choices)
    → choices_on (cs ++ c ∷ []) more ≡ choices_on cs (t.more_choice (expr c.condition) (place c.place) (expr c.value) more)
choices_on-one [] c more = refl
choices_on-one (a ∷ cs) c more = ap (t.more_choice (expr a.condition) (place a.place) (expr a.value)) (choices_on-one cs c more)

-- ---- a name with selects

abbrev plain_selected : Selected Expr → Selected t.Expr
plain_selected s = record { place = s.place; select = select_plain s.select }

expr-read-map : (n : Name) (ss : List (Selected Expr)) → expr (x.Read n ss) ≡ t.read (name n) (selects (map plain_selected ss))
expr-read-map n ss = search (rules, the_lemmas)

select-plain : (s : Select Expr) → view.select (select_plain s) ≡ read_select s
select-plain (chosen_select.Index e) = refl
select-plain (chosen_select.Part a b) = refl
select-plain (chosen_select.Upward a b) = refl
select-plain (chosen_select.Downward a b) = refl

selects-map : (ss : List (Selected Expr)) → selects (map plain_selected ss) ≡ read_selects ss
selects-map [] = refl
selects-map (s ∷ ss) = λ i. t.more_select (place s.place) (select-plain s.select i) (selects-map ss i)

pub expr-read : (n : Name) (ss : List (Selected Expr)) → expr (x.Read n ss) ≡ t.read (name n) (read_selects ss)
expr-read n ss = expr-read-map n ss ∙ ap (t.read (name n)) (selects-map ss)
