-- Names behind `posedge` stand for the clocks of a scope.
use Rattle.std.proofs.Common.{◌≡◌, ℕ, ◌+◌, ◌<◌, false, List, [], ◌∷◌, ◌++◌, map, length, drop, get_or, rules, append-nil, append_assoc, refl, sym, ap, ◌∙◌}
use Rattle.std.proofs.lemmas.List.{drop_more}
use Rattle.std.specs.Prelude.{◌==◌}
use Rattle.dt_core.specs.declared.place.Place as code_place
use Rattle.vl_tree.specs.declared.expression.Expr.{Expr}
use Rattle.vl_tree.specs.declared.expression.Expr.TheVariants as y
use Rattle.vl_tree.specs.declared.expression.Name as code_name
use Rattle.vl_tree.specs.declared.expression.Selected.{Selected}
use Rattle.vl_tree.specs.declared.item.Sensed as code_sensed
use Rattle.vl_tree.specs.declared.item.Event as code_event
use Rattle.vl_tree.specs.declared.item.Item as code
use Rattle.vl_tree.specs.declared.item.Item.TheVariants as x
use Rattle.vl_tree.specs.declared.statement.Stmt as code_stmt
use Rattle.vl_tree.specs.Syntax.{Item, Items, no_item, more_item}
use Rattle.vl_tree.specs.Syntax as t
use Rattle.vl_tree.specs.SyntaxView as view
use Rattle.vl_width.proofs.Views.{expr-read}
use Rattle.vl_value.specs.Constant.{Sight}
use Rattle.vl_design.specs.Lists.{each_of}
use Rattle.vl_design.specs.LoopVariables.{object_path, paths_in}
use Rattle.vl_design.specs.Clocks.{plain_path, edge_paths, clocked_by, clocked_in}
use Rattle.vl_clocks.specs.Names.{plain_names, edge_names, event_names, clock_names_by, clock_names_in}

-- ---- an expression that is a name

pub of_selected : (e : Expr) (n : code_name.Name) (ss : List (Selected Expr)) → e ≡ y.Read n ss → (length ss == 0) ≡ false
    → [] ≡ plain_names (view.expr e)
of_selected e n [] is some = absurd cc
of_selected e n (s ∷ ss) is some = sym (ap (λ z. plain_names (view.expr z)) is ∙ ap plain_names (expr-read n (s ∷ ss)))

-- ---- an `always`

pub of_always : (i : code.Item) (p : code_place.Place) (e : code_event.Event) (b : code_stmt.Stmt) → i ≡ x.Always p e b
    → event_names (view.event e) ≡ clock_names_by (view.item i)
of_always i p e b is =
    let v : view.item (x.Always p e b) ≡ t.always (view.place p) (view.event e) (view.stmt b) = search (rules, code.the_lemmas) in
    sym (ap (λ z. clock_names_by (view.item z)) is ∙ ap clock_names_by v)

pub sensed-drop : (all : List code_sensed.Sensed) (k : ℕ) (a : code_sensed.Sensed) → k < length all → a ≡ get_or all k a
    → map view.sensed (drop k all) ≡ view.sensed a ∷ map view.sensed (drop (k + 1) all)
sensed-drop all k a below is = ap (map view.sensed) (drop_more all k a below) ∙ ap (λ z. view.sensed z ∷ map view.sensed (drop (k + 1) all)) (sym is)

-- ---- what names stand for

pub each_joined : {A B : Type 0} (f : A → List B) (xs ys : List A) → each_of f (xs ++ ys) ≡ each_of f xs ++ each_of f ys
each_joined f [] ys = refl
each_joined f (a ∷ xs) ys = ap (λ z. f a ++ z) (each_joined f xs ys) ∙ sym (append_assoc (f a) (each_of f xs) (each_of f ys))

pub of_expr : (s : Sight) (e : t.Expr) → paths_in s (plain_names e) ≡ plain_path s e
of_expr s (t.read n t.no_select) = append-nil (object_path (s n.text))
of_expr s (t.read n (t.more_select p c ss)) = refl
of_expr s (t.number p l) = refl
of_expr s (t.call n es) = refl
of_expr s (t.system p f e) = refl
of_expr s (t.group p e) = refl
of_expr s (t.concat p es) = refl
of_expr s (t.repeat p n es) = refl
of_expr s (t.unary p o e) = refl
of_expr s (t.chain e ls) = refl
of_expr s (t.choose cs e) = refl

of_edge_kind : (s : Sight) (g : t.Edge) (e : t.Expr) → paths_in s (edge_names (record { edge = g; signal = e })) ≡ edge_paths s (record { edge = g; signal = e })
of_edge_kind s (t.positive_edge p) e = of_expr s e
of_edge_kind s (t.negative_edge p) e = refl
of_edge_kind s t.no_edge e = refl

of_edges : (s : Sight) (es : List t.Sensed) → paths_in s (each_of edge_names es) ≡ each_of (edge_paths s) es
of_edges s [] = refl
of_edges s (e ∷ es) =
    each_joined (λ n. object_path (s n)) (edge_names e) (each_of edge_names es)
    ∙ (λ k. of_edge_kind s e.edge e.signal k ++ of_edges s es k)

of_awaited : (s : Sight) (p : t.Place) (e : t.Event) (b : t.Stmt) → paths_in s (event_names e) ≡ clocked_by s (t.always p e b)
of_awaited s p (t.sensed es) b = of_edges s es
of_awaited s p t.any_read b = refl
of_awaited s p t.any_read_list b = refl

mutual
  of_item : (s : Sight) (i : Item) → paths_in s (clock_names_by i) ≡ clocked_by s i
  of_item s (t.always p e b) = of_awaited s p e b
  of_item s (t.region p is) = of_items s is
  of_item s (t.initial p b) = refl
  of_item s (t.function f) = refl
  of_item s (t.parameter p l g r vs) = refl
  of_item s (t.directed d ns) = refl
  of_item s (t.nets p g r ns) = refl
  of_item s (t.registers p g r vs) = refl
  of_item s (t.integer p vs) = refl
  of_item s (t.genvar p ns) = refl
  of_item s (t.continuous p ds) = refl
  of_item s (t.instances m ps is) = refl
  of_item s (t.generate_loop p l b) = refl
  of_item s (t.generate_if bs e) = refl

  pub of_items : (s : Sight) (is : Items) → paths_in s (clock_names_in is) ≡ clocked_in s is
  of_items s no_item = refl
  of_items s (more_item i is) =
      each_joined (λ n. object_path (s n)) (clock_names_by i) (clock_names_in is)
      ∙ (λ k. of_item s i k ++ of_items s is k)
