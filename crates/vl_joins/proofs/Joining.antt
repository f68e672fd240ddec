-- Ports with names, one after another; and what of them is passed up.
use Rattle.std.proofs.Common.{◌≡◌, ℕ, zero, suc, ◌+◌, ◌<◌, ◌≤◌, Bool, true, false, List, [], ◌∷◌, ◌++◌, map, length, drop, get_or, arith, refl, sym, ap, ◌∙◌}
use Rattle.std.proofs.lemmas.List.{drop_more, drop_all}
use Rattle.std.specs.Prelude.{Option, Some, None, if◌then◌else◌}
use Rattle.vl_tree.specs.declared.expression.Expr.{Expr}
use Rattle.vl_tree.specs.Syntax as t
use Rattle.vl_tree.specs.Syntax.{no_expr, more_expr}
use Rattle.vl_tree.specs.SyntaxView as view
use Rattle.vl_value.specs.Paths.{Text, Path, below}
use Rattle.vl_value.specs.Constant.{Sight}
use Rattle.vl_width.specs.Lists.{exprs_of}
use Rattle.vl_design.specs.Lists.{each_of}
use Rattle.vl_design.specs.Scopes.{Level, ports_of}
use Rattle.vl_design.specs.Objects.{objects, object_at}
use Rattle.vl_design.specs.LoopVariables.{object_path, paths_in, is_path_in}
use Rattle.vl_design.specs.Clocks.{in_order, by_names, connected, passed_up, is_input, port_name}
use Rattle.vl_clocks.specs.Names.{plain_names}
use Rattle.vl_clocks.proofs.Clocked.{each_joined, of_expr}
use Rattle.vl_joins.specs.Joins.{joins_of, joins_at, joins_bound, joins_with, connected_by, passed_by}

-- ---- expressions in order

abbrev pub behind : t.Exprs → t.Exprs
behind no_expr = no_expr
behind (more_expr e es) = es

drop_none : (n : ℕ) → exprs_of (drop n []) ≡ no_expr
drop_none zero = refl
drop_none (suc n) = refl

pub behind-drop : (all : List Expr) (k : ℕ) → behind (exprs_of (drop k all)) ≡ exprs_of (drop (k + 1) all)
behind-drop [] zero = refl
behind-drop [] (suc k) = sym (drop_none (suc k + 1))
behind-drop (e ∷ all) zero = refl
behind-drop (e ∷ all) (suc k) =
    let up : suc (k + 1) ≡ suc k + 1 = omega arith in
    behind-drop all k ∙ ap (λ n. exprs_of (drop n (e ∷ all))) up

pub exprs-map : (es : List Expr) → view.exprs (map view.expr es) ≡ exprs_of es
exprs-map [] = refl
exprs-map (e ∷ es) = ap (more_expr (view.expr e)) (exprs-map es)

none_in_order : (ps : List t.Port) → in_order ps no_expr ≡ []
none_in_order [] = refl
none_in_order (p ∷ ps) = refl

pub in_order_on : (p : t.Port) (ps : List t.Port) (es : t.Exprs)
    → joins_of (in_order (p ∷ ps) es) ≡ joins_at p es ++ joins_of (in_order ps (behind es))
in_order_on p ps no_expr = ap joins_of (sym (none_in_order ps))
in_order_on p ps (more_expr e es) = refl

pub at_some : (p : t.Port) (all : List Expr) (k : ℕ) (e : Expr) → k < length all → e ≡ get_or all k e
    → joins_with (port_name p).text (plain_names (view.expr e)) ≡ joins_at p (exprs_of (drop k all))
at_some p all k e below is =
    ap (λ y. joins_with (port_name p).text (plain_names (view.expr y))) is
    ∙ ap (λ ys. joins_at p (exprs_of ys)) (sym (drop_more all k e below))

pub at_none : (p : t.Port) (all : List Expr) (k : ℕ) → length all ≤ k → [] ≡ joins_at p (exprs_of (drop k all))
at_none p all k few = ap (λ ys. joins_at p (exprs_of ys)) (sym (drop_all k all few))

-- ---- binds by name

bound_value : (x : Text) (v : Option t.Expr) (bs : List t.NamedBind)
    → joins_of (elim v [ Some e ↦ (x, e) ∷ by_names bs | None ↦ by_names bs ])
    ≡ (elim v [ Some e ↦ joins_with x (plain_names e) | None ↦ [] ]) ++ joins_of (by_names bs)
bound_value x None bs = refl
bound_value x (Some e) bs = refl

pub bound_on : (b : t.NamedBind) (bs : List t.NamedBind) → joins_of (by_names (b ∷ bs)) ≡ joins_bound b ++ joins_of (by_names bs)
bound_on b bs = bound_value b.name.text b.value bs

-- ---- the ports of a module

pub connected_is : (m : t.Module) (b : Option t.Binds) → connected_by (ports_of m) b ≡ connected m b
connected_is m None = refl
connected_is m (Some (t.ordered es)) = refl
connected_is m (Some (t.by_name bs)) = refl

-- ---- what is passed up

fused : {A B C : Type 0} (g : B → List C) (h : A → B) (xs : List A) → each_of g (map h xs) ≡ each_of (λ a. g (h a)) xs
fused g h [] = refl
fused g h (a ∷ xs) = ap (λ y. g (h a) ++ y) (fused g h xs)

by_flag : (b : Bool) (s : Sight) (ns : List Text) → each_of (λ n. if b then object_path (s n) else []) ns ≡ (if b then paths_in s ns else [])
by_flag true s ns = refl
by_flag false s [] = refl
by_flag false s (n ∷ ns) = by_flag false s ns

abbrev test : List Path → Level → Text → Bool
test clocks l x = Rattle.std.specs.Prelude.◌&&◌ (is_input (object_at (objects l) x)) (is_path_in clocks (below l.path x))

pub passed : (clocks : List Path) (l : Level) (s : Sight) (cs : List (Text × t.Expr))
    → each_of (passed_by clocks l s) (joins_of cs) ≡ passed_up clocks l s cs
passed clocks l s [] = refl
passed clocks l s (c ∷ cs) =
    each_joined (passed_by clocks l s) (joins_with c.0 (plain_names c.1)) (joins_of cs)
    ∙ (λ i. (fused (passed_by clocks l s) (λ n. record { port = c.0; name = n }) (plain_names c.1)
    ∙ by_flag (test clocks l c.0) s (plain_names c.1)
    ∙ ap (λ ps. if test clocks l c.0 then ps else []) (of_expr s c.1)) i ++ passed clocks l s cs i)
