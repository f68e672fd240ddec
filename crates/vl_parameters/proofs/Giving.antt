-- Values that are given in order and by name, one after another.
use Rattle.std.proofs.Common.{◌≡◌, ℕ, ◌+◌, ◌<◌, Bool, true, false, ◌||◌, List, [], ◌∷◌, ◌++◌, length, drop, get_or, map, refl, sym, ap, ◌∙◌}
use Rattle.std.proofs.lemmas.List.{drop_more}
use Rattle.std.proofs.lemmas.Cmp.{nat_list_eq_equiv}
use Rattle.std.specs.Prelude.{Option, Some, None, if◌then◌else◌, bytes_eq}
use Rattle.std.specs.Borrow.{Bor}
use Rattle.vl_tree.specs.Syntax as t
use Rattle.vl_tree.specs.Syntax.{no_expr, more_expr}
use Rattle.vl_tree.specs.SyntaxView as view
use Rattle.vl_tree.specs.declared.expression.Expr.{Expr}
use Rattle.vl_value.specs.Paths.{Text}
use Rattle.vl_width.specs.Lists.{exprs_of}
use Rattle.vl_names.specs.declared.NameSet.{NameSet}
use Rattle.vl_names.specs.Names as names
use Rattle.vl_design.specs.Lists.{stands_in}
use Rattle.vl_design.specs.Constants.{Known}
use Rattle.vl_design.specs.Parameters.{Given, given_by, given_in_order, value_order_faults, given_by_name}
use Rattle.vl_parameters.specs.Gifts.{bind_gives}
use Rattle.vl_parameters.specs.Open.{texts_of}

-- ---- in order

pub expr-drop : (all : List Expr) (i : ℕ) (e : Expr) → i < length all → e ≡ get_or all i e
    → exprs_of (drop i all) ≡ more_expr (view.expr e) (exprs_of (drop (i + 1) all))
expr-drop all i e below is =
    ap exprs_of (drop_more all i e below) ∙ ap (λ y. more_expr (view.expr y) (exprs_of (drop (i + 1) all))) (sym is)

pub text-drop : (all : List (Bor (List ℕ))) (i : ℕ) (x : Bor (List ℕ)) → i < length all → x ≡ get_or all i x
    → texts_of (drop i all) ≡ x.now ∷ texts_of (drop (i + 1) all)
text-drop all i x below is =
    ap texts_of (drop_more all i x below) ∙ ap (λ (y : Bor (List ℕ)). y.now ∷ texts_of (drop (i + 1) all)) (sym is)

pub exprs-map : (es : List Expr) → view.exprs (map view.expr es) ≡ exprs_of es
exprs-map [] = refl
exprs-map (e ∷ es) = ap (more_expr (view.expr e)) (exprs-map es)

pub order_none : (k : Known) (xs : List Text) → given_in_order k xs no_expr ≡ []
order_none k [] = refl
order_none k (x ∷ xs) = refl

pub order_faults_none : (k : Known) (xs : List Text) → value_order_faults k xs no_expr ≡ []
order_faults_none k [] = refl
order_faults_none k (x ∷ xs) = refl

-- ---- names

pub same_either_way : (x y : Text) → bytes_eq x y ≡ bytes_eq y x
same_either_way x y = nat_list_eq_equiv.symm x y

-- a set of names, with one name more and those that are left
or_on : (a b c d : Bool) → b ≡ a → ((b || c) || d) ≡ (c || (a || d))
or_on true true true d e = refl
or_on true true false d e = refl
or_on false false c d e = refl
or_on true false c d e = absurd cc
or_on false true c d e = absurd cc

pub names_on : (old new : NameSet) (name : Text) (rest all : List Text) → names.Adds name old new
    → ((x : Text) → (names.has old x || stands_in (name ∷ rest) x) ≡ stands_in all x)
    → (x : Text) → (names.has new x || stands_in rest x) ≡ stands_in all x
names_on old new name rest all added h x =
    ap (λ b. b || stands_in rest x) (added x)
    ∙ or_on (bytes_eq x name) (bytes_eq name x) (names.has old x) (stands_in rest x) (same_either_way name x) ∙ h x

pub or_none : (a : Bool) → a ≡ (a || false)
or_none true = refl
or_none false = refl

-- names that were bound, with one name more
pub bound_on : (old new : NameSet) (name : Text) (before : List Text) → names.Adds name old new
    → ((x : Text) → names.has old x ≡ stands_in before x) → (x : Text) → names.has new x ≡ stands_in (name ∷ before) x
bound_on old new name before added h x = added x ∙ (λ i. same_either_way name x i || h x i)

-- ---- by name

given_on : (o : Option t.Expr) (g : t.Expr → Given) (b : Bool) (rest : List Given)
    → (elim o [ Some e ↦ (if b then g e ∷ [] else []) ++ rest | None ↦ rest ])
    ≡ (if b then (elim o [ Some e ↦ g e ∷ [] | None ↦ [] ]) else []) ++ rest
given_on None g true rest = refl
given_on None g false rest = refl
given_on (Some e) g true rest = refl
given_on (Some e) g false rest = refl

pub by_name_on : (k : Known) (xs : List Text) (b : t.NamedBind) (bs : List t.NamedBind)
    → given_by_name k xs (b ∷ bs) ≡ (if stands_in xs b.name.text then bind_gives k b else []) ++ given_by_name k xs bs
by_name_on k xs b bs = given_on b.value (given_by k b.name.text) (stands_in xs b.name.text) (given_by_name k xs bs)
