-- Names with a direction, headers and connections, one after another.
use Rattle.std.proofs.Common.{◌≡◌, ℕ, ◌+◌, ◌<◌, ◌≤◌, arith, Bool, true, false, ◌||◌, List, [], ◌∷◌, ◌++◌, append_assoc, length, drop, get_or, map, refl, sym, ap, ◌∙◌}
use Rattle.std.specs.Prelude.{Option, Some, None, ◌&&◌, bytes_eq}
use Rattle.std.proofs.lemmas.Cmp.{nat_list_eq_equiv}
use Rattle.std.proofs.lemmas.List.{drop_more}
use Rattle.vl_tree.specs.Syntax as t
use Rattle.vl_tree.specs.Syntax.{named_port, declared_port}
use Rattle.vl_tree.specs.SyntaxView as view
use Rattle.vl_tree.specs.declared.expression.Expr.{Expr}
use Rattle.vl_tree.specs.declared.item.Port.{Port}
use Rattle.vl_tree.specs.declared.item.NamedBind.{NamedBind}
use Rattle.vl_tree.specs.declared.fault.FaultKind.TheVariants.{BadPort}
use Rattle.vl_value.specs.Paths.{Text}
use Rattle.vl_value.specs.Faults.{start}
use Rattle.vl_value.specs.Order.{Found, at, lesser, least}
use Rattle.vl_value.proofs.OrderLaws.{least_joined}
use Rattle.vl_width.specs.Lists.{exprs_of}
use Rattle.vl_names.specs.declared.NameSet.{NameSet}
use Rattle.vl_names.specs.Names as names
use Rattle.vl_design.specs.Lists.{each_of, stands_in}
use Rattle.vl_design.specs.Declarations.{Declared}
use Rattle.vl_design.specs.ObjectFaults.{has_direction, bare_faults, named_faults, connection_faults, connection_order_faults, same_names, declaration_faults}
use Rattle.vl_design.specs.Scopes.{ports_of}
use Rattle.vl_connections.specs.Connections.{AddsDirected, directs, is_header_port, bare_by, bare_here, bare_name_of, named_by, named_here, connected_by, own_faults}

-- ---- names

pub and_true : (a : Bool) → (a && true) ≡ a
and_true true = refl
and_true false = refl

pub and_false : (a : Bool) → (a && false) ≡ false
and_false true = refl
and_false false = refl

or_move : (a b c : Bool) → ((a || b) || c) ≡ (b || (a || c))
or_move true true c = refl
or_move true false c = refl
or_move false b c = refl

or_turn : (a b c : Bool) → (a || (b || c)) ≡ ((b || a) || c)
or_turn true true c = refl
or_turn true false c = refl
or_turn false true c = refl
or_turn false false c = refl

pub or_none : (a : Bool) → a ≡ (a || false)
or_none true = refl
or_none false = refl

-- a declaration more
pub directed_on : (old new : NameSet) (d : Declared) (rest all : List Declared) → AddsDirected d old new
    → ((x : Text) → (names.has old x || has_direction (d ∷ rest) x) ≡ has_direction all x)
    → (x : Text) → (names.has new x || has_direction rest x) ≡ has_direction all x
directed_on old new d rest all added h x =
    ap (λ b. b || has_direction rest x) (added x) ∙ or_move (directs d x) (names.has old x) (has_direction rest x) ∙ h x

-- a port more
pub ports_on : (was old new : NameSet) (p : t.Port) (name : Text) (rest all : List t.Port) → name ≡ (Rattle.vl_design.specs.Clocks.port_name p).text
    → names.Adds name old new
    → ((x : Text) → (is_header_port (p ∷ rest) x || names.has old x) ≡ (is_header_port all x || names.has was x))
    → (x : Text) → (is_header_port rest x || names.has new x) ≡ (is_header_port all x || names.has was x)
ports_on was old new p name rest all named added h x =
    ap (λ b. is_header_port rest x || b) (added x) ∙ or_turn (is_header_port rest x) (bytes_eq name x) (names.has old x)
    ∙ ap (λ y. (bytes_eq y x || is_header_port rest x) || names.has old x) named ∙ h x

-- a name more that is known
pub known_on : (old new : NameSet) (name : Text) (before : List Text) → names.Adds name old new
    → ((x : Text) → names.has old x ≡ stands_in before x) → (x : Text) → names.has new x ≡ stands_in (name ∷ before) x
known_on old new name before added h x = added x ∙ (λ i. nat_list_eq_equiv.symm name x i || h x i)

-- ---- what is left, one further

pub port-drop : (all : List Port) (i : ℕ) (a : Port) → i < length all → a ≡ get_or all i a
    → map view.port (drop i all) ≡ view.port a ∷ map view.port (drop (i + 1) all)
port-drop all i a below is =
    ap (map view.port) (drop_more all i a below) ∙ ap (λ y. view.port y ∷ map view.port (drop (i + 1) all)) (sym is)

pub bind-drop : (all : List NamedBind) (i : ℕ) (a : NamedBind) → i < length all → a ≡ get_or all i a
    → map view.named_bind (drop i all) ≡ view.named_bind a ∷ map view.named_bind (drop (i + 1) all)
bind-drop all i a below is =
    ap (map view.named_bind) (drop_more all i a below) ∙ ap (λ y. view.named_bind y ∷ map view.named_bind (drop (i + 1) all)) (sym is)

-- ---- bare names of a header

pub bare_on : (f : Text → Bool) (before : List Text) (p : t.Port) (ps : List t.Port) (x : t.Name) → Some x ≡ bare_name_of p
    → bare_by f before (p ∷ ps) ≡ bare_here (stands_in before x.text) (f x.text) x ++ bare_by f (x.text ∷ before) ps
bare_on f before (declared_port d y) ps x e = absurd cc
bare_on f before (named_port y) ps x e =
    let h : x ≡ y = cc in ap (λ z. bare_here (stands_in before z.text) (f z.text) z ++ bare_by f (z.text ∷ before) ps) (sym h)

pub bare_end : (f : Text → Bool) (before : List Text) (p : t.Port) (ps : List t.Port) → None ≡ bare_name_of p → bare_by f before (p ∷ ps) ≡ []
bare_end f before (declared_port d y) ps e = refl
bare_end f before (named_port y) ps e = absurd cc

-- ---- the same faults by names with a direction

pub bare_same : (ds : List Declared) (before : List Text) (ps : List t.Port) → bare_by (has_direction ds) before ps ≡ bare_faults ds before ps
bare_same ds before [] = refl
bare_same ds before (declared_port d x ∷ ps) = refl
bare_same ds before (named_port x ∷ ps) =
    ap (λ fs. bare_here (stands_in before x.text) (has_direction ds x.text) x ++ fs) (bare_same ds (x.text ∷ before) ps)

pub named_same : (m : t.Module) (ds : List Declared) (before : List Text) (bs : List t.NamedBind)
    → named_by (is_header_port (ports_of m)) (has_direction ds) before bs ≡ named_faults m ds before bs
named_same m ds before [] = refl
named_same m ds before (b ∷ bs) =
    ap (λ fs. named_here (is_header_port (ports_of m) b.name.text || has_direction ds b.name.text) (stands_in before b.name.text) b.name ++ fs)
    (named_same m ds (b.name.text ∷ before) bs)

pub connected_same : (m : t.Module) (ds : List Declared) (b : Option t.Binds)
    → connected_by (has_direction ds) (ports_of m) b ≡ connection_faults m ds b
connected_same m ds None = refl
connected_same m ds (Some (t.ordered es)) = refl
connected_same m ds (Some (t.by_name bs)) = named_same m ds [] bs

-- ---- connections in order

pub order_some : (ps : List Port) (es : List Expr) (e : Expr) → length ps < length es → e ≡ get_or es (length ps) e
    → connection_order_faults (map view.port ps) (exprs_of es) ≡ at (start (view.expr e)) BadPort ∷ []
order_some ps [] e below is = absurd (omega (arith, below))
order_some [] (a ∷ es) e below is = ap (λ (y : Expr). at (start (view.expr y)) BadPort ∷ []) (sym is)
order_some (p ∷ ps) (a ∷ es) e below is = order_some ps es e (omega (arith, below)) is

pub order_none : (ps : List Port) (es : List Expr) → length es ≤ length ps → connection_order_faults (map view.port ps) (exprs_of es) ≡ []
order_none [] [] few = refl
order_none (p ∷ ps) [] few = refl
order_none [] (a ∷ es) few = absurd (omega (arith, few))
order_none (p ∷ ps) (a ∷ es) few = order_none ps es (omega (arith, few))

pub exprs-map : (es : List Expr) → view.exprs (map view.expr es) ≡ exprs_of es
exprs-map [] = refl
exprs-map (e ∷ es) = ap (t.more_expr (view.expr e)) (exprs-map es)

-- ---- the whole of a scope

pub least_two : (a b : List Found) (n p q : Option Found) → n ≡ lesser p q → p ≡ least a → q ≡ least b → n ≡ least (a ++ b)
least_two a b n p q e f g = e ∙ (λ i. lesser (f i) (g i)) ∙ sym (least_joined a b)

-- the declarations' own faults, and others behind them
pub own_first : (ds : List Declared) (fs : List Found) → own_faults ds ++ fs ≡ same_names [] ds ++ (each_of declaration_faults ds ++ fs)
own_first ds fs = append_assoc (same_names [] ds) (each_of declaration_faults ds) fs
