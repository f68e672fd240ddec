-- The nodes of operands, expressions and targets' values have the values that those mean.
use Rattle.std.proofs.Common.{◌≡◌, ℕ, ◌<◌, ◌≤◌, ◌^◌, max, Bool, true, false, ◌&&◌, ◌==◌, List, [], ◌∷◌, ◌++◌, length, refl, sym, ap, subst, ◌∙◌, arith}
use Rattle.std.specs.Prelude.{Result, Ok, Err, IfOk, OnOk}
use Rattle.std.proofs.Math.Nat.{mod-eq_of_lt}
use Rattle.std.proofs.lemmas.Result.{IfOk-weaker}
use Rattle.bit_ops.specs.Operators.{low, add, bit}
use Rattle.flat_ir.specs.declared.design.Node.{Node}
use Rattle.flat_ir.specs.declared.design.Node.TheVariants as n
use Rattle.flat_ir.specs.FlatRun.{NodeFits, value, values_from}
use Rattle.flat_ir.specs.Names.{Fit}
use Rattle.vl_tree.specs.declared.expr.Unary.TheVariants as one
use Rattle.vl_tree.specs.declared.expr.Binary.TheVariants as two
use Rattle.vl_tree.specs.Tree.{Text, Module, Primary, name, Expr, unary, binary}
use Rattle.vl_meaning.specs.Objects.{width_of, data_inputs, registers}
use Rattle.vl_meaning.specs.Faults.{is_primary, are_declared}
use Rattle.vl_meaning.specs.Expression.{Context, primary_meaning, meaning, test, own, assigned, logically_negated, summed, compared, value_at}
use Rattle.vl_meaning.specs.Run.{val}
use Rattle.vl_meaning.specs.StandsFor.{input_widths, register_widths, by_names}
use Rattle.vl_proc.specs.Lowers.{bare, context, node_value, Grown, Makes}
use Rattle.vl_proc.proofs.Values.{added, made_before, made_as, kept, test_at, meaning_below, primary_width_same, width_same, primary_sign_same, sign_same}
use Rattle.vl_proc.proofs.Sees.{read_below}

-- the last node that was added
pub added_ok : {E : Type 0} (m : Module) (old mid new : List Node) (x : Node) (v : List ℕ → List ℕ → ℕ) (r : Result ℕ E) → Grown m old mid → IfOk r (λ k. k ≡ length mid) → OnOk r (new ≡ mid ++ x ∷ [])
    → NodeFits (length (data_inputs m)) (length (registers m)) (length mid) x
    → ((row state : List ℕ) → Fit (input_widths m) row → Fit (register_widths m) state → value row state (values_from row state [] mid) x ≡ v row state) → IfOk r (λ k. Makes m old new k v)
added_ok m old mid new x v (Ok k) g e w f h = added m old mid new x k v g e w f h
added_ok m old mid new x v (Err z) g e w f h = tt

pub primary_name : {E : Type 0} (m : Module) (x : Text) (w : ℕ) (s : Bool) (old new : List Node) (r : Result ℕ E) → are_declared m ≡ true → is_primary m (name x) ≡ true
    → (primary_meaning (bare m) (name x)).width ≤ w → IfOk r (λ k. Makes m old new k (λ row state. value_at (val m row (by_names m state)) x))
    → IfOk r (λ k. Makes m old new k (λ row state. (primary_meaning (context m row state) (name x)).at w s))
primary_name m x w s old new r declared sound wide = IfOk-weaker r (λ k. Makes m old new k (λ row state. value_at (val m row (by_names m state)) x))
    (λ k. Makes m old new k (λ row state. (primary_meaning (context m row state) (name x)).at w s))
    (λ k. made_as m old new k (λ row state. value_at (val m row (by_names m state)) x) (λ row state. (primary_meaning (context m row state) (name x)).at w s)
    (λ row state f g. sym (kept (width_of m.ports x) w (value_at (val m row (by_names m state)) x) wide (read_below m x declared sound row state f g))))

-- two operands, of which the node reads both
pub sum_made : {E : Type 0} (m : Module) (a b : Primary) (w : ℕ) (s : Bool) (old n1 n2 new : List Node) (i j : ℕ) (r : Result ℕ E) → 1 ≤ w → w ≤ 128
    → Makes m old n1 i (λ row state. (primary_meaning (context m row state) a).at w s) → Makes m n1 n2 j (λ row state. (primary_meaning (context m row state) b).at w s)
    → IfOk r (λ k. k ≡ length n2) → OnOk r (new ≡ n2 ++ n.Sum i j w ∷ []) → IfOk r (λ k. Makes m old new k (λ row state. (summed (primary_meaning (context m row state) a) (primary_meaning (context m row state) b)).at w s))
sum_made m a b w s old n1 n2 new i j r low high x y e z =
    let x' = made_before m old n1 n2 i (λ row state. (primary_meaning (context m row state) a).at w s) x y.grown in
    added_ok m old n2 new (n.Sum i j w) (λ row state. (summed (primary_meaning (context m row state) a) (primary_meaning (context m row state) b)).at w s) r x'.grown e z (x'.here, y.here, low, high)
    (λ row state f g. ap (λ (v : ℕ). add w v (node_value row state n2 j)) (x'.is row state f g) ∙ ap (λ (v : ℕ). add w ((primary_meaning (context m row state) a).at w s) v) (y.is row state f g))

-- the comparison at the operands' width and sign
compared_at : (m : Module) (a b : Primary) (w : ℕ) (s : Bool) (c : Context) → c.ports ≡ m.ports → w ≡ max (primary_meaning (bare m) a).width (primary_meaning (bare m) b).width
    → s ≡ ((primary_meaning (bare m) a).signed && (primary_meaning (bare m) b).signed) → bit ((primary_meaning c a).at w s == (primary_meaning c b).at w s) ≡ own (compared (primary_meaning c a) (primary_meaning c b))
compared_at m a b w s c p wide sign =
    let x : (primary_meaning c a).width ≡ (primary_meaning (bare m) a).width = primary_width_same c (bare m) a p in
    let y : (primary_meaning c b).width ≡ (primary_meaning (bare m) b).width = primary_width_same c (bare m) b p in
    let u : (primary_meaning c a).signed ≡ (primary_meaning (bare m) a).signed = primary_sign_same c (bare m) a in
    let v : (primary_meaning c b).signed ≡ (primary_meaning (bare m) b).signed = primary_sign_same c (bare m) b in
    let e : w ≡ max (primary_meaning c a).width (primary_meaning c b).width = cc in
    let d : s ≡ ((primary_meaning c a).signed && (primary_meaning c b).signed) = cc in
    ap (λ (k : ℕ). bit ((primary_meaning c a).at k s == (primary_meaning c b).at k s)) e
    ∙ ap (λ (t : Bool). bit ((primary_meaning c a).at (max (primary_meaning c a).width (primary_meaning c b).width) t == (primary_meaning c b).at (max (primary_meaning c a).width (primary_meaning c b).width) t)) d
    ∙ sym (test_at ((primary_meaning c a).at (max (primary_meaning c a).width (primary_meaning c b).width) ((primary_meaning c a).signed && (primary_meaning c b).signed)
    == (primary_meaning c b).at (max (primary_meaning c a).width (primary_meaning c b).width) ((primary_meaning c a).signed && (primary_meaning c b).signed)) 1 false (omega arith))

pub equal_made : {E : Type 0} (m : Module) (a b : Primary) (w : ℕ) (s : Bool) (old n1 n2 new : List Node) (i j : ℕ) (r : Result ℕ E)
    → w ≡ max (primary_meaning (bare m) a).width (primary_meaning (bare m) b).width → s ≡ ((primary_meaning (bare m) a).signed && (primary_meaning (bare m) b).signed)
    → Makes m old n1 i (λ row state. (primary_meaning (context m row state) a).at w s) → Makes m n1 n2 j (λ row state. (primary_meaning (context m row state) b).at w s)
    → IfOk r (λ k. k ≡ length n2) → OnOk r (new ≡ n2 ++ n.Equal i j ∷ [])
    → IfOk r (λ k. Makes m old new k (λ row state. own (compared (primary_meaning (context m row state) a) (primary_meaning (context m row state) b))))
equal_made m a b w s old n1 n2 new i j r wide sign x y e z =
    let x' = made_before m old n1 n2 i (λ row state. (primary_meaning (context m row state) a).at w s) x y.grown in
    added_ok m old n2 new (n.Equal i j) (λ row state. own (compared (primary_meaning (context m row state) a) (primary_meaning (context m row state) b))) r x'.grown e z (x'.here, y.here)
    (λ row state f g. ap (λ (v : ℕ). bit (v == node_value row state n2 j)) (x'.is row state f g)
    ∙ ap (λ (v : ℕ). bit ((primary_meaning (context m row state) a).at w s == v)) (y.is row state f g)
    ∙ compared_at m a b w s (context m row state) refl wide sign)

test_same : (b : Bool) (w : ℕ) (s : Bool) → 1 ≤ w → own (test b) ≡ (test b).at w s
test_same b w s some = test_at b 1 false (omega arith) ∙ sym (test_at b w s some)

-- a test is the same at each width
pub equal_at : {E : Type 0} (m : Module) (a b : Primary) (w : ℕ) (s : Bool) (old new : List Node) (r : Result ℕ E) → 1 ≤ w
    → IfOk r (λ k. Makes m old new k (λ row state. own (compared (primary_meaning (context m row state) a) (primary_meaning (context m row state) b))))
    → IfOk r (λ k. Makes m old new k (λ row state. (meaning (context m row state) (binary a two.Equal b)).at w s))
equal_at m a b w s old new r some = IfOk-weaker r (λ k. Makes m old new k (λ row state. own (compared (primary_meaning (context m row state) a) (primary_meaning (context m row state) b))))
    (λ k. Makes m old new k (λ row state. (meaning (context m row state) (binary a two.Equal b)).at w s))
    (λ k. made_as m old new k (λ row state. own (compared (primary_meaning (context m row state) a) (primary_meaning (context m row state) b))) (λ row state. (meaning (context m row state) (binary a two.Equal b)).at w s)
    (λ row state f g. test_same _ w s some))

pub not_at : {E : Type 0} (m : Module) (a : Primary) (w : ℕ) (s : Bool) (old new : List Node) (r : Result ℕ E) → 1 ≤ w
    → IfOk r (λ k. Makes m old new k (λ row state. own (logically_negated (primary_meaning (context m row state) a))))
    → IfOk r (λ k. Makes m old new k (λ row state. (meaning (context m row state) (unary one.LogicNot a)).at w s))
not_at m a w s old new r some = IfOk-weaker r (λ k. Makes m old new k (λ row state. own (logically_negated (primary_meaning (context m row state) a))))
    (λ k. Makes m old new k (λ row state. (meaning (context m row state) (unary one.LogicNot a)).at w s))
    (λ k. made_as m old new k (λ row state. own (logically_negated (primary_meaning (context m row state) a))) (λ row state. (meaning (context m row state) (unary one.LogicNot a)).at w s)
    (λ row state f g. test_same _ w s some))

-- an operand at its own width and sign
pub not_made : {E : Type 0} (m : Module) (a : Primary) (v : ℕ) (t : Bool) (old mid new : List Node) (i : ℕ) (r : Result ℕ E) → v ≡ (primary_meaning (bare m) a).width
    → t ≡ (primary_meaning (bare m) a).signed → Makes m old mid i (λ row state. (primary_meaning (context m row state) a).at v t)
    → IfOk r (λ k. k ≡ length mid) → OnOk r (new ≡ mid ++ n.Not i ∷ []) → IfOk r (λ k. Makes m old new k (λ row state. own (logically_negated (primary_meaning (context m row state) a))))
not_made m a v t old mid new i r wide sign x e z =
    added_ok m old mid new (n.Not i) (λ row state. own (logically_negated (primary_meaning (context m row state) a))) r x.grown e z x.here
    (λ row state f g.
    let own_width : v ≡ (primary_meaning (context m row state) a).width = wide ∙ sym (primary_width_same (context m row state) (bare m) a refl) in
    let own_sign : t ≡ (primary_meaning (context m row state) a).signed = sign ∙ sym (primary_sign_same (context m row state) (bare m) a) in
    ap (λ (k : ℕ). bit (k == 0)) (x.is row state f g ∙ ap (λ (k : ℕ). (primary_meaning (context m row state) a).at k t) own_width
    ∙ ap (λ (q : Bool). (primary_meaning (context m row state) a).at (primary_meaning (context m row state) a).width q) own_sign)
    ∙ sym (test_at (own (primary_meaning (context m row state) a) == 0) 1 false (omega arith)))

-- an expression at its own width and sign
pub condition_made : {E : Type 0} (m : Module) (e : Expr) (w : ℕ) (s : Bool) (old new : List Node) (r : Result ℕ E) → w ≡ (meaning (bare m) e).width → s ≡ (meaning (bare m) e).signed
    → IfOk r (λ k. Makes m old new k (λ row state. (meaning (context m row state) e).at w s)) → IfOk r (λ k. Makes m old new k (λ row state. own (meaning (context m row state) e)))
condition_made m e w s old new r wide sign = IfOk-weaker r (λ k. Makes m old new k (λ row state. (meaning (context m row state) e).at w s)) (λ k. Makes m old new k (λ row state. own (meaning (context m row state) e)))
    (λ k. made_as m old new k (λ row state. (meaning (context m row state) e).at w s) (λ row state. own (meaning (context m row state) e)) (λ row state f g.
    ap (λ (i : ℕ). (meaning (context m row state) e).at i s) (wide ∙ sym (width_same (context m row state) (bare m) e refl))
    ∙ ap (λ (t : Bool). (meaning (context m row state) e).at (meaning (context m row state) e).width t) (sign ∙ sym (sign_same (context m row state) (bare m) e))))

-- the value of the expression at the width and sign of an assignment
at_target : (m : Module) (e : Expr) (t w : ℕ) (s : Bool) (row state : List ℕ) → w ≡ max (meaning (bare m) e).width t → s ≡ (meaning (bare m) e).signed
    → low t ((meaning (context m row state) e).at w s) ≡ assigned t (meaning (context m row state) e)
at_target m e t w s row state wide sign =
    ap (λ (i : ℕ). low t ((meaning (context m row state) e).at i s)) (wide ∙ ap (λ (k : ℕ). max k t) (sym (width_same (context m row state) (bare m) e refl)))
    ∙ ap (λ (q : Bool). low t ((meaning (context m row state) e).at (max (meaning (context m row state) e).width t) q)) (sign ∙ sym (sign_same (context m row state) (bare m) e))

-- cut to the target's width
pub cut_made : {E : Type 0} (m : Module) (e : Expr) (t w : ℕ) (s : Bool) (old mid new : List Node) (i : ℕ) (r : Result ℕ E) → 1 ≤ t → t ≤ 128 → w ≡ max (meaning (bare m) e).width t
    → s ≡ (meaning (bare m) e).signed → Makes m old mid i (λ row state. (meaning (context m row state) e).at w s) → IfOk r (λ k. k ≡ length mid) → OnOk r (new ≡ mid ++ n.Cut i t ∷ [])
    → IfOk r (λ k. Makes m old new k (λ row state. assigned t (meaning (context m row state) e)))
cut_made m e t w s old mid new i r some most wide sign x e1 z =
    added_ok m old mid new (n.Cut i t) (λ row state. assigned t (meaning (context m row state) e)) r x.grown e1 z (x.here, some, most)
    (λ row state f g. ap (low t) (x.is row state f g) ∙ at_target m e t w s row state wide sign)

-- at the target's width as it is
pub uncut_made : (m : Module) (e : Expr) (t w : ℕ) (s : Bool) (old mid : List Node) (i : ℕ) → w ≡ max (meaning (bare m) e).width t → s ≡ (meaning (bare m) e).signed → w ≤ t
    → Makes m old mid i (λ row state. (meaning (context m row state) e).at w s) → Makes m old mid i (λ row state. assigned t (meaning (context m row state) e))
uncut_made m e t w s old mid i wide sign less = made_as m old mid i (λ row state. (meaning (context m row state) e).at w s) (λ row state. assigned t (meaning (context m row state) e))
    (λ row state f g.
    let same : w ≡ t = omega (arith, wide, less) in
    let v : ℕ = (meaning (context m row state) e).at w s in
    let below : v < 2 ^ t = subst (λ (k : ℕ). v < 2 ^ k) same (meaning_below (context m row state) e w s) in
    let whole : low t v ≡ v = mod-eq_of_lt below in
    sym whole ∙ at_target m e t w s row state wide sign)
