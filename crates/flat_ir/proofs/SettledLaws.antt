-- The values that are computed one behind another are those that each node has over all values.
use Rattle.std.proofs.Common.{◌≡◌, ℕ, zero, suc, ◌+◌, List, [], ◌∷◌, ◌++◌, length, refl, sym, ap, ◌∙◌, subst, arith, append-nil, append_assoc}
use Rattle.std.specs.Prelude.{Some, slice_get, slice_index, ◌==◌, ◌&&◌}
use Rattle.std.proofs.Math.Seq.{get_or-append_seam}
use Rattle.std.proofs.lemmas.List.{get_or_append_left, length_push}
use Rattle.bit_ops.specs.Operators.{low, add, bit, holds}
use Rattle.flat_ir.specs.declared.design.Node.{Node}
use Rattle.flat_ir.specs.declared.design.Node.TheVariants as n
use Rattle.flat_ir.specs.FlatRun.{Flat, IsWellFormed, NodeFits, value, values_from, flat_values}
use Rattle.flat_ir.specs.Settled.{SettlesOnce}

-- a node that reads values in front has the same value where more stand behind them
value_kept : (inputs registers : ℕ) (row state done more : List ℕ) (x : Node) → NodeFits inputs registers (length done) x → value row state (done ++ more) x ≡ value row state done x
value_kept i r row state done more (n.Constant c) f = refl
value_kept i r row state done more (n.Input j) f = refl
value_kept i r row state done more (n.Register j) f = refl
value_kept i r row state done more (n.Sum a b w) f =
    ap (λ x. add w x (slice_index (done ++ more) b)) (get_or_append_left done more 0 a f.0) ∙ ap (λ x. add w (slice_index done a) x) (get_or_append_left done more 0 b f.1)
value_kept i r row state done more (n.Equal a b) f =
    ap (λ x. bit (x == slice_index (done ++ more) b)) (get_or_append_left done more 0 a f.0) ∙ ap (λ x. bit (slice_index done a == x)) (get_or_append_left done more 0 b f.1)
value_kept i r row state done more (n.Not a) f = ap (λ x. bit (x == 0)) (get_or_append_left done more 0 a f)
value_kept i r row state done more (n.And a b) f =
    ap (λ x. bit (holds x && holds (slice_index (done ++ more) b))) (get_or_append_left done more 0 a f.0)
    ∙ ap (λ x. bit (holds (slice_index done a) && holds x)) (get_or_append_left done more 0 b f.1)
value_kept i r row state done more (n.Cut a w) f = ap (low w) (get_or_append_left done more 0 a f.0)

-- the nodes that are left fit behind so many
abbrev AllFit : ℕ → ℕ → ℕ → List Node → Type 0
AllFit i r d xs = (k : ℕ) (x : Node) → slice_get xs k ≡ Some x → NodeFits i r (d + k) x

-- these are the values of the nodes that are left
abbrev Hold : List ℕ → List ℕ → ℕ → List ℕ → List Node → Type 0
Hold row state d vs xs = (k : ℕ) (x : Node) → slice_get xs k ≡ Some x → slice_index vs (d + k) ≡ value row state vs x

fit_first : (i r d : ℕ) (x : Node) (xs : List Node) → AllFit i r d (x ∷ xs) → NodeFits i r d x
fit_first i r d x xs f = let e : d + 0 ≡ d = omega arith in subst (λ q. NodeFits i r q x) e (f 0 x refl)

fit_rest : (i r : ℕ) (done : List ℕ) (v : ℕ) (x : Node) (xs : List Node) → AllFit i r (length done) (x ∷ xs) → AllFit i r (length (done ++ v ∷ [])) xs
fit_rest i r done v x xs f k y at =
    let e : length done + suc k ≡ length (done ++ v ∷ []) + k = omega (arith, length_push done v) in
    subst (λ q. NodeFits i r q y) e (f (suc k) y at)

-- what is computed stands behind what was given, one value for each node
pub record Grows (row state done : List ℕ) (xs : List Node) : Type 0 where
  pub more : List ℕ
  pub whole : values_from row state done xs ≡ done ++ more
  pub count : length more ≡ length xs

grows : (row state done : List ℕ) (xs : List Node) → Grows row state done xs
grows row state done [] = record { more = []; whole = sym (append-nil done); count = refl }
grows row state done (x ∷ xs) =
    let v : ℕ = value row state done x in
    let g = grows row state (done ++ v ∷ []) xs in
    record { more = v ∷ g.more; whole = g.whole ∙ append_assoc done (v ∷ []) g.more; count = ap (λ (k : ℕ). suc k) g.count }

-- ---- what is computed are values

hold_all : (i r : ℕ) (row state done : List ℕ) (xs : List Node) → AllFit i r (length done) xs → Hold row state (length done) (values_from row state done xs) xs
hold_all i r row state done [] f k y at = absurd cc
hold_all i r row state done (x ∷ xs) f zero y at =
    let v : ℕ = value row state done x in
    let vs : List ℕ = values_from row state (done ++ v ∷ []) xs in
    let g = grows row state (done ++ v ∷ []) xs in
    let whole : vs ≡ done ++ (v ∷ g.more) = g.whole ∙ append_assoc done (v ∷ []) g.more in
    let e : length done + 0 ≡ length done = omega arith in
    let same : x ≡ y = cc in
    ap (λ q. slice_index vs q) e ∙ ap (λ ws. slice_index ws (length done)) whole ∙ get_or-append_seam done v g.more 0
    ∙ sym (value_kept i r row state done (v ∷ g.more) x (fit_first i r (length done) x xs f)) ∙ ap (λ ws. value row state ws x) (sym whole)
    ∙ ap (λ (z : Node). value row state vs z) same
hold_all i r row state done (x ∷ xs) f (suc k) y at =
    let v : ℕ = value row state done x in
    let e : length done + suc k ≡ length (done ++ v ∷ []) + k = omega (arith, length_push done v) in
    ap (λ q. slice_index (values_from row state (done ++ v ∷ []) xs) q) e
    ∙ hold_all i r row state (done ++ v ∷ []) xs (fit_rest i r done v x xs f) k y at

-- ---- values are what is computed

hold_rest : (row state done : List ℕ) (v : ℕ) (more : List ℕ) (x : Node) (xs : List Node) → Hold row state (length done) (done ++ v ∷ more) (x ∷ xs)
    → Hold row state (length (done ++ v ∷ [])) ((done ++ v ∷ []) ++ more) xs
hold_rest row state done v more x xs h k y at =
    let e : length done + suc k ≡ length (done ++ v ∷ []) + k = omega (arith, length_push done v) in
    let s : done ++ v ∷ more ≡ (done ++ v ∷ []) ++ more = sym (append_assoc done (v ∷ []) more) in
    subst (λ ws. slice_index ws (length (done ++ v ∷ []) + k) ≡ value row state ws y) s
    (subst (λ q. slice_index (done ++ v ∷ more) q ≡ value row state (done ++ v ∷ more) y) e (h (suc k) y at))

computed : (i r : ℕ) (row state done more : List ℕ) (xs : List Node) → AllFit i r (length done) xs → Hold row state (length done) (done ++ more) xs
    → length more ≡ length xs → done ++ more ≡ values_from row state done xs
computed i r row state done [] [] f h l = append-nil done
computed i r row state done (v ∷ more) [] f h l = absurd (omega arith)
computed i r row state done [] (x ∷ xs) f h l = absurd (omega arith)
computed i r row state done (v ∷ more) (x ∷ xs) f h l =
    let e : length done + 0 ≡ length done = omega arith in
    let own : v ≡ value row state done x =
    sym (get_or-append_seam done v more 0) ∙ ap (λ q. slice_index (done ++ v ∷ more) q) (sym e) ∙ h 0 x refl
    ∙ value_kept i r row state done (v ∷ more) x (fit_first i r (length done) x xs f) in
    sym (append_assoc done (v ∷ []) more)
    ∙ computed i r row state (done ++ v ∷ []) more xs (fit_rest i r done v x xs f) (hold_rest row state done v more x xs h) (omega arith)
    ∙ ap (λ (w : ℕ). values_from row state (done ++ w ∷ []) xs) own

-- ---- of a well-formed design

all_fit : (f : Flat) → IsWellFormed f → AllFit f.inputs (length f.registers) 0 f.nodes
all_fit f w k x at = let e : k ≡ 0 + k = omega arith in subst (λ q. NodeFits f.inputs (length f.registers) q x) e (w.nodes k x at)

zero_more : (k : ℕ) → 0 + k ≡ k
zero_more k = omega arith

pub settles_once : SettlesOnce
settles_once = record {
  are = λ f row state w. record {
    count = (let g = grows row state [] f.nodes in ap length g.whole ∙ g.count);
    each = λ k x at. ap (λ q. slice_index (flat_values f row state) q) (sym (zero_more k)) ∙ hold_all f.inputs (length f.registers) row state [] f.nodes (all_fit f w) k x at;
  };
  alone = λ f row state vs w h. computed f.inputs (length f.registers) row state [] vs f.nodes (all_fit f w)
      (λ k x at. ap (λ q. slice_index vs q) (zero_more k) ∙ h.each k x at) h.count;
}
