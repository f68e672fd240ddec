-- Each kind of node has the value of the old design's operation.
use Rattle.std.proofs.Common.{◌≡◌, ℕ, ◌+◌, ◌<◌, ◌≤◌, ◌^◌, ◌==◌, ◌&&◌, max, Bool, true, false, not, if◌then◌else◌, List, [], ◌∷◌, ◌++◌, length, map, refl, sym, ap, ◌∙◌, subst, arith, lit<, lit≤}
use Rattle.std.specs.Prelude.{Result, Ok, Err, IfOk, OnOk, slice_index}
use Rattle.std.proofs.Math.Nat.{mod-eq_of_lt, mod-lt, mod-add-mod, add-mod-mod}
use Rattle.std.proofs.Math.Pow.{pow_mono}
use Rattle.std.proofs.lemmas.Nat.{pow_pos}
use Rattle.bit_ops.specs.Operators.{low, add, bit, holds}
use Rattle.bit_ops.specs.declared.operator.Unary.TheVariants as one
use Rattle.bit_ops.specs.declared.operator.Binary.TheVariants as two
use Rattle.flat_ir.specs.FlatRun as plain
use Rattle.netlist.specs.Design.{Flat}
use Rattle.netlist.specs.Fits.{IsWidth, HasNode}
use Rattle.netlist.specs.Values.{node_values}
use Rattle.netlist.specs.declared.node.Node.{Node}
use Rattle.netlist.specs.declared.node.Operation.TheVariants as o
use Rattle.one_block.specs.declared.made.Made.{Made}
use Rattle.one_block.specs.SameDesign.{signal_of, values_of}
use Rattle.one_block.specs.Calls.Nodes.{Value, GoesOn, HasValue, Grows, Makes, binary}
use Rattle.one_block.proofs.Making.{begins_less, has_kept, has_as, grows_none, grows_on, has_node, width_is, added, MakesAt}

-- a number within a width is its own low bits, also at a greater width
pub low_same : (w v n : ℕ) → n < 2 ^ w → w ≤ v → low v n ≡ n
low_same w v n below wide =
    let more : 2 ^ w ≤ 2 ^ v = pow_mono wide in mod-eq_of_lt (omega (arith, below, more))

one_wide : IsWidth 1
one_wide = (lit≤ tt, lit≤ tt)

bit_below : (b : Bool) → bit b < 2 ^ 1
bit_below true = lit< tt
bit_below false = lit< tt

-- nodes before the last one
before : (nodes new : List Node) (x : Node) (f : Flat) → new ≡ nodes ++ x ∷ [] → GoesOn new f → GoesOn nodes f
before nodes new x f e g = begins_less nodes (x ∷ []) f (subst (λ ns. GoesOn ns f) e g)

-- ---- at a width

pub extended : {E : Type 0} (p : plain.Flat) (nodes new : List Node) (m : Made) (w : ℕ) (v : Value) (r : Result Made E) → IsWidth w
    → m.width < w → HasValue p nodes m v → IfOk r (λ k. k ≡ record { node = length nodes; width = w })
    → OnOk r (new ≡ nodes ++ record { width = w; operation = o.Extend false m.node } ∷ [])
    → IfOk r (λ k. MakesAt p nodes new w (λ row state. low w (v row state)) k)
extended p nodes new m w v (Err z) wide less h number e = tt
extended p nodes new m w v (Ok k) wide less h number e =
    let x : Node = record { width = w; operation = o.Extend false m.node } in
    let r : Result Made Unit = Ok k in
    added p nodes nodes new x (λ row state. low w (v row state)) r (grows_none (map signal_of p.signals) nodes) number e
    (wide, has_node nodes m.node h.here (λ u. u ≤ w) h.stands (omega (arith, less, h.wide)))
    (λ row state fit. mod-lt (v row state) (pow_pos w))
    (λ f row state g fit. ap (low w) (h.is f row state (before nodes new x f e g) fit))

pub cut : {E : Type 0} (p : plain.Flat) (nodes new : List Node) (m : Made) (w : ℕ) (v : Value) (r : Result Made E) → IsWidth w
    → w < m.width → HasValue p nodes m v → IfOk r (λ k. k ≡ record { node = length nodes; width = w })
    → OnOk r (new ≡ nodes ++ record { width = w; operation = o.Cut m.node } ∷ [])
    → IfOk r (λ k. MakesAt p nodes new w (λ row state. low w (v row state)) k)
cut p nodes new m w v (Err z) wide less h number e = tt
cut p nodes new m w v (Ok k) wide less h number e =
    let x : Node = record { width = w; operation = o.Cut m.node } in
    let r : Result Made Unit = Ok k in
    added p nodes nodes new x (λ row state. low w (v row state)) r (grows_none (map signal_of p.signals) nodes) number e
    (wide, has_node nodes m.node h.here (λ u. w ≤ u) h.stands (omega (arith, less, h.wide)))
    (λ row state fit. mod-lt (v row state) (pow_pos w))
    (λ f row state g fit. ap (low w) (h.is f row state (before nodes new x f e g) fit))

pub as_it_is : (p : plain.Flat) (nodes : List Node) (m : Made) (w : ℕ) (v : Value) → m.width ≡ w → HasValue p nodes m v
    → MakesAt p nodes nodes w (λ row state. low w (v row state)) m
as_it_is p nodes m w v e h = (
  e,
  record {
    grown = grows_none (map signal_of p.signals) nodes;
    has = has_as p nodes m v (λ row state. low w (v row state)) h
        (λ row state fit. sym (low_same m.width w (v row state) (h.below row state fit) (omega (arith, e))));
  },
)

-- ---- operators

-- two operands at a width, the second made after the first
record Pair (p : plain.Flat) (from to : List Node) (l r : Made) (a b : Value) (w : ℕ) : Type 0 where
  grown : Grows (map signal_of p.signals) from to
  left : HasValue p to l (λ row state. low w (a row state))
  right : HasValue p to r (λ row state. low w (b row state))
  left_wide : l.width ≡ w
  right_wide : r.width ≡ w

-- what `fitted` gives
abbrev pub Fitted : plain.Flat → List Node → List Node → Made → ℕ → Made → Type 0
Fitted p from to of w m = (v : Value) → HasValue p from of v → MakesAt p from to w (λ row state. low w (v row state)) m

pair : (p : plain.Flat) (n0 n1 n2 : List Node) (l0 r0 l r : Made) (a b : Value) (w : ℕ) → HasValue p n0 l0 a → HasValue p n0 r0 b
    → Fitted p n0 n1 l0 w l → Fitted p n1 n2 r0 w r → Pair p n0 n2 l r a b w
pair p n0 n1 n2 l0 r0 l r a b w ha hb left right =
    let x = left a ha in
    let y = right b (has_kept p (map signal_of p.signals) n0 n1 r0 b x.1.grown hb) in
    record {
      grown = grows_on (map signal_of p.signals) n0 n1 n2 x.1.grown y.1.grown;
      left = has_kept p (map signal_of p.signals) n1 n2 l (λ row state. low w (a row state)) y.1.grown x.1.has;
      right = y.1.has;
      left_wide = x.0;
      right_wide = y.0;
    }

-- a number and another, each cut first, have the same sum
low_sum : (w a b : ℕ) → add w (low w a) (low w b) ≡ add w a b
low_sum w a b = mod-add-mod a (2 ^ w) (low w b) ∙ add-mod-mod a b (2 ^ w)

pub sum_made : {E : Type 0} (p : plain.Flat) (n0 n1 n2 n3 : List Node) (l0 r0 l r : Made) (a b : Value) (w : ℕ) (res : Result Made E)
    → IsWidth w → HasValue p n0 l0 a → HasValue p n0 r0 b → Fitted p n0 n1 l0 w l → Fitted p n1 n2 r0 w r
    → IfOk res (λ k. k ≡ record { node = length n2; width = w }) → OnOk res (n3 ≡ n2 ++ binary w two.Add l.node r.node ∷ [])
    → IfOk res (λ m. Makes p n0 n3 m (λ row state. add w (a row state) (b row state)))
sum_made p n0 n1 n2 n3 l0 r0 l r a b w (Err z) wide ha hb left right number e = tt
sum_made p n0 n1 n2 n3 l0 r0 l r a b w (Ok k) wide ha hb left right number e =
    let x : Node = binary w two.Add l.node r.node in
    let res : Result Made Unit = Ok k in
    let s = pair p n0 n1 n2 l0 r0 l r a b w ha hb left right in
    (added p n0 n2 n3 x (λ row state. add w (a row state) (b row state)) res s.grown number e (
      wide,
      has_node n2 l.node s.left.here (λ v. (w ≡ v) × HasNode n2 r.node (λ u. true ≡ true → v ≡ u)) s.left.stands (
        sym s.left_wide ∙ sym s.left.wide,
        has_node n2 r.node s.right.here (λ u. true ≡ true → s.left.here.width ≡ u) s.right.stands
            (λ t. s.left.wide ∙ s.left_wide ∙ sym s.right_wide ∙ sym s.right.wide),
      ),
    )
    (λ row state fit. mod-lt (a row state + b row state) (pow_pos w))
    (λ f row state g fit.
    let g2 = before n2 n3 x f e g in
    let xs = node_values f (values_of p row state) in
    ap (λ k. add k (slice_index xs l.node) (slice_index xs r.node)) (width_is p n2 l _ f s.left g2 ∙ s.left_wide)
    ∙ ap (λ k. add w k (slice_index xs r.node)) (s.left.is f row state g2 fit)
    ∙ ap (λ k. add w (low w (a row state)) k) (s.right.is f row state g2 fit)
    ∙ low_sum w (a row state) (b row state))).1

pub equal_made : {E : Type 0} (p : plain.Flat) (n0 n1 n2 n3 : List Node) (l0 r0 l r : Made) (a b : Value) (w : ℕ) (res : Result Made E)
    → w ≡ max l0.width r0.width → HasValue p n0 l0 a → HasValue p n0 r0 b → Fitted p n0 n1 l0 w l → Fitted p n1 n2 r0 w r
    → IfOk res (λ k. k ≡ record { node = length n2; width = 1 }) → OnOk res (n3 ≡ n2 ++ binary 1 two.Eq l.node r.node ∷ [])
    → IfOk res (λ m. Makes p n0 n3 m (λ row state. bit (a row state == b row state)))
equal_made p n0 n1 n2 n3 l0 r0 l r a b w (Err z) most ha hb left right number e = tt
equal_made p n0 n1 n2 n3 l0 r0 l r a b w (Ok k) most ha hb left right number e =
    let x : Node = binary 1 two.Eq l.node r.node in
    let res : Result Made Unit = Ok k in
    let s = pair p n0 n1 n2 l0 r0 l r a b w ha hb left right in
    let wide_l : l0.width ≤ w = omega (arith, most) in
    let wide_r : r0.width ≤ w = omega (arith, most) in
    (added p n0 n2 n3 x (λ row state. bit (a row state == b row state)) res s.grown number e (
      one_wide,
      has_node n2 l.node s.left.here (λ v. (1 ≡ 1) × HasNode n2 r.node (λ u. true ≡ true → v ≡ u)) s.left.stands (
        refl,
        has_node n2 r.node s.right.here (λ u. true ≡ true → s.left.here.width ≡ u) s.right.stands
            (λ t. s.left.wide ∙ s.left_wide ∙ sym s.right_wide ∙ sym s.right.wide),
      ),
    )
    (λ row state fit. bit_below (a row state == b row state))
    (λ f row state g fit.
    let g2 = before n2 n3 x f e g in
    let xs = node_values f (values_of p row state) in
    ap (λ k. bit (k == slice_index xs r.node)) (s.left.is f row state g2 fit ∙ low_same l0.width w (a row state) (ha.below row state fit) wide_l)
    ∙ ap (λ k. bit (a row state == k)) (s.right.is f row state g2 fit ∙ low_same r0.width w (b row state) (hb.below row state fit) wide_r))).1

pub both_made : {E : Type 0} (p : plain.Flat) (n0 n1 : List Node) (l r : Made) (a b : Value) (res : Result Made E)
    → HasValue p n0 l a → HasValue p n0 r b
    → IfOk res (λ k. k ≡ record { node = length n0; width = 1 }) → OnOk res (n1 ≡ n0 ++ binary 1 two.LogicAnd l.node r.node ∷ [])
    → IfOk res (λ m. Makes p n0 n1 m (λ row state. bit (holds (a row state) && holds (b row state))))
both_made p n0 n1 l r a b (Err z) ha hb number e = tt
both_made p n0 n1 l r a b (Ok k) ha hb number e =
    let x : Node = binary 1 two.LogicAnd l.node r.node in
    let res : Result Made Unit = Ok k in
    (added p n0 n0 n1 x (λ row state. bit (holds (a row state) && holds (b row state))) res (grows_none (map signal_of p.signals) n0) number e (
      one_wide,
      has_node n0 l.node ha.here (λ v. (1 ≡ 1) × HasNode n0 r.node (λ u. false ≡ true → v ≡ u)) ha.stands
          (refl, has_node n0 r.node hb.here (λ u. false ≡ true → ha.here.width ≡ u) hb.stands (λ t. absurd cc)),
    )
    (λ row state fit. bit_below (holds (a row state) && holds (b row state)))
    (λ f row state g fit.
    let g0 = before n0 n1 x f e g in
    let xs = node_values f (values_of p row state) in
    ap (λ k. bit (holds k && holds (slice_index xs r.node))) (ha.is f row state g0 fit)
    ∙ ap (λ k. bit (holds (a row state) && holds k)) (hb.is f row state g0 fit))).1

twice : (b : Bool) → not (not b) ≡ b
twice true = refl
twice false = refl

pub not_made : {E : Type 0} (p : plain.Flat) (n0 n1 : List Node) (m : Made) (v : Value) (res : Result Made E) → HasValue p n0 m v
    → IfOk res (λ k. k ≡ record { node = length n0; width = 1 })
    → OnOk res (n1 ≡ n0 ++ record { width = 1; operation = o.Unary one.LogicNot m.node } ∷ [])
    → IfOk res (λ k. Makes p n0 n1 k (λ row state. bit (v row state == 0)))
not_made p n0 n1 m v (Err z) h number e = tt
not_made p n0 n1 m v (Ok k) h number e =
    let x : Node = record { width = 1; operation = o.Unary one.LogicNot m.node } in
    let res : Result Made Unit = Ok k in
    (added p n0 n0 n1 x (λ row state. bit (v row state == 0)) res (grows_none (map signal_of p.signals) n0) number e
    (one_wide, has_node n0 m.node h.here (λ u. 1 ≡ 1) h.stands refl)
    (λ row state fit. bit_below (v row state == 0))
    (λ f row state g fit.
    ap (λ k. bit (not (holds k))) (h.is f row state (before n0 n1 x f e g) fit) ∙ ap bit (twice (v row state == 0)))).1

pub constant_made : {E : Type 0} (p : plain.Flat) (n0 n1 : List Node) (value w : ℕ) (res : Result Made E) → IsWidth w → value < 2 ^ w
    → IfOk res (λ k. k ≡ record { node = length n0; width = w })
    → OnOk res (n1 ≡ n0 ++ record { width = w; operation = o.Constant value } ∷ [])
    → IfOk res (λ k. Makes p n0 n1 k (λ row state. value))
constant_made p n0 n1 value w (Err z) wide below number e = tt
constant_made p n0 n1 value w (Ok k) wide below number e =
    let x : Node = record { width = w; operation = o.Constant value } in
    let res : Result Made Unit = Ok k in
    (added p n0 n0 n1 x (λ row state. value) res (grows_none (map signal_of p.signals) n0) number e
    (wide, below) (λ row state fit. below) (λ f row state g fit. refl)).1

-- ---- a choice

choose : (b : Bool) (x y u v : ℕ) → x ≡ u → y ≡ v → (if b then x else y) ≡ (if b then u else v)
choose true x y u v e d = e
choose false x y u v e d = d

chosen_below : (b : Bool) (x y w : ℕ) → x < 2 ^ w → y < 2 ^ w → (if b then x else y) < 2 ^ w
chosen_below true x y w l m = l
chosen_below false x y w l m = m

pub choice_made : {E : Type 0} (p : plain.Flat) (n0 n1 n2 : List Node) (c v0 v other : Made) (a b d : Value) (res : Result Made E)
    → HasValue p n0 c a → HasValue p n0 v0 b → HasValue p n0 other d → Fitted p n0 n1 v0 other.width v
    → IfOk res (λ k. k ≡ record { node = length n1; width = other.width })
    → OnOk res (n2 ≡ n1 ++ record { width = other.width; operation = o.Choose c.node v.node other.node } ∷ [])
    → IfOk res (λ k. MakesAt p n0 n2 other.width (λ row state. if holds (a row state) then low other.width (b row state) else d row state) k)
choice_made p n0 n1 n2 c v0 v other a b d (Err z) hc hv ho fitted number e = tt
choice_made p n0 n1 n2 c v0 v other a b d (Ok k) hc hv ho fitted number e =
    let w : ℕ = other.width in
    let ss = map signal_of p.signals in
    let x : Node = record { width = w; operation = o.Choose c.node v.node other.node } in
    let res : Result Made Unit = Ok k in
    let y = fitted b hv in
    let cc' = has_kept p ss n0 n1 c a y.1.grown hc in
    let oo = has_kept p ss n0 n1 other d y.1.grown ho in
    added p n0 n1 n2 x (λ row state. if holds (a row state) then low w (b row state) else d row state) res y.1.grown number e (
      oo.is_width,
      (
        has_node n1 c.node cc'.here (λ u. Unit {0}) cc'.stands tt,
        has_node n1 v.node y.1.has.here (λ u. u ≡ w) y.1.has.stands (y.1.has.wide ∙ y.0),
        has_node n1 other.node oo.here (λ u. u ≡ w) oo.stands oo.wide,
      ),
    )
    (λ row state fit. chosen_below (holds (a row state)) (low w (b row state)) (d row state) w (mod-lt (b row state) (pow_pos w)) (oo.below row state fit))
    (λ f row state g fit.
    let g1 = before n1 n2 x f e g in
    let xs = node_values f (values_of p row state) in
    ap (λ k. if holds k then slice_index xs v.node else slice_index xs other.node) (cc'.is f row state g1 fit)
    ∙ choose (holds (a row state)) (slice_index xs v.node) (slice_index xs other.node) (low w (b row state)) (d row state)
    (y.1.has.is f row state g1 fit) (oo.is f row state g1 fit))

-- the greater of two widths
pub wider_width : (v u w : ℕ) → w ≡ max v u → IsWidth v → IsWidth u → IsWidth w
wider_width v u w e a b = (omega (arith, e, a.0, b.0), omega (arith, e, a.1, b.1))
