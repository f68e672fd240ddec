-- The values of nodes fit their widths, from the lowest node up.
use Rattle.std.proofs.Common.{◌≡◌, ℕ, zero, suc, ◌+◌, ◌^◌, ◌<◌, inl, inr, true, List, [], ◌∷◌, take, ℤ, pos, negsuc, refl, sym, ap, subst, ◌∙◌, arith}
use Rattle.std.specs.Prelude.{Option, Some, None, slice_get, slice_index, slice_index_or, IsSomeAnd}
use Rattle.std.proofs.lemmas.Bool.{cases_lt}
use Rattle.std.proofs.lemmas.Nat.{pow_pos}
use Rattle.std.proofs.lemmas.Option.{slice_get_within, get_or_from_slice_get}
use Rattle.bit_ops.specs.Operators as ops
use Rattle.bit_ops.specs.Applied as applied
use Rattle.netlist.specs.Design.{Flat}
use Rattle.netlist.specs.Plain.{PlainMemory}
use Rattle.netlist.specs.Fits.{IsWellFormed, HasNode, NodeFits, OperationFits}
use Rattle.netlist.specs.Values.{Values, width_at, word_at, index_at, word_place, operation_value, node_values}
use Rattle.netlist.specs.declared.node.Node.{Node}
use Rattle.netlist.specs.declared.node.Operation.{Operation}
use Rattle.netlist.specs.declared.node.Operation.TheVariants as o
use Rattle.netlist.proofs.ValuesLaw.{values_law}
use Rattle.vl_run_laws.specs.NodeValues.{WordsAreFit, NodesFitLaw}
use Rattle.operator_laws.proofs.Fits.{low_fits, residue_fits, either, unary_fits, binary_fits, select_fits, insert_fits, concat_fits}

-- a node among the lower ones
record Lower (nodes : List Node) (k a : ℕ) (P : ℕ → Type 0) : Type 0 where
  below : a < k
  node : Node
  at : slice_get nodes a ≡ Some node
  width : width_at nodes a ≡ node.width
  holds : P (width_at nodes a)

lower : (nodes : List Node) (k a : ℕ) (P : ℕ → Type 0) → HasNode (take k nodes) a P → Lower nodes k a P
lower nodes zero a P h = absurd h
lower [] (suc k) a P h = absurd h
lower (x ∷ nodes) (suc k) zero P h = record { below = omega arith; node = x; at = refl; width = refl; holds = h }
lower (x ∷ nodes) (suc k) (suc a) P h =
    let l = lower nodes k a P h in
    record { below = omega (arith, l.below); node = l.node; at = l.at; width = l.width; holds = l.holds }

-- the values of the nodes below one fit
abbrev FitBelow : Flat → Values → ℕ → Type 0
FitBelow f v k = (a : ℕ) (y : Node) → a < k → slice_get f.nodes a ≡ Some y → slice_index (node_values f v) a < 2 ^ y.width

lower_fits : (f : Flat) (v : Values) (k a : ℕ) (P : ℕ → Type 0) → FitBelow f v k → HasNode (take k f.nodes) a P
    → slice_index (node_values f v) a < 2 ^ width_at f.nodes a
lower_fits f v k a P below h =
    let l = lower f.nodes k a P h in
    subst (λ w. slice_index (node_values f v) a < 2 ^ w) (sym l.width) (below a l.node l.below l.at)

fits_as : (w u n : ℕ) → w ≡ u → n < 2 ^ w → n < 2 ^ u
fits_as w u n e h = subst (λ x. n < 2 ^ x) e h

-- ---- a memory's word

record Words (memories : List PlainMemory) (t w : ℕ) : Type 0 where
  memory : PlainMemory
  at : slice_get memories t ≡ Some memory
  width : memory.width ≡ w

words_in : (o : Option PlainMemory) (w : ℕ) → IsSomeAnd o (λ m. m.width ≡ w) → (m : PlainMemory) × (o ≡ Some m) × (m.width ≡ w)
words_in None w h = absurd h
words_in (Some m) w h = (m, refl, h)

word_fits : (words : List ℕ) (w : ℕ) (z : ℤ) → ((k : ℕ) → slice_index words k < 2 ^ w) → word_at words z < 2 ^ w
word_fits words w (pos k) h = h k
word_fits words w (negsuc k) h = pow_pos w

-- ---- one operation

operation_fits : (f : Flat) (v : Values) (k w : ℕ) (x : Operation) → WordsAreFit f v → FitBelow f v k
    → OperationFits f.signals f.memories (take k f.nodes) w x
    → operation_value f v (node_values f v) w x < 2 ^ w
operation_fits f v k w (o.Constant value) words below h = h
operation_fits f v k w (o.Bits range) words below h = low_fits w _
operation_fits f v k w (o.Word memory index) words below h =
    let m = words_in (slice_get f.memories memory) w h.0 in
    word_fits (slice_index_or v.memories memory []) w (word_place f.memories memory (index_at f.nodes (node_values f v) index))
    (λ j. fits_as m.0.width w _ m.2 (words memory j m.0 m.1))
operation_fits f v k w (o.Unary operator a) words below h =
    let l = lower f.nodes k a (λ u. w ≡ applied.unary_width operator u) h in
    fits_as _ w _ (sym l.holds) (unary_fits operator (width_at f.nodes a) (slice_index (node_values f v) a)
    (lower_fits f v k a (λ u. w ≡ applied.unary_width operator u) below h))
operation_fits f v k w (o.Binary operator signed a b) words below h =
    let P : ℕ → Type 0 = λ u. (w ≡ applied.binary_width operator u)
    × HasNode (take k f.nodes) b (λ t. applied.takes_one_width operator ≡ true → u ≡ t) in
    let l = lower f.nodes k a P h in
    let second = l.holds.1 in
    let r = lower f.nodes k b (λ t. applied.takes_one_width operator ≡ true → width_at f.nodes a ≡ t) second in
    fits_as _ w _ (sym l.holds.0) (binary_fits operator signed (width_at f.nodes a) (slice_index (node_values f v) a)
    (slice_index (node_values f v) b) (lower_fits f v k a P below h)
    (λ e. fits_as _ (width_at f.nodes a) _ (sym (r.holds e))
    (lower_fits f v k b (λ t. applied.takes_one_width operator ≡ true → width_at f.nodes a ≡ t) below second)))
operation_fits f v k w (o.Extend signed a) words below h = residue_fits w _
operation_fits f v k w (o.Cut a) words below h = low_fits w _
operation_fits f v k w (o.Select a place) words below h = select_fits (index_at f.nodes (node_values f v) place) w _
operation_fits f v k w (o.Insert a place b) words below h =
    insert_fits w (index_at f.nodes (node_values f v) place) (width_at f.nodes b) _ _
operation_fits f v k w (o.Concat a b) words below h =
    let P : ℕ → Type 0 = λ u. HasNode (take k f.nodes) b (λ t. u + t ≡ w) in
    let l = lower f.nodes k a P h in
    let Q : ℕ → Type 0 = λ t. width_at f.nodes a + t ≡ w in
    let r = lower f.nodes k b Q l.holds in
    fits_as _ w _ r.holds (concat_fits (width_at f.nodes a) (width_at f.nodes b) (slice_index (node_values f v) a)
    (slice_index (node_values f v) b) (lower_fits f v k a P below h) (lower_fits f v k b Q below l.holds))
operation_fits f v k w (o.Choose c a b) words below h =
    let l = lower f.nodes k a (λ u. u ≡ w) h.1 in
    let r = lower f.nodes k b (λ u. u ≡ w) h.2 in
    either (ops.holds (slice_index (node_values f v) c)) w (slice_index (node_values f v) a) (slice_index (node_values f v) b)
    (fits_as _ w _ l.holds (lower_fits f v k a (λ u. u ≡ w) below h.1))
    (fits_as _ w _ r.holds (lower_fits f v k b (λ u. u ≡ w) below h.2))
operation_fits f v k w (o.Keep a b) words below h =
    let l = lower f.nodes k a (λ u. u ≡ w) h.0 in
    fits_as _ w _ l.holds (lower_fits f v k a (λ u. u ≡ w) below h.0)

-- ---- all of them

fit_below : (f : Flat) (v : Values) (k : ℕ) → IsWellFormed f → WordsAreFit f v → FitBelow f v k
fit_below f v zero well words a y l at = absurd (omega (arith, l))
fit_below f v (suc k) well words a y l at = elim (cases_lt a k) [
  | inl less ↦ fit_below f v k well words a y less at
  | inr from ↦
      let same : a ≡ k = omega (arith, l, from) in
      let here : slice_get f.nodes k ≡ Some y = ap (slice_get f.nodes) (sym same) ∙ at in
      let fits : NodeFits f.signals f.memories f.nodes k y =
      subst (λ z. NodeFits f.signals f.memories f.nodes k z) (get_or_from_slice_get f.nodes k y y here)
      (well.nodes k y (slice_get_within f.nodes k y here)) in
      let value = (values_law.are f v well).each k y here in
      subst (λ n. slice_index (node_values f v) n < 2 ^ y.width) (sym same)
      (subst (λ n. n < 2 ^ y.width) (sym value)
      (operation_fits f v k y.width y.operation words (fit_below f v k well words) fits.1))
]

pub nodes_fit : NodesFitLaw
nodes_fit f v k x well words at = fit_below f v (suc k) well words k x (omega arith) at
