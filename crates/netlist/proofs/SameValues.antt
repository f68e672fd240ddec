-- A node has the same value over two valuations that agree at the bits that it reads.
use Rattle.std.proofs.Common.{◌≡◌, ℕ, zero, suc, ◌+◌, ◌/◌, ◌%◌, ◌^◌, ◌<◌, ◌||◌, inl, inr, Bool, true, false, List, [], ◌∷◌, length, get_or, refl, sym, ap, ◌∙◌, subst, arith, take}
use Rattle.std.specs.Prelude.{Some, pos, slice_get, slice_index, slice_index_or}
use Rattle.std.specs.Int.{bit_at}
use Rattle.std.proofs.Math.Nat.{mod-lt}
use Rattle.std.proofs.lemmas.Bool.{cases_lt}
use Rattle.std.proofs.lemmas.Bool.Decides.{nat_tests}
use Rattle.std.proofs.lemmas.Nat.{pow_pos}
use Rattle.std.proofs.lemmas.Nat.Bits.{bit_at_above, same_from_bits}
use Rattle.std.proofs.lemmas.Option.{slice_get_within, slice_get-get_or, get_or_from_slice_get}
use Rattle.bit_ops.specs.Operators as ops
use Rattle.netlist.specs.Design.{Flat}
use Rattle.netlist.specs.Fits.{IsWellFormed, OperationFits, NodeFits}
use Rattle.netlist.specs.Graph.{operands, overlap, some_reads, reads, reads_bits, node_reads, nodes_read}
use Rattle.netlist.specs.Laws.{HasBit}
use Rattle.netlist.specs.Values.{Values, operation_value, node_values}
use Rattle.netlist.specs.declared.design.Range.{Range}
use Rattle.netlist.specs.declared.design.DrivenPart.{DrivenPart}
use Rattle.netlist.specs.declared.node.Node.{Node}
use Rattle.netlist.specs.declared.node.Operation.{Operation}
use Rattle.netlist.specs.declared.node.Operation.TheVariants as o
use Rattle.netlist.proofs.Bits.{low_bit, high_bit}
use Rattle.netlist.proofs.ValuesLaw.{Reads, all_read, values_law}
use Rattle.netlist.proofs.ReadsLaw.{AreBelow, operands_below, zero_more, reads_law}
use Rattle.netlist.proofs.Puts.{In, AgreeBeside}

-- ---- bits that are read

-- equal bits are equal numbers
same_selected : (a b k w : ℕ) → ((i : ℕ) → i < w → bit_at a (k + i) ≡ bit_at b (k + i))
    → ops.select (pos k) w a ≡ ops.select (pos k) w b
same_selected a b k w h = same_from_bits (a / 2 ^ k % 2 ^ w) (b / 2 ^ k % 2 ^ w) (λ i. elim (cases_lt i w) [
  | inl inside ↦ low_bit w (a / 2 ^ k) i inside ∙ high_bit k a i ∙ h i inside ∙ sym (high_bit k b i)
      ∙ sym (low_bit w (b / 2 ^ k) i inside)
  | inr beyond ↦ bit_at_above (a / 2 ^ k % 2 ^ w) w i (mod-lt (a / 2 ^ k) (pow_pos w)) beyond
      ∙ sym (bit_at_above (b / 2 ^ k % 2 ^ w) w i (mod-lt (b / 2 ^ k) (pow_pos w)) beyond)
])

-- ranges with a bit in common overlap
pub common_overlaps : (r q : Range) (s i : ℕ) → HasBit r s i → HasBit q s i → overlap r q ≡ true
common_overlaps r q s i a b = grind (arith, nat_tests)

-- ---- an operation over two valuations

-- the nodes that it reads have the same values
abbrev AreSame : List ℕ → List ℕ → List ℕ → Type 0
AreSame xs ys as' = (a : ℕ) → In a as' → slice_index xs a ≡ slice_index ys a

-- the bits that it reads itself are the same
abbrev LeafSame : Values → Values → ℕ → Operation → Type 0
LeafSame v u w (o.Bits range) = ops.select (pos range.low) w (slice_index v.signals range.signal)
    ≡ ops.select (pos range.low) w (slice_index u.signals range.signal)
LeafSame v u w _ = Unit {0}

same_operation : (f : Flat) (v u : Values) (xs ys : List ℕ) (w : ℕ) (x : Operation) → v.memories ≡ u.memories
    → LeafSame v u w x → AreSame xs ys (operands x) → operation_value f v xs w x ≡ operation_value f u ys w x
same_operation f v u xs ys w (o.Constant value) m l s = refl
same_operation f v u xs ys w (o.Bits range) m l s = l
same_operation f v u xs ys w (o.Word memory index) m l s = rw (s index.node (inl refl)) (rw m refl)
same_operation f v u xs ys w (o.Unary operator a) m l s = rw (s a (inl refl)) refl
same_operation f v u xs ys w (o.Binary operator signed a b) m l s =
    rw (s a (inl refl)) (rw (s b (inr (inl refl))) refl)
same_operation f v u xs ys w (o.Extend signed a) m l s = rw (s a (inl refl)) refl
same_operation f v u xs ys w (o.Cut a) m l s = rw (s a (inl refl)) refl
same_operation f v u xs ys w (o.Select a place) m l s =
    rw (s a (inl refl)) (rw (s place.node (inr (inl refl))) refl)
same_operation f v u xs ys w (o.Insert a place b) m l s =
    simp (s a (inl refl), s place.node (inr (inl refl)), s b (inr (inr (inl refl)))) refl
same_operation f v u xs ys w (o.Concat a b) m l s = rw (s a (inl refl)) (rw (s b (inr (inl refl))) refl)
same_operation f v u xs ys w (o.Choose c a b) m l s =
    simp (s c (inl refl), s a (inr (inl refl)), s b (inr (inr (inl refl)))) refl
same_operation f v u xs ys w (o.Keep a b) m l s = s a (inl refl)

-- ---- a node that reads no bit of these parts

or_true : (b : Bool) → (b || true) ≡ true
or_true true = refl
or_true false = refl

-- an operation that is read through makes the reader a reader
reads_through : (rs : List Bool) (as' : List ℕ) (a : ℕ) → In a as' → slice_index_or rs a false ≡ true
    → some_reads rs as' ≡ true
reads_through rs [] a among r = absurd among
reads_through rs (b ∷ bs) a among r = elim among [
  | inl e ↦ rw (ap (λ k. slice_index_or rs k false) (sym e) ∙ r) refl
  | inr h ↦ rw (reads_through rs bs a h r) (or_true (slice_index_or rs b false))
]

below_from : (n a : ℕ) (as' : List ℕ) → AreBelow n as' → In a as' → a < n
below_from n a [] l among = absurd among
below_from n a (b ∷ bs) l among = elim among [
  | inl e ↦ subst (λ k. k < n) (sym e) l.0
  | inr h ↦ below_from n a bs l.1 h
]

-- the node of this number reads a bit of none of the parts
abbrev pub ReadsNone : Flat → List DrivenPart → ℕ → Type 0
ReadsNone f ps n = (p : DrivenPart) → In p ps → reads f n p ≡ true → ⊥

leaf_same : (f : Flat) (ss : List Node) (ps : List DrivenPart) (v u : Values) (w : ℕ) (x : Operation)
    → AgreeBeside ps v.signals u.signals → OperationFits f.signals f.memories ss w x
    → ((p : DrivenPart) → In p ps → reads_bits p.range x ≡ true → ⊥) → LeafSame v u w x
leaf_same f ss ps v u w (o.Bits range) agree fits away =
    same_selected (slice_index v.signals range.signal) (slice_index u.signals range.signal) range.low w
    (λ i l. agree range.signal (range.low + i) (λ p among b. away p among
    (common_overlaps range p.range range.signal (range.low + i)
    (refl, omega arith, omega (arith, fits.0)) b)))
leaf_same f ss ps v u w (o.Constant value) agree fits away = tt
leaf_same f ss ps v u w (o.Word memory index) agree fits away = tt
leaf_same f ss ps v u w (o.Unary operator a) agree fits away = tt
leaf_same f ss ps v u w (o.Binary operator signed a b) agree fits away = tt
leaf_same f ss ps v u w (o.Extend signed a) agree fits away = tt
leaf_same f ss ps v u w (o.Cut a) agree fits away = tt
leaf_same f ss ps v u w (o.Select a place) agree fits away = tt
leaf_same f ss ps v u w (o.Insert a place b) agree fits away = tt
leaf_same f ss ps v u w (o.Concat a b) agree fits away = tt
leaf_same f ss ps v u w (o.Choose c a b) agree fits away = tt
leaf_same f ss ps v u w (o.Keep a b) agree fits away = tt

-- a node fits the lower ones, and reads them alone
node_fits : (f : Flat) → IsWellFormed f → (n : ℕ) (x : Node) → slice_get f.nodes n ≡ Some x
    → NodeFits f.signals f.memories f.nodes n x
node_fits f w n x at =
    subst (λ y. NodeFits f.signals f.memories f.nodes n y) (get_or_from_slice_get f.nodes n x x at)
    (w.nodes n x (slice_get_within f.nodes n x at))

-- those below b that read none of the parts
same_below : (f : Flat) → IsWellFormed f → (ps : List DrivenPart) (v u : Values)
    → AgreeBeside ps v.signals u.signals → v.memories ≡ u.memories → (b n : ℕ) (x : Node) → n < b
    → slice_get f.nodes n ≡ Some x → ReadsNone f ps n
    → slice_index (node_values f v) n ≡ slice_index (node_values f u) n
same_below f w ps v u agree m zero n x l at none = absurd (omega arith)
same_below f w ps v u agree m (suc b) n x l at none =
    let one : (p : DrivenPart) → reads f n p ≡ node_reads p.range (nodes_read p.range [] f.nodes) x =
    λ p. (reads_law f p.range w).each n x at in
    (values_law.are f v w).each n x at
    ∙ same_operation f v u (node_values f v) (node_values f u) x.width x.operation m
    (leaf_same f (take n f.nodes) ps v u x.width x.operation agree (node_fits f w n x at).1
    (λ p among h. none p among (one p ∙ rw h refl)))
    (λ a among.
    let lower : a < n = below_from n a (operands x.operation) (operands_below n x.operation
    (subst (λ k. Reads k x.operation) (zero_more n) (all_read f w n x at))) among in
    let there : a < length f.nodes = omega (arith, slice_get_within f.nodes n x at) in
    same_below f w ps v u agree m b a (get_or f.nodes a x) (omega arith) (slice_get-get_or f.nodes a x there)
    (λ p h r. none p h (one p ∙ rw (reads_through (nodes_read p.range [] f.nodes) (operands x.operation) a among r)
    (or_true (reads_bits p.range x.operation)))))
    ∙ sym ((values_law.are f u w).each n x at)

pub same_value : (f : Flat) → IsWellFormed f → (ps : List DrivenPart) (v u : Values)
    → AgreeBeside ps v.signals u.signals → v.memories ≡ u.memories → (n : ℕ) (x : Node)
    → slice_get f.nodes n ≡ Some x → ReadsNone f ps n
    → slice_index (node_values f v) n ≡ slice_index (node_values f u) n
same_value f w ps v u agree m n x at none = same_below f w ps v u agree m (suc n) n x (omega arith) at none
