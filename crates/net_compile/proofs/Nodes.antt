-- Bits of signals and values of nodes, step by step.
use Rattle.std.proofs.Common.{◌≡◌, ℕ, zero, suc, ◌+◌, ◌<◌, ◌≤◌, inl, inr, List, [], ◌∷◌, ◌++◌, length, take, get_or, refl, sym, ap, ◌∙◌, subst, arith, get_or-set_same, get_or-set_other}
use Rattle.std.specs.Prelude.{Option, Some, None, pos, slice_get, slice_set, slice_index, slice_index_or, IfSome}
use Rattle.std.proofs.lemmas.Bool.{cases_eq}
use Rattle.std.proofs.lemmas.Option.{slice_get_within, IfSome_then}
use Rattle.bit_ops.specs.Operators as ops
use Rattle.netlist.specs.Design.{Flat}
use Rattle.netlist.specs.Fits.{IsWellFormed, IsWidth, OperationFits, LiesWithin}
use Rattle.netlist.specs.Laws.{ValuesLaw}
use Rattle.netlist.specs.Values.{width_at}
use Rattle.netlist.specs.declared.design.Signal.{Signal}
use Rattle.netlist.specs.declared.design.Range.{Range}
use Rattle.netlist.proofs.Puts.{some_with}
use Rattle.net_compile.proofs.OfPieces.{signal_fits}
use Rattle.netlist.specs.declared.node.Node.{Node}
use Rattle.netlist.specs.declared.node.Operation.{Operation}
use Rattle.netlist.specs.declared.node.Operation.TheVariants as o
use Rattle.step_program.specs.Draft.{Draft}
use Rattle.step_program.specs.declared.step.Slot.{Slot}
use Rattle.step_program.specs.declared.step.Operand.{Operand}
use Rattle.net_compile.specs.Cycle.{Front}
use Rattle.net_compile.specs.Stands.{Grows, IsCut, IsJoined, Begins, Stands, OperandStands, NodesStand, node_number, operation_number, signal_number}
use Rattle.net_compile.specs.Lowered.{IsNodeOf}
use Rattle.net_compile.specs.Pieces.{IsPiece, source_number}
use Rattle.net_compile.specs.declared.pieces.Piece.{Piece}
use Rattle.net_compile.proofs.Numbers.{more_bits}
use Rattle.net_compile.proofs.Fitting.{width_of, node_fits}
use Rattle.net_compile.proofs.Standing.{stays, nodes_stay, stands_for, cut_stands, joined_stands}

-- ---- bits of a signal

-- a cut of a piece's source has the piece's bits
pub piece_stands : (f : Flat) (front : Front) (a b : Draft) (t i e : ℕ) (p : Piece) (from slot : Slot) → Begins front a
    → IsPiece f t i e p → Stands f front a from p.of (source_number f front p.source)
    → IsCut a b (record { slot = from; width = p.of }) p.from p.width slot
    → Stands f front b slot p.width (signal_number f front t i p.width)
piece_stands f front a b t i e p from slot h is s cut =
    let wide : IsWidth p.width = (is.some, omega (arith, is.inside, is.wide.1)) in
    stands_for f front b slot p.width p.width
    (λ c. ops.select (pos p.from) p.width (source_number f front p.source c)) (signal_number f front t i p.width) refl
    (λ c. sym (is.value c.state c.row c.values c.settles))
    (cut_stands f front a b (record { slot = from; width = p.of }) p.from p.width slot (source_number f front p.source) h s
    cut wide)

pub joined_bits : (f : Flat) (front : Front) (a b c : Draft) (t k : ℕ) (next all : Operand) (slot : Slot)
    → Begins front a → Grows a b → Begins front b → OperandStands f front a all (signal_number f front t k all.width)
    → OperandStands f front b next (signal_number f front t (k + all.width) next.width) → IsJoined b c next all slot
    → IsWidth (next.width + all.width)
    → Stands f front c slot (next.width + all.width) (signal_number f front t k (next.width + all.width))
joined_bits f front a b c t k next all slot h g i old new j wide =
    stands_for f front c slot (next.width + all.width) (next.width + all.width)
    (λ y. ops.concat all.width (signal_number f front t (k + all.width) next.width y) (signal_number f front t k all.width y))
    (signal_number f front t k (next.width + all.width)) refl
    (λ y. more_bits (slice_index y.values.signals t) k next.width all.width)
    (joined_stands f front b c next all slot (signal_number f front t (k + all.width) next.width)
    (signal_number f front t k all.width) i new (stays f front a b all.slot all.width (signal_number f front t k all.width) h g old)
    j wide)

-- a range within a signal ends at 128 or before
pub range_small : (f : Flat) → IsWellFormed f → (r : Range) → LiesWithin f.signals r → r.low + r.width ≤ 128
range_small f w r h =
    let x = some_with (slice_get f.signals r.signal) (λ (s : Signal). r.low + r.width ≤ s.width) h in
    let fits = signal_fits f w r.signal x.0 x.1 in
    omega (arith, x.2, fits.1.1)

-- ---- nodes

pub bits_node : (f : Flat) (front : Front) (d : Draft) (k w : ℕ) (r : Range) (slot : Slot)
    → OperationFits f.signals f.memories (take k f.nodes) w (o.Bits r)
    → Stands f front d slot r.width (signal_number f front r.signal r.low r.width)
    → Stands f front d slot w (operation_number f front w (o.Bits r))
bits_node f front d k w r slot fits h =
    stands_for f front d slot r.width w (signal_number f front r.signal r.low r.width)
    (operation_number f front w (o.Bits r)) fits.0
    (λ c. ap (λ v. ops.select (pos r.low) v (slice_index c.values.signals r.signal)) fits.0) h

-- a node of the design has a width
pub node_wide : (f : Flat) (x : Node) → IsNodeOf f x → IsWidth x.width
node_wide f x h = (node_fits f h.0 h.1.0 x h.1.1).0

-- what its operation is fits
pub fits_as : (f : Flat) (x : Node) (op : Operation) → IsNodeOf f x → x.operation ≡ op
    → (k : ℕ) × OperationFits f.signals f.memories (take k f.nodes) x.width op
fits_as f x op h e = (
  h.1.0,
  subst (λ y. OperationFits f.signals f.memories (take h.1.0 f.nodes) x.width y) e (node_fits f h.0 h.1.0 x h.1.1).1,
)

pub bits_range : (f : Flat) (x : Node) (r : Range) → IsNodeOf f x → x.operation ≡ o.Bits r
    → LiesWithin f.signals r × IsWidth r.width
bits_range f x r h e =
    let fits = (fits_as f x (o.Bits r) h e).1 in (fits.1, subst IsWidth (sym fits.0) (node_wide f x h))

pub bits_lowered : (f : Flat) (front : Front) (d : Draft) (x : Node) (r : Range) (slot : Option Slot) → IsNodeOf f x
    → x.operation ≡ o.Bits r
    → IfSome slot (λ s. Stands f front d s r.width (signal_number f front r.signal r.low r.width))
    → IfSome slot (λ s. Stands f front d s x.width (operation_number f front x.width x.operation))
bits_lowered f front d x r slot h e stand =
    let fits = fits_as f x (o.Bits r) h e in
    subst (λ y. IfSome slot (λ s. Stands f front d s x.width (operation_number f front x.width y))) (sym e)
    (IfSome_then slot stand (λ s p. bits_node f front d fits.0 x.width r s fits.1 p))

-- ---- one node after another

abbrev pub node_blank : Node
node_blank = record { width = 0; operation = o.Constant 0 }

pub one_more_node : (f : Flat) → IsWellFormed f → ValuesLaw → (front : Front) (a b : Draft) (slots : List (Option Slot))
    (n : ℕ) (x : Node) (slot : Option Slot) → Begins front a → Grows a b → NodesStand f front a slots
    → length slots ≡ length f.nodes → slice_get f.nodes n ≡ Some x
    → IfSome slot (λ s. Stands f front b s x.width (operation_number f front x.width x.operation))
    → NodesStand f front b (slice_set slots n slot)
one_more_node f w law front a b slots n x slot i g old count at new k s e = elim (cases_eq k n) [
  | inr other ↦
      nodes_stay f front a b slots i g old k s (sym (get_or-set_other slots n k slot None other) ∙ e)
  | inl same ↦
      (let there : n < length slots = omega (arith, slice_get_within f.nodes n x at, count) in
      let is : slot ≡ Some s =
      sym (get_or-set_same slots n slot None there) ∙ ap (λ j. get_or (slice_set slots n slot) j None) (sym same) ∙ e in
      let h : Stands f front b s x.width (operation_number f front x.width x.operation) =
      subst (λ y. IfSome y (λ s. Stands f front b s x.width (operation_number f front x.width x.operation))) is new in
      let at_k : slice_get f.nodes k ≡ Some x = ap (λ j. slice_get f.nodes j) same ∙ at in
      stands_for f front b s x.width (width_at f.nodes k) (operation_number f front x.width x.operation)
      (node_number f front k) (sym (width_of f.nodes k x at_k))
      (λ c. sym ((law.are f c.values w).each k x at_k)) h)
]

-- one that has no slot is added to those that have none
pub one_more_none : (slots : List (Option Slot)) → ((n : ℕ) → slice_index_or slots n None ≡ None) → (n : ℕ)
    → slice_index_or (slots ++ None ∷ []) n None ≡ None
one_more_none [] h zero = refl
one_more_none [] h (suc n) = refl
one_more_none (x ∷ xs) h zero = h 0
one_more_none (x ∷ xs) h (suc n) = one_more_none xs (λ k. h (suc k)) n

pub no_nodes : (f : Flat) (front : Front) (d : Draft) (slots : List (Option Slot))
    → ((n : ℕ) → slice_index_or slots n None ≡ None) → NodesStand f front d slots
no_nodes f front d slots h k slot e = let absent : None ≡ Some slot = sym (h k) ∙ e in absurd cc
