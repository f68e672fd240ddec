-- The register parts, and that the signals and parts of the draft fit.
use Rattle.std.proofs.Common.{◌≡◌, ℕ, zero, suc, ◌+◌, ◌<◌, ◌≤◌, ◌^◌, List, [], ◌∷◌, ◌++◌, length, map, replicate, inl, refl, sym, ap, ◌∙◌, subst, arith}
use Rattle.std.specs.Prelude.{Some, slice_get, slice_index, slice_index_or, IsSomeAnd, sum, sum_by, is_some}
use Rattle.std.specs.List.{All}
use Rattle.std.proofs.lemmas.List.{length-map}
use Rattle.std.proofs.lemmas.List.Sums.{sum_by-cons, sum_by-le, count_by-le-length}
use Rattle.std.proofs.lemmas.Nat.{pow_pos}
use Rattle.std.proofs.lemmas.Option.{slice_get-get_or, slice_get_within, get_or_from_slice_get}
use Rattle.flat_ir.specs.FlatRun as plain
use Rattle.flat_ir.specs.declared.design.Role.{Role}
use Rattle.flat_ir.specs.declared.design.Role.TheVariants as role
use Rattle.flat_ir.specs.declared.design.Signal as old
use Rattle.netlist.specs.Fits.{AllAt, IsWidth, IsBefore, PlaceFits, RegisterFits, RegistersInOrder, SignalFits, RoleFits, IsInner, IsInput, InputFits, HasFewSignals, HasFewInputs, input_width}
use Rattle.netlist.specs.declared.design.Role.TheVariants as into
use Rattle.netlist.specs.declared.design.Signal.{Signal}
use Rattle.netlist.specs.declared.design.Range.{Range}
use Rattle.netlist.specs.declared.design.RegisterPart.{RegisterPart}
use Rattle.netlist.specs.declared.node.Node.{Node}
use Rattle.one_block.specs.OneBlock as one
use Rattle.one_block.specs.OneBlock.{IsOneBlock, ClockFits, AreNumbered}
use Rattle.one_block.specs.SameDesign.{signal_of, role_of, input_places, register_range, register_ranges, whole}
use Rattle.one_block.specs.Calls.Nodes.{range_at, AreBelow}
use Rattle.one_block.specs.Calls.Registers.{AreNext, part_of, parts_of}
use Rattle.one_block.proofs.Making.{has_node}
use Rattle.one_block.proofs.Signals.{mapped_at, input_at, input_placed, register_at, input_count, zero_more}

-- ---- register parts

pub part_at : (ranges : List Range) (next : List ℕ) (r : ℕ) (d : RegisterPart) → length next ≡ length ranges → r < length ranges
    → slice_index_or (parts_of ranges next) r d ≡ part_of (range_at ranges r) (slice_index next r)
part_at [] next r d e l = absurd (omega arith)
part_at (x ∷ xs) [] r d e l = absurd (omega arith)
part_at (x ∷ xs) (n ∷ ns) zero d e l = refl
part_at (x ∷ xs) (n ∷ ns) (suc r) d e l = part_at xs ns r d (omega (arith, e)) (omega (arith, l))

pub part_count : (ranges : List Range) (next : List ℕ) → length next ≡ length ranges → length (parts_of ranges next) ≡ length ranges
part_count [] next e = refl
part_count (x ∷ xs) [] e = absurd (omega arith)
part_count (x ∷ xs) (n ∷ ns) e = ap suc (part_count xs ns (omega (arith, e)))

pub part_ranges : (ranges : List Range) (next : List ℕ) → length next ≡ length ranges
    → map (λ (p : RegisterPart). p.range) (parts_of ranges next) ≡ ranges
part_ranges [] next e = refl
part_ranges (x ∷ xs) [] e = absurd (omega arith)
part_ranges (x ∷ xs) (n ∷ ns) e = ap (λ rs. x ∷ rs) (part_ranges xs ns (omega (arith, e)))

pub part_nexts : (f : ℕ → ℕ) (ranges : List Range) (next : List ℕ) → length next ≡ length ranges
    → map (λ (p : RegisterPart). f p.next) (parts_of ranges next) ≡ map f next
part_nexts f [] [] e = refl
part_nexts f [] (n ∷ ns) e = absurd (omega arith)
part_nexts f (x ∷ xs) [] e = absurd (omega arith)
part_nexts f (x ∷ xs) (n ∷ ns) e = ap (λ rs. f n ∷ rs) (part_nexts f xs ns (omega (arith, e)))

pub part_initials : (ranges : List Range) (next : List ℕ) → length next ≡ length ranges
    → map (λ (p : RegisterPart). p.initial) (parts_of ranges next) ≡ replicate (length ranges) 0
part_initials [] next e = refl
part_initials (x ∷ xs) [] e = absurd (omega arith)
part_initials (x ∷ xs) (n ∷ ns) e = ap (λ rs. 0 ∷ rs) (part_initials xs ns (omega (arith, e)))

-- ---- their order

-- the signals of ranges from k on are not below k
from_by : (k w : ℕ) (more : List Range) (m : ℕ) (x : Role) → m < length (register_range k w x ++ more)
    → ((i : ℕ) → i < length more → k + 1 ≤ (range_at more i).signal) → k ≤ (range_at (register_range k w x ++ more) m).signal
from_by k w more m role.Clock l rest = omega (arith, rest m l)
from_by k w more m (role.Input i) l rest = omega (arith, rest m l)
from_by k w more zero (role.Register r) l rest = omega arith
from_by k w more (suc m) (role.Register r) l rest =
    let there : m < length more = omega (arith, l) in omega (arith, rest m there)

from_on : (k : ℕ) (ss : List old.Signal) (m : ℕ) → m < length (register_ranges k ss) → k ≤ (range_at (register_ranges k ss) m).signal
from_on k [] m l = absurd (omega arith)
from_on k (s ∷ ss) m l = from_by k s.width (register_ranges (k + 1) ss) m s.role l (from_on (k + 1) ss)

-- each stands in a lower signal than the next
abbrev Rises : List Range → ℕ → Type 0
Rises ranges m = (range_at ranges m).signal < (range_at ranges (suc m)).signal

rises_by : (k w : ℕ) (more : List Range) (m : ℕ) (x : Role) → suc m < length (register_range k w x ++ more)
    → ((i : ℕ) → i < length more → k + 1 ≤ (range_at more i).signal) → ((i : ℕ) → suc i < length more → Rises more i)
    → Rises (register_range k w x ++ more) m
rises_by k w more m role.Clock l from rest = rest m l
rises_by k w more m (role.Input i) l from rest = rest m l
rises_by k w more zero (role.Register r) l from rest =
    let there : 0 < length more = omega (arith, l) in omega (arith, from 0 there)
rises_by k w more (suc m) (role.Register r) l from rest = rest m (omega (arith, l))

rises : (k : ℕ) (ss : List old.Signal) (m : ℕ) → suc m < length (register_ranges k ss) → Rises (register_ranges k ss) m
rises k [] m l = absurd (omega arith)
rises k (s ∷ ss) m l =
    rises_by k s.width (register_ranges (k + 1) ss) m s.role l (from_on (k + 1) ss) (rises (k + 1) ss)

pub parts_in_order : (ss : List old.Signal) (ranges : List Range) (next : List ℕ) → ranges ≡ register_ranges 0 ss → length next ≡ length ranges
    → RegistersInOrder (parts_of ranges next)
parts_in_order ss ranges next are count k d l =
    let size = part_count ranges next count in
    let second : suc k < length ranges = omega (arith, l, size) in
    let first : k < length ranges = omega arith in
    let a = part_at ranges next k d count first in
    let b = part_at ranges next (suc k) d count second in
    let up : Rises ranges k = subst (λ rs. Rises rs k) (sym are) (rises 0 ss k (omega (arith, second, ap length are))) in
    subst (λ (p : RegisterPart). IsBefore p.range (slice_index_or (parts_of ranges next) (suc k) d).range) (sym a)
    (subst (λ (p : RegisterPart). IsBefore (range_at ranges k) p.range) (sym b) (inl up))

-- ---- each fits

-- the signal of a register
pub range_fits : (p : plain.Flat) (ranges : List Range) (r : ℕ) → IsOneBlock p → plain.IsWellFormed p → ranges ≡ register_ranges 0 p.signals
    → r < length ranges → PlaceFits (map signal_of p.signals) (range_at ranges r) × IsWidth (range_at ranges r).width
range_fits p ranges r block well are l =
    let ss = p.signals in
    let range : Range = range_at ranges r in
    let at : slice_get (register_ranges 0 ss) r ≡ Some range =
    ap (λ xs. slice_get xs r) (sym are) ∙ slice_get-get_or ranges r (record { signal = 0; low = 0; width = 0 }) l in
    let h = register_at 0 0 0 ss block.numbered r range at in
    let place : whole h.j h.s.width ≡ range = ap (λ k. whole k h.s.width) (sym (zero_more h.j)) ∙ sym h.place in
    let inner : IsInner (role_of h.s.role) = ap role_of h.shows in
    subst (λ (x : Range). PlaceFits (map signal_of ss) x × IsWidth x.width) place (
      subst (λ o. IsSomeAnd o (λ (s : Signal). IsInner s.role × (0 + h.s.width ≤ s.width))) (sym (mapped_at signal_of ss h.j h.s h.at)) (inner, omega arith),
      well.widths h.j h.s h.at,
    )

pub parts_fit : (p : plain.Flat) (nodes : List Node) (ranges : List Range) (next : List ℕ) → IsOneBlock p → plain.IsWellFormed p
    → ranges ≡ register_ranges 0 p.signals → AreNext p nodes ranges next p.actions
    → All (RegisterFits 1 (map signal_of p.signals) nodes) (parts_of ranges next)
parts_fit p nodes ranges next block well are h k d l =
    let there : k < length ranges = omega (arith, l, part_count ranges next h.count) in
    let f = range_fits p ranges k block well are there in
    let v = h.each k there in
    subst (RegisterFits 1 (map signal_of p.signals) nodes) (sym (part_at ranges next k d h.count there))
    (f.0, omega arith, has_node nodes (slice_index next k) v.here (λ w. w ≡ (range_at ranges k).width) v.stands v.wide, (f.1, pow_pos (range_at ranges k).width))

pub few_bits : (p : plain.Flat) (ranges : List Range) (next : List ℕ) → IsOneBlock p → plain.IsWellFormed p → ranges ≡ register_ranges 0 p.signals
    → length next ≡ length ranges → length ranges ≤ 65535 → sum_by (λ (x : RegisterPart). x.range.width) (parts_of ranges next) + 0 < 2 ^ 32
few_bits p ranges next block well are count few =
    let size = part_count ranges next count in
    let each : All (λ (x : RegisterPart). x.range.width ≤ 128) (parts_of ranges next) = λ k d l.
    let there : k < length ranges = omega (arith, l, size) in
    subst (λ (x : RegisterPart). x.range.width ≤ 128) (sym (part_at ranges next k d count there)) (range_fits p ranges k block well are there).1.1 in
    let most = sum_by-le (λ (x : RegisterPart). x.range.width) 128 (parts_of ranges next) each in
    omega (arith, most, size, few)

-- ---- signals and data inputs

-- what stands at a place that is there
pub some_at : {X : Type 0} (xs : List X) (k : ℕ) → k < length xs → (x : X) × (slice_get xs k ≡ Some x)
some_at [] k l = absurd (omega arith)
some_at (x ∷ xs) zero l = (x, refl)
some_at (x ∷ xs) (suc k) l = some_at xs k (omega (arith, l))

at_or : {X : Type 0} (xs : List X) (k : ℕ) (d x : X) → slice_get xs k ≡ Some x → slice_index_or xs k d ≡ x
at_or xs k d x at = get_or_from_slice_get xs k x d at

role_fits : (p : plain.Flat) (k : ℕ) (s : old.Signal) (x : Role) → s.role ≡ x → IsOneBlock p → ClockFits s.width s.role → slice_get p.signals k ≡ Some s
    → RoleFits (input_places 0 p.signals) k s.width (role_of x)
role_fits p k s role.Clock e block clock at = subst (ClockFits s.width) e clock
role_fits p k s (role.Input i) e block clock at = input_placed k i s p.signals block.numbered at e
role_fits p k s (role.Register r) e block clock at = tt

pub signals_fit : (p : plain.Flat) → IsOneBlock p → plain.IsWellFormed p
    → AllAt (SignalFits 1 (input_places 0 p.signals)) (map signal_of p.signals)
signals_fit p block well k d l =
    let ss = p.signals in
    let there : k < length ss = omega (arith, l, length-map ss signal_of) in
    let h = some_at ss k there in
    let clock : ClockFits h.0.width h.0.role = subst (λ (s : old.Signal). ClockFits s.width s.role) (at_or ss k h.0 h.0 h.1) (block.clocks k h.0 there) in
    subst (SignalFits 1 (input_places 0 ss) k) (sym (at_or (map signal_of ss) k d (signal_of h.0) (mapped_at signal_of ss k h.0 h.1)))
    ((λ x e. let same : 0 ≡ x = cc in omega (arith, same)), well.widths k h.0 h.1, role_fits p k h.0 h.0.role refl block clock h.1, pow_pos h.0.width)

pub inputs_fit : (p : plain.Flat) → IsOneBlock p → AllAt (InputFits (map signal_of p.signals)) (input_places 0 p.signals)
inputs_fit p block k d l =
    let ss = p.signals in
    let places = input_places 0 ss in
    let q : ℕ = slice_index_or places k d in
    let h = input_at 0 0 0 ss block.numbered k q (slice_get-get_or places k d l) in
    let place : h.j ≡ q = sym (h.place ∙ zero_more h.j) in
    let shows : role_of h.s.role ≡ into.Input k = ap role_of (h.shows ∙ ap role.Input (zero_more k)) in
    subst (λ i. IsSomeAnd (slice_get (map signal_of ss) i) (λ (s : Signal). IsInput s.role k)) place
    (subst (λ o. IsSomeAnd o (λ (s : Signal). IsInput s.role k)) (sym (mapped_at signal_of ss h.j h.s h.at)) shows)

-- the bits of the data inputs
bits_by : (s : old.Signal) (x : Role) (n : ℕ) (more : List ℕ) → n ≡ sum more
    → input_width s.width (role_of x) + n ≡ sum (one.input_width s x ++ more)
bits_by s role.Clock n more e = zero_more n ∙ e
bits_by s (role.Register r) n more e = zero_more n ∙ e
bits_by s (role.Input i) n more e = ap (λ k. s.width + k) e ∙ sym (sum_by-cons (λ k. k) s.width more)

pub bits_are : (ss : List old.Signal) → sum_by (λ (s : Signal). input_width s.width s.role) (map signal_of ss) ≡ sum (one.input_widths ss)
bits_are [] = refl
bits_are (s ∷ ss) =
    sum_by-cons (λ (x : Signal). input_width x.width x.role) (signal_of s) (map signal_of ss)
    ∙ bits_by s s.role _ (one.input_widths ss) (bits_are ss)

pub few_signals : (p : plain.Flat) → IsOneBlock p → HasFewSignals (map signal_of p.signals)
few_signals p block =
    let most = count_by-le-length (λ (s : Signal). is_some s.scope) (map signal_of p.signals) in
    omega (arith, most, length-map p.signals signal_of, block.few)

pub few_inputs : (p : plain.Flat) → IsOneBlock p → HasFewInputs (map signal_of p.signals) (input_places 0 p.signals)
few_inputs p block = (
  omega (arith, input_count 0 p.signals, block.inputs, block.few_inputs),
  omega (arith, bits_are p.signals, block.few_bits),
)

-- the data inputs are signals
pub inputs_below : (signals : List Signal) (inputs : List ℕ) (ss : List old.Signal) → signals ≡ map signal_of ss → inputs ≡ input_places 0 ss
    → AreNumbered 0 0 ss → AreBelow (length signals) inputs
inputs_below signals inputs ss a b n k l =
    let q : ℕ = slice_index inputs k in
    let at : slice_get (input_places 0 ss) k ≡ Some q = ap (λ xs. slice_get xs k) (sym b) ∙ slice_get-get_or inputs k 0 l in
    let h = input_at 0 0 0 ss n k q at in
    omega (arith, h.place, slice_get_within ss h.j h.s h.at, ap length a, length-map ss signal_of)

-- there are no more registers than signals
fewer_by : (k w : ℕ) (more : List Range) (x : Role) (n : ℕ) → length more ≤ n → length (register_range k w x ++ more) ≤ suc n
fewer_by k w more role.Clock n l = omega arith
fewer_by k w more (role.Input i) n l = omega arith
fewer_by k w more (role.Register r) n l = omega (arith, l)

pub fewer_registers : (k : ℕ) (ss : List old.Signal) → length (register_ranges k ss) ≤ length ss
fewer_registers k [] = omega arith
fewer_registers k (s ∷ ss) = fewer_by k s.width (register_ranges (k + 1) ss) s.role (length ss) (fewer_registers (k + 1) ss)
