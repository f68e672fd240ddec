-- The pieces of a signal have its bits.
use Rattle.std.proofs.Common.{◌≡◌, ℕ, ◌+◌, ◌-◌, ◌<◌, ◌≤◌, min, List, length, map, get_or, refl, sym, ap, ◌∙◌, subst, arith}
use Rattle.std.specs.Prelude.{Some, pos, slice_get, slice_index}
use Rattle.std.specs.Int.{bit_at}
use Rattle.std.proofs.lemmas.List.{get_or-map, length-map}
use Rattle.std.proofs.lemmas.Option.{slice_get_within, get_or_from_slice_get}
use Rattle.std.proofs.lemmas.Nat.{pow_pos}
use Rattle.bit_ops.specs.Operators as ops
use Rattle.netlist.specs.Design.{Flat}
use Rattle.netlist.specs.Fits.{IsWellFormed, IsWidth, DrivenFits, RegisterFits, SignalFits, RoleFits}
use Rattle.netlist.specs.Laws.{HasBit, HasBitOf, BitsLaw}
use Rattle.netlist.specs.Run.{State, role_value}
use Rattle.netlist.specs.Values.{Values, node_values}
use Rattle.netlist.specs.declared.design.Role.{Role}
use Rattle.netlist.specs.declared.design.Role.TheVariants as role
use Rattle.netlist.specs.declared.design.Signal.{Signal}
use Rattle.netlist.specs.declared.design.Range.{Range}
use Rattle.netlist.specs.declared.design.DrivenPart.{DrivenPart}
use Rattle.netlist.specs.declared.design.RegisterPart.{RegisterPart}
use Rattle.netlist.specs.declared.node.Node.{Node}
use Rattle.netlist.proofs.Puts.{some_with}
use Rattle.net_compile.specs.Cycle.{signal_width}
use Rattle.net_compile.specs.Pieces.{DrivenHas, RegisterHas, Reaches, AreInNone, SourceFits, IsPiece, source_value, source_for}
use Rattle.net_compile.specs.declared.pieces.Source.{Source}
use Rattle.net_compile.specs.declared.pieces.Source.TheVariants as source
use Rattle.net_compile.proofs.Numbers.{same_bits}
use Rattle.net_compile.proofs.Fitting.{width_of, node_fits}

moved : (i j low : ℕ) → low ≤ i → i + j - low ≡ i - low + j
moved i j low l = omega arith

pub driven_is : (f : Flat) → IsWellFormed f → BitsLaw → (k t i e m : ℕ) (p : DrivenPart) → k < length f.driven
    → ((d : DrivenPart) → get_or f.driven k d ≡ p) → DrivenHas f k t i → i < e
    → m ≡ min e (p.range.low + p.range.width)
    → IsPiece f t i e (record {
      source = source.Node p.node;
      of = p.range.width;
      from = i - p.range.low;
      width = m - i;
    })
driven_is f w law k t i e m p l is has less least =
    let fits : DrivenFits f.signals f.nodes p =
    subst (λ x. DrivenFits f.signals f.nodes x) (is p) (w.parts.driven k p l) in
    let h : HasBit p.range t i = subst (λ (x : DrivenPart). HasBit x.range t i) (is p) (has p) in
    let x = some_with (slice_get f.nodes p.node) (λ (y : Node). y.width ≡ p.range.width) fits.1 in
    record {
      some = omega (arith, h.2);
      within = omega arith;
      wide = subst IsWidth x.2 (node_fits f w p.node x.0 x.1).0;
      inside = omega (arith, h.1, h.2);
      fits = width_of f.nodes p.node x.0 x.1 ∙ x.2;
      value = λ s row v st. same_bits (slice_index v.signals t) (slice_index (node_values f v) p.node) i (i - p.range.low)
          (m - i) (λ j to.
          let own : HasBitOf v p.range (i + j) (slice_index (node_values f v) p.node) =
          subst (λ (y : DrivenPart). HasBitOf v y.range (i + j) (slice_index (node_values f v) y.node)) (is p)
          ((law f s row v w st).driven k (i + j) p l
          (subst (λ (y : DrivenPart). HasBit y.range y.range.signal (i + j)) (sym (is p))
          (refl, omega (arith, h.1), omega arith))) in
          ap (λ q. bit_at (slice_index v.signals q) (i + j)) (sym h.0) ∙ own
          ∙ ap (λ q. bit_at (slice_index (node_values f v) p.node) q) (moved i j p.range.low h.1));
    }

pub register_is : (f : Flat) → IsWellFormed f → BitsLaw → (k t i e m : ℕ) (p : RegisterPart) → k < length f.registers
    → ((d : RegisterPart) → get_or f.registers k d ≡ p) → RegisterHas f k t i → i < e
    → m ≡ min e (p.range.low + p.range.width)
    → IsPiece f t i e (record {
      source = source.Register k;
      of = p.range.width;
      from = i - p.range.low;
      width = m - i;
    })
register_is f w law k t i e m p l is has less least =
    let fits : RegisterFits (length f.blocks) f.signals f.nodes p =
    subst (λ x. RegisterFits (length f.blocks) f.signals f.nodes x) (is p) (w.parts.registers k p l) in
    let h : HasBit p.range t i = subst (λ (x : RegisterPart). HasBit x.range t i) (is p) (has p) in
    record {
      some = omega (arith, h.2);
      within = omega arith;
      wide = fits.3.0;
      inside = omega (arith, h.1, h.2);
      fits = (l, λ d. ap (λ (x : RegisterPart). x.range.width) (is d));
      value = λ s row v st. same_bits (slice_index v.signals t) (slice_index s.registers k) i (i - p.range.low)
          (m - i) (λ j to.
          let own : HasBitOf v p.range (i + j) (slice_index s.registers k) =
          subst (λ (y : RegisterPart). HasBitOf v y.range (i + j) (slice_index s.registers k)) (is p)
          ((law f s row v w st).registers k (i + j) p l
          (subst (λ (y : RegisterPart). HasBit y.range y.range.signal (i + j)) (sym (is p))
          (refl, omega (arith, h.1), omega arith))) in
          ap (λ q. bit_at (slice_index v.signals q) (i + j)) (sym h.0) ∙ own
          ∙ ap (λ q. bit_at (slice_index s.registers k) q) (moved i j p.range.low h.1));
    }

-- ---- bits in no part

pub signal_fits : (f : Flat) → IsWellFormed f → (t : ℕ) (x : Signal) → slice_get f.signals t ≡ Some x
    → SignalFits (length f.scopes) f.inputs t x
signal_fits f w t x at =
    subst (λ y. SignalFits (length f.scopes) f.inputs t y) (get_or_from_slice_get f.signals t x x at)
    (w.signals.each t x (slice_get_within f.signals t x at))

some_signal_width : (f : Flat) (t : ℕ) (x : Signal) → slice_get f.signals t ≡ Some x
    → signal_width f.signals t ≡ x.width
some_signal_width f t x at = rw at refl

source_fits : (f : Flat) → IsWellFormed f → (t : ℕ) (x : Signal) → slice_get f.signals t ≡ Some x
    → (r : Role) → x.role ≡ r → SourceFits f x.width (source_for x.kept r)
source_fits f w t x at role.Clock e = pow_pos x.width
source_fits f w t x at (role.Input n) e =
    let fits : SignalFits (length f.scopes) f.inputs t x = signal_fits f w t x at in
    let stands : slice_get f.inputs n ≡ Some t =
    subst (λ r. RoleFits f.inputs t x.width r) e fits.2 in (
      slice_get_within f.inputs n t stands,
      ap (λ k. signal_width f.signals k) (get_or_from_slice_get f.inputs n t 0 stands) ∙ some_signal_width f t x at,
    )
source_fits f w t x at role.Inner e = (signal_fits f w t x at).3

same_source : (f : Flat) (s : State) (row : List ℕ) (v : Values) (kept : ℕ) (r : Role)
    → role_value row kept r ≡ source_value f s row v (source_for kept r)
same_source f s row v kept role.Clock = refl
same_source f s row v kept (role.Input n) = refl
same_source f s row v kept role.Inner = refl

pub kept_is : (f : Flat) → IsWellFormed f → BitsLaw → (t i e : ℕ) (x : Signal) → slice_get f.signals t ≡ Some x
    → e ≤ x.width → i < e → AreInNone f t i e
    → IsPiece f t i e (record { source = source_for x.kept x.role; of = x.width; from = i; width = e - i })
kept_is f w law t i e x at long less none = record {
  some = omega arith;
  within = omega arith;
  wide = (signal_fits f w t x at).1;
  inside = omega arith;
  fits = source_fits f w t x at x.role refl;
  value = λ s row v st. same_bits (slice_index v.signals t) (role_value row x.kept x.role) i i (e - i)
      (λ j to. (law f s row v w st).others t (i + j) x at (none (i + j) (omega arith) (omega arith)))
      ∙ ap (λ n. ops.select (pos i) (e - i) n) (same_source f s row v x.kept x.role);
}

-- ---- from what the code reads

abbrev pub driven_blank : DrivenPart
driven_blank = record { range = record { signal = 0; low = 0; width = 0 }; node = 0 }

pub kept_read : (f : Flat) → IsWellFormed f → BitsLaw → (t i e : ℕ) (signals : List Signal) (x : Signal) (src : Source)
    → signals ≡ f.signals → x ≡ get_or signals t x → src ≡ source_for x.kept x.role → Reaches f t e → i < e
    → AreInNone f t i e → IsPiece f t i e (record { source = src; of = x.width; from = i; width = e - i })
kept_read f w law t i e signals x src same read is there less none =
    let y = some_with (slice_get f.signals t) (λ (s : Signal). e ≤ s.width) there in
    let own : x ≡ y.0 = read ∙ ap (λ xs. get_or xs t x) same ∙ get_or_from_slice_get f.signals t y.0 x y.1 in
    let at : slice_get f.signals t ≡ Some x = y.1 ∙ ap Some (sym own) in
    subst (λ q. IsPiece f t i e (record { source = q; of = x.width; from = i; width = e - i })) (sym is)
    (kept_is f w law t i e x at (subst (λ (s : Signal). e ≤ s.width) (sym own) y.2) less none)

-- a part whose range has a bit has it
pub part_has : {X : Type 0} (range : X → Range) (xs : List X) (b : X) (ranges : List Range) (k t i : ℕ)
    → ranges ≡ map range xs → (k < length ranges) × ((d : Range) → HasBit (get_or ranges k d) t i)
    → (k < length xs) × ((d : X) → HasBit (range (get_or xs k d)) t i)
part_has range xs b ranges k t i same h =
    let long : length ranges ≡ length xs = ap length same ∙ length-map xs range in
    let there : k < length xs = omega (arith, h.0, long) in (
      there,
      λ d. subst (λ r. HasBit r t i) (ap (λ rs. get_or rs k (range b)) same ∙ get_or-map range xs k d (range b) there)
          (h.1 (range b)),
    )

pub none_has : {X : Type 0} (range : X → Range) (xs : List X) (ranges : List Range) (t i u : ℕ)
    → ranges ≡ map range xs
    → ((k j : ℕ) (d : Range) → k < length ranges → i ≤ j → j < u → HasBit (get_or ranges k d) t j → ⊥)
    → (k j : ℕ) (d : X) → k < length xs → i ≤ j → j < u → HasBit (range (get_or xs k d)) t j → ⊥
none_has range xs ranges t i u same none k j d l from to h =
    let long : length ranges ≡ length xs = ap length same ∙ length-map xs range in
    none k j (range d) (omega (arith, l, long)) from to
    (subst (λ r. HasBit r t j) (sym (ap (λ rs. get_or rs k (range d)) same ∙ get_or-map range xs k d (range d) l)) h)
