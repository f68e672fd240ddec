-- A signal's value from its parts, and from all parts.
use Rattle.std.proofs.Common.{◌≡◌, ℕ, zero, suc, ◌+◌, ◌<◌, ◌≤◌, Bool, true, false, inl, inr, List, [], ◌∷◌, length, drop, get_or, set, refl, sym, ap, ◌∙◌, subst, arith}
use Rattle.std.specs.Prelude.{◌^◌, nat_lt, nat_le, if◌then◌else◌, slice_index, slice_index_or, slice_get, map, Option, Some}
use Rattle.std.specs.Option.{option_map, unwrap_or}
use Rattle.std.proofs.lemmas.Option.{slice_get_within, get_or_from_slice_get}
use Rattle.std.proofs.lemmas.Nat.{pow_pos}
use Rattle.std.specs.List.Sorted.{IsNonDecreasingBy, IsPartitionPoint}
use Rattle.std.proofs.lemmas.Bool.{cases_lt, cases_eq, ltb-true, leb-false, ne_eqb, eq-eqb}
use Rattle.std.proofs.lemmas.List.{get_or-set_same, get_or-set_other, get_or-map, get_or-drop, length-set, length-map, length-drop}
use Rattle.std.proofs.Math.ListN.{drop_of_length-le}
use Rattle.netlist.specs.Fits.{AreInOrder, IsBefore, IsWellFormed, SignalFits, RoleFits}
use Rattle.netlist.specs.Design.{Flat}
use Rattle.netlist.specs.Run.{State, role_value, put, put_registers, put_driven, given}
use Rattle.netlist.specs.declared.design.Role.{Role}
use Rattle.netlist.specs.declared.design.Role.TheVariants as role
use Rattle.netlist.specs.declared.design.Range.{Range}
use Rattle.netlist.specs.declared.design.Signal.{Signal}
use Rattle.netlist.specs.declared.design.DrivenPart.{DrivenPart}
use Rattle.netlist.specs.declared.design.RegisterPart.{RegisterPart}
use Rattle.net_compile.specs.Cycle.{signal_width, RowFits}
use Rattle.net_compile.proofs.GivenSlots.{blank}
use Rattle.bit_ops.specs.Operators as ops
use Rattle.flat_sim.specs.Signals.{with_bits, with_registers, with_driven, IsSpan, IsInputOf}
use Rattle.held_state.proofs.InPlace.{some_at}
use Rattle.flat_sim.specs.declared.signals.Span.{Span}

-- ---- the parts of one signal

not_lower : (r q : Range) → IsBefore r q → r.signal ≤ q.signal
not_lower r q (inl l) = omega (arith, l)
not_lower r q (inr h) = omega (arith, h.0)

le_less : (i j : ℕ) → i ≤ suc j → (i ≡ suc j → ⊥) → i ≤ j
le_less i j l ne = elim (cases_lt j i) [
  | inl g ↦ absurd (ne (omega (arith, l, g)))
  | inr g ↦ g
]

in_order_more : {X : Type 0} (range : X → Range) (xs : List X) → AreInOrder range xs → (i j : ℕ) (d : X) → i ≤ j
    → suc j < length xs → (range (slice_index_or xs i d)).signal ≤ (range (slice_index_or xs j d)).signal
    → (range (slice_index_or xs i d)).signal ≤ (range (slice_index_or xs (suc j) d)).signal
in_order_more {X} range xs h i j d l m one =
    let two : (range (slice_index_or xs j d)).signal ≤ (range (slice_index_or xs (suc j) d)).signal =
    not_lower (range (slice_index_or xs j d)) (range (slice_index_or xs (suc j) d)) (h j d m) in
    omega (arith, one, two)

-- elements in order of their ranges are in order of their signals
pub in_order : {X : Type 0} (range : X → Range) (xs : List X) → AreInOrder range xs
    → IsNonDecreasingBy (λ x. (range x).signal) xs
in_order {X} range xs h i zero d l m =
    let e : i ≡ 0 = omega (arith, l) in
    subst (λ k. (range (slice_index_or xs i d)).signal ≤ (range (slice_index_or xs k d)).signal) e (omega arith)
in_order {X} range xs h i (suc j) d l m = elim (cases_eq i (suc j)) [
  | inl e ↦ subst (λ k. (range (slice_index_or xs i d)).signal ≤ (range (slice_index_or xs k d)).signal) e (omega arith)
  | inr ne ↦ in_order_more range xs h i j d (le_less i j l ne) m (in_order range xs h i j d (le_less i j l ne) (omega (arith, m)))
]

abbrev pub blank_driven : DrivenPart
blank_driven = record { range = record { signal = 0; low = 0; width = 0 }; node = 0 }

-- what two searches found
pub span_found : {X : Type 0} (n : X → ℕ) (xs : List X) (t : ℕ) (span : Span) (blank : X) → span.from ≤ length xs
    → span.to ≤ length xs
    → IsPartitionPoint (λ x. nat_lt (n x) t ≡ true) (λ x. nat_lt (n x) t ≡ false) xs span.from
    → IsPartitionPoint (λ x. nat_le (n x) t ≡ true) (λ x. nat_le (n x) t ≡ false) xs span.to → IsSpan n xs t span
span_found {X} n xs t span blank a b low high = record {
  within = (
    elim (cases_lt span.to span.from) [
      | inl l ↦ (
          let below : n (slice_index_or xs span.to blank) < t =
          ltb-true (n (slice_index_or xs span.to blank)) t (low.0 span.to blank (omega arith) l) in
          let above : t < n (slice_index_or xs span.to blank) =
          leb-false (n (slice_index_or xs span.to blank)) t (high.1 span.to blank (omega arith) (omega (arith, l, a))) in
          absurd (omega (arith, below, above)))
      | inr g ↦ g
    ],
    b,
  );
  before = λ i d l. ltb-true (n (slice_index_or xs i d)) t (low.0 i d (omega arith) l);
  after = λ i d l m. leb-false (n (slice_index_or xs i d)) t (high.1 i d l m);
}

-- ---- parts of other signals change nothing

other_bits : (signal w : ℕ) (r : Range) (n value : ℕ) → (r.signal ≡ signal → ⊥) → with_bits signal w r n value ≡ value
other_bits signal w r n value ne =
    ap (λ (b : Bool). if b then ops.insert_at w r.low r.width n value else value) (ne_eqb r.signal signal ne)

nil_dropped : (a : ℕ) (xs : List ℕ) → xs ≡ [] → drop a xs ≡ []
nil_dropped zero xs e = e
nil_dropped (suc a) [] e = refl
nil_dropped (suc a) (x ∷ xs) e = absurd cc

later_dropped : (a : ℕ) (ns : List ℕ) → drop a (drop 1 ns) ≡ drop (suc a) ns
later_dropped a [] = nil_dropped a [] refl
later_dropped a (n ∷ ns) = refl

pub registers_skipped : (signal w : ℕ) (ps : List RegisterPart) (ns : List ℕ) (value a : ℕ)
    → ((i : ℕ) (d : RegisterPart) → i < a → i < length ps → (slice_index_or ps i d).range.signal ≡ signal → ⊥)
    → with_registers signal w (drop a ps) (drop a ns) value ≡ with_registers signal w ps ns value
registers_skipped signal w ps ns value zero ne = refl
registers_skipped signal w [] ns value (suc a) ne = refl
registers_skipped signal w (p ∷ ps) ns value (suc a) ne =
    ap (λ (ms : List ℕ). with_registers signal w (drop a ps) ms value) (sym (later_dropped a ns))
    ∙ registers_skipped signal w ps (drop 1 ns) value a (λ i d l m. ne (suc i) d (omega (arith, l)) (omega (arith, m)))
    ∙ ap (λ v. with_registers signal w ps (drop 1 ns) v)
    (sym (other_bits signal w p.range (slice_index ns 0) value (ne 0 p (omega arith) (omega arith))))

pub driven_skipped : (signal w : ℕ) (ps : List DrivenPart) (xs : List ℕ) (value a : ℕ)
    → ((i : ℕ) (d : DrivenPart) → i < a → i < length ps → (slice_index_or ps i d).range.signal ≡ signal → ⊥)
    → with_driven signal w (drop a ps) xs value ≡ with_driven signal w ps xs value
driven_skipped signal w ps xs value zero ne = refl
driven_skipped signal w [] xs value (suc a) ne = refl
driven_skipped signal w (p ∷ ps) xs value (suc a) ne =
    driven_skipped signal w ps xs value a (λ i d l m. ne (suc i) d (omega (arith, l)) (omega (arith, m)))
    ∙ ap (λ v. with_driven signal w ps xs v)
    (sym (other_bits signal w p.range (slice_index xs p.node) value (ne 0 p (omega arith) (omega arith))))

-- the parts in front of a span, and those after it
pub registers_before : (signal w : ℕ) (ps : List RegisterPart) (ns : List ℕ) (value : ℕ) (span : Span)
    → IsSpan (λ (p : RegisterPart). p.range.signal) ps signal span
    → with_registers signal w (drop span.from ps) (drop span.from ns) value ≡ with_registers signal w ps ns value
registers_before signal w ps ns value span h =
    registers_skipped signal w ps ns value span.from
    (λ i d l m e. let b : (slice_index_or ps i d).range.signal < signal = h.before i d l in absurd (omega (arith, b, e)))

pub registers_after : (signal w : ℕ) (ps : List RegisterPart) (ns : List ℕ) (value k : ℕ) (span : Span)
    → IsSpan (λ (p : RegisterPart). p.range.signal) ps signal span → span.to ≤ k
    → with_registers signal w (drop k ps) (drop k ns) value ≡ value
registers_after signal w ps ns value k span h far =
    let none : drop (length (drop k ps)) (drop k ps) ≡ [] = drop_of_length-le (drop k ps) (omega arith) in
    sym (registers_skipped signal w (drop k ps) (drop k ns) value (length (drop k ps))
    (λ i d l m e.
    let same : (slice_index_or (drop k ps) i d).range.signal ≡ (slice_index_or ps (k + i) d).range.signal =
    ap (λ (p : RegisterPart). p.range.signal) (get_or-drop k ps i d) in
    let g : signal < (slice_index_or ps (k + i) d).range.signal =
    h.after (k + i) d (omega (arith, far)) (omega (arith, l, length-drop k ps)) in
    absurd (omega (arith, g, e, same))))
    ∙ ap (λ (qs : List RegisterPart). with_registers signal w qs (drop (length (drop k ps)) (drop k ns)) value) none

pub registers_more : (signal w : ℕ) (ps : List RegisterPart) (ns : List ℕ) (value k : ℕ) → k < length ps
    → k < length ns
    → with_registers signal w (drop (suc k) ps) (drop (suc k) ns)
    (with_bits signal w (slice_index_or ps k blank).range (slice_index ns k) value)
    ≡ with_registers signal w (drop k ps) (drop k ns) value
registers_more signal w [] ns value k l m = absurd (omega (arith, l))
registers_more signal w (p ∷ ps) [] value k l m = absurd (omega (arith, m))
registers_more signal w (p ∷ ps) (n ∷ ns) value zero l m = refl
registers_more signal w (p ∷ ps) (n ∷ ns) value (suc k) l m =
    registers_more signal w ps ns value k (omega (arith, l)) (omega (arith, m))

pub driven_before : (signal w : ℕ) (ps : List DrivenPart) (xs : List ℕ) (value : ℕ) (span : Span)
    → IsSpan (λ (p : DrivenPart). p.range.signal) ps signal span
    → with_driven signal w (drop span.from ps) xs value ≡ with_driven signal w ps xs value
driven_before signal w ps xs value span h =
    driven_skipped signal w ps xs value span.from
    (λ i d l m e. let b : (slice_index_or ps i d).range.signal < signal = h.before i d l in absurd (omega (arith, b, e)))

pub driven_after : (signal w : ℕ) (ps : List DrivenPart) (xs : List ℕ) (value k : ℕ) (span : Span)
    → IsSpan (λ (p : DrivenPart). p.range.signal) ps signal span → span.to ≤ k
    → with_driven signal w (drop k ps) xs value ≡ value
driven_after signal w ps xs value k span h far =
    let none : drop (length (drop k ps)) (drop k ps) ≡ [] = drop_of_length-le (drop k ps) (omega arith) in
    sym (driven_skipped signal w (drop k ps) xs value (length (drop k ps))
    (λ i d l m e.
    let same : (slice_index_or (drop k ps) i d).range.signal ≡ (slice_index_or ps (k + i) d).range.signal =
    ap (λ (p : DrivenPart). p.range.signal) (get_or-drop k ps i d) in
    let g : signal < (slice_index_or ps (k + i) d).range.signal =
    h.after (k + i) d (omega (arith, far)) (omega (arith, l, length-drop k ps)) in
    absurd (omega (arith, g, e, same))))
    ∙ ap (λ (qs : List DrivenPart). with_driven signal w qs xs value) none

-- ---- the signal's value among those of all signals

put_count : (signals : List Signal) (r : Range) (n : ℕ) (values : List ℕ) → length (put signals r n values) ≡ length values
put_count signals r n values =
    length-set values r.signal (ops.insert_at (signal_width signals r.signal) r.low r.width n (slice_index values r.signal))

put_at : (signals : List Signal) (r : Range) (n : ℕ) (values : List ℕ) (signal : ℕ) → signal < length values
    → slice_index (put signals r n values) signal
    ≡ with_bits signal (signal_width signals signal) r n (slice_index values signal)
put_at signals r n values signal l = elim (cases_eq r.signal signal) [
  | inl e ↦ (
      let now = λ (k : ℕ). ops.insert_at (signal_width signals k) r.low r.width n (slice_index values k) in
      ap (λ k. slice_index (set values r.signal (now r.signal)) k) (sym e)
      ∙ get_or-set_same values r.signal (now r.signal) 0 (subst (λ k. k < length values) (sym e) l)
      ∙ ap now e
      ∙ sym (ap (λ (b : Bool). if b then now signal else slice_index values signal) (eq-eqb r.signal signal e)))
  | inr ne ↦
      get_or-set_other values r.signal signal
      (ops.insert_at (signal_width signals r.signal) r.low r.width n (slice_index values r.signal)) 0 (λ e. ne (sym e))
      ∙ sym (other_bits signal (signal_width signals signal) r n (slice_index values signal) ne)
]

pub registers_put : (signals : List Signal) (ps : List RegisterPart) (ns values : List ℕ) (signal : ℕ)
    → signal < length values
    → slice_index (put_registers signals ps ns values) signal
    ≡ with_registers signal (signal_width signals signal) ps ns (slice_index values signal)
registers_put signals [] ns values signal l = refl
registers_put signals (p ∷ ps) ns values signal l =
    registers_put signals ps (drop 1 ns) (put signals p.range (slice_index ns 0) values) signal
    (omega (arith, l, put_count signals p.range (slice_index ns 0) values))
    ∙ ap (λ v. with_registers signal (signal_width signals signal) ps (drop 1 ns) v)
    (put_at signals p.range (slice_index ns 0) values signal l)

pub registers_count : (signals : List Signal) (ps : List RegisterPart) (ns values : List ℕ)
    → length (put_registers signals ps ns values) ≡ length values
registers_count signals [] ns values = refl
registers_count signals (p ∷ ps) ns values =
    registers_count signals ps (drop 1 ns) (put signals p.range (slice_index ns 0) values)
    ∙ put_count signals p.range (slice_index ns 0) values

pub driven_put : (signals : List Signal) (ps : List DrivenPart) (xs values : List ℕ) (signal : ℕ)
    → signal < length values
    → slice_index (put_driven signals ps xs values) signal
    ≡ with_driven signal (signal_width signals signal) ps xs (slice_index values signal)
driven_put signals [] xs values signal l = refl
driven_put signals (p ∷ ps) xs values signal l =
    driven_put signals ps xs (put signals p.range (slice_index xs p.node) values) signal
    (omega (arith, l, put_count signals p.range (slice_index xs p.node) values))
    ∙ ap (λ v. with_driven signal (signal_width signals signal) ps xs v)
    (put_at signals p.range (slice_index xs p.node) values signal l)

-- a signal's value is put together from its own, its register parts and its driven parts
pub value_of : (f : Flat) (s : State) (row xs : List ℕ) (signal : ℕ) (x : Signal) → signal < length f.signals
    → x ≡ get_or f.signals signal x
    → slice_index (put_driven f.signals f.driven xs (given f s row)) signal
    ≡ with_driven signal (signal_width f.signals signal) f.driven xs
    (with_registers signal (signal_width f.signals signal) f.registers s.registers (role_value row x.kept x.role))
value_of f s row xs signal x l is =
    let own : List ℕ = map (λ (y : Signal). role_value row y.kept y.role) f.signals in
    let own_count : length own ≡ length f.signals = length-map f.signals (λ (y : Signal). role_value row y.kept y.role) in
    let here : slice_index own signal ≡ role_value row x.kept x.role =
    get_or-map (λ (y : Signal). role_value row y.kept y.role) f.signals signal x 0 l
    ∙ ap (λ (y : Signal). role_value row y.kept y.role) (sym is) in
    driven_put f.signals f.driven xs (given f s row) signal
    (omega (arith, l, own_count, registers_count f.signals f.registers s.registers own))
    ∙ ap (λ v. with_driven signal (signal_width f.signals signal) f.driven xs v)
    (registers_put f.signals f.registers s.registers own signal (omega (arith, l, own_count))
    ∙ ap (λ v. with_registers signal (signal_width f.signals signal) f.registers s.registers v) here)

-- ---- what no part gives

pub signal_at : (f : Flat) (signal : ℕ) (x : Signal) → signal < length f.signals → x ≡ get_or f.signals signal x
    → slice_get f.signals signal ≡ Some x
signal_at f signal x l is = some_at f.signals signal x l is

pub width_is : (f : Flat) (signal : ℕ) (x : Signal) → signal < length f.signals → x ≡ get_or f.signals signal x
    → signal_width f.signals signal ≡ x.width
width_is f signal x l is =
    ap (λ (o : Option Signal). unwrap_or (option_map (λ (y : Signal). y.width) o) 0) (signal_at f signal x l is)

pub signal_fits : (f : Flat) (signal : ℕ) (x : Signal) → IsWellFormed f → signal < length f.signals
    → x ≡ get_or f.signals signal x → SignalFits (length f.scopes) f.inputs signal x
signal_fits f signal x w l is =
    subst (λ (y : Signal). SignalFits (length f.scopes) f.inputs signal y) (sym is) (w.signals.each signal x l)

pub input_there : (inputs : List ℕ) (signal w : ℕ) (r : Role) → RoleFits inputs signal w r → IsInputOf (length inputs) r
input_there inputs signal w role.Clock h k e = absurd cc
input_there inputs signal w (role.Input i) h k e =
    let same : i ≡ k = cc in
    subst (λ n. n < length inputs) same (slice_get_within inputs i signal h)
input_there inputs signal w role.Inner h k e = absurd cc

pub role_fits : (f : Flat) (row : List ℕ) (signal w kept : ℕ) (r : Role) → RowFits f row
    → signal_width f.signals signal ≡ w → RoleFits f.inputs signal w r → kept < 2 ^ w → role_value row kept r < 2 ^ w
role_fits f row signal w kept role.Clock fits e h l = pow_pos w
role_fits f row signal w kept (role.Input i) fits e h l =
    subst (λ n. slice_index row i < 2 ^ n)
    (ap (λ k. signal_width f.signals k) (get_or_from_slice_get f.inputs i signal 0 h) ∙ e)
    (fits i (slice_get_within f.inputs i signal h))
role_fits f row signal w kept role.Inner fits e h l = l
