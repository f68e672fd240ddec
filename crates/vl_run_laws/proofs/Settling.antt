-- The same values settle: bit by bit, where a driver drives and where none does.
use Rattle.std.proofs.Common.{◌≡◌, ℕ, zero, suc, ◌+◌, ◌-◌, ◌*◌, ◌/◌, ◌^◌, ◌<◌, ◌≤◌, inl, inr, Bool, true, false, if◌then◌else◌, List, [], ◌∷◌, length, map, drop, get_or, refl, sym, ap, subst, ◌∙◌, arith, length-set}
use Rattle.std.specs.Prelude.{pos, Option, Some, None, slice_get, slice_index, slice_index_or}
use Rattle.std.specs.Int.{bit_at}
use Rattle.std.specs.List.{All}
use Rattle.std.proofs.Math.Nat.{mod-lt, pow-suc}
use Rattle.std.proofs.lemmas.Bool.{cases_lt}
use Rattle.std.proofs.lemmas.Nat.{pow_pos}
use Rattle.std.proofs.lemmas.Nat.Bits.{bit_at_lowest, bit_at_above, bit_at_cat_low, bit_at_cat_high, same_from_bits, same_from_bits_below}
use Rattle.std.proofs.lemmas.List.{ext_get_or, get_or_past, length-map}
use Rattle.std.proofs.lemmas.Option.{slice_get_within, get_or_from_slice_get, slice_get-get_or}
use Rattle.bit_ops.specs.Operators.{select}
use Rattle.netlist.specs.Design.{Flat}
use Rattle.netlist.specs.Plain.{PlainMemory}
use Rattle.netlist.specs.Fits.{IsWellFormed, DrivenFits, MemoryFits}
use Rattle.netlist.specs.Laws.{HasBit}
use Rattle.netlist.specs.Values.{Values, node_values}
use Rattle.netlist.specs.Run.{State, FlatSettles, put, put_registers, put_driven, given, all_words}
use Rattle.netlist.specs.declared.design.Signal as flat_signal
use Rattle.netlist.specs.declared.design.RegisterPart.{RegisterPart}
use Rattle.netlist.specs.declared.design.DrivenPart.{DrivenPart}
use Rattle.netlist.specs.declared.node.Node.{Node}
use Rattle.netlist.proofs.Bits.{low_bit, high_bit}
use Rattle.netlist.proofs.Puts.{bit, In, InNone, EachHas, AreSized, put_all, some_with, all_sized, all_have, all_beside, ends_same}
use Rattle.netlist.proofs.SettlesOnce.{place, in_from, all_in, fixed, put_driven_is, fixed_steady, given_sized, driven_placed, lie_in_one}
use Rattle.vl_design.specs.Design.{Design, Signal}
use Rattle.vl_process.specs.Settling.{Fits, RowFits, Settles, signal_width, is_driven, said_of, all_said, bit_of, of_bits, undriven_as, all_undriven_as}
use Rattle.vl_process.specs.Run.{initial}
use Rattle.vl_process.specs.StandsFor.{StandsFor, StateFits, HasNodeValue, role_of, whole_state}
use Rattle.vl_store.specs.Stores.{PathsAreDistinct}
use Rattle.vl_store.proofs.Numbers.{is_false, counts_fit}
use Rattle.vl_run_laws.specs.Given.{InputsAreSignals}
use Rattle.vl_run_laws.specs.NodeValues.{WordsAreFit}
use Rattle.vl_run_laws.specs.Settling.{SettlingLaw}
use Rattle.vl_run_laws.proofs.DrivenBits.{driven_bits, all_hold}
use Rattle.vl_run_laws.proofs.Given.{given_same, by_number_count}
use Rattle.vl_run_laws.proofs.Fitting.{fitting, fit_at, bound, memory_words}
use Rattle.vl_run_laws.proofs.NodesFit.{nodes_fit}

-- ---- a number of given bits

bit_small : (n k : ℕ) → bit_of n k < 2
bit_small n k = mod-lt (n / 2 ^ k) (omega arith)

one_bit : (n : ℕ) → n < 2 → bit_at n 0 ≡ n
one_bit n l = omega (arith, bit_at_lowest n, l)

of_bits_fit : (w : ℕ) (g : ℕ → ℕ) → ((k : ℕ) → g k < 2) → of_bits w g < 2 ^ w
of_bits_fit zero g h = omega arith
of_bits_fit (suc w) g h =
    let l = of_bits_fit w g h in
    let more = pow-suc 2 w in
    let b = h w in
    elim (cases_lt (g w) 1) [
      | inl none ↦ (let z : g w ≡ 0 = omega (arith, none) in
          subst (λ x. of_bits w g + x * 2 ^ w < 2 ^ suc w) (sym z) (omega (arith, l, more)))
      | inr one ↦ (let o : g w ≡ 1 = omega (arith, one, b) in
          subst (λ x. of_bits w g + x * 2 ^ w < 2 ^ suc w) (sym o) (omega (arith, l, more)))
    ]

bit_of_bits : (w k : ℕ) (g : ℕ → ℕ) → ((k : ℕ) → g k < 2) → k < w → bit_at (of_bits w g) k ≡ g k
bit_of_bits zero k g h l = absurd (omega (arith, l))
bit_of_bits (suc w) k g h l =
    let turned : of_bits w g + g w * 2 ^ w ≡ g w * 2 ^ w + of_bits w g = omega arith in
    ap (λ n. bit_at n k) turned ∙ elim (cases_lt k w) [
      | inl less ↦ bit_at_cat_low (g w) w (of_bits w g) k less ∙ bit_of_bits w k g h less
      | inr from ↦
          let e : k ≡ w = omega (arith, l, from) in
          let none : k - w ≡ 0 = omega (arith, e) in
          bit_at_cat_high (g w) w (of_bits w g) k (of_bits_fit w g h) from
          ∙ ap (bit_at (g w)) none ∙ one_bit (g w) (h w) ∙ ap g (sym e)
    ]

-- ---- bits that nothing drives, signal by signal

-- the bit of a signal's number, or of the other where nothing drives it
abbrev chosen_bit : Design → Signal → ℕ → ℕ → ℕ → ℕ
chosen_bit d x n other k = if is_driven d x.path k then bit_of n k else bit_of other k

small_by : (b : Bool) {n m : ℕ} → n < 2 → m < 2 → (if b then n else m) < 2
small_by true p q = p
small_by false p q = q

chosen_small : (d : Design) (x : Signal) (n other k : ℕ) → chosen_bit d x n other k < 2
chosen_small d x n other k = small_by (is_driven d x.path k) (bit_small n k) (bit_small other k)

undriven_bit : (d : Design) (x : Signal) (n other k : ℕ) → k < signal_width x → is_driven d x.path k ≡ false
    → bit_at (undriven_as d x n other) k ≡ bit_at other k
undriven_bit d x n other k l none =
    bit_of_bits (signal_width x) k (chosen_bit d x n other) (chosen_small d x n other) l
    ∙ ap (λ b. if b then bit_of n k else bit_of other k) none

chosen_same : (b : Bool) (n m : ℕ) → (b ≡ false → m ≡ n) → (if b then n else m) ≡ n
chosen_same true n m h = refl
chosen_same false n m h = h refl

undriven_same : (d : Design) (x : Signal) (n other : ℕ) → n < 2 ^ signal_width x
    → ((k : ℕ) → k < signal_width x → is_driven d x.path k ≡ false → bit_at other k ≡ bit_at n k)
    → undriven_as d x n other ≡ n
undriven_same d x n other fits same =
    let w : ℕ = signal_width x in
    let g : ℕ → ℕ = chosen_bit d x n other in
    same_from_bits_below w (of_bits w g) n (of_bits_fit w g (chosen_small d x n other)) fits
    (λ k l. bit_of_bits w k g (chosen_small d x n other) l
    ∙ chosen_same (is_driven d x.path k) (bit_of n k) (bit_of other k) (λ none. same k l none))

all_undriven : (d : Design) (xs : List Signal) (ns os : List ℕ) → length ns ≡ length xs → length os ≡ length xs
    → ((t : ℕ) (x : Signal) → slice_get xs t ≡ Some x → undriven_as d x (slice_index ns t) (slice_index os t) ≡ slice_index ns t)
    → all_undriven_as d xs ns os ≡ ns
all_undriven d [] [] os a b each = refl
all_undriven d [] (n ∷ ns) os a b each = absurd (omega (arith, a))
all_undriven d (x ∷ xs) [] os a b each = absurd (omega (arith, a))
all_undriven d (x ∷ xs) (n ∷ ns) [] a b each = absurd (omega (arith, b))
all_undriven d (x ∷ xs) (n ∷ ns) (o ∷ os) a b each =
    ap (λ m. m ∷ all_undriven_as d xs ns os) (each 0 x refl)
    ∙ ap (λ ms. n ∷ ms) (all_undriven d xs ns os (omega (arith, a)) (omega (arith, b)) (λ t y at. each (suc t) y at))

undriven_at : (d : Design) (xs : List Signal) (ns os : List ℕ) (t : ℕ) (x : Signal) → length ns ≡ length xs
    → length os ≡ length xs → slice_get xs t ≡ Some x
    → slice_index (all_undriven_as d xs ns os) t ≡ undriven_as d x (slice_index ns t) (slice_index os t)
undriven_at d [] ns os t x a b at = absurd cc
undriven_at d (y ∷ xs) [] os t x a b at = absurd (omega (arith, a))
undriven_at d (y ∷ xs) (n ∷ ns) [] t x a b at = absurd (omega (arith, b))
undriven_at d (y ∷ xs) (n ∷ ns) (o ∷ os) zero x a b at =
    let own : y ≡ x = cc in ap (λ (z : Signal). undriven_as d z n o) own
undriven_at d (y ∷ xs) (n ∷ ns) (o ∷ os) (suc t) x a b at =
    undriven_at d xs ns os t x (omega (arith, a)) (omega (arith, b)) at

said_at : (d : Design) (row : List ℕ) (xs : List Signal) (ns : List ℕ) (t : ℕ) (x : Signal) → length ns ≡ length xs
    → slice_get xs t ≡ Some x → slice_index (all_said d row xs ns) t ≡ said_of d row x (slice_index ns t)
said_at d row [] ns t x a at = absurd cc
said_at d row (y ∷ xs) [] t x a at = absurd (omega (arith, a))
said_at d row (y ∷ xs) (n ∷ ns) zero x a at = let own : y ≡ x = cc in ap (λ (z : Signal). said_of d row z n) own
said_at d row (y ∷ xs) (n ∷ ns) (suc t) x a at = said_at d row xs ns t x (omega (arith, a)) at

said_count : (d : Design) (row : List ℕ) (xs : List Signal) (ns : List ℕ) → length ns ≡ length xs
    → length (all_said d row xs ns) ≡ length xs
said_count d row [] ns a = refl
said_count d row (x ∷ xs) [] a = absurd (omega (arith, a))
said_count d row (x ∷ xs) (n ∷ ns) a = ap suc (said_count d row xs ns (omega (arith, a)))

-- ---- what is known of both

-- the premises of the law
record Known (f : Flat) (d : Design) (s : State) (row : List ℕ) : Type 0 where
  well : IsWellFormed f
  stands : StandsFor f d
  apart : PathsAreDistinct d
  inputs : InputsAreSignals d
  state : StateFits f s
  row_fits : RowFits d row

-- the values of signals that the state and the row give, with each driven part at its node's value over v
abbrev again : Flat → State → List ℕ → Values → List ℕ
again f s row v = put_all f.signals (fixed (node_values f v)) f.driven (given f s row)

again_is : (f : Flat) (s : State) (row : List ℕ) (v : Values)
    → put_driven f.signals f.driven (node_values f v) (given f s row) ≡ again f s row v
again_is f s row v = put_driven_is f.signals f.driven (node_values f v) (given f s row)

again_beside : (f : Flat) (d : Design) (s : State) (row : List ℕ) (v : Values) (t i : ℕ) → Known f d s row
    → InNone f.driven t i → bit (again f s row v) t i ≡ bit (given f s row) t i
again_beside f d s row v t i k none =
    all_beside f.signals (fixed (node_values f v)) f.driven (given f s row) t i (driven_placed f k.well)
    (given_sized f k.well s row) none

again_has : (f : Flat) (d : Design) (s : State) (row : List ℕ) (v : Values) → Known f d s row
    → EachHas (fixed (node_values f v)) f.driven (again f s row v)
again_has f d s row v k =
    all_have f.signals (fixed (node_values f v)) f.driven (given f s row) (driven_placed f k.well) (lie_in_one f k.well)
    (fixed_steady (node_values f v) f.driven) (given_sized f k.well s row)

-- signals are as many as the design's
signal_count : (f : Flat) (d : Design) → StandsFor f d → length f.signals ≡ length d.signals
signal_count f d stands = ap length stands.signals ∙ by_number_count d d.signals (initial d).signals (length-map d.signals _)

again_count : (f : Flat) (d : Design) (s : State) (row : List ℕ) (v : Values) → Known f d s row
    → length (again f s row v) ≡ length d.signals
again_count f d s row v k =
    (all_sized f.signals (fixed (node_values f v)) f.driven (given f s row) (driven_placed f k.well)
    (given_sized f k.well s row)).count ∙ signal_count f d k.stands

registers_long : (ss : List flat_signal.Signal) (ps : List RegisterPart) (state v : List ℕ)
    → length (put_registers ss ps state v) ≡ length v
registers_long ss [] state v = refl
registers_long ss (p ∷ ps) state v =
    registers_long ss ps (drop 1 state) (put ss p.range (slice_index state 0) v) ∙ length-set v p.range.signal _

state_count : (f : Flat) (d : Design) (s : State) (row : List ℕ) → Known f d s row
    → length (whole_state f s).signals ≡ length d.signals
state_count f d s row k = registers_long f.signals f.registers s.registers (map (λ x. x.kept) f.signals)
    ∙ length-map f.signals (λ x. x.kept) ∙ signal_count f d k.stands

-- a bit of no driven part is driven by nothing, and the other way round
no_driver : (f : Flat) (d : Design) (t i : ℕ) (x : Signal) → StandsFor f d → slice_get d.signals t ≡ Some x
    → i < signal_width x → InNone f.driven t i → is_driven d x.path i ≡ false
no_driver f d t i x stands at l none = is_false (is_driven d x.path i) (λ driven.
    let h = (driven_bits f d t i stands).1 (record { signal = x; at = at; within = l; driven = driven }) in
    none h.part (in_from h.part f.driven h.number h.at) h.has)

no_part : (f : Flat) (d : Design) (t i : ℕ) (x : Signal) → StandsFor f d → slice_get d.signals t ≡ Some x
    → is_driven d x.path i ≡ false → InNone f.driven t i
no_part f d t i x stands at none p among has =
    let q = place p f.driven among in
    let b = (driven_bits f d t i stands).0 (record { number = q.at; part = p; at = q.is; has = has }) in
    let own : Some b.signal ≡ Some x = sym b.at ∙ at in
    let same : b.signal ≡ x = cc in
    let driven : is_driven d x.path i ≡ true = ap (λ (y : Signal). is_driven d y.path i) (sym same) ∙ b.driven in
    let both : true ≡ false = sym driven ∙ none in absurd cc

-- ---- a driven part has its node's value where its bits are the value's

part_bit : (n low width i : ℕ) → i < width → bit_at (select (pos low) width n) i ≡ bit_at n (low + i)
part_bit n low width i l = low_bit width (n / 2 ^ low) i l ∙ high_bit low n i

word_fits : (w : ℕ) (ns : List ℕ) (i : ℕ) → All (λ n. n < 2 ^ w) ns → slice_index ns i < 2 ^ w
word_fits w ns i all = elim (cases_lt i (length ns)) [
  | inl there ↦ all i 0 there
  | inr past ↦ subst (λ n. n < 2 ^ w) (sym (get_or_past ns i 0 past)) (pow_pos w)
]

words_fit : (f : Flat) (d : Design) (s : State) (row : List ℕ) (v : Values) → Known f d s row
    → v.memories ≡ all_words f.memories s.memories → WordsAreFit f v
words_fit f d s row v k words t i m at =
    let each : (j : ℕ) (y : PlainMemory) → slice_get f.memories j ≡ Some y → MemoryFits (length f.blocks) y =
    λ j y there. subst (MemoryFits (length f.blocks)) (get_or_from_slice_get f.memories j y y there)
    (k.well.memories.each j y (slice_get_within f.memories j y there)) in
    let fit = memory_words (length f.blocks) f.memories s.memories t m each k.state.memories at in
    subst (λ ns. slice_index (slice_index_or ns t []) i < 2 ^ m.width) (sym words)
    (word_fits m.width (slice_index_or (all_words f.memories s.memories) t []) i fit.each)

part_has_value : (f : Flat) (d : Design) (s : State) (row : List ℕ) (v : Values) (p : DrivenPart) → Known f d s row
    → v.signals ≡ again f s row v → v.memories ≡ all_words f.memories s.memories → In p f.driven → HasNodeValue f v p
part_has_value f d s row v p k equal words among =
    let value : ℕ = slice_index (node_values f v) p.node in
    let n : ℕ = slice_index v.signals p.range.signal in
    let fits : DrivenFits f.signals f.nodes p = all_in (DrivenFits f.signals f.nodes) f.driven k.well.parts.driven p among in
    let x = some_with (slice_get f.nodes p.node) (λ (y : Node). y.width ≡ p.range.width) fits.1 in
    let small : value < 2 ^ p.range.width =
    subst (λ w. value < 2 ^ w) x.2 (nodes_fit f v p.node x.0 k.well (words_fit f d s row v k words) x.1) in
    same_from_bits_below p.range.width (select (pos p.range.low) p.range.width n) value
    (mod-lt (n / 2 ^ p.range.low) (pow_pos p.range.width)) small
    (λ i l.
    let back : p.range.low + i - p.range.low ≡ i = omega arith in
    part_bit n p.range.low p.range.width i l
    ∙ ap (λ ns. bit ns p.range.signal (p.range.low + i)) equal
    ∙ again_has f d s row v k p p.range.signal (p.range.low + i) among (refl, omega arith, omega (arith, l))
    ∙ ap (bit_at value) back)

bit_has_value : (f : Flat) (v : Values) (p : DrivenPart) (t i : ℕ) → HasNodeValue f v p → HasBit p.range t i
    → bit v.signals t i ≡ bit_at (slice_index (node_values f v) p.node) (i - p.range.low)
bit_has_value f v p t i value has =
    let forth : p.range.low + (i - p.range.low) ≡ i = omega (arith, has.1) in
    ap (λ q. bit v.signals q i) (sym has.0)
    ∙ ap (bit_at (slice_index v.signals p.range.signal)) (sym forth)
    ∙ sym (part_bit (slice_index v.signals p.range.signal) p.range.low p.range.width (i - p.range.low)
    (omega (arith, has.1, has.2)))
    ∙ ap (λ n. bit_at n (i - p.range.low)) value

-- ---- what settles with the numbered design settles with the design

settles_here : (f : Flat) (d : Design) (s : State) (row : List ℕ) (v : Values) → Known f d s row
    → FlatSettles f s row v → Settles d (whole_state f s) row v
settles_here f d s row v k settled =
    let equal : v.signals ≡ again f s row v = ap (λ (u : Values). u.signals) settled ∙ again_is f s row v in
    let words : v.memories ≡ all_words f.memories s.memories = ap (λ (u : Values). u.memories) settled in
    let fits : Fits d v = fitting f d s row v k.well k.stands k.apart k.inputs k.state k.row_fits settled in
    let state : List ℕ = (whole_state f s).signals in
    let count : length state ≡ length d.signals = state_count f d s row k in
    record {
      fits = fits;
      drivers_hold = (all_hold f d v k.stands fits).1 (λ j p l. part_has_value f d s row v (get_or f.driven j p) k equal words
          (in_from (get_or f.driven j p) f.driven j (slice_get-get_or f.driven j p l)));
      undriven = all_undriven d d.signals v.signals (all_said d row d.signals state) (counts_fit d v fits).signals
          (said_count d row d.signals state count)
          (λ t x at. undriven_same d x (slice_index v.signals t) (slice_index (all_said d row d.signals state) t)
          (fit_at d.signals v.signals t x fits.signals at)
          (λ i l none. ap (λ n. bit_at n i) (said_at d row d.signals state t x count at
          ∙ sym (given_same f d s row t x k.well k.stands k.apart k.inputs k.row_fits at))
          ∙ sym (again_beside f d s row v t i k (no_part f d t i x k.stands at none))
          ∙ ap (λ ns. bit ns t i) (sym equal)));
      memories = words;
    }

-- ---- and the other way round

none_past : {X : Type 0} (xs : List X) (t : ℕ) → slice_get xs t ≡ None → length xs ≤ t
none_past [] t e = omega arith
none_past (x ∷ xs) zero e = absurd cc
none_past (x ∷ xs) (suc t) e = let l = none_past xs t e in omega (arith, l)

-- a bit of no driven part is the state's or the row's
beside_bit : (f : Flat) (d : Design) (s : State) (row : List ℕ) (v : Values) (t i : ℕ) (x : Signal) → Known f d s row
    → Settles d (whole_state f s) row v → InNone f.driven t i → slice_get d.signals t ≡ Some x
    → bit v.signals t i ≡ bit (given f s row) t i
beside_bit f d s row v t i x k settled none at =
    let state : List ℕ = (whole_state f s).signals in
    let count : length state ≡ length d.signals = state_count f d s row k in
    let n : ℕ = slice_index v.signals t in
    let other : ℕ = slice_index (all_said d row d.signals state) t in
    let fits : n < 2 ^ signal_width x = fit_at d.signals v.signals t x settled.fits.signals at in
    elim (cases_lt i (signal_width x)) [
      | inl l ↦
          ap (λ ns. bit ns t i) (sym settled.undriven)
          ∙ ap (λ m. bit_at m i) (undriven_at d d.signals v.signals (all_said d row d.signals state) t x
          (counts_fit d v settled.fits).signals (said_count d row d.signals state count) at)
          ∙ undriven_bit d x n other i l (no_driver f d t i x k.stands at l none)
          ∙ ap (λ m. bit_at m i) (said_at d row d.signals state t x count at
          ∙ sym (given_same f d s row t x k.well k.stands k.apart k.inputs k.row_fits at))
      | inr from ↦
          let last = subst (λ ns. slice_index ns t < 2 ^ signal_width x) (again_is f s row v)
          (bound f d s row v t x (role_of d x.path) k.well k.stands k.apart k.inputs k.row_fits at refl) in
          bit_at_above n (signal_width x) i fits from
          ∙ sym (bit_at_above (slice_index (again f s row v) t) (signal_width x) i last from)
          ∙ again_beside f d s row v t i k none
    ]

agree_by : (f : Flat) (d : Design) (s : State) (row : List ℕ) (v : Values) (t i : ℕ) (o : Option Signal) → Known f d s row
    → Settles d (whole_state f s) row v → InNone f.driven t i → slice_get d.signals t ≡ o
    → bit v.signals t i ≡ bit (given f s row) t i
agree_by f d s row v t i (Some x) k settled none at = beside_bit f d s row v t i x k settled none at
agree_by f d s row v t i None k settled none at =
    let past : length d.signals ≤ t = none_past d.signals t at in
    let here : length v.signals ≤ t = omega (arith, past, (counts_fit d v settled.fits).signals) in
    let sized : AreSized f.signals (given f s row) = given_sized f k.well s row in
    let there : length (given f s row) ≤ t = omega (arith, past, sized.count, signal_count f d k.stands) in
    ap (λ n. bit_at n i) (get_or_past v.signals t 0 here ∙ sym (get_or_past (given f s row) t 0 there))

settles_there : (f : Flat) (d : Design) (s : State) (row : List ℕ) (v : Values) → Known f d s row
    → Settles d (whole_state f s) row v → FlatSettles f s row v
settles_there f d s row v k settled =
    let xs : List ℕ = node_values f v in
    let values = (all_hold f d v k.stands settled.fits).0 settled.drivers_hold in
    let same : (t i : ℕ) → bit v.signals t i ≡ bit (again f s row v) t i =
    ends_same f.signals (fixed xs) f.driven v.signals (given f s row) (driven_placed f k.well) (fixed_steady xs f.driven)
    (given_sized f k.well s row)
    (λ p t i among has. bit_has_value f v p t i (all_in (HasNodeValue f v) f.driven values p among) has)
    (λ t i none. agree_by f d s row v t i (slice_get d.signals t) k settled none refl) in
    let equal : v.signals ≡ again f s row v =
    ext_get_or 0 v.signals (again f s row v) ((counts_fit d v settled.fits).signals ∙ sym (again_count f d s row v k))
    (λ t _. same_from_bits (slice_index v.signals t) (slice_index (again f s row v) t) (same t)) in
    ap (λ m. record { signals = v.signals; memories = m }) settled.memories
    ∙ ap (λ ns. record { signals = ns; memories = all_words f.memories s.memories }) (equal ∙ sym (again_is f s row v))

pub settling : SettlingLaw
settling f d s row v well stands apart inputs state fits =
    let k : Known f d s row = record {
      well = well;
      stands = stands;
      apart = apart;
      inputs = inputs;
      state = state;
      row_fits = fits;
    } in
    (settles_here f d s row v k, settles_there f d s row v k)
