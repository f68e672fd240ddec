-- What the state and the row say of a signal, by its role.
use Rattle.std.proofs.Common.{◌≡◌, ℕ, zero, suc, ◌+◌, ◌<◌, ◌≤◌, ◌⊎◌, inl, inr, Bool, true, false, if◌then◌else◌, List, [], ◌∷◌, length, map, drop, refl, sym, ap, subst, ◌∙◌, arith, get_or-set_other, get_or-set_same, length-set}
use Rattle.std.specs.Prelude.{Option, Some, None, slice_get, slice_index}
use Rattle.std.specs.Option.{option_map, unwrap_or}
use Rattle.std.proofs.lemmas.Bool.{cases_eq}
use Rattle.std.proofs.lemmas.List.{get_or-map, length-map}
use Rattle.std.proofs.lemmas.Option.{slice_get_within, get_or_from_slice_get}
use Rattle.bit_ops.specs.Operators.{insert_at}
use Rattle.netlist.specs.Design.{Flat}
use Rattle.netlist.specs.Fits.{IsWellFormed, IsInput, IsInner, InputFits, RegisterFits}
use Rattle.netlist.specs.Run.{State, put, put_registers, given, role_value}
use Rattle.netlist.specs.declared.design.Signal as flat_signal
use Rattle.netlist.specs.declared.design.Range.{Range}
use Rattle.netlist.specs.declared.design.RegisterPart.{RegisterPart}
use Rattle.netlist.specs.declared.design.Role.TheVariants as role
use Rattle.netlist.proofs.Puts.{In, some_with}
use Rattle.netlist.proofs.SettlesOnce.{all_in}
use Rattle.vl_value.specs.Paths.{Path, same_path}
use Rattle.vl_design.specs.LoopVariables.{is_path_in}
use Rattle.vl_design.specs.Design.{Design, Signal}
use Rattle.vl_process.specs.Clocks.{clock_names}
use Rattle.vl_process.specs.Settling.{signal_width}
use Rattle.vl_process.specs.Run.{initial}
use Rattle.vl_process.specs.StandsFor.{StandsFor, whole_state, signal_from, some_of, input_role, role_of, signal_by_number, signals_by_number}
use Rattle.vl_store.specs.Stores.{PathsAreDistinct}
use Rattle.vl_store.proofs.Paths.{path_itself}
use Rattle.vl_store.proofs.Numbers.{is_false, number_there, none_there, count_fit}
use Rattle.vl_run_laws.specs.Given.{InputsAreSignals, GivenLaw}

-- ---- the signal of a number

by_number_at : (d : Design) (xs : List Signal) (ns : List ℕ) (t : ℕ) (x : Signal) → length ns ≡ length xs
    → slice_get xs t ≡ Some x → slice_get (signals_by_number d xs ns) t ≡ Some (signal_by_number d x (slice_index ns t))
by_number_at d [] ns t x count at = absurd cc
by_number_at d (y ∷ xs) [] t x count at = absurd (omega (arith, count))
by_number_at d (y ∷ xs) (n ∷ ns) zero x count at =
    let same : y ≡ x = cc in ap (λ z. Some (signal_by_number d z n)) same
by_number_at d (y ∷ xs) (n ∷ ns) (suc t) x count at = by_number_at d xs ns t x (omega (arith, count)) at

pub by_number_count : (d : Design) (xs : List Signal) (ns : List ℕ) → length ns ≡ length xs
    → length (signals_by_number d xs ns) ≡ length xs
by_number_count d [] ns count = refl
by_number_count d (x ∷ xs) [] count = absurd (omega (arith, count))
by_number_count d (x ∷ xs) (n ∷ ns) count = ap suc (by_number_count d xs ns (omega (arith, count)))

pub signal_is : (f : Flat) (d : Design) (t : ℕ) (x : Signal) → StandsFor f d → slice_get d.signals t ≡ Some x
    → slice_get f.signals t ≡ Some (signal_by_number d x (slice_index (initial d).signals t))
signal_is f d t x stands at = ap (λ ss. slice_get ss t) stands.signals
    ∙ by_number_at d d.signals (initial d).signals t x (length-map d.signals _) at

-- ---- register parts leave other signals alone, and their values don't depend on what other signals have

pub put_other : (ss : List flat_signal.Signal) (r : Range) (n t : ℕ) (v : List ℕ) → (r.signal ≡ t → ⊥)
    → slice_index (put ss r n v) t ≡ slice_index v t
put_other ss r n t v away = get_or-set_other v r.signal t _ 0 (λ e. away (sym e))

registers_other : (ss : List flat_signal.Signal) (ps : List RegisterPart) (state v : List ℕ) (t : ℕ)
    → ((p : RegisterPart) → In p ps → p.range.signal ≡ t → ⊥) → slice_index (put_registers ss ps state v) t ≡ slice_index v t
registers_other ss [] state v t away = refl
registers_other ss (p ∷ ps) state v t away =
    registers_other ss ps (drop 1 state) (put ss p.range (slice_index state 0) v) t (λ q h. away q (inr h))
    ∙ put_other ss p.range (slice_index state 0) t v (away p (inl refl))

put_alike : (ss : List flat_signal.Signal) (r : Range) (n t : ℕ) (u v : List ℕ) → length u ≡ length v → t < length v
    → slice_index u t ≡ slice_index v t → slice_index (put ss r n u) t ≡ slice_index (put ss r n v) t
put_alike ss r n t u v long there e = elim (cases_eq t r.signal) [
  | inr other ↦ get_or-set_other u r.signal t _ 0 other ∙ e ∙ sym (get_or-set_other v r.signal t _ 0 other)
  | inl same ↦
      let value : ℕ → ℕ = λ x. insert_at (unwrap_or (option_map (λ (s : flat_signal.Signal). s.width) (slice_get ss r.signal)) 0)
      r.low r.width n x in
      let at_u : r.signal < length u = omega (arith, there, long, same) in
      let at_v : r.signal < length v = omega (arith, there, same) in
      ap (slice_index (put ss r n u)) same ∙ get_or-set_same u r.signal (value (slice_index u r.signal)) 0 at_u
      ∙ ap value (ap (slice_index u) (sym same) ∙ e ∙ ap (slice_index v) same)
      ∙ sym (ap (slice_index (put ss r n v)) same ∙ get_or-set_same v r.signal (value (slice_index v r.signal)) 0 at_v)
]

registers_alike : (ss : List flat_signal.Signal) (ps : List RegisterPart) (state u v : List ℕ) (t : ℕ) → length u ≡ length v
    → t < length v → slice_index u t ≡ slice_index v t
    → slice_index (put_registers ss ps state u) t ≡ slice_index (put_registers ss ps state v) t
registers_alike ss [] state u v t long there e = e
registers_alike ss (p ∷ ps) state u v t long there e =
    let n : ℕ = slice_index state 0 in
    registers_alike ss ps (drop 1 state) (put ss p.range n u) (put ss p.range n v) t
    (length-set u p.range.signal _ ∙ long ∙ sym (length-set v p.range.signal _))
    (subst (λ k. t < k) (sym (length-set v p.range.signal _)) there)
    (put_alike ss p.range n t u v long there e)

-- a signal whose role isn't inner has no register part
no_register : (f : Flat) (t : ℕ) (y : flat_signal.Signal) → IsWellFormed f → slice_get f.signals t ≡ Some y
    → (y.role ≡ role.Inner → ⊥) → (p : RegisterPart) → In p f.registers → p.range.signal ≡ t → ⊥
no_register f t y well at outer p h e =
    let fits : RegisterFits (length f.blocks) f.signals f.nodes p =
    all_in (RegisterFits (length f.blocks) f.signals f.nodes) f.registers well.parts.registers p h in
    let s = some_with (slice_get f.signals p.range.signal)
    (λ (z : flat_signal.Signal). IsInner z.role × (p.range.low + p.range.width ≤ z.width)) fits.0 in
    let own : Some s.0 ≡ Some y = sym s.1 ∙ ap (slice_get f.signals) e ∙ at in
    let same : s.0 ≡ y = cc in
    outer (ap (λ (z : flat_signal.Signal). z.role) (sym same) ∙ s.2.0)

-- ---- a signal is a data input, or none has its path

pub record IsInputOf (d : Design) (x : Signal) (k : ℕ) : Type 0 where
  pub at : slice_get d.inputs k ≡ Some x
  pub first : (i : ℕ) (y : Signal) → i < k → slice_get d.inputs i ≡ Some y → same_path y.path x.path ≡ true → ⊥

abbrev pub IsNoInput : List Signal → Path → Type 0
IsNoInput xs p = (i : ℕ) (y : Signal) → slice_get xs i ≡ Some y → same_path y.path p ≡ true → ⊥

-- the first of a list with a path
record Found (xs : List Signal) (p : Path) : Type 0 where
  place : ℕ
  signal : Signal
  at : slice_get xs place ≡ Some signal
  same : same_path signal.path p ≡ true
  before : (i : ℕ) (y : Signal) → i < place → slice_get xs i ≡ Some y → same_path y.path p ≡ true → ⊥

none_before : (y : Signal) (xs : List Signal) (p : Path) (k : ℕ) → same_path y.path p ≡ false
    → ((i : ℕ) (z : Signal) → i < k → slice_get xs i ≡ Some z → same_path z.path p ≡ true → ⊥)
    → (i : ℕ) (z : Signal) → i < suc k → slice_get (y ∷ xs) i ≡ Some z → same_path z.path p ≡ true → ⊥
none_before y xs p k differs before zero z l at e =
    let own : y ≡ z = cc in
    let both : false ≡ true = sym differs ∙ ap (λ (s : Signal). same_path s.path p) own ∙ e in
    absurd cc
none_before y xs p k differs before (suc i) z l at e = before i z (omega (arith, l)) at e

none_of_all : (y : Signal) (xs : List Signal) (p : Path) → same_path y.path p ≡ false → IsNoInput xs p → IsNoInput (y ∷ xs) p
none_of_all y xs p differs none zero z at e =
    let own : y ≡ z = cc in
    let both : false ≡ true = sym differs ∙ ap (λ (s : Signal). same_path s.path p) own ∙ e in
    absurd cc
none_of_all y xs p differs none (suc i) z at e = none i z at e

found_more : (y : Signal) (xs : List Signal) (p : Path) (b : Bool) → same_path y.path p ≡ b → Found xs p ⊎ IsNoInput xs p
    → Found (y ∷ xs) p ⊎ IsNoInput (y ∷ xs) p
found_more y xs p true e rest =
    inl (record { place = 0; signal = y; at = refl; same = e; before = λ i z l at h. absurd (omega (arith, l)) })
found_more y xs p false e (inl h) = inl (record {
  place = suc h.place;
  signal = h.signal;
  at = h.at;
  same = h.same;
  before = none_before y xs p h.place e h.before;
})
found_more y xs p false e (inr none) = inr (none_of_all y xs p e none)

find : (xs : List Signal) (p : Path) → Found xs p ⊎ IsNoInput xs p
find [] p = inr (λ i y at e. absurd cc)
find (y ∷ xs) p = found_more y xs p (same_path y.path p) refl (find xs p)

pub record InputPlace (d : Design) (x : Signal) : Type 0 where
  pub place : ℕ
  pub is : IsInputOf d x place

pub input_or_none : (d : Design) (t : ℕ) (x : Signal) → PathsAreDistinct d → InputsAreSignals d → slice_get d.signals t ≡ Some x
    → InputPlace d x ⊎ IsNoInput d.inputs x.path
input_or_none d t x apart inputs at = elim (find d.inputs x.path) [
  | inr none ↦ inr none
  | inl h ↦
      let own = inputs h.place h.signal h.at in
      let number : own.number ≡ t = apart.signals own.number t h.signal x own.at at h.same in
      let objects : Some h.signal ≡ Some x = sym own.at ∙ ap (slice_get d.signals) number ∙ at in
      let same : h.signal ≡ x = cc in
      inl (record {
        place = h.place;
        is = record {
          at = h.at ∙ ap Some same;
          first = h.before;
        };
      })
]

-- ---- the role of an input

signal_first : (n : ℕ) (xs : List Signal) (t : ℕ) (x : Signal) → slice_get xs t ≡ Some x
    → ((i : ℕ) (y : Signal) → i < t → slice_get xs i ≡ Some y → same_path y.path x.path ≡ true → ⊥)
    → signal_from n xs x.path ≡ Some (n + t)
signal_first n [] t x at before = absurd cc
signal_first n (y ∷ xs) zero x at before =
    let own : y ≡ x = cc in
    let none : n ≡ n + 0 = omega arith in
    ap (λ b. if b then Some n else signal_from (suc n) xs x.path)
    (ap (λ (s : Signal). same_path s.path x.path) own ∙ path_itself x.path) ∙ ap Some none
signal_first n (y ∷ xs) (suc t) x at before =
    let more : suc n + t ≡ n + suc t = omega arith in
    ap (λ b. if b then Some n else signal_from (suc n) xs x.path)
    (is_false (same_path y.path x.path) (before 0 y (omega arith) refl))
    ∙ signal_first (suc n) xs t x at (λ i z l there e. before (suc i) z (omega (arith, l)) there e)
    ∙ ap Some more

pub no_signal : (n : ℕ) (xs : List Signal) (p : Path) → IsNoInput xs p → signal_from n xs p ≡ None
no_signal n [] p none = refl
no_signal n (y ∷ xs) p none = ap (λ b. if b then Some n else signal_from (suc n) xs p) (is_false (same_path y.path p)
    (none 0 y refl)) ∙ no_signal (suc n) xs p (λ i z at e. none (suc i) z at e)

some_at : (h : Signal → Option ℕ) (number : Signal → ℕ) (xs : List Signal) (k : ℕ) (x : Signal)
    → ((i : ℕ) (y : Signal) → slice_get xs i ≡ Some y → h y ≡ Some (number y)) → slice_get xs k ≡ Some x
    → slice_get (some_of (map h xs)) k ≡ Some (number x)
some_at h number [] k x all at = absurd cc
some_at h number (y ∷ xs) zero x all at =
    let own : y ≡ x = cc in
    ap (λ o. slice_get (some_of (o ∷ map h xs)) 0) (all 0 y refl) ∙ ap (λ z. Some (number z)) own
some_at h number (y ∷ xs) (suc k) x all at =
    ap (λ o. slice_get (some_of (o ∷ map h xs)) (suc k)) (all 0 y refl)
    ∙ some_at h number xs k x (λ i z there. all (suc i) z there) at

number_of : (d : Design) (t : ℕ) (x : Signal) → PathsAreDistinct d → slice_get d.signals t ≡ Some x
    → signal_from 0 d.signals x.path ≡ Some t
number_of d t x apart at =
    let none : 0 + t ≡ t = omega arith in
    signal_first 0 d.signals t x at (λ i y l there e.
    let same : i ≡ t = apart.signals i t y x there at e in omega (arith, l, same)) ∙ ap Some none

input_number : (f : Flat) (d : Design) (t k : ℕ) (x : Signal) → StandsFor f d → PathsAreDistinct d → InputsAreSignals d
    → slice_get d.signals t ≡ Some x → slice_get d.inputs k ≡ Some x → slice_get f.inputs k ≡ Some t
input_number f d t k x stands apart inputs at there =
    let h : Signal → Option ℕ = λ (y : Signal). signal_from 0 d.signals y.path in
    ap (λ ns. slice_get ns k) stands.inputs
    ∙ some_at h (λ y. unwrap_or (h y) 0) d.inputs k x (λ i y own.
    let s = inputs i y own in
    let e = number_of d s.number y apart s.at in
    e ∙ ap (λ o. Some (unwrap_or o 0)) (sym e)) there
    ∙ ap (λ o. Some (unwrap_or o 0)) (number_of d t x apart at)

pub input_role_is : (f : Flat) (d : Design) (t k : ℕ) (x : Signal) → IsWellFormed f → StandsFor f d → PathsAreDistinct d
    → InputsAreSignals d → slice_get d.signals t ≡ Some x → slice_get d.inputs k ≡ Some x → role_of d x.path ≡ role.Input k
input_role_is f d t k x well stands apart inputs at there =
    let number = input_number f d t k x stands apart inputs at there in
    let fits : InputFits f.signals k t =
    subst (λ n. InputFits f.signals k n) (get_or_from_slice_get f.inputs k t t number)
    (well.signals.inputs k t (slice_get_within f.inputs k t number)) in
    let s = some_with (slice_get f.signals t) (λ (z : flat_signal.Signal). IsInput z.role k) fits in
    let own : Some s.0 ≡ Some (signal_by_number d x (slice_index (initial d).signals t)) =
    sym s.1 ∙ signal_is f d t x stands at in
    let same : s.0 ≡ signal_by_number d x (slice_index (initial d).signals t) = cc in
    ap (λ (z : flat_signal.Signal). z.role) (sym same) ∙ s.2

-- ---- by role

plain_value : (f : Flat) (row : List ℕ) (t : ℕ) (y : flat_signal.Signal) → slice_get f.signals t ≡ Some y
    → slice_index (map (λ (z : flat_signal.Signal). role_value row z.kept z.role) f.signals) t ≡ role_value row y.kept y.role
plain_value f row t y at =
    get_or-map (λ (z : flat_signal.Signal). role_value row z.kept z.role) f.signals t y 0 (slice_get_within f.signals t y at)
    ∙ ap (λ (z : flat_signal.Signal). role_value row z.kept z.role) (get_or_from_slice_get f.signals t y y at)

kept_value : (f : Flat) (t : ℕ) (y : flat_signal.Signal) → slice_get f.signals t ≡ Some y
    → slice_index (map (λ (z : flat_signal.Signal). z.kept) f.signals) t ≡ y.kept
kept_value f t y at =
    get_or-map (λ (z : flat_signal.Signal). z.kept) f.signals t y 0 (slice_get_within f.signals t y at)
    ∙ ap (λ (z : flat_signal.Signal). z.kept) (get_or_from_slice_get f.signals t y y at)

-- a role that isn't inner: no register part, so the role's own value
pub outer_given : (f : Flat) (s : State) (row : List ℕ) (t : ℕ) (y : flat_signal.Signal) → IsWellFormed f
    → slice_get f.signals t ≡ Some y → (y.role ≡ role.Inner → ⊥) → slice_index (given f s row) t ≡ role_value row y.kept y.role
outer_given f s row t y well at outer =
    registers_other f.signals f.registers s.registers (map (λ (z : flat_signal.Signal). role_value row z.kept z.role) f.signals) t
    (no_register f t y well at outer) ∙ plain_value f row t y at

inner_given : (f : Flat) (s : State) (row : List ℕ) (t : ℕ) (y : flat_signal.Signal) → slice_get f.signals t ≡ Some y
    → y.role ≡ role.Inner → slice_index (given f s row) t ≡ slice_index (whole_state f s).signals t
inner_given f s row t y at inner =
    let u : List ℕ = map (λ (z : flat_signal.Signal). role_value row z.kept z.role) f.signals in
    let v : List ℕ = map (λ (z : flat_signal.Signal). z.kept) f.signals in
    let count : length v ≡ length f.signals = length-map f.signals _ in
    registers_alike f.signals f.registers s.registers u v t (length-map f.signals _ ∙ sym count)
    (subst (λ n. t < n) (sym count) (slice_get_within f.signals t y at))
    (plain_value f row t y at ∙ ap (role_value row y.kept) inner ∙ sym (kept_value f t y at))

-- a signal that is no input: a clock's name, or inner
no_input : (f : Flat) (d : Design) (s : State) (row : List ℕ) (t : ℕ) (x : Signal) (b : Bool) → IsWellFormed f → StandsFor f d
    → slice_get d.signals t ≡ Some x → IsNoInput d.inputs x.path → is_path_in (clock_names d.scopes) x.path ≡ b
    → slice_index (given f s row) t ≡ (if b then 0 else slice_index (whole_state f s).signals t)
no_input f d s row t x true well stands at none e =
    let y = signal_by_number d x (slice_index (initial d).signals t) in
    let clock : role_of d x.path ≡ role.Clock =
    ap (λ b. if b then role.Clock else input_role (signal_from 0 d.inputs x.path)) e in
    outer_given f s row t y well (signal_is f d t x stands at) (λ inner.
    let both : role.Clock ≡ role.Inner = sym clock ∙ inner in absurd cc)
    ∙ ap (role_value row y.kept) clock
no_input f d s row t x false well stands at none e =
    let y = signal_by_number d x (slice_index (initial d).signals t) in
    let inner : role_of d x.path ≡ role.Inner =
    ap (λ b. if b then role.Clock else input_role (signal_from 0 d.inputs x.path)) e
    ∙ ap input_role (no_signal 0 d.inputs x.path none) in
    inner_given f s row t y (signal_is f d t x stands at) inner

pub given_same : GivenLaw
given_same f d s row t x well stands apart inputs fits at =
    let n : ℕ = slice_index (whole_state f s).signals t in
    let clocked : Bool = is_path_in (clock_names d.scopes) x.path in
    elim (input_or_none d t x apart inputs at) [
      | inr none ↦
          no_input f d s row t x clocked well stands at none refl
          ∙ sym (ap (λ o. elim o [ Some r ↦ r | None ↦ if clocked then 0 else n ]) (none_there d.inputs row x.path none))
      | inl h ↦
          let y = signal_by_number d x (slice_index (initial d).signals t) in
          let own : role_of d x.path ≡ role.Input h.place =
          input_role_is f d t h.place x well stands apart inputs at h.is.at in
          let count : length row ≡ length d.inputs =
          count_fit (map signal_width d.inputs) row fits ∙ length-map d.inputs signal_width in
          outer_given f s row t y well (signal_is f d t x stands at) (λ inner.
          let both : role.Input h.place ≡ role.Inner = sym own ∙ inner in absurd cc)
          ∙ ap (role_value row y.kept) own
          ∙ sym (ap (λ o. elim o [ Some r ↦ r | None ↦ if clocked then 0 else n ])
          (number_there d.inputs row h.place x count h.is.at h.is.first))
    ]
