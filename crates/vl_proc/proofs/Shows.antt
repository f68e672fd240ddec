-- What the signals of ports show is what the ports show: the same variables, and in each cycle the same values.
use Rattle.std.proofs.Common.{◌≡◌, ℕ, ◌+◌, ◌<◌, ◌^◌, Bool, true, false, if◌then◌else◌, List, [], ◌∷◌, length, map, refl, sym, ap, subst, ◌∙◌, inl, inr}
use Rattle.std.specs.Prelude.{Some, bytes_eq, is_some}
use Rattle.std.proofs.Math.Nat.{mod-eq_of_lt}
use Rattle.std.proofs.lemmas.Bool.{cases_Bool, true≢false}
use Rattle.bit_ops.specs.Operators.{low}
use Rattle.flat_ir.specs.declared.design.Role.TheVariants as role
use Rattle.flat_ir.specs.declared.design.Signal.{Signal}
use Rattle.flat_ir.specs.Names.{Fit}
use Rattle.flat_ir.specs.Shown.{variable_of, role_value, signal_value}
use Rattle.vl_tree.specs.Tree.{Text, Port, input, output, Module}
use Rattle.vl_meaning.specs.Objects.{port_name, port_named, width_of, data_input, register}
use Rattle.vl_meaning.specs.Faults.{are_distinct, is_input, is_read, is_clock, are_declared}
use Rattle.vl_meaning.specs.Expression.{value_at}
use Rattle.vl_meaning.specs.Run.{val}
use Rattle.vl_meaning.specs.Shown as meant
use Rattle.vl_meaning.specs.StandsFor.{input_widths, register_widths, by_names}
use Rattle.vl_proc.specs.Ports.{signal_of, signals_of, found}
use Rattle.vl_proc.proofs.Ports.{both_true, not_true, same_text, equal_itself, found_width}
use Rattle.vl_proc.proofs.Cells.{some_signal, not_register}
use Rattle.vl_proc.proofs.Sees.{distinct_of, reads_input, reads_register}

-- ---- each port's own signal

-- a name of which a signal is found is a port's
found_named : (clock : Text) (i r : ℕ) (ps : List Port) (x : Text) (s : Signal) → found clock i r ps x ≡ Some s → is_some (port_named ps x) ≡ true
found_named clock i r [] x s h = absurd cc
found_named clock i r (p ∷ ps) x s h = elim (cases_Bool (bytes_eq (port_name p) x)) [
  | inl e ↦ rw e refl
  | inr e ↦ rw e (found_named clock (i + length (data_input clock p)) (r + length (register p)) ps x s (rw e at h))
]

-- a port in front whose name is no later port's doesn't change what is found after it
found_behind : (clock : Text) (i r : ℕ) (p : Port) (ps : List Port) (x : Text) (s : Signal) → is_some (port_named ps (port_name p)) ≡ false
    → found clock (i + length (data_input clock p)) (r + length (register p)) ps x ≡ Some s → found clock i r (p ∷ ps) x ≡ Some s
found_behind clock i r p ps x s n h = elim (cases_Bool (bytes_eq (port_name p) x)) [
  | inl e ↦
      let named : is_some (port_named ps x) ≡ true = found_named clock (i + length (data_input clock p)) (r + length (register p)) ps x s h in
      absurd (true≢false (sym named ∙ ap (λ (y : Text). is_some (port_named ps y)) (sym (same_text (port_name p) x e)) ∙ n))
  | inr e ↦ rw e h
]

-- where the names are distinct each port's signal is found by the port's name; so what holds of such is the same of all
each_own : {X : Type 0} (f : Signal → X) (g : Port → X) (clock : Text) (i r : ℕ) (ps : List Port) → are_distinct ps ≡ true
    → ((p : Port) (j q : ℕ) → found clock i r ps (port_name p) ≡ Some (signal_of clock j q p) → f (signal_of clock j q p) ≡ g p) → map f (signals_of clock i r ps) ≡ map g ps
each_own f g clock i r [] d h = refl
each_own f g clock i r (p ∷ ps) d h =
    let b = both_true _ _ d in
    let first : f (signal_of clock i r p) ≡ g p = h p i r (rw (equal_itself (port_name p)) refl) in
    let rest = each_own f g clock (i + length (data_input clock p)) (r + length (register p)) ps b.1
    (λ o j q e. h o j q (found_behind clock i r p ps (port_name o) (signal_of clock j q o) (not_true _ b.0) e)) in
    (λ k. first k ∷ rest k)

-- ---- variables

-- an input's signal shows no register
input_shows : (clock : Text) (i r : ℕ) (ps : List Port) (x : Text) (s : Signal) (j : ℕ) → is_input (port_named ps x) ≡ true → found clock i r ps x ≡ Some s → s.role ≡ role.Register j → ⊥
input_shows clock i r [] x s j h f c = absurd cc
input_shows clock i r (input y ∷ ps) x s j h f c = elim (cases_Bool (bytes_eq y x)) [
  | inl e ↦ not_register clock i r y j (ap (λ (t : Signal). t.role) (some_signal (signal_of clock i r (input y)) s (rw e at f)) ∙ c)
  | inr e ↦ input_shows clock (i + length (data_input clock (input y))) (r + 0) ps x s j (rw e at h) (rw e at f) c
]
input_shows clock i r (output y a b ∷ ps) x s j h f c = elim (cases_Bool (bytes_eq y x)) [
  | inl e ↦ absurd (true≢false (sym (rw e at h)))
  | inr e ↦ input_shows clock (i + 0) (r + 1) ps x s j (rw e at h) (rw e at f) c
]

clock_of : (m : Module) → are_declared m ≡ true → is_clock m ≡ true
clock_of m h = (both_true _ _ h).1

-- an output isn't the clock
output_data : (m : Module) (x : Text) (s : Signal) (j : ℕ) → are_declared m ≡ true → found m.clock 0 0 m.ports x ≡ Some s → s.role ≡ role.Register j → bytes_eq x m.clock ≡ false
output_data m x s j declared f c = elim (cases_Bool (bytes_eq x m.clock)) [
  | inl e ↦ absurd (input_shows m.clock 0 0 m.ports x s j (subst (λ (y : Text). is_input (port_named m.ports y) ≡ true) (sym (same_text x m.clock e)) (clock_of m declared)) f c)
  | inr e ↦ e
]

same_variable : (m : Module) → are_declared m ≡ true → (p : Port) (j q : ℕ) → found m.clock 0 0 m.ports (port_name p) ≡ Some (signal_of m.clock j q p)
    → variable_of (signal_of m.clock j q p) ≡ meant.variable_of m p
same_variable m declared (input x) j q f = elim (cases_Bool (bytes_eq x m.clock)) [ inl e ↦ rw e refl | inr e ↦ rw e refl ]
same_variable m declared (output x a b) j q f = rw (output_data m x (signal_of m.clock j q (output x a b)) q declared f refl) refl

pub same_variables : (m : Module) → are_declared m ≡ true → map variable_of (signals_of m.clock 0 0 m.ports) ≡ map (meant.variable_of m) m.ports
same_variables m declared = each_own variable_of (meant.variable_of m) m.clock 0 0 m.ports (distinct_of m declared) (same_variable m declared)

-- ---- values

-- a name that isn't the clock and of which a signal is found may be read
may_read : (m : Module) (x : Text) (s : Signal) → found m.clock 0 0 m.ports x ≡ Some s → bytes_eq x m.clock ≡ false → is_read m x ≡ true
may_read m x s f e = rw e (rw (found_named m.clock 0 0 m.ports x s f) refl)

-- a number that fits is its own low bits
kept_low : (w n : ℕ) → n < 2 ^ w → low w n ≡ n
kept_low w n h = mod-eq_of_lt h

module _ (m : Module) (declared : are_declared m ≡ true) (row state : List ℕ) (a : Fit (input_widths m) row) (b : Fit (register_widths m) state) where
  -- what the module shows of a name
  abbrev named : Text → ℕ
  named x = value_at (val m row (by_names m state)) x

  -- a value that fits the width of its name fits that of the signal
  low_named : (x : Text) (s : Signal) → found m.clock 0 0 m.ports x ≡ Some s → named x < 2 ^ width_of m.ports x → low s.width (named x) ≡ named x
  low_named x s f h = kept_low s.width (named x) (subst (λ (w : ℕ). named x < 2 ^ w) (sym (found_width m.clock 0 0 m.ports x s f)) h)

  clock_value : (x : Text) → bytes_eq x m.clock ≡ true → 0 ≡ named x
  clock_value x e = let t : bytes_eq m.clock x ≡ true = subst (λ (y : Text). bytes_eq m.clock y ≡ true) (sym (same_text x m.clock e)) (equal_itself m.clock) in rw t refl

  data_value : (x : Text) (j q : ℕ) → found m.clock 0 0 m.ports x ≡ Some (signal_of m.clock j q (input x)) → bytes_eq x m.clock ≡ false
      → signal_value row state (signal_of m.clock j q (input x)) ≡ named x
  data_value x j q f e =
      let s : Signal = signal_of m.clock j q (input x) in
      let shows : s.role ≡ role.Input j = rw e refl in
      let reads = reads_input m x s j (may_read m x s f e) f shows in
      ap (λ r. low 1 (role_value row state r)) shows ∙ ap (low 1) (reads.same row state a b []) ∙ low_named x s f (reads.below row state a b)

  same_value : (p : Port) (j q : ℕ) → found m.clock 0 0 m.ports (port_name p) ≡ Some (signal_of m.clock j q p) → signal_value row state (signal_of m.clock j q p) ≡ named (port_name p)
  same_value (input x) j q f = elim (cases_Bool (bytes_eq x m.clock)) [
    | inl e ↦ ap (λ (t : Bool). low 1 (role_value row state (if t then role.Clock else role.Input j))) e ∙ clock_value x e
    | inr e ↦ data_value x j q f e
  ]
  same_value (output x l r) j q f =
      let s : Signal = signal_of m.clock j q (output x l r) in
      let reads = reads_register m x s q declared (may_read m x s f (output_data m x s q declared f refl)) f refl in
      ap (low s.width) (reads.same row state a b []) ∙ low_named x s f (reads.below row state a b)

  pub same_values : map (signal_value row state) (signals_of m.clock 0 0 m.ports) ≡ meant.shown m row (by_names m state)
  same_values = each_own (signal_value row state) (λ p. named (port_name p)) m.clock 0 0 m.ports (distinct_of m declared) same_value
