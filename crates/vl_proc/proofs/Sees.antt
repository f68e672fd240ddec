-- What a module's names show by number: reads and writes of one cycle.
use Rattle.std.proofs.Common.{◌≡◌, ℕ, zero, suc, ◌+◌, ◌<◌, ◌≤◌, ◌^◌, true, false, not, List, [], ◌∷◌, ◌++◌, length, map, refl, sym, ap, subst, ◌∙◌, inl, inr, arith}
use Rattle.std.specs.Prelude.{Option, Some, None, bytes_eq, is_some, slice_get, slice_index, slice_set}
use Rattle.std.specs.List.{list_all}
use Rattle.std.proofs.lemmas.Bool.{cases_Bool, true≢false, leb-true}
use Rattle.std.proofs.lemmas.Option.{slice_get_within}
use Rattle.std.proofs.lemmas.List.{length-map}
use Rattle.flat_ir.specs.declared.design.Role.{Role}
use Rattle.flat_ir.specs.declared.design.Role.TheVariants as role
use Rattle.flat_ir.specs.declared.design.Signal.{Signal}
use Rattle.flat_ir.specs.declared.design.Node.{Node}
use Rattle.flat_ir.specs.declared.design.Node.TheVariants as n
use Rattle.flat_ir.specs.FlatRun.{NodeFits, value}
use Rattle.flat_ir.specs.Names.{Fit}
use Rattle.vl_tree.specs.Tree.{Text, Port, input, output, Module}
use Rattle.vl_meaning.specs.Objects.{port_name, port_named, port_place, port_width, width_of, data_input, data_inputs, register, registers}
use Rattle.vl_meaning.specs.Faults.{are_distinct, is_narrow, is_output, is_read, are_declared}
use Rattle.vl_meaning.specs.Expression.{Values, value_at}
use Rattle.vl_meaning.specs.Statement.{stored}
use Rattle.vl_meaning.specs.Run.{cells, val}
use Rattle.vl_meaning.specs.StandsFor.{input_widths, register_widths, by_names}
use Rattle.vl_proc.specs.Ports.{signal_of, signals_of, found}
use Rattle.vl_proc.proofs.Ports.{both_true, not_true, unequal_flipped, stands}
use Rattle.vl_proc.proofs.Cells.{fit_length, fit_at, fit_set, some_signal, found_clock, found_input, found_register, behind_inputs}

-- ---- declarations without fault

pub distinct_of : (m : Module) → are_declared m ≡ true → are_distinct m.ports ≡ true
distinct_of m h = (both_true _ _ (both_true _ _ h).0).1

pub narrow_of : (m : Module) → are_declared m ≡ true → list_all is_narrow m.ports ≡ true
narrow_of m h = (both_true _ _ (both_true _ _ (both_true _ _ h).0).0).1

-- the signal at a name's place is the one that is found
pub signal_at : (clock : Text) (ports : List Port) (x : Text) (at : ℕ) (signals : List Signal) (o : Option ℕ) → is_some (port_named ports x) ≡ true → signals ≡ signals_of clock 0 0 ports
    → o ≡ port_place ports x → o ≡ Some at → (s : Signal) × (slice_get signals at ≡ Some s) × (found clock 0 0 ports x ≡ Some s)
signal_at clock ports x at signals o h e p q =
    let s = stands clock 0 0 0 ports x h in
    let f : Some at ≡ Some (0 + s.k) = sym q ∙ p ∙ s.place in
    let g : at ≡ 0 + s.k = cc in
    let k : at ≡ s.k = omega (arith, g) in
    (s.signal, ap (λ (ss : List Signal). slice_get ss at) e ∙ ap (λ (i : ℕ). slice_get (signals_of clock 0 0 ports) i) k ∙ s.at, s.is_found)

-- a declared name has a place
pub no_place : (ports : List Port) (x : Text) (o : Option ℕ) → is_some (port_named ports x) ≡ true → o ≡ port_place ports x → o ≡ None → ⊥
no_place ports x o h p q = let s = stands [] 0 0 0 ports x h in let f : None ≡ Some (0 + s.k) = sym q ∙ p ∙ s.place in absurd cc

some_width : (p : Port) → 1 ≤ port_width p
some_width (input x) = omega arith
some_width (output x a b) = omega arith

-- the signal that is found has 1 to 128 bits
pub found_range : (clock : Text) (i r : ℕ) (ps : List Port) (x : Text) (s : Signal) → list_all is_narrow ps ≡ true → found clock i r ps x ≡ Some s → (1 ≤ s.width) × (s.width ≤ 128)
found_range clock i r [] x s a h = absurd cc
found_range clock i r (p ∷ ps) x s a h = elim (cases_Bool (bytes_eq (port_name p) x)) [
  | inl e ↦ subst (λ (t : Signal). (1 ≤ t.width) × (t.width ≤ 128)) (some_signal (signal_of clock i r p) s (rw e at h)) (some_width p, leb-true (port_width p) 128 (both_true _ _ a).0)
  | inr e ↦ found_range clock (i + length (data_input clock p)) (r + length (register p)) ps x s (both_true _ _ a).1 (rw e at h)
]

-- so has each signal
pub widths_fit : (clock : Text) (i r : ℕ) (ps : List Port) (k : ℕ) (s : Signal) → list_all is_narrow ps ≡ true → slice_get (signals_of clock i r ps) k ≡ Some s → (1 ≤ s.width) × (s.width ≤ 128)
widths_fit clock i r [] k s a h = absurd cc
widths_fit clock i r (p ∷ ps) zero s a h =
    subst (λ (t : Signal). (1 ≤ t.width) × (t.width ≤ 128)) (some_signal (signal_of clock i r p) s h) (some_width p, leb-true (port_width p) 128 (both_true _ _ a).0)
widths_fit clock i r (p ∷ ps) (suc k) s a h = widths_fit clock (i + length (data_input clock p)) (r + length (register p)) ps k s (both_true _ _ a).1 h

-- ---- reads

-- a name's value doesn't come from the clock
past_clock : (m : Module) (x : Text) (row : List ℕ) (v : Values) → is_read m x ≡ true → value_at (val m row v) x ≡ value_at (cells (data_inputs m) row ++ v) x
past_clock m x row v h = let e : bytes_eq m.clock x ≡ false = unequal_flipped x m.clock (not_true (bytes_eq x m.clock) (both_true (is_some (port_named m.ports x)) (not (bytes_eq x m.clock)) h).1) in rw e refl

pub read_clock : (m : Module) (x : Text) (s : Signal) → is_read m x ≡ true → found m.clock 0 0 m.ports x ≡ Some s → s.role ≡ role.Clock → ⊥
read_clock m x s h f c = true≢false (sym (found_clock m.clock 0 0 m.ports x s f c) ∙ not_true _ (both_true _ _ h).1)

-- the node has the value of the name
pub record ReadsAs (m : Module) (x : Text) (node : Node) : Type 0 where
  pub fits : (k : ℕ) → NodeFits (length (data_inputs m)) (length (registers m)) k node
  pub same : (row state : List ℕ) → Fit (input_widths m) row → Fit (register_widths m) state → (done : List ℕ) → value row state done node ≡ value_at (val m row (by_names m state)) x
  pub below : (row state : List ℕ) → Fit (input_widths m) row → Fit (register_widths m) state → value_at (val m row (by_names m state)) x < 2 ^ width_of m.ports x

-- a name's width among those of its kind
width_at : (m : Module) (names : List Text) (d : ℕ) (x : Text) → slice_get names d ≡ Some x → slice_get (map (width_of m.ports) names) d ≡ Some (width_of m.ports x)
width_at m (y ∷ names) zero x h = let e : y ≡ x = cc in ap (λ (z : Text). Some (width_of m.ports z)) e
width_at m (y ∷ names) (suc d) x h = width_at m names d x h
width_at m [] d x h = absurd cc

fit_names : (m : Module) (names : List Text) (xs : List ℕ) → Fit (map (width_of m.ports) names) xs → length xs ≡ length names
fit_names m names xs f = fit_length (map (width_of m.ports) names) xs f ∙ length-map names (width_of m.ports)

pub reads_input : (m : Module) (x : Text) (s : Signal) (j : ℕ) → is_read m x ≡ true → found m.clock 0 0 m.ports x ≡ Some s → s.role ≡ role.Input j → ReadsAs m x (n.Input j)
reads_input m x s j h f c =
    let i = found_input m.clock 0 0 m.ports x s j f c in
    let k : j ≡ i.d = omega (arith, i.number) in
    let same : (row state : List ℕ) → Fit (input_widths m) row → Fit (register_widths m) state → slice_index row j ≡ value_at (val m row (by_names m state)) x =
    λ row state a b. ap (slice_index row) k ∙ sym (past_clock m x row (by_names m state) h ∙ i.value row (by_names m state) (fit_names m (data_inputs m) row a)) in
    record {
      fits = λ q. omega (arith, k, slice_get_within (data_inputs m) i.d x i.named);
      same = λ row state a b done. same row state a b;
      below = λ row state a b. subst (λ (v : ℕ). v < 2 ^ width_of m.ports x) (same row state a b)
          (fit_at (input_widths m) row j (width_of m.ports x) a (width_at m (data_inputs m) j x (ap (slice_get (data_inputs m)) k ∙ i.named)));
    }

pub reads_register : (m : Module) (x : Text) (s : Signal) (j : ℕ) → are_declared m ≡ true → is_read m x ≡ true → found m.clock 0 0 m.ports x ≡ Some s → s.role ≡ role.Register j → ReadsAs m x (n.Register j)
reads_register m x s j declared h f c =
    let i = found_register m.clock 0 0 m.ports x s j f c in
    let k : j ≡ i.d = omega (arith, i.number) in
    let same : (row state : List ℕ) → Fit (input_widths m) row → Fit (register_widths m) state → slice_index state j ≡ value_at (val m row (by_names m state)) x =
    λ row state a b. ap (slice_index state) k ∙ sym (past_clock m x row (by_names m state) h ∙ behind_inputs m.clock 0 0 m.ports x s j f c (distinct_of m declared) row (by_names m state)
    ∙ i.value state (fit_names m (registers m) state b)) in
    record {
      fits = λ q. omega (arith, k, slice_get_within (registers m) i.d x i.named);
      same = λ row state a b done. same row state a b;
      below = λ row state a b. subst (λ (v : ℕ). v < 2 ^ width_of m.ports x) (same row state a b)
          (fit_at (register_widths m) state j (width_of m.ports x) b (width_at m (registers m) j x (ap (slice_get (registers m)) k ∙ i.named)));
    }

below_by_role : (m : Module) (x : Text) (s : Signal) (q : Role) → are_declared m ≡ true → is_read m x ≡ true → found m.clock 0 0 m.ports x ≡ Some s → s.role ≡ q → (row state : List ℕ) → Fit (input_widths m) row
    → Fit (register_widths m) state → value_at (val m row (by_names m state)) x < 2 ^ width_of m.ports x
below_by_role m x s role.Clock declared h f c row state a b = absurd (read_clock m x s h f c)
below_by_role m x s (role.Input j) declared h f c row state a b = (reads_input m x s j h f c).below row state a b
below_by_role m x s (role.Register j) declared h f c row state a b = (reads_register m x s j declared h f c).below row state a b

-- a value that is read fits the width of its name
pub read_below : (m : Module) (x : Text) → are_declared m ≡ true → is_read m x ≡ true → (row state : List ℕ) → Fit (input_widths m) row → Fit (register_widths m) state
    → value_at (val m row (by_names m state)) x < 2 ^ width_of m.ports x
read_below m x declared h row state a b =
    let s = stands m.clock 0 0 0 m.ports x (both_true _ _ h).0 in
    below_by_role m x s.signal s.signal.role declared h s.is_found refl row state a b

-- ---- writes

output_register : (clock : Text) (i r : ℕ) (p : Port) (s : Signal) → is_output (Some p) ≡ true → signal_of clock i r p ≡ s → (j : ℕ) × (s.role ≡ role.Register j)
output_register clock i r (input x) s h e = absurd (true≢false (sym h))
output_register clock i r (output x a b) s h e = (r, ap (λ (t : Signal). t.role) (sym e))

-- a target is a register
pub target_register : (clock : Text) (i r : ℕ) (ps : List Port) (x : Text) (s : Signal) → is_output (port_named ps x) ≡ true → found clock i r ps x ≡ Some s → (j : ℕ) × (s.role ≡ role.Register j)
target_register clock i r [] x s h f = absurd cc
target_register clock i r (p ∷ ps) x s h f = elim (cases_Bool (bytes_eq (port_name p) x)) [
  | inl e ↦ output_register clock i r p s (rw e at h) (some_signal (signal_of clock i r p) s (rw e at f))
  | inr e ↦ target_register clock (i + length (data_input clock p)) (r + length (register p)) ps x s (rw e at h) (rw e at f)
]

-- a write by number is the write by name, and the state still fits
pub record WritesTo (m : Module) (x : Text) (j : ℕ) : Type 0 where
  pub there : j < length (registers m)
  pub after : (state : List ℕ) (v : ℕ) → Fit (register_widths m) state → v < 2 ^ width_of m.ports x
      → (by_names m (slice_set state j v) ≡ stored (record { name = x; value = v }) (by_names m state)) × Fit (register_widths m) (slice_set state j v)

pub writes_to : (m : Module) (x : Text) (s : Signal) (j : ℕ) → found m.clock 0 0 m.ports x ≡ Some s → s.role ≡ role.Register j → WritesTo m x j
writes_to m x s j f c =
    let i = found_register m.clock 0 0 m.ports x s j f c in
    let k : j ≡ i.d = omega (arith, i.number) in
    record {
      there = omega (arith, k, slice_get_within (registers m) i.d x i.named);
      after = λ state v a l. (
        ap (λ (q : ℕ). cells (registers m) (slice_set state q v)) k ∙ sym (i.write state v (fit_names m (registers m) state a)),
        fit_set (register_widths m) state j (width_of m.ports x) v a (width_at m (registers m) j x (ap (slice_get (registers m)) k ∙ i.named)) l,
      );
    }
