-- Reads and writes by name against those by number.
use Rattle.std.proofs.Common.{◌≡◌, ℕ, zero, suc, ◌+◌, ◌<◌, ◌^◌, true, false, List, [], ◌∷◌, ◌++◌, length, refl, ap, subst, ◌∙◌, inl, inr, arith}
use Rattle.std.specs.Prelude.{Some, bytes_eq, is_some, slice_get, slice_index, slice_set}
use Rattle.std.proofs.lemmas.Bool.{cases_Bool, true≢false}
use Rattle.flat_ir.specs.declared.design.Role.TheVariants as role
use Rattle.flat_ir.specs.declared.design.Signal.{Signal}
use Rattle.flat_ir.specs.Names.{Fit}
use Rattle.vl_tree.specs.Tree.{Text, Port, input, output}
use Rattle.vl_meaning.specs.Objects.{port_name, port_named, data_input, data_inputs_of, register, registers_of}
use Rattle.vl_meaning.specs.Faults.{are_distinct}
use Rattle.vl_meaning.specs.Expression.{Values, value_at}
use Rattle.vl_meaning.specs.Statement.{stored}
use Rattle.vl_meaning.specs.Run.{cell, cells}
use Rattle.vl_proc.specs.Ports.{signal_of, found}
use Rattle.vl_proc.proofs.Ports.{both_true, not_true, same_text}

-- ---- numbers that fit

pub fit_length : (ws xs : List ℕ) → Fit ws xs → length xs ≡ length ws
fit_length [] [] f = refl
fit_length (w ∷ ws) (x ∷ xs) f = ap suc (fit_length ws xs f.1)
fit_length [] (x ∷ xs) f = absurd f
fit_length (w ∷ ws) [] f = absurd f

pub fit_at : (ws xs : List ℕ) (d w : ℕ) → Fit ws xs → slice_get ws d ≡ Some w → slice_index xs d < 2 ^ w
fit_at [] xs d w f h = absurd cc
fit_at (v ∷ ws) (x ∷ xs) zero w f h = let e : v ≡ w = cc in subst (λ (k : ℕ). x < 2 ^ k) e f.0
fit_at (v ∷ ws) (x ∷ xs) (suc d) w f h = fit_at ws xs d w f.1 h
fit_at (v ∷ ws) [] d w f h = absurd f

pub fit_set : (ws xs : List ℕ) (d w v : ℕ) → Fit ws xs → slice_get ws d ≡ Some w → v < 2 ^ w → Fit ws (slice_set xs d v)
fit_set [] xs d w v f h l = absurd cc
fit_set (u ∷ ws) (x ∷ xs) zero w v f h l = let e : w ≡ u = cc in (subst (λ (k : ℕ). v < 2 ^ k) e l, f.1)
fit_set (u ∷ ws) (x ∷ xs) (suc d) w v f h l = (f.0, fit_set ws xs d w v f.1 h l)
fit_set (u ∷ ws) [] d w v f h l = absurd f

-- ---- the signal of a name, by what it shows

pub some_signal : (a b : Signal) → Some a ≡ Some b → a ≡ b
some_signal a b h = cc

clock_alone : (clock : Text) (i r : ℕ) (p : Port) → (signal_of clock i r p).role ≡ role.Clock → bytes_eq (port_name p) clock ≡ true
clock_alone clock i r (input x) h = elim (cases_Bool (bytes_eq x clock)) [
  | inl e ↦ e
  | inr e ↦ let g : role.Input i ≡ role.Clock = rw e at h in absurd cc
]
clock_alone clock i r (output x a b) h = absurd cc

-- the clock's signal is found by the clock's name alone
pub found_clock : (clock : Text) (i r : ℕ) (ps : List Port) (x : Text) (s : Signal) → found clock i r ps x ≡ Some s → s.role ≡ role.Clock → bytes_eq x clock ≡ true
found_clock clock i r [] x s h e = absurd cc
found_clock clock i r (p ∷ ps) x s h c = elim (cases_Bool (bytes_eq (port_name p) x)) [
  | inl e ↦
      let g : signal_of clock i r p ≡ s = some_signal _ _ (rw e at h) in
      subst (λ (y : Text). bytes_eq y clock ≡ true) (same_text _ _ e) (clock_alone clock i r p (ap (λ (t : Signal). t.role) g ∙ c))
  | inr e ↦ found_clock clock (i + length (data_input clock p)) (r + length (register p)) ps x s (rw e at h) c
]

-- a data input: its number, and its value among the data inputs' cells
pub record IsInput (clock : Text) (i : ℕ) (ps : List Port) (x : Text) (j : ℕ) : Type 0 where
  pub d : ℕ
  pub number : j ≡ i + d
  pub named : slice_get (data_inputs_of clock ps) d ≡ Some x
  pub value : (row : List ℕ) (rest : Values) → length row ≡ length (data_inputs_of clock ps) → value_at (cells (data_inputs_of clock ps) row ++ rest) x ≡ slice_index row d

-- the first cell isn't that of the name
later_value : (names : List Text) (y x : Text) (d : ℕ) → bytes_eq y x ≡ false
    → ((row : List ℕ) (rest : Values) → length row ≡ length names → value_at (cells names row ++ rest) x ≡ slice_index row d)
    → (row : List ℕ) (rest : Values) → length row ≡ length (y ∷ names) → value_at (cells (y ∷ names) row ++ rest) x ≡ slice_index row (suc d)
later_value names y x d e h [] rest l = absurd (omega (arith, l))
later_value names y x d e h (n ∷ row) rest l = rw e (h row rest (omega (arith, l)))

first_value : (names : List Text) (y x : Text) → bytes_eq y x ≡ true → (row : List ℕ) (rest : Values) → length row ≡ length (y ∷ names)
    → value_at (cells (y ∷ names) row ++ rest) x ≡ slice_index row 0
first_value names y x e [] rest l = absurd (omega (arith, l))
first_value names y x e (n ∷ row) rest l = rw e refl

first_input : (clock : Text) (i r : ℕ) (y : Text) (ps : List Port) (x : Text) (j : ℕ) → bytes_eq y x ≡ true → (signal_of clock i r (input y)).role ≡ role.Input j → IsInput clock i (input y ∷ ps) x j
first_input clock i r y ps x j e c = elim (cases_Bool (bytes_eq y clock)) [
  | inl k ↦ let g : role.Clock ≡ role.Input j = rw k at c in absurd cc
  | inr k ↦
      let g : role.Input i ≡ role.Input j = rw k at c in let n : i ≡ j = cc in
      record { d = 0; number = omega (arith, n); named = rw k (ap Some (same_text y x e)); value = rw k (first_value (data_inputs_of clock ps) y x e) }
]

clock_behind : (clock : Text) (i r : ℕ) (y : Text) (ps : List Port) (x : Text) (s : Signal) → bytes_eq y clock ≡ true → found clock (i + length (data_input clock (input y))) (r + 0) ps x ≡ Some s
    → found clock (i + 0) (r + 0) ps x ≡ Some s
clock_behind clock i r y ps x s k = rw k (λ g. g)

data_behind : (clock : Text) (i r : ℕ) (y : Text) (ps : List Port) (x : Text) (s : Signal) → bytes_eq y clock ≡ false → found clock (i + length (data_input clock (input y))) (r + 0) ps x ≡ Some s
    → found clock (i + 1) (r + 0) ps x ≡ Some s
data_behind clock i r y ps x s k = rw k (λ g. g)

input_behind : (clock : Text) (i : ℕ) (y : Text) (ps : List Port) (x : Text) (j : ℕ) → (bytes_eq y clock ≡ true → IsInput clock (i + 0) ps x j) → (bytes_eq y clock ≡ false → IsInput clock (i + 1) ps x j)
    → bytes_eq y x ≡ false → IsInput clock i (input y ∷ ps) x j
input_behind clock i y ps x j f g e = elim (cases_Bool (bytes_eq y clock)) [
  | inl k ↦ let n = f k in record { d = n.d; number = omega (arith, n.number); named = rw k n.named; value = rw k n.value }
  | inr k ↦ let n = g k in record { d = suc n.d; number = omega (arith, n.number); named = rw k n.named; value = rw k (later_value (data_inputs_of clock ps) y x n.d e n.value) }
]

pub found_input : (clock : Text) (i r : ℕ) (ps : List Port) (x : Text) (s : Signal) (j : ℕ) → found clock i r ps x ≡ Some s → s.role ≡ role.Input j → IsInput clock i ps x j
found_input clock i r [] x s j h e = absurd cc
found_input clock i r (input y ∷ ps) x s j h c = elim (cases_Bool (bytes_eq y x)) [
  | inl e ↦ first_input clock i r y ps x j e (ap (λ (t : Signal). t.role) (some_signal (signal_of clock i r (input y)) s (rw e at h)) ∙ c)
  | inr e ↦ input_behind clock i y ps x j (λ k. found_input clock (i + 0) (r + 0) ps x s j (clock_behind clock i r y ps x s k (rw e at h)) c)
      (λ k. found_input clock (i + 1) (r + 0) ps x s j (data_behind clock i r y ps x s k (rw e at h)) c) e
]
found_input clock i r (output y a b ∷ ps) x s j h c = elim (cases_Bool (bytes_eq y x)) [
  | inl e ↦ let g : role.Register r ≡ role.Input j = ap (λ (t : Signal). t.role) (some_signal (signal_of clock i r (output y a b)) s (rw e at h)) ∙ c in absurd cc
  | inr e ↦
      let n = found_input clock (i + 0) (r + 1) ps x s j (rw e at h) c in
      record { d = n.d; number = omega (arith, n.number); named = n.named; value = n.value }
]

-- a register: its number, its value, and its write among the registers' cells
pub record IsRegister (r : ℕ) (ps : List Port) (x : Text) (j : ℕ) : Type 0 where
  pub d : ℕ
  pub number : j ≡ r + d
  pub named : slice_get (registers_of ps) d ≡ Some x
  pub value : (state : List ℕ) → length state ≡ length (registers_of ps) → value_at (cells (registers_of ps) state) x ≡ slice_index state d
  pub write : (state : List ℕ) (v : ℕ) → length state ≡ length (registers_of ps)
      → stored (record { name = x; value = v }) (cells (registers_of ps) state) ≡ cells (registers_of ps) (slice_set state d v)

pub not_register : (clock : Text) (i r : ℕ) (y : Text) (j : ℕ) → (signal_of clock i r (input y)).role ≡ role.Register j → ⊥
not_register clock i r y j h = elim (cases_Bool (bytes_eq y clock)) [
  | inl k ↦ let g : role.Clock ≡ role.Register j = rw k at h in cc
  | inr k ↦ let g : role.Input i ≡ role.Register j = rw k at h in cc
]

first_register : (names : List Text) (y x : Text) → bytes_eq y x ≡ true → (state : List ℕ) → length state ≡ length (y ∷ names) → value_at (cells (y ∷ names) state) x ≡ slice_index state 0
first_register names y x e [] l = absurd (omega (arith, l))
first_register names y x e (n ∷ state) l = rw e refl

later_register : (names : List Text) (y x : Text) (d : ℕ) → bytes_eq y x ≡ false → ((state : List ℕ) → length state ≡ length names → value_at (cells names state) x ≡ slice_index state d)
    → (state : List ℕ) → length state ≡ length (y ∷ names) → value_at (cells (y ∷ names) state) x ≡ slice_index state (suc d)
later_register names y x d e h [] l = absurd (omega (arith, l))
later_register names y x d e h (n ∷ state) l = rw e (h state (omega (arith, l)))

first_write : (names : List Text) (y x : Text) → bytes_eq y x ≡ true → (state : List ℕ) (v : ℕ) → length state ≡ length (y ∷ names)
    → stored (record { name = x; value = v }) (cells (y ∷ names) state) ≡ cells (y ∷ names) (slice_set state 0 v)
first_write names y x e [] v l = absurd (omega (arith, l))
first_write names y x e (n ∷ state) v l = rw e refl

later_write : (names : List Text) (y x : Text) (d : ℕ) → bytes_eq y x ≡ false
    → ((state : List ℕ) (v : ℕ) → length state ≡ length names → stored (record { name = x; value = v }) (cells names state) ≡ cells names (slice_set state d v))
    → (state : List ℕ) (v : ℕ) → length state ≡ length (y ∷ names) → stored (record { name = x; value = v }) (cells (y ∷ names) state) ≡ cells (y ∷ names) (slice_set state (suc d) v)
later_write names y x d e h [] v l = absurd (omega (arith, l))
later_write names y x d e h (n ∷ state) v l = rw e (ap (λ (vs : Values). cell y n ∷ vs) (h state v (omega (arith, l))))

pub found_register : (clock : Text) (i r : ℕ) (ps : List Port) (x : Text) (s : Signal) (j : ℕ) → found clock i r ps x ≡ Some s → s.role ≡ role.Register j → IsRegister r ps x j
found_register clock i r [] x s j h e = absurd cc
found_register clock i r (input y ∷ ps) x s j h c = elim (cases_Bool (bytes_eq y x)) [
  | inl e ↦ absurd (not_register clock i r y j (ap (λ (t : Signal). t.role) (some_signal (signal_of clock i r (input y)) s (rw e at h)) ∙ c))
  | inr e ↦
      let n = found_register clock (i + length (data_input clock (input y))) (r + 0) ps x s j (rw e at h) c in
      record { d = n.d; number = omega (arith, n.number); named = n.named; value = n.value; write = n.write }
]
found_register clock i r (output y a b ∷ ps) x s j h c = elim (cases_Bool (bytes_eq y x)) [
  | inl e ↦
      let g : role.Register r ≡ role.Register j = ap (λ (t : Signal). t.role) (some_signal (signal_of clock i r (output y a b)) s (rw e at h)) ∙ c in let n : r ≡ j = cc in
      record { d = 0; number = omega (arith, n); named = ap Some (same_text y x e); value = first_register (registers_of ps) y x e; write = first_write (registers_of ps) y x e }
  | inr e ↦
      let n = found_register clock (i + 0) (r + 1) ps x s j (rw e at h) c in
      record { d = suc n.d; number = omega (arith, n.number); named = n.named; value = later_register (registers_of ps) y x n.d e n.value; write = later_write (registers_of ps) y x n.d e n.write }
]

-- ---- a register's name is no data input's

-- the first input hasn't the name
other_input : (clock y : Text) (ps : List Port) (x : Text) (row : List ℕ) (rest : Values) → bytes_eq y x ≡ false
    → ((less : List ℕ) → value_at (cells (data_inputs_of clock ps) less ++ rest) x ≡ value_at rest x) → value_at (cells (data_inputs_of clock (input y ∷ ps)) row ++ rest) x ≡ value_at rest x
other_input clock y ps x [] rest e h = elim (cases_Bool (bytes_eq y clock)) [ inl k ↦ rw k (h []) | inr k ↦ rw k refl ]
other_input clock y ps x (n ∷ row) rest e h = elim (cases_Bool (bytes_eq y clock)) [ inl k ↦ rw k (h (n ∷ row)) | inr k ↦ rw k (rw e (h row)) ]

-- no port has the name
absent_input : (clock : Text) (ps : List Port) (x : Text) (row : List ℕ) (rest : Values) → is_some (port_named ps x) ≡ false → value_at (cells (data_inputs_of clock ps) row ++ rest) x ≡ value_at rest x
absent_input clock [] x row rest h = refl
absent_input clock (output y a b ∷ ps) x row rest h = elim (cases_Bool (bytes_eq y x)) [
  | inl e ↦ absurd (true≢false (rw e at h))
  | inr e ↦ absent_input clock ps x row rest (rw e at h)
]
absent_input clock (input y ∷ ps) x row rest h = elim (cases_Bool (bytes_eq y x)) [
  | inl e ↦ absurd (true≢false (rw e at h))
  | inr e ↦ other_input clock y ps x row rest e (λ less. absent_input clock ps x less rest (rw e at h))
]

pub behind_inputs : (clock : Text) (i r : ℕ) (ps : List Port) (x : Text) (s : Signal) (j : ℕ) → found clock i r ps x ≡ Some s → s.role ≡ role.Register j → are_distinct ps ≡ true
    → (row : List ℕ) (rest : Values) → value_at (cells (data_inputs_of clock ps) row ++ rest) x ≡ value_at rest x
behind_inputs clock i r [] x s j h c a row rest = absurd cc
behind_inputs clock i r (input y ∷ ps) x s j h c a row rest = elim (cases_Bool (bytes_eq y x)) [
  | inl e ↦ absurd (not_register clock i r y j (ap (λ (t : Signal). t.role) (some_signal (signal_of clock i r (input y)) s (rw e at h)) ∙ c))
  | inr e ↦ other_input clock y ps x row rest e (λ less. behind_inputs clock (i + length (data_input clock (input y))) (r + 0) ps x s j (rw e at h) c (both_true _ _ a).1 less rest)
]
behind_inputs clock i r (output y b t ∷ ps) x s j h c a row rest = elim (cases_Bool (bytes_eq y x)) [
  | inl e ↦ absent_input clock ps x row rest (subst (λ (z : Text). is_some (port_named ps z) ≡ false) (same_text y x e) (not_true _ (both_true _ _ a).0))
  | inr e ↦ behind_inputs clock (i + 0) (r + 1) ps x s j (rw e at h) c (both_true _ _ a).1 row rest
]
