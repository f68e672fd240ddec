-- Ports by name: their places, their signals, and the widths of the registers among them.
use Rattle.std.proofs.Common.{◌≡◌, ℕ, zero, suc, ◌+◌, ◌≤◌, Bool, true, false, not, ◌&&◌, List, [], ◌∷◌, ◌++◌, length, map, refl, sym, ap, subst, ◌∙◌, inl, inr, arith, append-nil, append_assoc, length-append}
use Rattle.std.specs.Prelude.{Some, bytes_eq, is_some, slice_get}
use Rattle.std.proofs.lemmas.Bool.{cases_Bool, true≢false}
use Rattle.std.proofs.lemmas.Slice.Eq.{bytes_eq-Decides}
use Rattle.flat_ir.specs.declared.design.Role.{Role}
use Rattle.flat_ir.specs.declared.design.Signal.{Signal}
use Rattle.flat_ir.specs.FlatRun.{RoleFits}
use Rattle.flat_ir.specs.Names.{input_names}
use Rattle.vl_tree.specs.Tree.{Text, Port, input, output}
use Rattle.vl_meaning.specs.Objects.{port_name, port_named, place_from, port_width, width_of, data_input, data_inputs_of, register, registers_of}
use Rattle.vl_meaning.specs.Faults.{are_distinct}
use Rattle.vl_proc.specs.Ports.{signal_of, signals_of, found, own_width, widths_of, IsTable}

-- both parts of a conjunction
pub both_true : (a b : Bool) → (a && b) ≡ true → (a ≡ true) × (b ≡ true)
both_true true b h = (refl, h)
both_true false b h = absurd (true≢false (sym h))

pub not_true : (a : Bool) → not a ≡ true → a ≡ false
not_true true h = absurd (true≢false (sym h))
not_true false h = refl

pub same_text : (x y : Text) → bytes_eq x y ≡ true → x ≡ y
same_text x y = (bytes_eq-Decides x y).0

pub equal_itself : (x : Text) → bytes_eq x x ≡ true
equal_itself x = (bytes_eq-Decides x x).1 refl

-- a comparison that fails, the other way round
pub unequal_flipped : (x y : Text) → bytes_eq x y ≡ false → bytes_eq y x ≡ false
unequal_flipped x y h = elim (cases_Bool (bytes_eq y x)) [
  | inl e ↦ absurd (true≢false (sym (subst (λ (z : Text). bytes_eq z y ≡ true) (same_text y x e) (equal_itself y)) ∙ h))
  | inr e ↦ e
]

-- ---- places and signals

-- a declared name has a place, and at it the signal that is found
pub record Stands (clock : Text) (i r n : ℕ) (ps : List Port) (x : Text) : Type 0 where
  pub k : ℕ
  pub signal : Signal
  pub place : place_from n ps x ≡ Some (n + k)
  pub at : slice_get (signals_of clock i r ps) k ≡ Some signal
  pub is_found : found clock i r ps x ≡ Some signal

pub stands : (clock : Text) (i r n : ℕ) (ps : List Port) (x : Text) → is_some (port_named ps x) ≡ true → Stands clock i r n ps x
stands clock i r n [] x h = absurd (true≢false (sym h))
stands clock i r n (p ∷ ps) x h = elim (cases_Bool (bytes_eq (port_name p) x)) [
  | inl e ↦ record { k = 0; signal = signal_of clock i r p; place = rw e (ap Some (omega arith)); at = refl; is_found = rw e refl }
  | inr e ↦
      let s = stands clock (i + length (data_input clock p)) (r + length (register p)) (n + 1) ps x (rw e at h) in
      record { k = suc s.k; signal = s.signal; place = rw e (s.place ∙ ap Some (omega arith)); at = s.at; is_found = rw e s.is_found }
]

-- the signal that is found has the width of the name
pub found_width : (clock : Text) (i r : ℕ) (ps : List Port) (x : Text) (s : Signal) → found clock i r ps x ≡ Some s → s.width ≡ width_of ps x
found_width clock i r [] x s h = absurd cc
found_width clock i r (p ∷ ps) x s h = elim (cases_Bool (bytes_eq (port_name p) x)) [
  | inl e ↦ rw e (let f : Some (signal_of clock i r p) ≡ Some s = rw e at h in let g : signal_of clock i r p ≡ s = cc in ap (λ (t : Signal). t.width) (sym g))
  | inr e ↦ rw e (found_width clock (i + length (data_input clock p)) (r + length (register p)) ps x s (rw e at h))
]

-- ---- all signals

-- the signals with one port more
pub signals_more : (clock : Text) (i r : ℕ) (ps : List Port) (p : Port)
    → signals_of clock i r (ps ++ p ∷ []) ≡ signals_of clock i r ps ++ signal_of clock (i + length (data_inputs_of clock ps)) (r + length (registers_of ps)) p ∷ []
signals_more clock i r [] p =
    let a : i ≡ i + 0 = omega arith in let b : r ≡ r + 0 = omega arith in ap (λ (k : ℕ). signal_of clock k r p ∷ []) a ∙ ap (λ (k : ℕ). signal_of clock (i + 0) k p ∷ []) b
signals_more clock i r (q ∷ ps) p =
    let a : i + length (data_input clock q) + length (data_inputs_of clock ps) ≡ i + length (data_input clock q ++ data_inputs_of clock ps) = omega (arith, length-append (data_input clock q) (data_inputs_of clock ps)) in
    let b : r + length (register q) + length (registers_of ps) ≡ r + length (register q ++ registers_of ps) = omega (arith, length-append (register q) (registers_of ps)) in
    ap (λ (ss : List Signal). signal_of clock i r q ∷ ss) (signals_more clock (i + length (data_input clock q)) (r + length (register q)) ps p
    ∙ ap (λ (k : ℕ). signals_of clock (i + length (data_input clock q)) (r + length (register q)) ps ++ signal_of clock k (r + length (register q) + length (registers_of ps)) p ∷ []) a
    ∙ ap (λ (k : ℕ). signals_of clock (i + length (data_input clock q)) (r + length (register q)) ps ++ signal_of clock (i + length (data_input clock q ++ data_inputs_of clock ps)) k p ∷ []) b)

pub inputs_more : (clock : Text) (ps : List Port) (p : Port) → data_inputs_of clock (ps ++ p ∷ []) ≡ data_inputs_of clock ps ++ data_input clock p
inputs_more clock [] p = append-nil (data_input clock p)
inputs_more clock (q ∷ ps) p = ap (λ (xs : List Text). data_input clock q ++ xs) (inputs_more clock ps p) ∙ sym (append_assoc (data_input clock q) (data_inputs_of clock ps) (data_input clock p))

pub widths_more : (ps : List Port) (p : Port) → widths_of (ps ++ p ∷ []) ≡ widths_of ps ++ own_width p
widths_more [] p = append-nil (own_width p)
widths_more (q ∷ ps) p = ap (λ (xs : List ℕ). own_width q ++ xs) (widths_more ps p) ∙ sym (append_assoc (own_width q) (widths_of ps) (own_width p))

-- a width stands for each register
pub widths_length : (ps : List Port) → length (widths_of ps) ≡ length (registers_of ps)
widths_length [] = refl
widths_length (input x ∷ ps) = widths_length ps
widths_length (output x a b ∷ ps) = ap suc (widths_length ps)

-- inputs and registers are ports
pub objects_within : (clock : Text) (ps : List Port) → length (data_inputs_of clock ps) + length (widths_of ps) ≤ length ps
objects_within clock [] = omega arith
objects_within clock (input x ∷ ps) =
    let h = objects_within clock ps in
    elim (cases_Bool (bytes_eq x clock)) [ inl e ↦ rw e (omega (arith, h)) | inr e ↦ rw e (omega (arith, h)) ]
objects_within clock (output x a b ∷ ps) = omega (arith, objects_within clock ps)

-- the data inputs' names are those of the module
pub names_are : (clock : Text) (i r : ℕ) (ps : List Port) → input_names (signals_of clock i r ps) ≡ data_inputs_of clock ps
names_are clock i r [] = refl
names_are clock i r (input x ∷ ps) = elim (cases_Bool (bytes_eq x clock)) [
  | inl e ↦ rw e (names_are clock (i + 0) (r + 0) ps)
  | inr e ↦ rw e (ap (λ (xs : List Text). x ∷ xs) (names_are clock (i + 1) (r + 0) ps))
]
names_are clock i r (output x a b ∷ ps) = names_are clock (i + 0) (r + 1) ps

-- the same with other numbers
pub role_as : (i j r q : ℕ) (x : Role) → i ≡ j → r ≡ q → RoleFits i r x → RoleFits j q x
role_as i j r q x e f h = subst (λ (k : ℕ). RoleFits k q x) e (subst (λ (k : ℕ). RoleFits i k x) f h)

-- each signal's input or register is there
pub roles_fit : (clock : Text) (i r : ℕ) (ps : List Port) (k : ℕ) (s : Signal) → slice_get (signals_of clock i r ps) k ≡ Some s
    → RoleFits (i + length (data_inputs_of clock ps)) (r + length (registers_of ps)) s.role
roles_fit clock i r [] k s h = absurd cc
roles_fit clock i r (input x ∷ ps) zero s h =
    let g : signal_of clock i r (input x) ≡ s = cc in
    subst (λ (t : Signal). RoleFits (i + length (data_inputs_of clock (input x ∷ ps))) (r + length (registers_of ps)) t.role) g
    (elim (cases_Bool (bytes_eq x clock)) [ inl e ↦ rw e tt | inr e ↦ rw e (omega arith) ])
roles_fit clock i r (output x a b ∷ ps) zero s h =
    let g : signal_of clock i r (output x a b) ≡ s = cc in
    subst (λ (t : Signal). RoleFits (i + length (data_inputs_of clock ps)) (r + suc (length (registers_of ps))) t.role) g (omega arith)
roles_fit clock i r (input x ∷ ps) (suc k) s h = elim (cases_Bool (bytes_eq x clock)) [
  | inl e ↦ rw e (role_as (i + 0 + length (data_inputs_of clock ps)) _ (r + 0 + length (registers_of ps)) _ s.role (omega arith) (omega arith) (roles_fit clock (i + 0) (r + 0) ps k s (rw e at h)))
  | inr e ↦ rw e (role_as (i + 1 + length (data_inputs_of clock ps)) _ (r + 0 + length (registers_of ps)) _ s.role (omega arith) (omega arith) (roles_fit clock (i + 1) (r + 0) ps k s (rw e at h)))
]
roles_fit clock i r (output x a b ∷ ps) (suc k) s h =
    role_as (i + 0 + length (data_inputs_of clock ps)) _ (r + 1 + length (registers_of ps)) _ s.role (omega arith) (omega arith) (roles_fit clock (i + 0) (r + 1) ps k s h)

-- ---- widths of registers by name

behind_one : (p : Port) (ps : List Port) (q : Port) (qs : List Port) → bytes_eq (port_name p) (port_name q) ≡ false
    → map (width_of (p ∷ ps)) (registers_of qs) ≡ map (width_of ps) (registers_of qs) → map (width_of (p ∷ ps)) (registers_of (q ∷ qs)) ≡ map (width_of ps) (registers_of (q ∷ qs))
behind_one p ps (input x) qs e h = h
behind_one p ps (output x a b) qs e h = rw e (ap (λ (ws : List ℕ). width_of ps x ∷ ws) h)

-- a port that isn't the first of a name doesn't change what another name stands for
width_behind : (p : Port) (ps : List Port) (xs : List Port) → is_some (port_named xs (port_name p)) ≡ false → map (width_of (p ∷ ps)) (registers_of xs) ≡ map (width_of ps) (registers_of xs)
width_behind p ps [] h = refl
width_behind p ps (q ∷ qs) h = elim (cases_Bool (bytes_eq (port_name q) (port_name p))) [
  | inl e ↦ absurd (true≢false (rw e at h))
  | inr e ↦ behind_one p ps q qs (unequal_flipped (port_name q) (port_name p) e) (width_behind p ps qs (rw e at h))
]

widths_first : (p : Port) (ps : List Port) → widths_of ps ≡ map (width_of (p ∷ ps)) (registers_of ps) → widths_of (p ∷ ps) ≡ map (width_of (p ∷ ps)) (registers_of (p ∷ ps))
widths_first (input x) ps h = h
widths_first (output x a b) ps h = rw (equal_itself x) (ap (λ (ws : List ℕ). port_width (output x a b) ∷ ws) h)

pub widths_by_name : (ps : List Port) → are_distinct ps ≡ true → widths_of ps ≡ map (width_of ps) (registers_of ps)
widths_by_name [] h = refl
widths_by_name (p ∷ ps) h =
    let b = both_true _ _ h in
    widths_first p ps (widths_by_name ps b.1 ∙ sym (width_behind p ps ps (not_true _ b.0)))

-- the table with one port more
pub table_more : (clock : Text) (ps : List Port) (p : Port) (signals more : List Signal) (inputs counted : ℕ) (widths wider : List ℕ) → IsTable clock ps signals inputs widths
    → more ≡ signals ++ signal_of clock inputs (length widths) p ∷ [] → counted ≡ inputs + length (data_input clock p) → wider ≡ widths ++ own_width p → IsTable clock (ps ++ p ∷ []) more counted wider
table_more clock ps p signals more inputs counted widths wider t s i w =
    let a : inputs ≡ 0 + length (data_inputs_of clock ps) = omega (arith, t.inputs_are) in
    let b : length widths ≡ 0 + length (registers_of ps) = omega (arith, ap length t.widths_are, widths_length ps) in
    record {
      signals_are = s ∙ ap (λ (ss : List Signal). ss ++ signal_of clock inputs (length widths) p ∷ []) t.signals_are
          ∙ ap (λ (k : ℕ). signals_of clock 0 0 ps ++ signal_of clock k (length widths) p ∷ []) a
          ∙ ap (λ (k : ℕ). signals_of clock 0 0 ps ++ signal_of clock (0 + length (data_inputs_of clock ps)) k p ∷ []) b ∙ sym (signals_more clock 0 0 ps p);
      inputs_are = omega (arith, i, t.inputs_are, ap length (inputs_more clock ps p), length-append (data_inputs_of clock ps) (data_input clock p));
      widths_are = w ∙ ap (λ (ws : List ℕ). ws ++ own_width p) t.widths_are ∙ sym (widths_more ps p);
    }
