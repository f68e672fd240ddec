-- What a design of one scope shows by name, where its signals are those of a design of one clocked block.
use Rattle.std.proofs.Common.{◌≡◌, ℕ, zero, suc, ◌+◌, ◌<◌, true, List, [], ◌∷◌, ◌++◌, length, map, refl, sym, ap, ◌∙◌, arith, append-nil}
use Rattle.std.specs.Prelude.{Some, slice_get, slice_index, slice_index_or}
use Rattle.std.specs.List.{range_with_len}
use Rattle.std.proofs.lemmas.List.{map-append, length-map}
use Rattle.flat_ir.specs.Names.{input_name, input_names}
use Rattle.flat_ir.specs.Shown as plain
use Rattle.flat_ir.specs.declared.design.Role.{Role}
use Rattle.flat_ir.specs.declared.design.Role.TheVariants as role
use Rattle.flat_ir.specs.declared.design.SignalKind.{SignalKind}
use Rattle.flat_ir.specs.declared.design.SignalKind.TheVariants as kind
use Rattle.flat_ir.specs.declared.design.Signal.{Signal}
use Rattle.netlist.specs.Design.{Flat}
use Rattle.netlist.specs.declared.design.Signal as netlist
use Rattle.design_names.specs.Variables.{Variable, Scope, scope, no_scopes}
use Rattle.design_names.specs.Tree.{signals_from}
use Rattle.design_names.specs.Shown.{kind_of, is_clock, variable_of, no_signal, signal_at, variable_at, flat_scope, flat_order}
use Rattle.design_names.specs.Path.{path_text}
use Rattle.one_block.specs.OneBlock as block
use Rattle.one_block.specs.SameDesign as made

-- ---- numbers of signals

-- the signal of a number
at_is : (ss : List Signal) (i : ℕ) (x : Signal) → slice_get ss i ≡ Some x → slice_index_or (map made.signal_of ss) i no_signal ≡ made.signal_of x
at_is [] i x h = absurd cc
at_is (y ∷ ss) zero x h = let e : y ≡ x = cc in ap made.signal_of e
at_is (y ∷ ss) (suc i) x h = at_is ss i x h

-- all stand in the one scope
pub all_shown : (n : ℕ) (ss : List Signal) → signals_from 0 n (map made.signal_of ss) ≡ range_with_len n (length ss)
all_shown n [] = refl
all_shown n (s ∷ ss) = ap (λ (ks : List ℕ). n ∷ ks) (all_shown (n + 1) ss)

-- g of the numbers of signals, which are numbered from k on, is what each signal gives
abbrev AreGiven : {X : Type 0} → (ℕ → X) → (Signal → X) → ℕ → List Signal → Type 0
AreGiven g of k ss = (i : ℕ) (x : Signal) → slice_get ss i ≡ Some x → g (k + i) ≡ of x

first_given : {X : Type 0} (g : ℕ → X) (of : Signal → X) (k : ℕ) (s : Signal) (ss : List Signal) → AreGiven g of k (s ∷ ss) → g k ≡ of s
first_given g of k s ss h = let here : k ≡ k + 0 = omega arith in ap g here ∙ h 0 s refl

rest_given : {X : Type 0} (g : ℕ → X) (of : Signal → X) (k : ℕ) (s : Signal) (ss : List Signal) → AreGiven g of k (s ∷ ss) → AreGiven g of (k + 1) ss
rest_given g of k s ss h = λ i x at. let e : k + 1 + i ≡ k + suc i = omega arith in ap g e ∙ h (suc i) x at

zero_more : (i : ℕ) → 0 + i ≡ i
zero_more i = omega arith

-- the same where they are numbered from 0 on
from_zero : {X : Type 0} (g : ℕ → X) (of : Signal → X) (ss : List Signal) → ((i : ℕ) (x : Signal) → slice_get ss i ≡ Some x → g i ≡ of x) → AreGiven g of 0 ss
from_zero g of ss h = λ i x at. ap g (zero_more i) ∙ h i x at

-- ---- variables

same_kind : (k : SignalKind) → kind_of (made.kind_of k) ≡ plain.kind_of k
same_kind kind.Wire = refl
same_kind kind.Reg = refl
same_kind kind.Integer = refl

same_clock : (r : Role) → is_clock (made.role_of r) ≡ plain.is_clock r
same_clock role.Clock = refl
same_clock (role.Input i) = refl
same_clock (role.Register r) = refl

same_variable : (s : Signal) → variable_of (made.signal_of s) ≡ plain.variable_of s
same_variable s = λ i. record { kind = same_kind s.kind i; width = s.width; name = s.name; clock = same_clock s.role i }

of_numbers : {X : Type 0} (g : ℕ → X) (of : Signal → X) (k : ℕ) (ss : List Signal) → AreGiven g of k ss → map g (range_with_len k (length ss)) ≡ map of ss
of_numbers g of k [] h = refl
of_numbers g of k (s ∷ ss) h = (λ i. first_given g of k s ss h i ∷ of_numbers g of (k + 1) ss (rest_given g of k s ss h) i)

variables : (ss : List Signal) → map (λ k. variable_of (slice_index_or (map made.signal_of ss) k no_signal)) (range_with_len 0 (length ss)) ≡ map plain.variable_of ss
variables ss = of_numbers (λ k. variable_of (slice_index_or (map made.signal_of ss) k no_signal)) plain.variable_of 0 ss
    (from_zero (λ k. variable_of (slice_index_or (map made.signal_of ss) k no_signal)) plain.variable_of ss (λ i x at. ap variable_of (at_is ss i x at) ∙ same_variable x))

-- ---- the names and the widths of the inputs

named_one : (g : ℕ → List ℕ) (k : ℕ) (s : Signal) (r : Role) → g k ≡ s.name → map g (made.input_place k r) ≡ input_name s r
named_one g k s role.Clock e = refl
named_one g k s (role.Input i) e = ap (λ x. x ∷ []) e
named_one g k s (role.Register r) e = refl

wide_one : (g : ℕ → ℕ) (k : ℕ) (s : Signal) (r : Role) → g k ≡ s.width → map g (made.input_place k r) ≡ block.input_width s r
wide_one g k s role.Clock e = refl
wide_one g k s (role.Input i) e = ap (λ x. x ∷ []) e
wide_one g k s (role.Register r) e = refl

names_from : (g : ℕ → List ℕ) (k : ℕ) (ss : List Signal) → AreGiven g (λ s. s.name) k ss → map g (made.input_places k ss) ≡ input_names ss
names_from g k [] h = refl
names_from g k (s ∷ ss) h =
    let one = named_one g k s s.role (first_given g (λ x. x.name) k s ss h) in
    let rest = names_from g (k + 1) ss (rest_given g (λ x. x.name) k s ss h) in
    map-append g (made.input_place k s.role) (made.input_places (k + 1) ss) ∙ (λ i. one i ++ rest i)

widths_from : (g : ℕ → ℕ) (k : ℕ) (ss : List Signal) → AreGiven g (λ s. s.width) k ss → map g (made.input_places k ss) ≡ block.input_widths ss
widths_from g k [] h = refl
widths_from g k (s ∷ ss) h =
    let one = wide_one g k s s.role (first_given g (λ x. x.width) k s ss h) in
    let rest = widths_from g (k + 1) ss (rest_given g (λ x. x.width) k s ss h) in
    map-append g (made.input_place k s.role) (made.input_places (k + 1) ss) ∙ (λ i. one i ++ rest i)

-- ---- the design of one scope

module _ (f : Flat) (name : List ℕ) (ss : List Signal) (scopes : f.scopes ≡ made.top_scope name ∷ []) (signals : f.signals ≡ map made.signal_of ss) where
  -- with its scope and its signals written out
  abbrev written : Flat
  written = record f { scopes = made.top_scope name ∷ []; signals = map made.signal_of ss }

  is_written : f ≡ written
  is_written = λ i. record f { scopes = scopes i; signals = signals i }

  pub scope_is : flat_scope f ≡ scope true name (map plain.variable_of ss) no_scopes
  scope_is = ap flat_scope is_written
      ∙ ap (λ (ks : List ℕ). scope true name (map (variable_at written) ks) no_scopes) (all_shown 0 ss)
      ∙ ap (λ (vs : List Variable). scope true name vs no_scopes) (variables ss)

  pub order_is : flat_order f ≡ range_with_len 0 (length f.signals)
  order_is = ap flat_order is_written ∙ append-nil (signals_from 0 0 (map made.signal_of ss)) ∙ all_shown 0 ss
      ∙ ap (range_with_len 0) (sym (ap length signals ∙ length-map ss made.signal_of))

  pub path_is : path_text f 0 ≡ name
  path_is = ap (λ (g : Flat). path_text g 0) is_written ∙ append-nil name

  at_number : (i : ℕ) (x : Signal) → slice_get ss i ≡ Some x → signal_at f i ≡ made.signal_of x
  at_number i x at = ap (λ (xs : List netlist.Signal). slice_index_or xs i no_signal) signals ∙ at_is ss i x at

  pub names_are : f.inputs ≡ made.input_places 0 ss → map (λ k. (signal_at f k).name) f.inputs ≡ input_names ss
  names_are inputs = ap (map (λ k. (signal_at f k).name)) inputs
      ∙ names_from (λ k. (signal_at f k).name) 0 ss (from_zero (λ k. (signal_at f k).name) (λ s. s.name) ss (λ i x at. ap (λ (s : netlist.Signal). s.name) (at_number i x at)))

  pub widths_are : f.inputs ≡ made.input_places 0 ss → map (λ k. (signal_at f k).width) f.inputs ≡ block.input_widths ss
  widths_are inputs = ap (map (λ k. (signal_at f k).width)) inputs
      ∙ widths_from (λ k. (signal_at f k).width) 0 ss (from_zero (λ k. (signal_at f k).width) (λ s. s.width) ss (λ i x at. ap (λ (s : netlist.Signal). s.width) (at_number i x at)))

-- all of a list by its numbers
numbers_from : (g : ℕ → ℕ) (k : ℕ) (xs : List ℕ) → ((i : ℕ) → i < length xs → g (k + i) ≡ slice_index xs i) → map g (range_with_len k (length xs)) ≡ xs
numbers_from g k [] h = refl
numbers_from g k (x ∷ xs) h =
    let here : k ≡ k + 0 = omega arith in
    let first : g k ≡ x = ap g here ∙ h 0 (omega arith) in
    let rest = numbers_from g (k + 1) xs (λ i l. let e : k + 1 + i ≡ k + suc i = omega arith in ap g e ∙ h (suc i) (omega (arith, l))) in
    (λ i. first i ∷ rest i)

pub all_numbers : (xs : List ℕ) → map (slice_index xs) (range_with_len 0 (length xs)) ≡ xs
all_numbers xs = numbers_from (slice_index xs) 0 xs (λ i l. ap (slice_index xs) (zero_more i))
