-- The design of a sound module is one that `one_block` takes: each port is a signal, and inputs and registers stand in order.
use Rattle.std.proofs.Common.{◌≡◌, ℕ, zero, suc, ◌+◌, ◌≤◌, true, List, [], ◌∷◌, ◌++◌, length, sum, refl, sym, ap, subst, ◌∙◌, inl, inr, arith}
use Rattle.std.specs.Prelude.{bytes_eq, replicate}
use Rattle.std.specs.List.{All, fold}
use Rattle.std.proofs.lemmas.Bool.{cases_Bool, leb-true}
use Rattle.std.proofs.lemmas.List.{length-replicate}
use Rattle.flat_ir.specs.declared.design.Signal.{Signal}
use Rattle.flat_ir.specs.declared.design.Node.{Node}
use Rattle.flat_ir.specs.declared.design.Action.{Action}
use Rattle.flat_ir.specs.FlatRun.{flat_next}
use Rattle.flat_ir.specs.Names.{Fit}
use Rattle.vl_tree.specs.Tree.{Text, Port, input, output, Module}
use Rattle.vl_meaning.specs.Objects.{port_width, data_input, data_inputs_of, data_inputs, register}
use Rattle.vl_meaning.specs.Faults.{are_declared, are_few, is_sound}
use Rattle.vl_meaning.specs.StandsFor.{StandsFor, input_widths, register_widths}
use Rattle.vl_meaning.proofs.OneBit.{one_bit}
use Rattle.one_block.specs.OneBlock.{AreNumbered, ClockFits, IsOneBlock}
use Rattle.one_block.specs.OneBlock as block
use Rattle.vl_proc.specs.Ports.{signals_of, widths_of, IsTable}
use Rattle.vl_proc.proofs.Ports.{both_true}
use Rattle.vl_proc.proofs.Whole.{declared_of, design}

numbered : (clock : Text) (i r : ℕ) (ps : List Port) → AreNumbered i r (signals_of clock i r ps)
numbered clock i r [] = tt
numbered clock i r (input x ∷ ps) = elim (cases_Bool (bytes_eq x clock)) [
  | inl e ↦ rw e (tt, numbered clock (i + 0) (r + 0) ps)
  | inr e ↦ rw e (refl, numbered clock (i + 1) (r + 0) ps)
]
numbered clock i r (output x a b ∷ ps) = (refl, numbered clock (i + 0) (r + 1) ps)

-- each data input has one bit
input_bits : (clock : Text) (i r : ℕ) (ps : List Port) → block.input_widths (signals_of clock i r ps) ≡ replicate (length (data_inputs_of clock ps)) 1
input_bits clock i r [] = refl
input_bits clock i r (input x ∷ ps) = elim (cases_Bool (bytes_eq x clock)) [
  | inl e ↦ rw e (input_bits clock (i + 0) (r + 0) ps)
  | inr e ↦ rw e (ap (λ (ws : List ℕ). 1 ∷ ws) (input_bits clock (i + 1) (r + 0) ps))
]
input_bits clock i r (output x a b ∷ ps) = input_bits clock (i + 0) (r + 1) ps

registers_are : (clock : Text) (i r : ℕ) (ps : List Port) → widths_of ps ≡ block.register_widths (signals_of clock i r ps)
registers_are clock i r [] = refl
registers_are clock i r (input x ∷ ps) = elim (cases_Bool (bytes_eq x clock)) [
  | inl e ↦ rw e (registers_are clock (i + 0) (r + 0) ps)
  | inr e ↦ rw e (registers_are clock (i + 1) (r + 0) ps)
]
registers_are clock i r (output x a b ∷ ps) = ap (λ (ws : List ℕ). port_width (output x a b) ∷ ws) (registers_are clock (i + 0) (r + 1) ps)

-- a clock is an input, which has one bit
clocks_fit : (clock : Text) (i r : ℕ) (ps : List Port) → All (λ s. ClockFits s.width s.role) (signals_of clock i r ps)
clocks_fit clock i r [] k d l = absurd (omega (arith, l))
clocks_fit clock i r (input x ∷ ps) zero d l = elim (cases_Bool (bytes_eq x clock)) [ inl e ↦ rw e refl | inr e ↦ rw e tt ]
clocks_fit clock i r (output x a b ∷ ps) zero d l = tt
clocks_fit clock i r (p ∷ ps) (suc k) d l = clocks_fit clock (i + length (data_input clock p)) (r + length (register p)) ps k d (omega (arith, l))

signal_count : (clock : Text) (i r : ℕ) (ps : List Port) → length (signals_of clock i r ps) ≡ length ps
signal_count clock i r [] = refl
signal_count clock i r (p ∷ ps) = ap suc (signal_count clock (i + length (data_input clock p)) (r + length (register p)) ps)

ones_from : (n a : ℕ) → fold ◌+◌ a (replicate n 1) ≡ a + n
ones_from zero a = omega arith
ones_from (suc n) a = let e : a + 1 + n ≡ a + suc n = omega arith in ones_from n (a + 1) ∙ e

sum_of_ones : (n : ℕ) → sum (replicate n 1) ≡ n
sum_of_ones n = let e : 0 + n ≡ n = omega arith in ones_from n 0 ∙ e

few_of : (m : Module) → are_declared m ≡ true → are_few m ≡ true
few_of m h = (both_true _ _ (both_true _ _ (both_true _ _ (both_true _ _ h).0).0).0).0

-- the widths of the inputs are the module's
pub inputs_are_wide : (m : Module) (signals : List Signal) (inputs : ℕ) (widths : List ℕ) → is_sound m ≡ true → IsTable m.clock m.ports signals inputs widths
    → block.input_widths signals ≡ input_widths m
inputs_are_wide m signals inputs widths sound t = ap block.input_widths t.signals_are ∙ input_bits m.clock 0 0 m.ports ∙ sym (one_bit m sound)

pub design_is_block : (m : Module) (name : Text) (signals : List Signal) (inputs : ℕ) (widths : List ℕ) (nodes : List Node) (actions : List Action) → is_sound m ≡ true
    → IsTable m.clock m.ports signals inputs widths → StandsFor (design name signals inputs widths nodes actions) m → IsOneBlock (design name signals inputs widths nodes actions)
design_is_block m name signals inputs widths nodes actions sound t s =
    let few = both_true _ _ (few_of m (declared_of m sound)) in
    let bits : block.input_widths signals ≡ replicate (length (data_inputs m)) 1 = ap block.input_widths t.signals_are ∙ input_bits m.clock 0 0 m.ports in
    let same = inputs_are_wide m signals inputs widths sound t in
    let few_ports : length m.ports ≤ 65535 = leb-true (length m.ports) 65535 few.0 in
    let few_inputs : length (data_inputs m) ≤ 1024 = leb-true (length (data_inputs m)) 1024 few.1 in
    record {
      numbered = subst (AreNumbered 0 0) (sym t.signals_are) (numbered m.clock 0 0 m.ports);
      inputs = t.inputs_are ∙ sym (ap length bits ∙ length-replicate (length (data_inputs m)) 1);
      registers = t.widths_are ∙ registers_are m.clock 0 0 m.ports ∙ ap block.register_widths (sym t.signals_are);
      clocks = subst (All (λ x. ClockFits x.width x.role)) (sym t.signals_are) (clocks_fit m.clock 0 0 m.ports);
      few = omega (arith, ap length t.signals_are, signal_count m.clock 0 0 m.ports, few_ports);
      few_inputs = omega (arith, t.inputs_are, few_inputs);
      few_bits = omega (arith, ap sum bits, sum_of_ones (length (data_inputs m)), few_inputs);
      keeps = λ row state fit. subst (λ ws. Fit ws (flat_next (design name signals inputs widths nodes actions) row state)) (sym s.widths)
          (s.next row state (subst (λ ws. Fit ws row) same fit.inputs) (subst (λ ws. Fit ws state) s.widths fit.registers)).1;
    }
