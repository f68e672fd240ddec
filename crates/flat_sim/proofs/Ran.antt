-- A program that ran over a row, and the values that its nodes have.
use Rattle.std.proofs.Common.{◌≡◌, ℕ, ◌+◌, List, length, take, drop, refl, sym, ap, ◌∙◌, subst, arith}
use Rattle.std.specs.Prelude.{map}
use Rattle.netlist.specs.Design.{Flat}
use Rattle.netlist.specs.Fits.{IsWellFormed}
use Rattle.netlist.specs.Order.{IsOrder}
use Rattle.netlist.specs.Laws.{SettlesOnce, ValuesLaw}
use Rattle.netlist.specs.Run.{State}
use Rattle.step_program.specs.Values.{Slots, contents}
use Rattle.step_program.specs.Plan.{IsReady, given_in, ran}
use Rattle.step_program.specs.declared.words.MemoryWords.{MemoryWords}
use Rattle.net_compile.specs.Cycle.{RowFits}
use Rattle.net_compile.specs.Compiles.{Machine, Compiles}
use Rattle.held_state.specs.Slots.{numbers, with_numbers}
use Rattle.held_state.specs.Kept.{AllKept, state_words}
use Rattle.held_state.specs.States.{RegistersFit}
use Rattle.held_state.proofs.Puts.{AllIn}
use Rattle.held_state.proofs.GivenLaws.{given_numbers, all_in, slot_count}
use Rattle.flat_sim.proofs.Settles.{Settled, HasRun, settled}
use Rattle.held_state.proofs.Machines.{PutRow, put_row, in_taken, in_dropped}

abbrev pub state_in : Flat → Machine → List MemoryWords → Slots → State
state_in f m ws x = record {
  registers = numbers x (take (length f.registers) m.front.slots);
  memories = state_words f.memories (map contents ws);
}

-- the program ran over the row: the state stays, and the nodes have the values that settle
pub record RanOver (f : Flat) (m : Machine) (ws : List MemoryWords) (x y : Slots) (row : List ℕ) : Type 0 where
  pub state : numbers y (take (length f.registers) m.front.slots) ≡ numbers x (take (length f.registers) m.front.slots)
  pub inputs : numbers y (drop (length f.registers) m.front.slots) ≡ row
  pub settled : Settled f (state_in f m ws y) row (numbers y m.nodes)

pub ran_over : (f : Flat) (order : List ℕ) (m : Machine) (ws : List MemoryWords) (x y : Slots) (row : List ℕ)
    → SettlesOnce → ValuesLaw → IsWellFormed f → IsOrder f order → Compiles f m → IsReady m.plan x
    → AllKept f.memories ws → RegistersFit f.registers (numbers x (take (length f.registers) m.front.slots))
    → length row ≡ length f.inputs → RowFits f row
    → y ≡ ran m.plan (map contents ws)
    (given_in m.plan (with_numbers x (drop (length f.registers) m.front.slots) row)) → IsReady m.plan y
    → given_in m.plan y ≡ given_in m.plan (with_numbers x (drop (length f.registers) m.front.slots) row)
    → RanOver f m ws x y row
ran_over f order m ws x y row once values fits is c ready kept registers count row_fits ran_is after_ready same =
    let r : ℕ = length f.registers in
    let z : Slots = with_numbers x (drop r m.front.slots) row in
    let all : length m.front.slots ≡ length f.registers + length f.inputs = slot_count f m c in
    let put : PutRow r m x z row = put_row f m x row c ready count in
    let front : AllIn m.plan.narrow m.plan.wide (take r m.front.slots) =
    in_taken m.plan.narrow m.plan.wide m.front.slots r (omega (arith, all)) (all_in f m c) in
    let back : AllIn m.plan.narrow m.plan.wide (drop r m.front.slots) =
    in_dropped m.plan.narrow m.plan.wide m.front.slots r (all_in f m c) in
    let state : numbers y (take r m.front.slots) ≡ numbers x (take r m.front.slots) =
    sym (given_numbers m.plan y (take r m.front.slots) front)
    ∙ ap (λ (g : Slots). numbers g (take r m.front.slots)) same
    ∙ given_numbers m.plan z (take r m.front.slots) front ∙ put.registers in
    let inputs : numbers y (drop r m.front.slots) ≡ row =
    sym (given_numbers m.plan y (drop r m.front.slots) back)
    ∙ ap (λ (g : Slots). numbers g (drop r m.front.slots)) same
    ∙ given_numbers m.plan z (drop r m.front.slots) back ∙ put.inputs in
    let run : HasRun f m ws y (state_in f m ws y) row = record {
      compiles = c;
      ready = after_ready;
      words = kept;
      state = refl;
      inputs = sym inputs;
      registers = subst (λ ns. RegistersFit f.registers ns) (sym state) registers;
      row_fits = row_fits;
      ran = ran_is ∙ ap (λ (g : Slots). ran m.plan (map contents ws) g) (sym same);
    } in
    record {
      state = state;
      inputs = inputs;
      settled = settled f order m ws y (state_in f m ws y) row once values fits is run;
    }
