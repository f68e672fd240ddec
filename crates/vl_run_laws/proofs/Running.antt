-- A run of a numbered design is the design's, cycle by cycle: each state fits, so what settles is the same and is alone.
use Rattle.std.proofs.Common.{◌≡◌, ℕ, zero, suc, ◌^◌, ◌<◌, ◌≤◌, Bool, true, false, if◌then◌else◌, List, [], ◌∷◌, length, map, refl, sym, ap, subst, ◌∙◌, arith}
use Rattle.std.specs.Prelude.{Some, slice_get, is_some}
use Rattle.std.specs.List.{All}
use Rattle.netlist.specs.Design.{Flat}
use Rattle.netlist.specs.Plain.{PlainMemory}
use Rattle.netlist.specs.Fits.{IsWellFormed, RegisterFits, MemoryFits}
use Rattle.netlist.specs.Order.{IsOrder}
use Rattle.netlist.specs.Values.{Values}
use Rattle.netlist.specs.Run.{State, FlatSettles, flat_start, written_words}
use Rattle.netlist.specs.declared.design.RegisterPart.{RegisterPart}
use Rattle.netlist.proofs.SettlesOnce.{settles_once}
use Rattle.vl_design.specs.Design.{Design}
use Rattle.vl_process.specs.Run.{RowsFit, row_at}
use Rattle.vl_process.specs.Settling.{AllFit, IsVal, Settles}
use Rattle.vl_process.specs.StandsFor.{StandsFor, StateFits, WrittenFit, whole_state}
use Rattle.vl_process.specs.Laws.{IsFlatRun}
use Rattle.vl_store.specs.Stores.{PathsAreDistinct}
use Rattle.vl_run_laws.specs.Given.{InputsAreSignals}
use Rattle.vl_run_laws.specs.Running.{RunningLaw}
use Rattle.vl_run_laws.proofs.Fires.{fires_same}
use Rattle.vl_run_laws.proofs.DrivenBits.{all_at}
use Rattle.vl_run_laws.proofs.Settling.{settling}

-- ---- the first state fits

first_numbers : (ps : List RegisterPart) → ((k : ℕ) (p : RegisterPart) → slice_get ps k ≡ Some p → p.initial < 2 ^ p.range.width)
    → AllFit (map (λ p. p.range.width) ps) (map (λ p. p.initial) ps)
first_numbers [] each = tt
first_numbers (p ∷ ps) each = (each 0 p refl, first_numbers ps (λ k q at. each (suc k) q at))

written_fit : (w : ℕ) (words : List ℕ) (b : Bool) → All (λ n. n < 2 ^ w) words → All (λ n. n < 2 ^ w) (if b then words else [])
written_fit w words true all = all
written_fit w words false all = λ k d l. absurd (omega (arith, l))

first_words : (blocks : ℕ) (ms : List PlainMemory)
    → ((k : ℕ) (m : PlainMemory) → slice_get ms k ≡ Some m → MemoryFits blocks m) → WrittenFit ms (map written_words ms)
first_words blocks [] each = tt
first_words blocks (m ∷ ms) each =
    (refl, written_fit m.width m.words (is_some m.writer) (each 0 m refl).2, first_words blocks ms (λ k n at. each (suc k) n at))

start_fits : (f : Flat) → IsWellFormed f → StateFits f (flat_start f)
start_fits f well = record {
  registers = first_numbers f.registers (λ k p at.
      (all_at (RegisterFits (length f.blocks) f.signals f.nodes) f.registers k p well.parts.registers at).3.1);
  memories = first_words (length f.blocks) f.memories (λ k m at.
      all_at (MemoryFits (length f.blocks)) f.memories k m well.memories.each at);
}

-- ---- each state fits

-- what is known of a run
record Known (f : Flat) (d : Design) (order : List ℕ) (rows : List (List ℕ)) (states : ℕ → State) (values : ℕ → Values) : Type 0 where
  well : IsWellFormed f
  stands : StandsFor f d
  apart : PathsAreDistinct d
  inputs : InputsAreSignals d
  is_order : IsOrder f order
  fit : RowsFit d rows
  run : IsFlatRun f rows states values

settled_in : (f : Flat) (d : Design) (order : List ℕ) (rows : List (List ℕ)) (states : ℕ → State) (values : ℕ → Values) (k : ℕ)
    → Known f d order rows states values → k < length rows → StateFits f (states k)
    → Settles d (whole_state f (states k)) (row_at rows k) (values k)
settled_in f d order rows states values k n l fits =
    (settling f d (states k) (row_at rows k) (values k) n.well n.stands n.apart n.inputs fits (n.fit k l)).0
    (n.run.settled k l)

state_fits : (f : Flat) (d : Design) (order : List ℕ) (rows : List (List ℕ)) (states : ℕ → State) (values : ℕ → Values) (k : ℕ)
    → Known f d order rows states values → k ≤ length rows → StateFits f (states k)
state_fits f d order rows states values zero n l = subst (StateFits f) (sym n.run.start) (start_fits f n.well)
state_fits f d order rows states values (suc k) n l =
    let below : k < length rows = omega (arith, l) in
    let fits = state_fits f d order rows states values k n (omega (arith, l)) in
    subst (StateFits f) (sym (n.run.next_states k below))
    (n.stands.next_state (states k) (row_at rows k) (values k) fits (n.fit k below)
    (settled_in f d order rows states values k n below fits)).1

-- ---- the run

alone_in : (f : Flat) (d : Design) (order : List ℕ) (rows : List (List ℕ)) (states : ℕ → State) (values : ℕ → Values) (k : ℕ)
    → Known f d order rows states values → k < length rows → StateFits f (states k)
    → IsVal d (whole_state f (states k)) (row_at rows k) (values k)
alone_in f d order rows states values k n l fits =
    let once = settles_once f order (states k) (row_at rows k) n.well n.is_order in
    record {
      settles = settled_in f d order rows states values k n l fits;
      alone = λ u h.
          let back : FlatSettles f (states k) (row_at rows k) u =
          (settling f d (states k) (row_at rows k) u n.well n.stands n.apart n.inputs fits (n.fit k l)).1 h in
          once.alone u back ∙ sym (once.alone (values k) (n.run.settled k l));
    }

pub running : RunningLaw
running f d order rows states values well stands apart inputs is_order fit run =
    let n : Known f d order rows states values = record {
      well = well;
      stands = stands;
      apart = apart;
      inputs = inputs;
      is_order = is_order;
      fit = fit;
      run = run;
    } in
    let fits : (k : ℕ) → k < length rows → StateFits f (states k) =
    λ k l. state_fits f d order rows states values k n (omega (arith, l)) in
    record {
      is_run = record {
        start = ap (whole_state f) run.start ∙ stands.start;
        settled = λ k l. alone_in f d order rows states values k n l (fits k l);
        next_states = λ k l. ap (whole_state f) (run.next_states k l)
            ∙ (stands.next_state (states k) (row_at rows k) (values k) (fits k l) (fit k l)
            (settled_in f d order rows states values k n l (fits k l))).0;
      };
      fired = λ k l. fires_same f d (values k) stands (settled_in f d order rows states values k n l (fits k l)).fits;
    }
