-- A run of a design that stands for a module is the module's, by induction on the cycle.
use Rattle.std.proofs.Common.{◌≡◌, ℕ, zero, suc, ◌<◌, ◌≤◌, List, [], length, sym, ap, subst, ◌∙◌, arith}
use Rattle.std.specs.Prelude.{slice_index_or}
use Rattle.netlist.specs.Design.{Flat}
use Rattle.netlist.specs.Run.{State, flat_next}
use Rattle.netlist.specs.Values as netlist
use Rattle.design_names.specs.Shown.{flat_shown}
use Rattle.one_block.specs.SameDesign.{fired_by_lines}
use Rattle.vl_tree.specs.Tree.{Module}
use Rattle.vl_meaning.specs.Run.{next, state, fired, fires}
use Rattle.vl_meaning.specs.Shown.{shown, shown_at}
use Rattle.vl_stands.specs.StandsFor.{StandsFor, SameCycle, StateFits, by_names}
use Rattle.vl_stands.specs.Laws.{AllFit, IsRun, RunsAreSame}

module _ (f : Flat) (m : Module) (rows : List (List ℕ)) (states : ℕ → State) (values : ℕ → netlist.Values) (s : StandsFor f m) (fit : AllFit m rows)
    (run : IsRun f rows states values) where
  abbrev row_at : ℕ → List ℕ
  row_at t = slice_index_or rows t []

  -- the state of a cycle is the module's
  abbrev IsSame : ℕ → Type 0
  IsSame t = (by_names m (states t) ≡ state m rows t) × StateFits m (states t)

  cycle_at : (t : ℕ) → t < length rows → IsSame t → SameCycle f m (row_at t) (states t)
  cycle_at t l i = s.cycle (row_at t) (states t) (fit t l) i.1

  -- what settled in it is what settles there
  settled_at : (t : ℕ) (l : t < length rows) (i : IsSame t) → values t ≡ (cycle_at t l i).values
  settled_at t l i = (cycle_at t l i).alone (values t) (run.settles t l)

  next_same : (t : ℕ) → t < length rows → IsSame t → IsSame (suc t)
  next_same t l i =
      let c = cycle_at t l i in
      let after : states (suc t) ≡ flat_next f (states t) c.values = run.next t l ∙ ap (flat_next f (states t)) (settled_at t l i) in
      (ap (by_names m) after ∙ c.next ∙ ap (next m (row_at t)) i.0, subst (StateFits m) (sym after) c.next_fits)

  same_at : (t : ℕ) → t ≤ length rows → IsSame t
  same_at zero h = (ap (by_names m) run.start ∙ s.start, subst (StateFits m) (sym run.start) s.start_fits)
  same_at (suc t) h = next_same t (omega (arith, h)) (same_at t (omega (arith, h)))

  shown_same : (t : ℕ) → t < length rows → flat_shown f (values t) ≡ shown_at m rows t
  shown_same t l =
      let i = same_at t (omega (arith, l)) in
      ap (flat_shown f) (settled_at t l i) ∙ (cycle_at t l i).shown ∙ ap (shown m (row_at t)) i.0

  fired_same : (t : ℕ) → t < length rows → fired_by_lines f (values t) ≡ fires m rows t
  fired_same t l =
      let i = same_at t (omega (arith, l)) in
      ap (fired_by_lines f) (settled_at t l i) ∙ (cycle_at t l i).fired ∙ ap (fired m (row_at t)) i.0

pub runs_are_same : RunsAreSame
runs_are_same f m rows states values s fit run = record {
  stands = same_at f m rows states values s fit run;
  shown = shown_same f m rows states values s fit run;
  fired = fired_same f m rows states values s fit run;
}
