-- From a run over all rows of a stimulus to what comes of it by the definition.
use Rattle.std.proofs.Common.{◌≡◌, ◌≢◌, ℕ, zero, suc, ◌+◌, ◌-◌, ◌<◌, ◌≤◌, ◌==◌, Bool, true, false, not, List, [], ◌∷◌, length, map, refl, sym, ap, subst, ◌∙◌, arith, inl, inr}
use Rattle.std.specs.Prelude.{Option, Some, None, is_some, replicate, slice_index_or}
use Rattle.std.specs.Io.KnownBytes.{Consumes, IsAtEnd}
use Rattle.std.proofs.lemmas.Bool.Decides.{nat_tests}
use Rattle.std.proofs.lemmas.List.{length-map}
use Rattle.dt_core.proofs.LeastLaws.{least_none, least_some}
use Rattle.flat_ir.specs.Fired as by_lines
use Rattle.flat_ir.specs.Names.{Fit}
use Rattle.netlist.specs.Design.{Flat}
use Rattle.netlist.specs.Run.{State, Fired, FlatSettles, given, put_driven, all_words}
use Rattle.netlist.specs.Order.{IsOrder, flat_val}
use Rattle.netlist.specs.Values.{Values, node_values}
use Rattle.netlist.specs.declared.design.DrivenPart.{DrivenPart}
use Rattle.design_names.specs.Shown.{signal_at, flat_scope}
use Rattle.design_names.specs.Stops.{flat_stops}
use Rattle.design_names.specs.Variables.{Scope}
use Rattle.design_names.specs.Laws.{StopsAreThere}
use Rattle.one_block.specs.SameDesign.{stop_lines, by_line, fired_by_lines}
use Rattle.vl_tree.specs.Tree.{Module}
use Rattle.vl_meaning.specs.Objects.{data_inputs}
use Rattle.vl_meaning.specs.Faults.{is_sound}
use Rattle.vl_meaning.specs.Run.{fires, first_failure}
use Rattle.vl_meaning.specs.Shown.{scope_of, shown_at}
use Rattle.vl_meaning.proofs.OneBit.{one_bit}
use Rattle.vl_stands.specs.StandsFor.{StandsFor}
use Rattle.vl_stands.specs.Laws.{AllFit, IsRun, SameRun}
use Rattle.vl_stands.proofs.Runs.{runs_are_same}
use Rattle.waveform.specs.Vcd.{vcd_text}
use Rattle.window_run.specs.Over as over
use Rattle.window_run.specs.Window.{from_on, window_start, window_length}
use Rattle.window_run.specs.Progress.{Failure, Progress}
use Rattle.window_run.specs.Ran.{IsFirst, RanTo}
use Rattle.talk.specs.Words.{Job, lag_of}
use Rattle.talk.specs.Report.{failure_text}
use Rattle.stimulus.specs.Stimulus as text
use Rattle.stimulus.specs.Fits.{AreRows}
use Rattle.dessert.specs.Inputs.{inputs_of}
use Rattle.dessert.specs.Reported.{stop_of}
use Rattle.dessert.specs.Outside.{Outside}
use Rattle.dessert.specs.Answer.{Status, done, Ready, Answers}
use Rattle.dessert.specs.Sources.{Origins}
use Rattle.dessert.specs.Steps.{rows_in, HasWindow, AreFew}
use Rattle.dessert.specs.Outcome.{layers, output_of, report_of, Judges}
use Rattle.dessert.specs.Calls.Told.{told_of, TakesBits}
use Rattle.dessert.specs.Calls.Writing.{done_status, Delivered}
use Rattle.dessert.specs.Calls.Written.{ended_by, out_by, text_by, cycles_by, RunIsWritten}
use Rattle.dessert.proofs.Cases.{delivered_answers}
use Rattle.dessert.proofs.InputLaws.{rows_fit_bits}
use Rattle.dessert.proofs.ToldLaws.{all_told}

suc_some : (n : ℕ) → not (suc n == 0) ≡ true
suc_some n = grind (arith, nat_tests)

-- a list that isn't empty has a length other than 0
loud : (l : List Fired) → l ≢ [] → not (length l == 0) ≡ true
loud [] n = absurd (n refl)
loud (x ∷ l) n = suc_some (length l)

-- the same lists, one after another
from_on_same : (g h : ℕ → List ℕ) (k n : ℕ) → ((t : ℕ) → k ≤ t → t < k + n → g t ≡ h t) → from_on g k n ≡ from_on h k n
from_on_same g h k zero s = refl
from_on_same g h k (suc n) s =
    (λ i. s k (omega arith) (omega arith) i ∷ from_on_same g h (suc k) n (λ t a b. s t (omega (arith, a)) (omega (arith, b))) i)

-- the cycle of the first failure
abbrev cycle_by : Option Failure → Option ℕ
cycle_by None = None
cycle_by (Some x) = Some x.cycle

-- whether there is one
abbrev fired_by : Option Failure → Bool
fired_by None = false
fired_by (Some x) = true

fired_is : (o : Option Failure) → fired_by o ≡ is_some (cycle_by o)
fired_is None = refl
fired_is (Some x) = refl

-- where nothing is driven the state and the row settle
settles_there : (f : Flat) (s : State) (row : List ℕ) → f.driven ≡ [] → FlatSettles f s row (flat_val f [] s row)
settles_there f s row none = λ i. record {
  signals = put_driven f.signals (sym none i) (node_values f (flat_val f [] s row)) (given f s row);
  memories = all_words f.memories s.memories;
}

-- and the empty list is the order of its driven parts
pub none_driven : (f : Flat) (order : List ℕ) → order ≡ [] → f.driven ≡ [] → IsOrder f order
none_driven f order none undriven =
    let count : length order ≡ 0 = ap length none in
    let parts : length f.driven ≡ 0 = ap length undriven in
    record {
      count = count ∙ sym parts;
      each = λ p h. absurd (omega (arith, h, parts));
      after = λ i j h l r. absurd (omega (arith, h, count));
    }

module _ (f : Flat) (m : Module) (rows : List (List ℕ)) (s : StandsFor f m) (fit : AllFit m rows) where
  is_run : IsRun f rows (over.state_at f [] rows) (over.values_at f [] rows)
  is_run = record {
    start = refl;
    settles = λ t h. settles_there f (over.state_at f [] rows t) (slice_index_or rows t []) s.undriven;
    next = λ t h. refl;
  }

  same : SameRun f m rows (over.state_at f [] rows) (over.values_at f [] rows)
  same = runs_are_same f m rows (over.state_at f [] rows) (over.values_at f [] rows) s fit is_run

  abbrev lines : List ℕ
  lines = stop_lines (flat_stops f)

  fires_are : (t : ℕ) → t < length rows → fires m rows t ≡ map (by_line lines) (over.fired_at f [] rows t)
  fires_are t h = sym (same.fired t h)

  count_is : (t : ℕ) → t < length rows → length (fires m rows t) ≡ length (over.fired_at f [] rows t)
  count_is t h = ap length (fires_are t h) ∙ length-map (over.fired_at f [] rows t) (by_line lines)

  -- whether something fires in a cycle
  abbrev is_loud : ℕ → Bool
  is_loud t = not (length (fires m rows t) == 0)

  silent : (t : ℕ) → t < length rows → over.fired_at f [] rows t ≡ [] → is_loud t ≡ false
  silent t h e = ap (λ (n : ℕ). not (n == 0)) (count_is t h ∙ ap length e)

  first_by : (o : Option Failure) → IsFirst f [] rows o → cycle_by o ≡ first_failure m rows
  first_by None h = least_none is_loud (length rows) (λ k i. silent k i (h k i))
  first_by (Some x) h =
      least_some is_loud (length rows) x.cycle h.0
      (ap (λ (n : ℕ). not (n == 0)) (count_is x.cycle h.0) ∙ loud (over.fired_at f [] rows x.cycle) (λ e. h.2 (h.1 ∙ e)))
      (λ k i. silent k (omega (arith, i, h.0)) (h.3 k i))

  text_is : StopsAreThere → (lag : ℕ) (origins : Origins) (o : Option Failure) → IsFirst f [] rows o
      → text_by lag f origins (length rows) o ≡ report_of lag (record { top = m; origins = origins }) rows (cycle_by o)
  text_is law lag origins None h = refl
  text_is law lag origins (Some x) h =
      let fired = over.fired_at f [] rows x.cycle in
      let there = law f (over.values_at f [] rows x.cycle) in
      let told : map (told_of f origins) x.fired ≡ map (stop_of m.name origins) (fires m rows x.cycle) =
      ap (map (told_of f origins)) h.1 ∙ all_told f m origins s fired there ∙ ap (map (stop_of m.name origins)) (sym (fires_are x.cycle h.0)) in
      ap (λ stops. failure_text x.cycle stops (window_start lag x.cycle)) told

  out_is : (lag : ℕ) (o : Option Failure) → IsFirst f [] rows o → out_by lag f rows o ≡ output_of lag m rows (cycle_by o)
  out_is lag None h = refl
  out_is lag (Some x) h =
      let first = window_start lag x.cycle in
      let n = window_length lag x.cycle in
      ap (vcd_text (flat_scope f) first)
      (from_on_same (over.shown_at f [] rows) (shown_at m rows) first n (λ t a b. same.shown t (omega (arith, a, b, h.0))))
      ∙ ap (λ (c : Scope). vcd_text c first (from_on (shown_at m rows) first n)) s.scope

  -- what comes of the bytes are the texts of the run
  pub judged : StopsAreThere → (j : Job) (origins : Origins) (bytes : List ℕ) (o : Option Failure) → text.stimulus (inputs_of m) bytes ≡ text.rows rows → IsFirst f [] rows o
      → Judges j (record { top = m; origins = origins }) bytes (done (fired_by o) (out_by (lag_of j) f rows o) (text_by (lag_of j) f origins (length rows) o))
  judged law j origins bytes o i h =
      let e = first_by o h in (
        rows,
        i,
        fired_is o ∙ ap (λ (c : Option ℕ). is_some c) e,
        out_is (lag_of j) o h ∙ ap (output_of (lag_of j) m rows) e,
        text_is law (lag_of j) origins o h ∙ ap (report_of (lag_of j) (record { top = m; origins = origins }) rows) e,
      )

-- each data input of a design that stands for a sound module has one bit
pub takes_bits : (f : Flat) (m : Module) → StandsFor f m → is_sound m ≡ true → TakesBits f
takes_bits f m s sound =
    let count : length (data_inputs m) ≡ length f.inputs = sym (ap length s.inputs) ∙ length-map f.inputs (λ k. (signal_at f k).name) in
    s.widths ∙ one_bit m sound ∙ ap (λ (n : ℕ). replicate n 1) count

-- rows that fit a stimulus's inputs fit those of a module without static fault
pub rows_fit : (m : Module) (rows : List (List ℕ)) → is_sound m ≡ true → AreRows (inputs_of m) rows → AllFit m rows
rows_fit m rows sound a = λ t h.
    subst (λ (ws : List ℕ). Fit ws (slice_index_or rows t [])) (sym (one_bit m sound)) (rows_fit_bits (data_inputs m) rows a t h)

module _ (words : List (List ℕ)) (old new : Outside) (j : Job) (f : Flat) (m : Module) (origins : Origins) (rows : List (List ℕ)) (bytes : List ℕ) (p : Progress)
    (s : StandsFor f m) (sound : is_sound m ≡ true) (r : Ready layers words old new j (record { top = m; origins = origins }))
    (c : Consumes old.source.left new.source.left bytes) (i : text.stimulus (inputs_of m) bytes ≡ text.rows rows) (are : AreRows (inputs_of m) rows)
    (ran : RanTo f [] rows p) where
  status_is : (o : Option Failure) → ended_by o ≡ done_status (fired_by o)
  status_is None = refl
  status_is (Some x) = refl

  -- the texts of a run over the whole input were written, in part or not at all
  pub settled : StopsAreThere → (result : Status) → new.files.faults ≡ old.files.faults → new.source.faults ≡ old.source.faults → IsAtEnd new.source.left
      → RunIsWritten (lag_of j) origins f rows p result old.out new.out old.report new.report → Answers layers words old new result
  settled law result file_count read_count e d =
      let lag = lag_of j in
      let is = judged f m rows s (rows_fit m rows sound are) law j origins bytes p.failure i ran.first in
      let t : text_by lag f origins p.cycles p.failure ≡ text_by lag f origins (length rows) p.failure = ap (λ (n : ℕ). text_by lag f origins n p.failure) ran.taken in
      delivered_answers layers words old new (fired_by p.failure) (out_by lag f rows p.failure) (text_by lag f origins (length rows) p.failure) result
      (record { job = j; the_design = record { top = m; origins = origins }; bytes = bytes; ready = r; taken = c; at_end = e; judged = is }) file_count read_count
      (subst (λ (x : List ℕ). Delivered (out_by lag f rows p.failure) x (done_status (fired_by p.failure)) result old.out new.out old.report new.report) t
      (subst (λ (x : Status). Delivered (out_by lag f rows p.failure) (text_by lag f origins p.cycles p.failure) x result old.out new.out old.report new.report) (status_is p.failure) d))

  few_by : (o : Option Failure) → IsFirst f [] rows o → new.steps ≤ old.steps + (rows_in bytes + cycles_by (lag_of j) o) → AreFew words old new
  few_by None h n = record { bytes = bytes; cycles = 0; taken = c; window = inl refl; few = n }
  few_by (Some x) h n = record {
    bytes = bytes;
    cycles = window_length (lag_of j) x.cycle;
    taken = c;
    window = inr (record {
      job = j;
      the_design = record { top = m; origins = origins };
      rows = rows;
      cycle = x.cycle;
      ready = r;
      are_rows = i;
      first = sym (first_by f m rows s (rows_fit m rows sound are) (Some x) h);
      count = refl;
    });
    few = n;
  }

  -- and few steps were counted
  pub few_settled : (mid : ℕ) → mid ≤ old.steps + rows_in bytes → new.steps ≤ mid + cycles_by (lag_of j) p.failure → AreFew words old new
  few_settled mid a b = few_by p.failure ran.first (omega (arith, a, b))
