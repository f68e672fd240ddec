-- What is written of a first failure: the waveform of its window, and then the report.
use Rattle.std.proofs.Common.{◌≡◌, ℕ, ◌+◌, ◌≤◌, List, [], map, sym, ap, subst, inl, inr}
use Rattle.std.specs.Prelude.{Option, Some, None, Result, Ok, Err, IsSome, IsSomeAnd, is_some}
use Rattle.design_names.specs.Laws.{StopsAreThere}
use Rattle.netlist.specs.Design.{Flat}
use Rattle.waveform.specs.declared.fault.VcdFault.{VcdFault}
use Rattle.waveform.specs.declared.fault.VcdFault.TheVariants as fault
use Rattle.window_run.specs.Over.{values_at}
use Rattle.window_run.specs.Window.{window_start, window_length, window_text, Waves}
use Rattle.window_run.specs.Progress.{Failure, Progress}
use Rattle.window_run.specs.Ran.{IsFirst, RanTo}
use Rattle.talk.specs.declared.answer.Answer.TheVariants as a
use Rattle.talk.specs.Report.{report_text, failure_text}
use Rattle.dessert.specs.Outside.{SinkAt}
use Rattle.dessert.specs.Answer.{Status, failure, writing, memory}
use Rattle.dessert.specs.Sources.{Origins}
use Rattle.dessert.specs.Calls.Told.{told_of, AreStops}
use Rattle.dessert.specs.Calls.Writing.{IsLeft, Wrote, Reported, Delivered}
use Rattle.dessert.specs.Calls.Written.{ended_by, out_by, text_by, cycles_by, RunIsWritten}

-- there is a first failure
pub is_failed : (o : Option Failure) (x : Failure) → o ≡ Some x → IsSome o
is_failed o x e = ap is_some e

-- the assertions that fired in it have the numbers of stops
pub fired_there : StopsAreThere → (f : Flat) (rows : List (List ℕ)) (p : Progress) (x : Failure) → p.failure ≡ Some x → RanTo f [] rows p → AreStops f x.fired
fired_there law f rows p x e r =
    let first : IsFirst f [] rows (Some x) = subst (IsFirst f [] rows) e r.first in
    subst (AreStops f) (sym first.1) (law f (values_at f [] rows x.cycle))

-- what was written of it is what is written of the run
pub failed_settles : (lag : ℕ) (o : Origins) (f : Flat) (rows : List (List ℕ)) (p : Progress) (x : Failure) (result : Status) (out out' old new : SinkAt) → p.failure ≡ Some x
    → p.lag ≡ lag → Delivered (out_by p.lag f rows p.failure) (failure_text x.cycle (map (told_of f o) x.fired) (window_start lag x.cycle)) failure result out out' old new
    → RunIsWritten lag o f rows p result out out' old new
failed_settles lag o f rows p x result out out' old new e same d =
    let here : Delivered (out_by lag f rows (Some x)) (text_by lag f o p.cycles (Some x)) (ended_by (Some x)) result out out' old new =
    subst (λ (z : ℕ × Option Failure). Delivered (out_by z.0 f rows z.1) (text_by lag f o p.cycles (Some x)) failure result out out' old new) (λ i. (same i, e i)) d in
    subst (λ (y : Option Failure). Delivered (out_by lag f rows y) (text_by lag f o p.cycles y) (ended_by y) result out out' old new) (sym e) here

-- ---- the waveform

-- of a sink, a text was written or a front of it
abbrev pub WavesAt : SinkAt → SinkAt → List ℕ → Result (Unit {0}) VcdFault → Type 0
WavesAt old new text result = Waves old.held new.held old.faults new.faults text result

pub waves_by : (lag : ℕ) (f : Flat) (rows : List (List ℕ)) (o : Option Failure) (old new : SinkAt) (result : Result (Unit {0}) VcdFault)
    → IsSomeAnd o (λ x. WavesAt old new (window_text f [] rows lag x.cycle) result) → WavesAt old new (out_by lag f rows o) result
waves_by lag f rows None old new result w = absurd w
waves_by lag f rows (Some x) old new result w = w

pub steps_by : (lag : ℕ) (o : Option Failure) (before now : ℕ) → IsSomeAnd o (λ x. now ≤ before + window_length lag x.cycle) → now ≤ before + cycles_by lag o
steps_by lag None before now w = absurd w
steps_by lag (Some x) before now w = w

module _ (text report : List ℕ) (result : Status) (out out' old new : SinkAt) where
  -- the waveform was written, and then the report
  pub both_written : WavesAt out out' text (Ok tt) → Reported report failure result old new → Delivered text report failure result out out' old new
  both_written w r = inl (w, r)

  -- a front of the waveform was written, and then the line that says so
  pub wave_failed : WavesAt out out' text (Err fault.Write) → Wrote (report_text a.OutputFailed) writing result old new → Delivered text report failure result out out' old new
  wave_failed w r = inr (inl ((w.1, w.0), r))

  -- a front of the waveform was written, and there was no memory for more
  pub wave_stopped : WavesAt out out' text (Err fault.Memory) → result ≡ memory → IsLeft old new → Delivered text report failure result out out' old new
  wave_stopped w e k = inr (inr (e, w, k))
