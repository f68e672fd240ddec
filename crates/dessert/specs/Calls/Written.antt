-- What is written of a run over all rows, or of a stimulus that was refused or broke off. This project's own.
use Rattle.std.specs.Prelude.{◌≡◌, ℕ, List, [], map, Option, Some, None}
use Rattle.stimulus.specs.declared.refusal.StimFault.{StimFault}
use Rattle.stimulus.specs.declared.refusal.StimFault.TheVariants as s
use Rattle.talk.specs.declared.answer.Answer.TheVariants as a
use Rattle.talk.specs.Report.{report_text, failure_text, quiet_text}
use Rattle.netlist.specs.Design.{Flat}
use Rattle.window_run.specs.Window.{window_start, window_length, window_text}
use Rattle.window_run.specs.Progress.{Failure, Progress}
use Rattle.dessert.specs.Outside.{SinkAt}
use Rattle.dessert.specs.Reported.{refusal_report}
use Rattle.dessert.specs.Answer.{Status, quiet, failure, input, reading, memory}
use Rattle.dessert.specs.Sources.{Origins}
use Rattle.dessert.specs.Calls.Told.{told_of}
use Rattle.dessert.specs.Calls.Writing.{IsLeft, Wrote, Reported, Delivered}

-- the status, the output and the report of a first failure, or of none in so many cycles
abbrev pub ended_by : Option Failure → Status
ended_by (Some x) = failure
ended_by None = quiet

abbrev pub out_by : ℕ → Flat → List (List ℕ) → Option Failure → List ℕ
out_by lag f rows (Some x) = window_text f [] rows lag x.cycle
out_by lag f rows None = []

abbrev pub text_by : ℕ → Flat → Origins → ℕ → Option Failure → List ℕ
text_by lag f o cycles (Some x) = failure_text x.cycle (map (told_of f o) x.fired) (window_start lag x.cycle)
text_by lag f o cycles None = quiet_text cycles

-- the cycles of the window of a first failure; none where there is none
abbrev pub cycles_by : ℕ → Option Failure → ℕ
cycles_by lag (Some x) = window_length lag x.cycle
cycles_by lag None = 0

-- they were written
abbrev pub RunIsWritten : ℕ → Origins → Flat → List (List ℕ) → Progress → Status → SinkAt → SinkAt → SinkAt → SinkAt → Type 0
RunIsWritten lag o f rows p result out out' old new =
    Delivered (out_by lag f rows p.failure) (text_by lag f o p.cycles p.failure) (ended_by p.failure) result out out' old new

-- the report of a run that didn't come to the end of its rows was written, whole or in part; or nothing was, as there was no memory
abbrev pub GivesUp : StimFault → Status → SinkAt → SinkAt → Type 0
GivesUp (s.Refused r) result old new = Reported (refusal_report r) input result old new
GivesUp s.Read result old new = Wrote (report_text a.InputFailed) reading result old new
GivesUp s.Memory result old new = (result ≡ memory) × IsLeft old new
