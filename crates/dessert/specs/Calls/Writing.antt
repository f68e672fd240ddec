-- What the functions that write promise each other. This project's own.
use Rattle.std.specs.Prelude.{◌≡◌, Bool, true, false, ℕ, List, ◌⊎◌}
use Rattle.std.specs.Io.KnownBytes.{Appends, Keeps}
use Rattle.dt_core.specs.Causes.{Rose, AppendsPart}
use Rattle.dessert.specs.Outside.{SinkAt}
use Rattle.talk.specs.declared.answer.Answer.TheVariants as a
use Rattle.talk.specs.Report.{report_text}
use Rattle.dessert.specs.Answer.{Status, quiet, failure, writing, reporting, memory}

-- the status of a job that is done
abbrev pub done_status : Bool → Status
done_status true = failure
done_status false = quiet

-- nothing was written to a sink, and its count stands
abbrev pub IsLeft : SinkAt → SinkAt → Type 0
IsLeft old new = Keeps old.held new.held × (new.faults ≡ old.faults)

-- a text was written whole, and the count stands
abbrev pub Took : SinkAt → SinkAt → List ℕ → Type 0
Took old new text = Appends old.held new.held text × (new.faults ≡ old.faults)

-- a front of it was written, and the count rose
abbrev pub Broke : SinkAt → SinkAt → List ℕ → Type 0
Broke old new text = Rose old.faults new.faults × AppendsPart old.held new.held text

-- a front of it was written, and the count stands
abbrev pub Stopped : SinkAt → SinkAt → List ℕ → Type 0
Stopped old new text = AppendsPart old.held new.held text × (new.faults ≡ old.faults)

-- the report was written whole, with that status, or a front of it with a fault
abbrev pub Wrote : List ℕ → Status → Status → SinkAt → SinkAt → Type 0
Wrote text status result old new = ((result ≡ status) × Took old new text) ⊎ ((result ≡ reporting) × Broke old new text)

-- the same, or there was no memory before anything was written
abbrev pub Reported : List ℕ → Status → Status → SinkAt → SinkAt → Type 0
Reported text status result old new = ((result ≡ memory) × IsLeft old new) ⊎ Wrote text status result old new

-- `out` was written whole, and then the report, if there was memory for it; or a front of `out` with a fault, and then the line that
-- says so; or a front of `out`, and no more, as there was no memory
abbrev pub Delivered : List ℕ → List ℕ → Status → Status → SinkAt → SinkAt → SinkAt → SinkAt → Type 0
Delivered text report status result out out' old new =
    (Took out out' text × Reported report status result old new)
    ⊎ ((Broke out out' text × Wrote (report_text a.OutputFailed) writing result old new)
    ⊎ ((result ≡ memory) × Stopped out out' text × IsLeft old new))
