-- What is reported of a design and its run, in the texts of `talk`. This project's own.
use Rattle.std.specs.Prelude.{ℕ, false, List}
use Rattle.flat_ir.specs.Fired.{Fired}
use Rattle.talk.specs.declared.answer.StopLine.{StopLine}
use Rattle.talk.specs.declared.answer.Answer.TheVariants as a
use Rattle.talk.specs.Report.{report_text, fault_text}
use Rattle.stimulus.specs.declared.refusal.Refusal.{Refusal}
use Rattle.stimulus.specs.Refusals.{name_of}
use Rattle.dessert.specs.Sources.{Spot, Origins, spot_in}

-- an assertion that fired, in a scope of this path, at its place in a file of the design; all are `$stop` in today's form of modules
abbrev pub stop_of : List ℕ → Origins → Fired → StopLine
stop_of path o f = record {
  path = path;
  fatal = false;
  file = (spot_in o f.line).file;
  line = (spot_in o f.line).line;
  message = f.message;
}

-- a fault of the design, of this kind, at its place in a file
abbrev pub fault_at : Spot → List ℕ → List ℕ
fault_at s kind = fault_text s.file s.line kind

-- a refused stimulus
abbrev pub refusal_report : Refusal → List ℕ
refusal_report r = report_text (a.Stimulus r.line (name_of r.kind))
