-- What comes of a job and bytes: the files are a module with one clocked block, the stimulus is run to its end, and the window of the
-- first failure is written. This project's own.
use Rattle.std.specs.Prelude.{◌≡◌, ℕ, List, [], codes, length, map, Option, Some, None, is_some, ◌⊎◌}
use Rattle.talk.specs.declared.answer.Answer.TheVariants as a
use Rattle.talk.specs.Words.{Job, Asks, IsFirstBad}
use Rattle.talk.specs.Report.{report_text, failure_text, quiet_text}
use Rattle.stimulus.specs.declared.refusal.Refusal.{Refusal}
use Rattle.stimulus.specs.Refusals.{is_truncated}
use Rattle.stimulus.specs.Stimulus as text
use Rattle.vl_tree.specs.Fault.{name_of}
use Rattle.vl_tree.specs.Tree.{Module}
use Rattle.vl_meaning.specs.Run.{fires, first_failure}
use Rattle.vl_meaning.specs.Shown.{scope_of, shown_at}
use Rattle.vl_front.specs.Spelled.{Fault}
use Rattle.vl_front.specs.FirstFault.{HasFirst}
use Rattle.vl_front.specs.Top.{HasNoTop}
use Rattle.vl_front.specs.OneModule.{IsDesign, IsNoDesign}
use Rattle.waveform.specs.Vcd.{vcd_text}
use Rattle.window_run.specs.Window.{window_start, window_length, from_on}
use Rattle.talk.specs.Words.{lag_of, top_of, files_of}
use Rattle.dessert.specs.Inputs.{inputs_of}
use Rattle.dessert.specs.Reported.{stop_of, fault_at, refusal_report}
use Rattle.dessert.specs.Answer.{Judged, done, refused, Layers}
use Rattle.dessert.specs.Sources.{design_text, Origins, origins_of, spot_in}

-- ---- the design

-- an accepted design: its module, and its files
pub record Design : Type 0 where
  pub top : Module
  pub origins : Origins

-- the files are the design's
pub record AreDesign (j : Job) (files : List (List ℕ)) (d : Design) : Type 0 where
  pub is_design : IsDesign (design_text files) (top_of j) d.top
  pub origins : d.origins ≡ origins_of (files_of j) files

-- the report of files that are no design: their text has a fault of the first three phases, or no top, or it is no module's
abbrev pub AreRefused : Job → List (List ℕ) → List ℕ → Type 0
AreRefused j files report =
    let spot = spot_in (origins_of (files_of j) files) in
    ((f : Fault) × HasFirst (design_text files) f × (report ≡ fault_at (spot f.line) (name_of f.kind)))
    ⊎ (((line : ℕ) × HasNoTop (design_text files) (top_of j) line × (report ≡ fault_at (spot line) (codes "NoTop")))
    ⊎ (IsNoDesign (design_text files) (top_of j) × (report ≡ report_text a.NotYetBuilt)))

-- ---- the run

-- the waveform of n cycles from `first` on
abbrev pub wave_of : Module → List (List ℕ) → ℕ → ℕ → List ℕ
wave_of m rows first n = vcd_text (scope_of m) first (from_on (shown_at m rows) first n)

-- the output of rows by the first failure in them, if there is one: the waveform of its window
abbrev pub output_of : ℕ → Module → List (List ℕ) → Option ℕ → List ℕ
output_of lag m rows (Some c) = wave_of m rows (window_start lag c) (window_length lag c)
output_of lag m rows None = []

-- the report of rows, in which each assertion stands in the top, whose path is its module's name, by the first failure in them, if there is one
abbrev pub report_of : ℕ → Design → List (List ℕ) → Option ℕ → List ℕ
report_of lag d rows (Some c) = failure_text c (map (stop_of d.top.name d.origins) (fires d.top rows c)) (window_start lag c)
report_of lag d rows None = quiet_text (length rows)

-- what comes of the bytes: they are rows, and the texts are those of their run; or they are refused, on this line
abbrev pub Judges : Job → Design → List ℕ → Judged → Type 0
Judges j d bytes (done fired out report) =
    (rows : List (List ℕ)) × (text.stimulus (inputs_of d.top) bytes ≡ text.rows rows)
    × (fired ≡ is_some (first_failure d.top rows))
    × (out ≡ output_of (lag_of j) d.top rows (first_failure d.top rows))
    × (report ≡ report_of (lag_of j) d rows (first_failure d.top rows))
Judges j d bytes (refused short report) =
    (r : Refusal) × (text.stimulus (inputs_of d.top) bytes ≡ text.refused r)
    × (short ≡ is_truncated r.kind) × (report ≡ refusal_report r)

-- ---- all of it

-- the layers, as the answer takes them
abbrev pub layers : Layers
layers = record {
  Job = Job;
  Design = Design;
  Asks = Asks;
  IsFirstBad = IsFirstBad;
  files = files_of;
  IsDesign = AreDesign;
  IsRefusal = AreRefused;
  Judges = Judges;
  MayGoOn = λ j d bytes. text.MayGoOn (inputs_of d.top) bytes;
}
