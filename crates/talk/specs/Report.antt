-- The report's texts, one for each case, as bytes. Every line ends with LF. This project's own.
use Rattle.std.specs.Prelude.{ℕ, ◌==◌, Bool, if◌then◌else◌, List, [], ◌∷◌, ◌++◌, codes, decimal, length, slice_index}
use Rattle.talk.specs.declared.answer.StopLine.{StopLine}
use Rattle.talk.specs.declared.answer.LoopLine.{LoopLine}
use Rattle.talk.specs.declared.answer.Answer.{Answer}
use Rattle.talk.specs.declared.answer.Answer.TheVariants as a

-- ---- lines

-- a number between two texts
abbrev pub counted : List ℕ → ℕ → List ℕ → List ℕ
counted before number after = before ++ (decimal number ++ after)

-- a text, and the first and the last of some cycles
abbrev pub span : List ℕ → ℕ → ℕ → List ℕ
span before first last = before ++ (decimal first ++ (codes " to " ++ (decimal last ++ codes "\n")))

-- ---- a failure

-- what ends a message: nothing where it is empty or ends with LF, else LF
abbrev pub line_end : List ℕ → List ℕ
line_end [] = []
line_end (b ∷ bs) = if slice_index (b ∷ bs) (length bs) == 10 then [] else codes "\n"

-- the first words of a stop's line
abbrev pub stop_word : Bool → List ℕ
stop_word fatal = if fatal then codes "fatal in " else codes "stop in "

-- where a stop stands: `stop in PATH at FILE:LINE`
abbrev pub place_text : StopLine → List ℕ
place_text s = stop_word s.fatal ++ (s.path ++ (codes " at " ++ (s.file ++ counted (codes ":") s.line (codes "\n"))))

-- a stop's line, and its message
abbrev pub stop_text : StopLine → List ℕ
stop_text s = place_text s ++ (s.message ++ line_end s.message)

abbrev pub stops_text : List StopLine → List ℕ
stops_text [] = []
stops_text (s ∷ stops) = stop_text s ++ stops_text stops

-- the window, from its first cycle to that of the failure
abbrev pub window_text : ℕ → ℕ → List ℕ
window_text first cycle = span (codes "window ") first cycle

-- a failure in a cycle: its stops, and the window from `first` to it
abbrev pub failure_text : ℕ → List StopLine → ℕ → List ℕ
failure_text cycle stops first =
    counted (codes "failure at cycle ") cycle (codes "\n") ++ (stops_text stops ++ window_text first cycle)

-- ---- no failure

-- in so many cycles: `no failure in N cycles`
abbrev pub quiet_text : ℕ → List ℕ
quiet_text cycles = counted (codes "no failure in ") cycles (codes " cycles\n")

-- in the cycles of a window: `no failure in cycles F to T`
abbrev pub quiet_span_text : ℕ → ℕ → List ℕ
quiet_span_text first last = span (codes "no failure in cycles ") first last

-- ---- a refusal

-- words with a bad one: `usage: word N`
abbrev pub usage_text : ℕ → List ℕ
usage_text number = counted (codes "usage: word ") number (codes "\n")

-- a driven part on a loop: `loop PATH PLACE WIDTH`
abbrev pub loop_text : LoopLine → List ℕ
loop_text p =
    codes "loop " ++ (p.path ++ (codes " " ++ (decimal p.place ++ (codes " " ++ (decimal p.width ++ codes "\n")))))

abbrev pub loops_text : List LoopLine → List ℕ
loops_text [] = []
loops_text (p ∷ parts) = loop_text p ++ loops_text parts

-- a fault of the design: `design: FILE:LINE: KIND`
abbrev pub fault_text : List ℕ → ℕ → List ℕ → List ℕ
fault_text file line kind =
    codes "design: " ++ (file ++ (codes ":" ++ (decimal line ++ (codes ": " ++ (kind ++ codes "\n")))))

-- a refused input: `stimulus: line N: KIND` or `image: line N: KIND`
abbrev pub refused_text : List ℕ → ℕ → List ℕ → List ℕ
refused_text before line kind = before ++ (decimal line ++ (codes ": " ++ (kind ++ codes "\n")))

-- what is said of a file
abbrev pub file_text : List ℕ → List ℕ → List ℕ
file_text name what = codes "file " ++ (name ++ what)

-- ---- all cases

-- the report of an answer
abbrev pub report_text : Answer → List ℕ
report_text (a.Failure cycle stops first) = failure_text cycle stops.items first
report_text (a.NoFailure cycles) = quiet_text cycles
report_text (a.NoFailureIn first last) = quiet_span_text first last
report_text (a.Usage number) = usage_text number
report_text (a.Design file line kind parts) = fault_text file line kind ++ loops_text parts.items
report_text a.NotYetBuilt = codes "design: NotYetBuilt\n"
report_text (a.Stimulus line kind) = refused_text (codes "stimulus: line ") line kind
report_text (a.Image line kind) = refused_text (codes "image: line ") line kind
report_text (a.FileFailed name) = file_text name (codes ": failed\n")
report_text (a.FileTooLong name) = file_text name (codes ": too long\n")
report_text a.InputFailed = codes "input: read failed\n"
report_text a.OutputFailed = codes "output: write failed\n"
