-- What a top call answers to words, files and bytes, and the cause of each answer. This project's own.
-- The layers below stand here as one parameter: the words, the accepted designs, and what comes of a design and its input.
use Rattle.std.specs.Prelude.{◌≡◌, ℕ, ◌≤◌, Bool, true, false, IsTrue, List, [], ◌∷◌, ◌++◌, length, take, Some, None, ◌⊎◌}
use Rattle.std.specs.Io.KnownBytes.{Appends, Consumes, IsAtEnd, Keeps}
use Rattle.dt_core.specs.declared.limits.TheConstants.{MAX_FILE}
use Rattle.dt_core.specs.Causes.{Rose, AppendsPart}
use Rattle.dt_io.specs.Files.{IsLong}
use Rattle.dessert.specs.Outside.{FilesAt, Outside}
use Rattle.talk.specs.declared.answer.Answer.TheVariants as a
use Rattle.talk.specs.Report.{report_text}

-- ---- statuses

-- how a call ended
pub data Status : Type 0 where
  quiet : Status
  failure : Status
  usage : Status
  design : Status
  input : Status
  file : Status
  reading : Status
  writing : Status
  reporting : Status
  memory : Status

-- the number that the call answers
abbrev pub number : Status → ℕ
number quiet = 0
number failure = 1
number usage = 2
number design = 3
number input = 4
number file = 5
number reading = 6
number writing = 7
number reporting = 8
number memory = 9

-- ---- the layers below

-- what comes of an input: the job is done, and whether an assertion fired, with the texts of `out` and `report`;
-- or the input is refused, and whether only for being cut short, with the report
pub data Judged : Type 0 where
  done : Bool → List ℕ → List ℕ → Judged
  refused : Bool → List ℕ → Judged

-- the job that words ask for, or the number of the first bad one; the file names of a job, its accepted designs and its refusals over
-- the files' contents; what comes of a design and the bytes read, and the bytes that may go on to an accepted input
pub record Layers : Type 1 where
  pub Job : Type 0
  pub Design : Type 0
  pub Asks : List (List ℕ) → Job → Type 0
  pub IsFirstBad : List (List ℕ) → ℕ → Type 0
  pub files : Job → List (List ℕ)
  pub IsDesign : Job → List (List ℕ) → Design → Type 0
  pub IsRefusal : Job → List (List ℕ) → List ℕ → Type 0
  pub Judges : Job → Design → List ℕ → Judged → Type 0
  pub MayGoOn : Job → Design → List ℕ → Type 0

-- ---- the answer

-- the files of these names hold these contents, where that is known, and each is within the limit
abbrev pub Loaded : FilesAt → List (List ℕ) → List (List ℕ) → Type 0
Loaded shelf [] [] = Unit {0}
Loaded shelf (name ∷ names) (bytes ∷ files) =
    (IsTrue shelf.told → shelf.content name ≡ Some bytes) × (length bytes ≤ MAX_FILE) × Loaded shelf names files
Loaded shelf _ _ = ⊥

-- the load of a file failed: the count rose, and where each file that is there can be read, none has this name
abbrev pub HasFailed : FilesAt → FilesAt → List ℕ → Type 0
HasFailed old new name = Rose old.faults new.faults × (IsTrue old.reliable → old.content name ≡ None)

-- a file is longer than the limit, and the count stands; where contents are not known the count rose
abbrev pub IsTooLong : FilesAt → FilesAt → List ℕ → Type 0
IsTooLong old new name =
    (IsTrue old.told → IsLong (old.content name) MAX_FILE × (new.faults ≡ old.faults))
    × (old.told ≡ false → Rose old.faults new.faults)

module _ (L : Layers) (words : List (List ℕ)) (old new : Outside) where
  -- the words are those of a job
  abbrev pub IsAllowed : Type 0
  IsAllowed = (job : L.Job) × L.Asks words job

  -- the words ask for the job, its files were loaded, and they are the design
  pub record Ready (job : L.Job) (d : L.Design) : Type 0 where
    pub files : List (List ℕ)
    pub asked : L.Asks words job
    pub loaded : Loaded old.files (L.files job) files
    pub accepted : L.IsDesign job files d

  -- status 0 or 1: the job is done on its whole input
  pub record Done (fired : Bool) (out report : List ℕ) : Type 0 where
    pub job : L.Job
    pub the_design : L.Design
    pub bytes : List ℕ
    pub ready : Ready job the_design
    pub taken : Consumes old.source.left new.source.left bytes
    pub at_end : IsAtEnd new.source.left
    pub judged : L.Judges job the_design bytes (done fired out report)

  -- status 2: the words have no allowed form, and the report has the number of the first bad one
  pub record BadWords (report : List ℕ) : Type 0 where
    pub bad_word : ℕ
    pub is_first_bad : L.IsFirstBad words bad_word
    pub report_is : report ≡ report_text (a.Usage bad_word)
    pub untaken : Keeps old.source.left new.source.left

  -- status 3: all files were loaded, and the design is refused
  pub record BadDesign (report : List ℕ) : Type 0 where
    pub job : L.Job
    pub files : List (List ℕ)
    pub asked : L.Asks words job
    pub loaded : Loaded old.files (L.files job) files
    pub refused : L.IsRefusal job files report
    pub untaken : Keeps old.source.left new.source.left

  -- status 4: the bytes taken are refused, and for being cut short only at the input's end
  pub record BadInput (report : List ℕ) : Type 0 where
    pub job : L.Job
    pub the_design : L.Design
    pub bytes : List ℕ
    pub short : Bool
    pub ready : Ready job the_design
    pub taken : Consumes old.source.left new.source.left bytes
    pub at_end : IsTrue short → IsAtEnd new.source.left
    pub judged : L.Judges job the_design bytes (refused short report)

  -- why a file was not loaded, and what is reported of it
  abbrev pub FileCause : List ℕ → List ℕ → Type 0
  FileCause name report =
      (HasFailed old.files new.files name × (report ≡ report_text (a.FileFailed name)))
      ⊎ (IsTooLong old.files new.files name × (report ≡ report_text (a.FileTooLong name)))

  -- status 5: all files before one were loaded, and that one was not
  pub record BadFile (report : List ℕ) : Type 0 where
    pub job : L.Job
    pub before : List (List ℕ)
    pub name : List ℕ
    pub after : List (List ℕ)
    pub files : List (List ℕ)
    pub asked : L.Asks words job
    pub names_are : L.files job ≡ before ++ name ∷ after
    pub loaded : Loaded old.files before files
    pub cause : FileCause name report
    pub untaken : Keeps old.source.left new.source.left

  -- status 6: the source failed, and the bytes taken may go on to an accepted input
  pub record BadRead (report : List ℕ) : Type 0 where
    pub job : L.Job
    pub the_design : L.Design
    pub bytes : List ℕ
    pub ready : Ready job the_design
    pub taken : Consumes old.source.left new.source.left bytes
    pub rose : Rose old.source.faults new.source.faults
    pub may_go_on : L.MayGoOn job the_design bytes
    pub report_is : report ≡ report_text a.InputFailed

  -- status 7: the job is done, and `out` failed after a front of its text
  pub record BadWrite (out report : List ℕ) : Type 0 where
    pub fired : Bool
    pub whole : List ℕ
    pub was : List ℕ
    pub count : ℕ
    pub did : Done fired whole was
    pub rose : Rose old.out.faults new.out.faults
    pub front : out ≡ take count whole
    pub report_is : report ≡ report_text a.OutputFailed

  -- what is due to `out` and to `report` under a status, with its cause
  abbrev pub Due : Status → List ℕ → List ℕ → Type 0
  Due quiet out report = Done false out report
  Due failure out report = Done true out report
  Due usage out report = (out ≡ []) × BadWords report
  Due design out report = (out ≡ []) × BadDesign report
  Due input out report = (out ≡ []) × BadInput report
  Due file out report = (out ≡ []) × BadFile report
  Due reading out report = (out ≡ []) × BadRead report
  Due writing out report = BadWrite out report
  Due reporting out report = ⊥
  Due memory out report = ⊥

  -- the counts of faults of the files, the source and `out` stand, but for that of a status's cause
  abbrev pub FilesStand : Type 0
  FilesStand = new.files.faults ≡ old.files.faults

  abbrev pub SourceStands : Type 0
  SourceStands = new.source.faults ≡ old.source.faults

  abbrev pub OutStands : Type 0
  OutStands = new.out.faults ≡ old.out.faults

  abbrev pub OthersStand : Status → Type 0
  OthersStand file = SourceStands × OutStands
  OthersStand reading = FilesStand × OutStands
  OthersStand writing = FilesStand × SourceStands
  OthersStand _ = FilesStand × SourceStands × OutStands

  -- the answer: what is due, whole, and no count rose but that of its cause; status 8: `out` whole and a front of the report, whose
  -- count rose; status 9: fronts of both or nothing, after allowed words
  abbrev pub Answers : Status → Type 0
  Answers reporting =
      Rose old.report.faults new.report.faults × (was : Status) × (out : List ℕ) × (report : List ℕ) × Due was out report
      × OthersStand was × Appends old.out.held new.out.held out × AppendsPart old.report.held new.report.held report
  Answers memory =
      IsAllowed × (new.report.faults ≡ old.report.faults)
      × ((OthersStand memory × Keeps old.out.held new.out.held × Keeps old.report.held new.report.held)
      ⊎ ((was : Status) × (out : List ℕ) × (report : List ℕ) × Due was out report × OthersStand was
      × AppendsPart old.out.held new.out.held out × AppendsPart old.report.held new.report.held report))
  Answers status =
      (new.report.faults ≡ old.report.faults) × (out : List ℕ) × (report : List ℕ) × Due status out report × OthersStand status
      × Appends old.out.held new.out.held out × Appends old.report.held new.report.held report
