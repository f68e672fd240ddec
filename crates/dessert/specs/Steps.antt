-- How many steps a call counts: one for each row that it reads, and one for each cycle of the window that it writes. This
-- project's own.
use Rattle.std.specs.Prelude.{◌≡◌, ℕ, ◌+◌, ◌-◌, ◌==◌, ◌≤◌, ◌⊎◌, List, Some}
use Rattle.std.specs.List.{count_by}
use Rattle.std.specs.Io.KnownBytes.{Consumes}
use Rattle.talk.specs.Words.{Job, lag_of}
use Rattle.stimulus.specs.Stimulus as text
use Rattle.vl_meaning.specs.Run.{first_failure}
use Rattle.window_run.specs.Window.{window_length}
use Rattle.dessert.specs.Outside.{Outside}
use Rattle.dessert.specs.Answer.{Ready}
use Rattle.dessert.specs.Inputs.{inputs_of}
use Rattle.dessert.specs.Outcome.{Design, layers}

-- how many rows stand in the bytes of a stimulus: its lines after the two of the header
abbrev pub rows_in : List ℕ → ℕ
rows_in bytes = count_by (λ b. b == 10) bytes - 2

-- the words ask for a job, its files are a design, the bytes are rows, and the window of the first failure in them has so
-- many cycles
pub record HasWindow (words : List (List ℕ)) (old new : Outside) (bytes : List ℕ) (cycles : ℕ) : Type 0 where
  pub job : Job
  pub the_design : Design
  pub rows : List (List ℕ)
  pub cycle : ℕ
  pub ready : Ready layers words old new job the_design
  pub are_rows : text.stimulus (inputs_of the_design.top) bytes ≡ text.rows rows
  pub first : first_failure the_design.top rows ≡ Some cycle
  pub count : cycles ≡ window_length (lag_of job) cycle

-- the steps of a call: at most one for each row in the bytes that it read, and one for each cycle of the window, where there
-- is one
pub record AreFew (words : List (List ℕ)) (old new : Outside) : Type 0 where
  pub bytes : List ℕ
  pub cycles : ℕ
  pub taken : Consumes old.source.left new.source.left bytes
  pub window : (cycles ≡ 0) ⊎ HasWindow words old new bytes cycles
  pub few : new.steps ≤ old.steps + (rows_in bytes + cycles)
