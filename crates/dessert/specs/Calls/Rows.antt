-- What a run over all rows of a source answers. This project's own.
use Rattle.std.specs.Prelude.{◌≡◌, ℕ, ◌+◌, ◌≤◌, List, [], Result, Ok, Err}
use Rattle.std.specs.Io.KnownBytes.{Consumes, IsAtEnd}
use Rattle.dt_core.specs.Causes.{Rose}
use Rattle.netlist.specs.Design.{Flat}
use Rattle.stimulus.specs.declared.refusal.Input.{Input}
use Rattle.stimulus.specs.declared.refusal.RefusalKind.TheVariants as k
use Rattle.stimulus.specs.declared.refusal.StimFault.{StimFault}
use Rattle.stimulus.specs.declared.refusal.StimFault.TheVariants as s
use Rattle.stimulus.specs.Stimulus as text
use Rattle.stimulus.specs.Fits.{AreRows}
use Rattle.window_run.specs.Progress.{Progress}
use Rattle.window_run.specs.Ran.{RanTo}
use Rattle.dessert.specs.Outside.{SourceAt}
use Rattle.dessert.specs.Steps.{rows_in}

-- a run over all rows of a source, of a design in which nothing is driven: it has come to its end, at one step for each row
-- at most; or the bytes taken are refused; or the source failed, where they may go on
abbrev pub RanAll : Flat → List Input → SourceAt → SourceAt → ℕ → ℕ → Progress → Result (Unit {0}) StimFault → Type 0
RanAll flat inputs old new before now p (Ok u) =
    (new.faults ≡ old.faults) × (rows : List (List ℕ)) × (bytes : List ℕ) × Consumes old.left new.left bytes × IsAtEnd new.left
    × (text.stimulus inputs bytes ≡ text.rows rows) × AreRows inputs rows × RanTo flat [] rows p
    × (now ≤ before + rows_in bytes)
RanAll flat inputs old new before now p (Err (s.Refused r)) =
    (new.faults ≡ old.faults) × (bytes : List ℕ) × Consumes old.left new.left bytes
    × (text.stimulus inputs bytes ≡ text.refused r) × (r.kind ≡ k.Truncated → IsAtEnd new.left)
RanAll flat inputs old new before now p (Err s.Read) =
    Rose old.faults new.faults × (bytes : List ℕ) × Consumes old.left new.left bytes × text.MayGoOn inputs bytes
RanAll flat inputs old new before now p (Err s.Memory) = new.faults ≡ old.faults

-- at most one step for each row of the bytes that were read
pub record StepsEach (old new : SourceAt) (before now : ℕ) : Type 0 where
  pub bytes : List ℕ
  pub taken : Consumes old.left new.left bytes
  pub few : now ≤ before + rows_in bytes
