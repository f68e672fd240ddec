-- What a call of the writer does to the sink. This project's own.
use Rattle.std.specs.Prelude.{◌≡◌, ℕ, ◌≤◌, List, [], ◌∷◌, ◌++◌, Option, Result, OnOk, IfErr}
use Rattle.std.specs.Io.KnownBytes.{Appends, Keeps}
use Rattle.dt_core.specs.Causes.{Rose, AppendsPart}
use Rattle.design_names.specs.Variables.{Scope}
use Rattle.waveform.specs.Vcd.{vcd_text}
use Rattle.waveform.specs.declared.fault.VcdFault.{VcdFault}
use Rattle.waveform.specs.declared.fault.VcdFault.TheVariants as fault

-- a fault of the sink comes only where its count rose; out of memory is answered before anything is written
abbrev pub VcdCause : Option (List ℕ) → Option (List ℕ) → ℕ → ℕ → VcdFault → Type 0
VcdCause old new before now fault.Write = Rose before now
VcdCause old new before now fault.Memory = Keeps old new × (now ≡ before)

-- a text was written: whole and with the count of faults as before where the call answers Ok, in any case a front of it, and
-- a refusal has its cause
pub record WritesText (old new : Option (List ℕ)) (before now : ℕ) (text : List ℕ)
    (result : Result (Unit {0}) VcdFault) : Type 0 where
  pub whole : OnOk result (Appends old new text)
  pub kept : OnOk result (now ≡ before)
  pub part : AppendsPart old new text
  pub later : before ≤ now
  pub cause : IfErr result (λ e. VcdCause old new before now e)

-- the text of a window with one cycle more is the text before followed by a piece, and the piece was written, whole or a front
-- of it
pub record WritesCycle (top : Scope) (first : ℕ) (cycles : List (List ℕ)) (shown : List ℕ)
    (old new : Option (List ℕ)) (before now : ℕ) (result : Result (Unit {0}) VcdFault) : Type 0 where
  pub piece : List ℕ
  pub grows : vcd_text top first (cycles ++ shown ∷ []) ≡ vcd_text top first cycles ++ piece
  pub writes : WritesText old new before now piece result
