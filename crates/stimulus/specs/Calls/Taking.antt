-- What taking a line, and the lines up to a row, promises. This project's own.
use Rattle.std.specs.Prelude.{◌≡◌, ℕ, ◌+◌, ◌≤◌, ◌&&◌, ◌==◌, Bool, true, false, if◌then◌else◌, nat_lt, List, [], ◌∷◌, ◌++◌, length, Option, Result, Ok, Err}
use Rattle.std.specs.Io.KnownBytes.{Consumes, IsAtEnd}
use Rattle.stimulus.specs.declared.refusal.Input.{Input}
use Rattle.stimulus.specs.declared.refusal.RefusalKind.{RefusalKind}
use Rattle.stimulus.specs.declared.refusal.RefusalKind.TheVariants as k
use Rattle.stimulus.specs.declared.refusal.StimFault.{StimFault}
use Rattle.stimulus.specs.declared.refusal.StimFault.TheVariants as f
use Rattle.stimulus.specs.declared.names.LineFault.{LineFault}
use Rattle.stimulus.specs.declared.names.LineFault.TheVariants as w
use Rattle.stimulus.specs.Stimulus.{stimulus, rows}
use Rattle.stimulus.specs.Reader.{Held, Layout}
use Rattle.stimulus.specs.Reads.{FaultIs, Stands}

-- the fault of line n, counted from 0
abbrev pub refused_at : ℕ → RefusalKind → StimFault
refused_at n kind = f.Refused (record { kind = kind; line = n + 1 })

abbrev pub fault_at : ℕ → LineFault → StimFault
fault_at n (w.Refused kind) = refused_at n kind
fault_at n w.Memory = f.Memory

-- the answer at the source's end, where so many lines were read and these bytes are left
abbrev pub end_of : ℕ → List ℕ → Result Bool StimFault
end_of n rest = if nat_lt 1 n && (length rest == 0) then Ok false else Err (refused_at n k.Truncated)

-- the rows after a line of this number from 0: from line 3 on it is one
abbrev pub rows_after : ℕ → List (List ℕ) → List ℕ → List (List ℕ)
rows_after number given row = if nat_lt 1 number then given ++ row ∷ [] else given

-- the answer to a request for a line
abbrev pub LineIs :
    List Input → ℕ → List (List ℕ) → List ℕ → Layout → Held → Option (List ℕ) → ℕ → ℕ → Result Bool StimFault → Type 0
LineIs inputs number given all layout held left before now (Ok true) =
    Stands inputs (number + 1) layout held all (rows_after number given layout.row) × (now ≡ before)
LineIs inputs number given all layout held left before now (Ok false) =
    (stimulus inputs all ≡ rows given) × IsAtEnd left × (2 ≤ number) × (now ≡ before)
LineIs inputs number given all layout held left before now (Err fault) =
    FaultIs inputs all held.fresh left before now fault

-- whatever was taken and given before
abbrev pub TakesLine :
    List Input → ℕ → Layout → Held → Layout → Held
    → Option (List ℕ) → Option (List ℕ) → ℕ → ℕ → Result Bool StimFault → Type 0
TakesLine inputs number layout held layout' held' left left' before now result =
    (taken : List ℕ) (given : List (List ℕ)) → Stands inputs number layout held taken given
    → (more : List ℕ) × Consumes left left' more
    × LineIs inputs number given (taken ++ more) layout' held' left' before now result

-- the answer to a request for lines 1 and 2: how many lines were read
abbrev pub HeadIs :
    List Input → List (List ℕ) → List ℕ → Layout → Held → Option (List ℕ) → ℕ → ℕ → Result ℕ StimFault → Type 0
HeadIs inputs given all layout held left before now (Ok number) =
    Stands inputs number layout held all given × (2 ≤ number) × (now ≡ before)
HeadIs inputs given all layout held left before now (Err fault) = FaultIs inputs all held.fresh left before now fault

abbrev pub TakesHead :
    List Input → ℕ → Layout → Held → Layout → Held
    → Option (List ℕ) → Option (List ℕ) → ℕ → ℕ → Result ℕ StimFault → Type 0
TakesHead inputs number layout held layout' held' left left' before now result =
    (taken : List ℕ) (given : List (List ℕ)) → Stands inputs number layout held taken given
    → (more : List ℕ) × Consumes left left' more
    × HeadIs inputs given (taken ++ more) layout' held' left' before now result

-- a row was taken, whatever was taken and given before it
abbrev pub TakesRow : ℕ → Layout → Held → Layout → Held → Type 0
TakesRow number layout held layout' held' =
    (inputs : List Input) (taken : List ℕ) (given : List (List ℕ)) → Stands inputs number layout held taken given
    → Stands inputs (number + 1) layout' held' taken (given ++ layout'.row ∷ [])
