-- What a call that writes a text says of it: all of it, or a front and a fault. This project's own.
use Rattle.std.specs.Prelude.{ℕ, List, Option, Result, OnOk}
use Rattle.std.specs.Io.KnownBytes.{Appends}
use Rattle.dt_core.specs.Causes.{HasCause, AppendsPart}
use Rattle.dt_core.specs.declared.fault.Failed.{Failed}

-- where the call succeeds the whole text was appended, else a front of it; the count of faults rose where it failed
pub record Writes (text : List ℕ) (result : Result (Unit {0}) Failed) (old new : Option (List ℕ)) (before now : ℕ)
    : Type 0 where
  pub whole : OnOk result (Appends old new text)
  pub part : AppendsPart old new text
  pub cause : HasCause before now result
