-- What the functions that read an open file to its end promise each other. This project's own.
use Rattle.std.specs.Prelude.{ℕ, ◌≡◌, ◌<◌, ◌≤◌, List, ◌++◌, length, Option, Result, Ok, Err}
use Rattle.std.specs.Io.KnownBytes.{Consumes, IsAtEnd}
use Rattle.dt_core.specs.Causes.{Rose}
use Rattle.dt_io.specs.declared.outside.LoadFault.{LoadFault}
use Rattle.dt_io.specs.declared.outside.LoadFault.TheVariants as f

-- bytes within the limit were taken
abbrev pub TakesWithin : Option (List ℕ) → Option (List ℕ) → ℕ → Type 0
TakesWithin left after most = (bytes : List ℕ) × Consumes left after bytes × (length bytes ≤ most)

-- bytes past the limit were taken
abbrev pub TakesPast : Option (List ℕ) → Option (List ℕ) → ℕ → Type 0
TakesPast left after most = (bytes : List ℕ) × Consumes left after bytes × (most < length bytes)

-- all that a source had left follows what the vector held; or, after bytes within the limit, the source failed or memory ran
-- out; or the source gave more bytes than the limit
abbrev pub ReadsWhole :
    Option (List ℕ) → Option (List ℕ) → ℕ → ℕ → ℕ → List ℕ → List ℕ → Result (Unit {0}) LoadFault → Type 0
ReadsWhole left after before now most old new (Ok u) =
    (bytes : List ℕ) × (new ≡ old ++ bytes) × (length bytes ≤ most) × Consumes left after bytes × IsAtEnd after
    × (now ≡ before)
ReadsWhole left after before now most old new (Err f.Failed) = TakesWithin left after most × Rose before now
ReadsWhole left after before now most old new (Err f.TooLong) = TakesPast left after most × (now ≡ before)
ReadsWhole left after before now most old new (Err f.Memory) = TakesWithin left after most × (now ≡ before)

-- a file was opened, and read to its end or past the limit, or memory ran out; only a failure needs no open file. `left` is
-- what an open file has left.
abbrev pub ReadsFile : {F : Type 0} → (F → Option (List ℕ)) → ℕ → List ℕ → List ℕ → Result (Unit {0}) LoadFault → Type 0
ReadsFile {F} left most old new (Err f.Failed) = Unit {0}
ReadsFile {F} left most old new result =
    (opened : F) × (closed : F) × ReadsWhole (left opened) (left closed) 0 0 most old new result
