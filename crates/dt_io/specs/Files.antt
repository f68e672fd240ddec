-- What a call that loads a file does. This project's own.
use Rattle.std.specs.Prelude.{ℕ, ◌≡◌, ◌<◌, ◌≤◌, Bool, true, false, IsTrue, List, ◌++◌, length, Option, Some, None, Result, Ok, Err}
use Rattle.dt_core.specs.Causes.{Rose}
use Rattle.dt_io.specs.declared.outside.LoadFault.{LoadFault}
use Rattle.dt_io.specs.declared.outside.LoadFault.TheVariants as f

-- the file is there, and longer than the limit
abbrev pub IsLong : Option (List ℕ) → ℕ → Type 0
IsLong None most = ⊥
IsLong (Some file) most = most < length file

-- the file is there, and within the limit
abbrev pub IsWithin : Option (List ℕ) → ℕ → Type 0
IsWithin None most = ⊥
IsWithin (Some file) most = length file ≤ most

-- the whole file follows what the vector held, or the vector is as before and the refusal has its cause. The count rises for
-- a failed call, and for a long file where contents are not known; else it stays.
abbrev pub Loads : Bool → Option (List ℕ) → ℕ → List ℕ → List ℕ → ℕ → ℕ → Result (Unit {0}) LoadFault → Type 0
Loads told file most old new before now (Ok u) =
    (bytes : List ℕ) × (new ≡ old ++ bytes) × (length bytes ≤ most) × (IsTrue told → file ≡ Some bytes) × (now ≡ before)
Loads told file most old new before now (Err f.Failed) = (new ≡ old) × Rose before now
Loads true file most old new before now (Err f.TooLong) = (new ≡ old) × IsLong file most × (now ≡ before)
Loads false file most old new before now (Err f.TooLong) = (new ≡ old) × Rose before now
Loads told file most old new before now (Err f.Memory) =
    (new ≡ old) × (IsTrue told → IsWithin file most) × (now ≡ before)

-- where every file that is there can be read, a call fails only for a name that has no file
abbrev pub FailsForNone : Bool → Option (List ℕ) → Result (Unit {0}) LoadFault → Type 0
FailsForNone reliable file (Err f.Failed) = IsTrue reliable → file ≡ None
FailsForNone reliable file _ = Unit {0}
