-- What reading the names of line 2 promises. This project's own.
use Rattle.std.specs.Prelude.{◌≡◌, ℕ, ◌<◌, true, false, List, length, map, Option, None, Some, Result, Ok, Err}
use Rattle.std.specs.Borrow.{Bor}
use Rattle.stimulus.specs.declared.refusal.RefusalKind.{RefusalKind}
use Rattle.stimulus.specs.declared.names.LineFault.{LineFault}
use Rattle.stimulus.specs.declared.names.LineFault.TheVariants as f
use Rattle.stimulus.specs.Stimulus.{has_name, place_of}

-- the texts that are borrowed
abbrev pub shown : List (Bor (List ℕ)) → List (List ℕ)
shown names = map (λ n. n.now) names

-- the place of a name, where it is among the names
abbrev pub FindsPlace : List (List ℕ) → List ℕ → Option ℕ → Type 0
FindsPlace names name (Some place) =
    (has_name names name ≡ true) × (place ≡ place_of names name) × (place < length names)
FindsPlace names name None = has_name names name ≡ false

-- no fault, or the fault
abbrev pub Judges : {T : Type 0} → Option RefusalKind → (T → Type 0) → Result T LineFault → Type 0
Judges fault P (Ok x) = (fault ≡ None) × P x
Judges fault P (Err (f.Refused kind)) = fault ≡ Some kind
Judges fault P (Err f.Memory) = Unit {0}

-- out of memory only where P holds
abbrev pub OnMemory : {T : Type 0} → Type 0 → Result T LineFault → Type 0
OnMemory P (Err f.Memory) = P
OnMemory P _ = Unit {0}
