-- What a call to the outside says of faults, and of the bytes that it took or wrote. This project's own.
use Rattle.std.specs.Prelude.{ℕ, ◌≡◌, ◌+◌, ◌-◌, ◌^◌, ◌≤◌, ◌<◌, ◌↔◌, ◌⊎◌, min, List, length, take, Contains, Result, OnOk, OnErr, IsErr, Option, MatchResult}
use Rattle.std.specs.Io.KnownBytes.{Appends, Keeps}

-- a count of faults rose in a call: it is greater by one, or stands at its last value
abbrev pub Rose : ℕ → ℕ → Type 0
Rose before now = now ≡ min (before + 1) (2 ^ 64 - 1)

-- the count never falls: it stays where the call succeeds, and an error comes only where it rose
pub record HasCause {T E : Type 0} (before now : ℕ) (result : Result T E) : Type 0 where
  pub later : before ≤ now
  pub kept : OnOk result (now ≡ before)
  pub failed : OnErr result (Rose before now)

-- a front of the text was appended
abbrev pub AppendsPart : Option (List ℕ) → Option (List ℕ) → List ℕ → Type 0
AppendsPart old new text = (n : ℕ) × Appends old new (take n text)

-- the first n bytes of the piece were appended, one at least where there is one; after an error nothing was
abbrev pub WriteAppends : {E : Type 0} → Option (List ℕ) → Option (List ℕ) → Result ℕ E → List ℕ → Type 0
WriteAppends old new result piece =
    MatchResult result
    (λ n. Appends old new (take n piece) × (n ≤ length piece) × (0 < length piece → 0 < n))
    (λ _. Keeps old new)

-- the call is one of those that the list names by number, counted from 1
abbrev pub IsNamed : List ℕ → ℕ → Type 0
IsNamed fails calls = Contains fails (calls + 1)

-- an error comes exactly in the calls that the list names
abbrev pub FailsAsNamed : {T E : Type 0} → List ℕ → ℕ → Result T E → Type 0
FailsAsNamed fails calls result = IsErr result ↔ IsNamed fails calls

-- an error comes exactly in the calls that the list names, and in those where P holds
abbrev pub FailsAsNamedOr : {T E : Type 0} → Type 0 → List ℕ → ℕ → Result T E → Type 0
FailsAsNamedOr P fails calls result = IsErr result ↔ (IsNamed fails calls ⊎ P)
