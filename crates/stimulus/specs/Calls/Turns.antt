-- What filling the buffer and finding the next line promise. This project's own.
use Rattle.std.specs.Prelude.{◌≡◌, ℕ, ◌+◌, ◌<◌, ◌≤◌, ◌⊎◌, Bool, true, false, List, [], ◌∷◌, ◌++◌, length, take, drop, Option, Result, Ok, Err}
use Rattle.std.specs.Io.KnownBytes.{IsAtEnd}
use Rattle.stimulus.specs.declared.refusal.TheConstants.{MAX_LINE}
use Rattle.stimulus.specs.declared.lines.Line.{Line}
use Rattle.stimulus.specs.declared.lines.Line.TheVariants as l
use Rattle.stimulus.specs.Lines.{IsPlain}
use Rattle.stimulus.specs.Reader.{Held}

-- the answer of a call to the source that gave more bytes: some; none, as nothing is left; or none, as it failed
abbrev pub Fills : {E : Type 0} → Held → Held → List ℕ → Option (List ℕ) → Result Bool E → Type 0
Fills old new more left (Ok true) = (new.bytes ≡ old.bytes ++ more) × (new.fresh ≡ length more) × (0 < length more)
Fills old new more left (Ok false) = (new.bytes ≡ old.bytes) × (new.fresh ≡ 0) × (more ≡ []) × IsAtEnd left
Fills old new more left (Err e) = (new.bytes ≡ old.bytes) × (new.fresh ≡ old.fresh) × (more ≡ [])

-- bytes without an LF, and no more than a line may have
abbrev pub IsOpenLine : List ℕ → Type 0
IsOpenLine bytes = IsPlain bytes × (length bytes ≤ MAX_LINE)

-- what was held before the last call is an open line
pub record WasOpen (held : Held) : Type 0 where
  pub front : List ℕ
  pub last : List ℕ
  pub bytes : held.bytes ≡ front ++ last
  pub size : length last ≡ held.fresh
  pub is_open : IsOpenLine front

-- nothing was taken, or what was held before the last call is an open line
abbrev pub IsInTime : Held → Held → Type 0
IsInTime old new = ((new.bytes ≡ old.bytes) × (new.fresh ≡ old.fresh)) ⊎ WasOpen new

-- a line and its LF stand at the head of the bytes
pub record HasLine (bytes : List ℕ) (n : ℕ) : Type 0 where
  pub within : n < length bytes
  pub line : bytes ≡ take n bytes ++ 10 ∷ drop (n + 1) bytes
  pub plain : IsPlain (take n bytes)

-- what stands at the head of the bytes
abbrev pub Finds : {E : Type 0} → List ℕ → Option (List ℕ) → Result Line E → Type 0
Finds bytes left (Ok (l.Ended n)) = HasLine bytes n
Finds bytes left (Ok l.Long) = IsPlain bytes × (MAX_LINE < length bytes)
Finds bytes left (Ok l.Last) = IsOpenLine bytes × IsAtEnd left
Finds bytes left (Err e) = IsOpenLine bytes
