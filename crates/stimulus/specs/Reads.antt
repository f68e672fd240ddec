-- What a reader of a stimulus has read, and its answer to a request for a row. This project's own.
use Rattle.std.specs.Prelude.{◌≡◌, ℕ, ◌≤◌, Bool, true, false, List, [], ◌∷◌, ◌++◌, length, map, drop, Option, Result, Ok, Err}
use Rattle.std.specs.Io.KnownBytes.{IsAtEnd}
use Rattle.dt_core.specs.Causes.{Rose}
use Rattle.stimulus.specs.declared.refusal.Input.{Input}
use Rattle.stimulus.specs.declared.refusal.RefusalKind.TheVariants as k
use Rattle.stimulus.specs.declared.refusal.StimFault.{StimFault}
use Rattle.stimulus.specs.declared.refusal.StimFault.TheVariants as f
use Rattle.stimulus.specs.Stimulus.{stimulus, rows, refused, names_of, second, line_fault, row_of, MayGoOn}
use Rattle.stimulus.specs.Lines.{text_of, ArePlain, HavePassed}
use Rattle.stimulus.specs.Reader.{Held, Layout, Reader}
use Rattle.stimulus.specs.Calls.Judging.{IsLayout}

-- what was taken before the last call to the source that gave bytes was accepted, or refused with nothing but Truncated; so nothing was
-- taken after the bytes among which the first refusal stands
pub record InTime (inputs : List Input) (taken : List ℕ) (fresh : ℕ) : Type 0 where
  pub front : List ℕ
  pub last : List ℕ
  pub bytes : taken ≡ front ++ last
  pub size : length last ≡ fresh
  pub may : MayGoOn inputs front

-- of all bytes that were taken so many lines were passed over, none of them has a fault, and these are their rows; the rest is held
pub record Stands (inputs : List Input) (number : ℕ) (layout : Layout) (held : Held) (taken : List ℕ) (given : List (List ℕ)) : Type 0 where
  pub lines : List (List ℕ)
  pub count : length lines ≡ number
  pub bytes : taken ≡ text_of lines ++ held.bytes
  pub plain : ArePlain lines
  pub passed : HavePassed (line_fault inputs (names_of (second lines))) 0 lines
  pub are_rows : given ≡ map (row_of inputs (names_of (second lines))) (drop 2 lines)
  pub layout_is : 2 ≤ number → IsLayout inputs (names_of (second lines)) layout
  pub time : InTime inputs taken held.fresh

-- a reader has taken these bytes and given these rows
abbrev pub Reads : Reader → List ℕ → List (List ℕ) → Type 0
Reads reader taken given = Stands reader.inputs reader.number reader.layout reader.held taken given

-- why nothing was given, where `all` is what was taken from the source so far, `left` what is left of it, and its count of faults was
-- `before` and is `now`: that rose only where the source failed; `fresh` counts the bytes of the last call that gave some
abbrev pub FaultIs : List Input → List ℕ → ℕ → Option (List ℕ) → ℕ → ℕ → StimFault → Type 0
FaultIs inputs all fresh left before now (f.Refused r) =
    (stimulus inputs all ≡ refused r) × InTime inputs all fresh × (r.kind ≡ k.Truncated → IsAtEnd left) × (now ≡ before)
FaultIs inputs all fresh left before now f.Read = Rose before now × MayGoOn inputs all
FaultIs inputs all fresh left before now f.Memory = now ≡ before

-- the answer to a request for a row: one more row; or the end of a text that is accepted whole; or a fault
abbrev pub RowIs : List (List ℕ) → List ℕ → Reader → Option (List ℕ) → ℕ → ℕ → Result Bool StimFault → Type 0
RowIs given all reader left before now (Ok true) =
    Reads reader all (given ++ reader.layout.row ∷ []) × (2 ≤ reader.number) × (now ≡ before)
RowIs given all reader left before now (Ok false) =
    (stimulus reader.inputs all ≡ rows given) × IsAtEnd left × (now ≡ before)
RowIs given all reader left before now (Err fault) = FaultIs reader.inputs all reader.held.fresh left before now fault
