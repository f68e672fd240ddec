-- Whole lines at the head of a text. This project's own.
use Rattle.std.specs.Prelude.{◌≡◌, ℕ, suc, ◌==◌, false, List, [], ◌∷◌, ◌++◌, Option, None, All}
use Rattle.stimulus.specs.declared.refusal.RefusalKind.{RefusalKind}

-- no LF is among the bytes
abbrev pub IsPlain : List ℕ → Type 0
IsPlain line = All (λ b. (b == 10) ≡ false) line

-- lines, each ended by LF
abbrev pub text_of : List (List ℕ) → List ℕ
text_of [] = []
text_of (line ∷ lines) = line ++ 10 ∷ text_of lines

abbrev pub ArePlain : List (List ℕ) → Type 0
ArePlain [] = Unit {0}
ArePlain (line ∷ lines) = IsPlain line × ArePlain lines

-- none of the lines from line n on has a fault
abbrev pub HavePassed : (ℕ → List ℕ → Option RefusalKind) → ℕ → List (List ℕ) → Type 0
HavePassed fault n [] = Unit {0}
HavePassed fault n (line ∷ lines) = (fault n line ≡ None) × HavePassed fault (suc n) lines
