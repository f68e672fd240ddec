-- Strings: their spellings and the bytes that they stand for (IEEE 1364-2005, 3.6 and 3.6.3).
use Rattle.std.specs.Prelude.{ℕ, zero, suc, ◌+◌, ◌==◌, nat_le, Bool, ◌||◌, if◌then◌else◌, List, [], ◌∷◌, take, drop, length, Option, Some, None, Result, Ok, Err}
use Rattle.std.specs.List.{prefix_len}
use Rattle.vl_pre.specs.Bytes.{between, ends_line}
use Rattle.vl_tree.specs.declared.fault.FaultKind.{FaultKind}
use Rattle.vl_tree.specs.declared.fault.FaultKind.TheVariants.{BadToken, OpenString}
use Rattle.vl_lex.specs.Digits.{value_of}

-- `0` to `7`
abbrev pub is_octal : ℕ → Bool
is_octal = between 48 55

-- an octal escape of so many digits, one at least, up to 377
abbrev pub octal_digits : ℕ → List ℕ → Option (ℕ × ℕ)
octal_digits n bs = let b = value_of 8 (take n bs) in
    if n == 0 || nat_le 256 b then None else Some (b, n)

-- an octal escape: the digits at the head, three at most
abbrev pub octal_escape : List ℕ → Option (ℕ × ℕ)
octal_escape bs = octal_digits (prefix_len is_octal (take 3 bs)) bs

-- the byte of the escape whose backslash stands before these bytes, and how many of them it has
abbrev pub escape : List ℕ → Option (ℕ × ℕ)
escape [] = None
escape (b ∷ bs) =
    if b == 110 then Some (10, 1) else
    if b == 116 then Some (9, 1) else
    if b == 92 || b == 34 then Some (b, 1) else octal_escape (b ∷ bs)

-- why no escape stands after a backslash: the text is over there, or it goes on with something else
abbrev pub no_escape : List ℕ → FaultKind
no_escape [] = OpenString
no_escape (b ∷ bs) = BadToken

-- an escape, whose backslash counts, or why it is none
abbrev pub escaped : FaultKind → Option (ℕ × ℕ) → Result (Option (ℕ × ℕ)) FaultKind
escaped why None = Err why
escaped why (Some e) = Ok (Some (e.0, e.1 + 1))

-- the character of a string at the head of these bytes: a byte of it and how many bytes spell it, or nothing at
-- its closing quote
abbrev pub character_at : List ℕ → Result (Option (ℕ × ℕ)) FaultKind
character_at [] = Err OpenString
character_at (b ∷ bs) =
    if ends_line (b ∷ bs) then Err OpenString else
    if b == 34 then Ok None else
    if b == 92 then escaped (no_escape bs) (escape bs) else Ok (Some (b, 1))

-- one byte, and n bytes of spelling, before the rest
abbrev pub longer : ℕ → ℕ → Result (List ℕ × ℕ) FaultKind → Result (List ℕ × ℕ) FaultKind
longer b n (Ok s) = Ok (b ∷ s.0, n + s.1)
longer b n (Err k) = Err k

-- a character of a string, and what `more` reads after it
abbrev pub from_character : Result (Option (ℕ × ℕ)) FaultKind → List ℕ → (List ℕ → Result (List ℕ × ℕ) FaultKind)
    → Result (List ℕ × ℕ) FaultKind
from_character (Err k) bs more = Err k
from_character (Ok None) bs more = Ok ([], 1)
from_character (Ok (Some p)) bs more = longer p.0 p.1 (more (drop p.1 bs))

-- The bytes of the string after whose first quote these stand, and how many of them it has, in at most n
-- characters. The first of a line's end and another escape is the fault.
abbrev pub string_from : ℕ → List ℕ → Result (List ℕ × ℕ) FaultKind
string_from zero bs = Err OpenString
string_from (suc n) bs = from_character (character_at bs) bs (string_from n)

-- the same, where each character takes a byte and the end one step
abbrev pub string_at : List ℕ → Result (List ℕ × ℕ) FaultKind
string_at bs = string_from (length bs + 1) bs
