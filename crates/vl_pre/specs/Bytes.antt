-- Bytes with their lines, what ends a line, and classes of bytes (IEEE 1364-2005, 3.2 and 3.7).
use Rattle.std.specs.Prelude.{ℕ, ◌+◌, ◌==◌, ◌≤◌, ◌≡◌, nat_le, nat_eq, Bool, true, ◌&&◌, ◌||◌, if◌then◌else◌, List, [], ◌∷◌, map, take, length}
use Rattle.std.specs.List.{prefix_len, starts_with}
use Rattle.dt_core.specs.declared.limits.TheConstants.{MAX_CLEAN}

-- a byte and the line on which it stands, from 1
pub record Placed : Type 0 where
  pub byte : ℕ
  pub line : ℕ

-- bytes with their lines
abbrev pub Text : Type 0
Text = List Placed

-- this byte on this line
abbrev pub at_line : ℕ → ℕ → Placed
at_line line b = record { byte = b; line = line }

-- the line after a byte that stands on this line: a LF is the last byte of its line
abbrev pub line_after : ℕ → ℕ → ℕ
line_after line b = if b == 10 then line + 1 else line

-- these bytes as a text that begins on this line
abbrev pub placed : ℕ → List ℕ → Text
placed line [] = []
placed line (b ∷ bs) = at_line line b ∷ placed (line_after line b) bs

-- these bytes, all on one line
abbrev pub all_at : ℕ → List ℕ → Text
all_at line = map (at_line line)

-- the bytes without their lines
abbrev pub bytes : Text → List ℕ
bytes = map (λ c. c.byte)

-- the line of each byte
abbrev pub lines : Text → List ℕ
lines = map (λ c. c.line)

-- bytes and lines side by side, as far as both go
abbrev pub joined : List ℕ → List ℕ → Text
joined [] ls = []
joined (b ∷ bs) [] = []
joined (b ∷ bs) (l ∷ ls) = at_line l b ∷ joined bs ls

-- ---- what stands at the head of a list of bytes

-- the bytes begin with this word
abbrev pub begins : List ℕ → List ℕ → Bool
begins word bs = starts_with nat_eq bs word

-- a line's end is LF, or CR and LF
abbrev pub at_line_end : List ℕ → Bool
at_line_end bs = begins (10 ∷ []) bs || begins (13 ∷ 10 ∷ []) bs

-- no more stands on the line
abbrev pub ends_line : List ℕ → Bool
ends_line [] = true
ends_line (b ∷ bs) = at_line_end (b ∷ bs)

-- ---- classes of bytes

-- from low to high
abbrev pub between : ℕ → ℕ → ℕ → Bool
between low high b = nat_le low b && nat_le b high

-- space, tab, LF, FF and CR (3.2)
abbrev pub is_white : ℕ → Bool
is_white b = b == 32 || b == 9 || b == 10 || b == 12 || b == 13

-- `0` to `9`
abbrev pub is_digit : ℕ → Bool
is_digit = between 48 57

-- a letter of either case
abbrev pub is_letter : ℕ → Bool
is_letter b = between 65 90 b || between 97 122 b

-- a letter or `_` (3.7)
abbrev pub begins_name : ℕ → Bool
begins_name b = is_letter b || b == 95

-- a letter, a digit, `_` or `$` (3.7)
abbrev pub is_in_name : ℕ → Bool
is_in_name b = begins_name b || is_digit b || b == 36

-- tab, LF, FF, CR and 32 to 126
abbrev pub is_allowed : ℕ → Bool
is_allowed b = is_white b || between 32 126 b

-- the length of the name at the head of these bytes, 0 where none begins there
abbrev pub name_length : List ℕ → ℕ
name_length [] = 0
name_length (b ∷ bs) = if begins_name b then prefix_len is_in_name bs + 1 else 0

-- the name at the head of a text, empty where none begins there
abbrev pub name_at : Text → List ℕ
name_at ts = take (name_length (bytes ts)) (bytes ts)

-- ---- clean text

-- the most bytes of a clean text
abbrev pub most_clean : ℕ
most_clean = MAX_CLEAN

-- a line for each byte, and no more bytes than there may be
pub record AreClean (bs ls : List ℕ) : Type 0 where
  pub paired : length bs ≡ length ls
  pub short : length bs ≤ most_clean
