-- The files of a design: the text that they make together, and where each of its lines stands. This project's own.
use Rattle.std.specs.Prelude.{ℕ, zero, suc, ◌+◌, ◌-◌, ◌==◌, ◌≡◌, ◌<◌, ◌≤◌, nat_le, Bool, false, if◌then◌else◌, List, [], ◌∷◌, ◌++◌, length, map, take, slice_index, slice_index_or}
use Rattle.std.specs.List.{count_by}

-- ---- the text

-- whether the bytes end with LF
abbrev pub ends_line : List ℕ → Bool
ends_line [] = false
ends_line (b ∷ bs) = slice_index (b ∷ bs) (length bs) == 10

-- a file as it stands in the text of a design: followed by LF, unless it ends with one
abbrev pub closed : List ℕ → List ℕ
closed file = if ends_line file then file else file ++ 10 ∷ []

-- the text of a design: its files in their order
abbrev pub design_text : List (List ℕ) → List ℕ
design_text [] = []
design_text (file ∷ files) = closed file ++ design_text files

-- ---- its lines

-- how many lines a file has there: one for each LF
abbrev pub line_count : List ℕ → ℕ
line_count file = count_by (λ b. b == 10) (closed file)

-- a line of a file, from 1
pub record Spot : Type 0 where
  pub file : List ℕ
  pub line : ℕ

abbrev pub spot : List ℕ → ℕ → Spot
spot file line = record { file = file; line = line }

-- the files of a design: their names, and how many lines each has
pub record Origins : Type 0 where
  pub names : List (List ℕ)
  pub counts : List ℕ

-- the files of these names that hold these contents
abbrev pub origins_of : List (List ℕ) → List (List ℕ) → Origins
origins_of names files = record { names = names; counts = map line_count files }

-- where a line of the text stands: in the first file, if that has so many lines; else in the files after it, with the first file's
-- lines taken off. After the last line the last file's lines are counted on, which no fault and no stop needs.
abbrev pub spot_among : List (List ℕ) → List ℕ → ℕ → Spot
spot_among [] counts line = spot [] line
spot_among (name ∷ []) counts line = spot name line
spot_among (name ∷ other ∷ names) [] line = spot name line
spot_among (name ∷ other ∷ names) (count ∷ counts) line =
    if nat_le line count then spot name line else spot_among (other ∷ names) counts (line - count)

abbrev pub spot_in : Origins → ℕ → Spot
spot_in o line = spot_among o.names o.counts line

-- ---- what a spot is, in the words of its reader

-- a line of a text, from 1, with its LF
abbrev pub line_at : ℕ → List ℕ → List ℕ
line_at n [] = []
line_at zero (b ∷ bs) = []
line_at (suc zero) (b ∷ bs) = if b == 10 then b ∷ [] else b ∷ line_at 1 bs
line_at (suc (suc n)) (b ∷ bs) = if b == 10 then line_at (suc n) bs else line_at (suc (suc n)) bs

-- the line of the text is the spot's line of file k, whose name the spot has: so many lines stand in the files before it
pub record IsSpot (names files : List (List ℕ)) (line k : ℕ) (s : Spot) : Type 0 where
  pub there : k < length files
  pub place : line ≡ count_by (λ b. b == 10) (design_text (take k files)) + s.line
  pub named : s.file ≡ slice_index_or names k []
  pub within : (1 ≤ s.line) × (s.line ≤ line_count (slice_index_or files k []))
  pub same : line_at s.line (closed (slice_index_or files k [])) ≡ line_at line (design_text files)

-- each line of the text stands where its spot says
abbrev pub SpotsAreRight : Type 0
SpotsAreRight = (names files : List (List ℕ)) (line : ℕ) → length names ≡ length files → 1 ≤ line
    → line ≤ count_by (λ b. b == 10) (design_text files)
    → (k : ℕ) × IsSpot names files line k (spot_in (origins_of names files) line)
