-- What a format is (IEEE 1364-2005, clause 17.1.1, cut down): pieces, one after another. A piece is a byte other than `%`, `%%`, which
-- is a percent sign, or `%0d` in either case of the letter, which shows the next argument in the fewest decimal digits.
use Rattle.std.specs.Prelude.{◌≡◌, ◌≢◌, ◌⊎◌, ◌↔◌, ℕ, ◌+◌, List, [], ◌∷◌, ◌++◌, Some, codes, decimal}
use Rattle.flat_ir.specs.Format.{items, format_text}

pub data Piece : Type 0 where
  byte : ℕ → Piece
  percent_sign : Piece
  item : Piece

-- the bytes are a spelling of the piece
abbrev pub IsSpelled : Piece → List ℕ → Type 0
IsSpelled (byte b) bytes = (b ≢ 37) × (bytes ≡ b ∷ [])
IsSpelled percent_sign bytes = bytes ≡ codes "%%"
IsSpelled item bytes = (bytes ≡ codes "%0d") ⊎ (bytes ≡ codes "%0D")

-- the format is spellings of these pieces, one after another
abbrev pub Spells : List Piece → List ℕ → Type 0
Spells [] format = format ≡ []
Spells (p ∷ ps) format = (front : List ℕ) × (rest : List ℕ) × IsSpelled p front × Spells ps rest × (format ≡ front ++ rest)

-- how many of the pieces are items
abbrev pub item_count : List Piece → ℕ
item_count [] = 0
item_count (byte b ∷ ps) = item_count ps
item_count (percent_sign ∷ ps) = item_count ps
item_count (item ∷ ps) = item_count ps + 1

-- the texts of the pieces, joined: a byte is itself, and each item has the next argument; one for which none is left has no text
abbrev pub joined : List Piece → List ℕ → List ℕ
joined [] ns = []
joined (byte b ∷ ps) ns = b ∷ joined ps ns
joined (percent_sign ∷ ps) ns = codes "%" ++ joined ps ns
joined (item ∷ ps) [] = joined ps []
joined (item ∷ ps) (n ∷ ns) = decimal n ++ joined ps ns

-- A law: what is counted are the items of the pieces that a format is spelled of, and nothing is counted where it is spelled of none.
abbrev pub CountsItems : Type 0
CountsItems = (format : List ℕ) (n : ℕ) → (items format ≡ Some n) ↔ ((ps : List Piece) × Spells ps format × (item_count ps ≡ n))

-- A law: the text of a format that is spelled of pieces is their texts, joined.
abbrev pub JoinsTexts : Type 0
JoinsTexts = (format : List ℕ) (ps : List Piece) (ns : List ℕ) → Spells ps format → format_text format ns ≡ joined ps ns
