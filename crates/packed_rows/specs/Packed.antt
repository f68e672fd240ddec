-- A row of values as one number, packed into words. This project's own.
use Rattle.std.specs.Prelude.{ℕ, suc, zero, ◌+◌, ◌*◌, ◌/◌, ◌%◌, ◌^◌, ◌<◌, List, [], ◌∷◌, take, drop}

-- a value for each width, below 2 ^ width
abbrev pub Fits : List ℕ → List ℕ → Type 0
Fits [] [] = Unit {0}
Fits (w ∷ ws) (x ∷ xs) = (x < 2 ^ w) × Fits ws xs
Fits _ _ = ⊥

-- values of these widths as one number, the first at its lowest bits
abbrev pub packed : List ℕ → List ℕ → ℕ
packed (w ∷ ws) (x ∷ xs) = x + 2 ^ w * packed ws xs
packed _ _ = 0

-- the values of these widths that stand in a number
abbrev pub unpacked : List ℕ → ℕ → List ℕ
unpacked [] n = []
unpacked (w ∷ ws) n = n % 2 ^ w ∷ unpacked ws (n / 2 ^ w)

-- words of 64 bits as one number, the lowest first
abbrev pub number : List ℕ → ℕ
number [] = 0
number (x ∷ xs) = x + 2 ^ 64 * number xs

-- how many words hold so many bits
abbrev pub word_count : ℕ → ℕ
word_count bits = (bits + 63) / 64

-- the first rows of these widths in words, so many words each
abbrev pub rows_in : List ℕ → ℕ → ℕ → List ℕ → List (List ℕ)
rows_in widths each zero words = []
rows_in widths each (suc n) words = unpacked widths (number (take each words)) ∷ rows_in widths each n (drop each words)
