-- A format in two: its text up to its first item, and what stands behind that item. This project's own.
use Rattle.std.specs.Prelude.{◌≡◌, ℕ, ◌≤◌, List, [], ◌∷◌, ◌++◌, length, drop, Option, Some, None, decimal}
use Rattle.flat_ir.specs.Format.{format_text}

-- the text is the whole one where there is no item; else the item's argument and the text behind it follow
abbrev pub IsFront : List ℕ → List ℕ → Option ℕ → Type 0
IsFront format text None = (n : ℕ) → format_text format (n ∷ []) ≡ text
IsFront format text (Some end) = (end ≤ length format)
    × ((n : ℕ) → format_text format (n ∷ []) ≡ text ++ (decimal n ++ format_text (drop end format) []))
