-- Laws of clean text, in its reader's words.
use Rattle.std.specs.Prelude.{ℕ, suc, ◌≡◌, ◌≤◌, Bool, true, not, ◌&&◌, List, [], ◌∷◌, length, Some, Ok, codes}
use Rattle.vl_pre.specs.Bytes.{placed, all_at, begins, is_allowed, most_clean}
use Rattle.vl_pre.specs.Pieces.{gives}
use Rattle.vl_pre.specs.Directives.{Macros}
use Rattle.vl_pre.specs.CleanText.{use_of, clean_text}

-- no backtick, comment or bad byte stands in these bytes
abbrev pub is_plain : List ℕ → Bool
is_plain [] = true
is_plain (b ∷ bs) =
    (is_allowed b && not (begins (96 ∷ []) (b ∷ bs))) && (not (begins (codes "//") (b ∷ bs)) && (not (begins (codes "/*") (b ∷ bs)) && is_plain bs))

-- a plain text comes through as it is, each byte on its line
abbrev pub PlainComesThrough : Type 0
PlainComesThrough = (text : List ℕ) → is_plain text ≡ true → length text ≤ most_clean → clean_text text ≡ Ok (placed 1 text)

-- the use of a macro with a plain body reads as the body does, each byte on the line of the use
abbrev pub UseReadsAsBody : Type 0
UseReadsAsBody = (depth line : ℕ) (macros : Macros) (name body : List ℕ) → macros name ≡ Some body → is_plain body ≡ true
    → use_of (suc depth) macros line name ≡ gives (all_at line body) []
