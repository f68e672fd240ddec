-- Attributes, which are passed over (IEEE 1364-2005, 3.8; that their contents are strings and other bytes, and not looked at, is this
-- project's own).
use Rattle.std.specs.Prelude.{ℕ, zero, suc, ◌+◌, ◌==◌, Bool, false, not, ◌&&◌, if◌then◌else◌, List, [], ◌∷◌, drop, Option, Some, None, codes}
use Rattle.vl_pre.specs.Bytes.{begins, is_white}
use Rattle.vl_pre.specs.Pieces.{string_length}

-- what stands after white space
abbrev pub after_white : List ℕ → List ℕ
after_white [] = []
after_white (b ∷ bs) = if is_white b then after_white bs else b ∷ bs

-- `(*`, not followed by `)` after white space
abbrev pub opens_attribute : List ℕ → Bool
opens_attribute bs = begins (codes "(*") bs && not (begins (codes ")") (after_white (drop 2 bs)))

-- how many bytes of a string stand after this byte: where it is a quote, those up to the next quote that no backslash escapes, that one
-- included, or up to the end of the line or text
abbrev pub string_after : ℕ → List ℕ → ℕ
string_after b bs = if b == 34 then string_length false false bs else 0

-- one more
abbrev pub more : Option ℕ → Option ℕ
more None = None
more (Some n) = Some (n + 1)

-- how many bytes lead to the first `*)` outside strings, and it with them, where the first n bytes are the rest of a string
abbrev pub close_after : ℕ → List ℕ → Option ℕ
close_after n [] = None
close_after zero (b ∷ bs) = if begins (codes "*)") (b ∷ bs) then Some 2 else more (close_after (string_after b bs) bs)
close_after (suc n) (b ∷ bs) = more (close_after n bs)

-- how many bytes lead from after the `(*` of an attribute to the first `*)` outside strings, and it with them
abbrev pub close_from : List ℕ → Option ℕ
close_from bs = close_after 0 bs
