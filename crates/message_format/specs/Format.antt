-- What a format is (IEEE 1364-2005, clause 17.1.1.2): its elements, one after another, each with its spelling. This
-- project's own: no item but these, no width but that of the value, and no `0` before `c`, `m` or a percent sign.
use Rattle.std.specs.Prelude.{◌≡◌, ◌≢◌, ◌==◌, ◌⊎◌, ℕ, Bool, true, false, if◌then◌else◌, List, [], ◌∷◌, ◌++◌, Contains, codes}
use Rattle.netlist.specs.declared.design.Base.{Base}
use Rattle.netlist.specs.declared.design.Base.TheVariants as b
use Rattle.message_format.specs.declared.element.Element.{Element}
use Rattle.message_format.specs.declared.element.Element.TheVariants as e

-- the letters of a base, of either case
abbrev pub letters : Base → List ℕ
letters b.Binary = codes "bB"
letters b.Octal = codes "oO"
letters b.Decimal = codes "dD"
letters b.Hexadecimal = codes "hHxX"
letters b.Character = codes "cC"

-- a byte of the text stands for itself, and a percent sign is spelt `%%`
abbrev pub byte_spelling : ℕ → List ℕ
byte_spelling c = if c == 37 then codes "%%" else c ∷ []

-- an item is `%` and its letter, or `%0` and the letter of a number: then it has the fewest digits
abbrev pub IsItem : Bool → Base → ℕ → List ℕ → Type 0
IsItem false base letter s = s ≡ codes "%" ++ letter ∷ []
IsItem true base letter s = (base ≢ b.Character) × (s ≡ codes "%0" ++ letter ∷ [])

-- the bytes are a spelling of the element: of a byte, of the path of the scope, or of an item that shows an argument
abbrev pub IsSpelled : Element → List ℕ → Type 0
IsSpelled (e.Byte c) s = s ≡ byte_spelling c
IsSpelled e.Path s = (s ≡ codes "%m") ⊎ (s ≡ codes "%M")
IsSpelled (e.Value i) s = (letter : ℕ) × Contains (letters i.base) letter × IsItem i.fewest i.base letter s

-- the format is spellings of these elements, one after another
abbrev pub Spells : List Element → List ℕ → Type 0
Spells [] format = format ≡ []
Spells (x ∷ xs) format = (front : List ℕ) × (rest : List ℕ) × IsSpelled x front × Spells xs rest
    × (format ≡ front ++ rest)
