-- Which names were met. This project's own.
use Rattle.std.specs.Prelude.{◌≡◌, ℕ, Bool, false, ◌||◌, if◌then◌else◌, nat_eq, bytes_eq, List, is_some, Option, Some, None}
use Rattle.std.specs.Cmp.Lexicographic.{pointwise}
use Rattle.indexmap.specs.IndexMap.{get}
use Rattle.vl_names.specs.declared.NameSet.{NameSet}
use Rattle.vl_names.specs.declared.NameNumbers.{NameNumbers}

-- whether a set has a name
abbrev pub has : NameSet → List ℕ → Bool
has s x = is_some (get (pointwise nat_eq) s.names x)

-- it has none
abbrev pub HasNone : NameSet → Type 0
HasNone s = (x : List ℕ) → has s x ≡ false

-- a name was added to a set
abbrev pub Adds : List ℕ → NameSet → NameSet → Type 0
Adds name old new = (x : List ℕ) → has new x ≡ (bytes_eq name x || has old x)

-- the number of a name
abbrev pub number_of : NameNumbers → List ℕ → Option ℕ
number_of s x = get (pointwise nat_eq) s.numbers x

abbrev pub HasNoNumber : NameNumbers → Type 0
HasNoNumber s = (x : List ℕ) → number_of s x ≡ None

-- a name got a number
abbrev pub Numbers : List ℕ → ℕ → NameNumbers → NameNumbers → Type 0
Numbers name n old new = (x : List ℕ) → number_of new x ≡ (if bytes_eq name x then Some n else number_of old x)
