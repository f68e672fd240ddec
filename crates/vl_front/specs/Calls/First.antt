-- What the phases answer one another: the fault of the text, or of its tokens, that an answer names. This project's own.
use Rattle.std.specs.Prelude.{◌≡◌, ℕ, Option, Result, Err}
use Rattle.vl_tree.specs.Fault.{Fault}
use Rattle.vl_tree.specs.Token.{Tokens}
use Rattle.vl_front.specs.FirstFault.{HasTreeFault}
use Rattle.vl_front.specs.Top.{Asked, HaveNoTop}
use Rattle.vl_front.specs.declared.fault.DesignFault.{DesignFault}
use Rattle.vl_front.specs.declared.fault.DesignFault.TheVariants as f

-- the text has this fault of phases 1 and 2 first; or out of memory
abbrev pub IsSpellingFault : Result Tokens Fault → DesignFault → Type 0
IsSpellingFault r (f.At phase line kind) =
    (token : Option ℕ) × (r ≡ Err (record { phase = phase; line = line; token = token; kind = kind }))
IsSpellingFault r (f.NoTop line) = ⊥
IsSpellingFault r f.NotYetBuilt = ⊥
IsSpellingFault r f.Memory = Unit {0}

-- the tokens have this fault of phase 3, or no top; or out of memory
abbrev pub IsTreeFault : Asked → Tokens → DesignFault → Type 0
IsTreeFault top ts (f.At phase line kind) =
    (token : Option ℕ) × HasTreeFault ts (record { phase = phase; line = line; token = token; kind = kind })
IsTreeFault top ts (f.NoTop line) = HaveNoTop top ts line
IsTreeFault top ts f.NotYetBuilt = ⊥
IsTreeFault top ts f.Memory = Unit {0}
