-- Texts without their borrows. This project's own.
use Rattle.std.specs.Prelude.{ℕ, List, map, Option, Some, None}
use Rattle.std.specs.Borrow.{Bor}

-- the words without their borrows
abbrev pub named : List (Bor (List ℕ)) → List (List ℕ)
named = map (λ w. w.now)

-- a text without its borrow, if there is one
abbrev pub plain : Option (Bor (List ℕ)) → Option (List ℕ)
plain None = None
plain (Some text) = Some text.now
