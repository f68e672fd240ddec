-- A whole number as its sign and its size. This project's own.
use Rattle.std.specs.Prelude.{ℕ, Bool, true, false, List, [], ◌∷◌, ◌++◌, decimal}
use Rattle.message_text.specs.declared.decimal.Number.{Number}

-- a minus before a number below 0
abbrev pub sign_text : Bool → List ℕ
sign_text true = 45 ∷ []
sign_text false = []

-- the sign and the decimal digits
abbrev pub number_text : Number → List ℕ
number_text n = sign_text n.negative ++ decimal n.size
