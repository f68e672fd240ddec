-- The text of a value in a message (IEEE 1364-2005, clause 17.1.1). This project's own: the columns of a signed `%d`,
-- and `%c` as the low byte.
use Rattle.std.specs.Prelude.{ℕ, zero, suc, ◌+◌, ◌-◌, ◌/◌, ◌%◌, ◌^◌, Bool, true, false, if◌then◌else◌, nat_lt, List, [], ◌∷◌, ◌++◌, length, replicate, ℤ, pos, negsuc, decimal}
use Rattle.std.specs.Option.{unwrap_or}
use Rattle.dt_core.specs.Least.{least}
use Rattle.bit_ops.specs.Operators as ops
use Rattle.netlist.specs.declared.design.Base.{Base}
use Rattle.netlist.specs.declared.design.Base.TheVariants as b

-- a digit as its byte, in lower case
abbrev pub digit : ℕ → ℕ
digit d = if nat_lt d 10 then 48 + d else 87 + d

-- the lowest k digits of n in a base
abbrev pub digits : ℕ → ℕ → ℕ → List ℕ
digits base zero n = []
digits base (suc k) n = digits base k (n / base) ++ digit (n % base) ∷ []

-- how many digits n, below 2^128, has in a base of 2 or more, one at least
abbrev pub digit_count : ℕ → ℕ → ℕ
digit_count base n = unwrap_or (least (λ k. nat_lt n (base ^ (k + 1))) 128) 0 + 1

-- a number of the width w in the base 2^k: its fewest digits, or all of them
abbrev pub radix_text : Bool → ℕ → ℕ → ℕ → List ℕ
radix_text true k w n = digits (2 ^ k) (digit_count (2 ^ k) n) n
radix_text false k w n = digits (2 ^ k) ((w + (k - 1)) / k) n

-- right-justified in some columns, with spaces
abbrev pub padded : ℕ → List ℕ → List ℕ
padded columns t = replicate (columns - length t) 32 ++ t

abbrev pub signed_text : ℤ → List ℕ
signed_text (pos n) = decimal n
signed_text (negsuc n) = 45 ∷ decimal (suc n)

-- the columns of `%d` at a width: the digits of 2^w - 1, or one more than those of 2^(w-1) where signed
abbrev pub columns : Bool → ℕ → ℕ
columns false w = length (decimal (2 ^ w - 1))
columns true w = length (decimal (2 ^ (w - 1))) + 1

abbrev pub decimal_text : Bool → Bool → ℕ → ℕ → List ℕ
decimal_text true s w n = signed_text (ops.integer s w n)
decimal_text false s w n = padded (columns s w) (signed_text (ops.integer s w n))

-- a value of the width w and the sign s in a base, with the fewest digits where f says so
abbrev pub value_text : Base → Bool → Bool → ℕ → ℕ → List ℕ
value_text b.Binary f s w n = radix_text f 1 w n
value_text b.Octal f s w n = radix_text f 3 w n
value_text b.Decimal f s w n = decimal_text f s w n
value_text b.Hexadecimal f s w n = radix_text f 4 w n
value_text b.Character f s w n = n % 256 ∷ []
