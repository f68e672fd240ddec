-- Numbers: their spellings and what they say (IEEE 1364-2005, 3.5.1; limits are this project's own).
use Rattle.std.specs.Prelude.{ℕ, ◌+◌, ◌%◌, ◌^◌, ◌==◌, nat_le, nat_lt, Bool, true, false, ◌||◌, if◌then◌else◌, List, [], ◌∷◌, take, drop, length, Option, Some, None, Result, Ok, Err}
use Rattle.std.specs.List.{prefix_len}
use Rattle.vl_tree.specs.Token.{Literal}
use Rattle.vl_pre.specs.Bytes.{is_digit, begins_name}
use Rattle.vl_tree.specs.declared.fault.FaultKind.{FaultKind}
use Rattle.vl_tree.specs.declared.fault.FaultKind.TheVariants.{BadToken, BadNumber, TooWide}
use Rattle.vl_lex.specs.Faults.{unless}
use Rattle.vl_lex.specs.declared.digits.Base.{Base}
use Rattle.vl_lex.specs.Digits.{base_of, is_x, is_z, is_digit_of, value_of, radix, wild_of}
use Rattle.dt_core.specs.declared.limits.TheConstants.{MAX_WIDTH}

-- a literal, and how many bytes its spelling has
abbrev pub Counted : Type 0
Counted = Result (Literal × ℕ) FaultKind

-- ---- the spelling

-- a byte of a plain decimal or of a size
abbrev pub is_in_decimal : ℕ → Bool
is_in_decimal b = is_digit b || b == 95

-- a digit of the base, or `_`
abbrev pub is_in_digits : Base → ℕ → Bool
is_in_digits base b = is_digit_of base b || b == 95

-- how many bytes of digits stand at the head: the first isn't `_`, and of digits a decimal `x` or `z` is alone
abbrev pub digits_length : Base → List ℕ → ℕ
digits_length base [] = 0
digits_length base (b ∷ bs) =
    if is_digit_of base b then prefix_len (is_in_digits base) bs + 1 else
    if is_x b || is_z b then prefix_len (λ c. c == 95) bs + 1 else 0

-- a letter, digit or `_` comes, which may not stand directly after a number
abbrev pub goes_on : List ℕ → Bool
goes_on [] = false
goes_on (b ∷ bs) = begins_name b || is_digit b

-- what stands between the size and the digits of a based number: whether `s` stands in it, the base, and how many bytes it has
pub record Format : Type 0 where
  pub signed : Bool
  pub base : Base
  pub used : ℕ

-- the base that a letter tells
abbrev pub format_by : Bool → ℕ → Option Base → Option Format
format_by signed n None = None
format_by signed n (Some base) = Some (record { signed = signed; base = base; used = n })

-- the base at the head
abbrev pub format_base : Bool → ℕ → List ℕ → Option Format
format_base signed n [] = None
format_base signed n (b ∷ bs) = format_by signed n (base_of b)

-- `s` or not, and the base
abbrev pub format_sign : List ℕ → Option Format
format_sign [] = None
format_sign (b ∷ bs) = if b == 115 || b == 83 then format_base true 3 bs else format_base false 2 (b ∷ bs)

-- an apostrophe, `s` or not, and the base
abbrev pub format_at : List ℕ → Option Format
format_at [] = None
format_at (b ∷ bs) = if b == 39 then format_sign bs else None

-- ---- what it says

-- the plain decimal of this value: signed, 32 bits wide
abbrev pub plain_literal : ℕ → Literal
plain_literal v = record { width = 32; sized = false; signed = true; value = v; wild = 0 }

-- a plain decimal, and what stands after it
abbrev pub plain_number : List ℕ → List ℕ → Counted
plain_number digits rest = let v = value_of 10 digits in
    unless (goes_on rest || nat_le (2 ^ 32) v) BadNumber (Ok (plain_literal v, length digits))

-- the literal of this width and these digits; what of its value doesn't fit the width is cut on the left
abbrev pub based_literal : ℕ → Bool → Bool → Base → List ℕ → Literal
based_literal width sized signed base digits =
    let value = value_of (radix base) digits % 2 ^ width in
    record { width = width; sized = sized; signed = signed; value = value; wild = wild_of base width digits }

-- the same, unless it is too wide
abbrev pub literal_within : Bool → ℕ → Bool → Bool → Base → List ℕ → Result Literal FaultKind
literal_within true width sized signed base digits = Err TooWide
literal_within false width sized signed base digits = Ok (based_literal width sized signed base digits)

-- the literal of this width: of no more bits than there may be, and with digits below 2^128
abbrev pub sized_literal : ℕ → Bool → Base → List ℕ → Result Literal FaultKind
sized_literal width signed base digits =
    let wide = nat_lt MAX_WIDTH width || nat_le (2 ^ 128) (value_of (radix base) digits) in
    unless (width == 0) BadNumber (literal_within wide width true signed base digits)

-- the literal without a size: of 32 bits, into which its digits fit
abbrev pub unsized_literal : Bool → Base → List ℕ → Result Literal FaultKind
unsized_literal signed base digits = literal_within (nat_le (2 ^ 32) (value_of (radix base) digits)) 32 false signed base digits

-- the literal of this size, if there is one
abbrev pub literal_of_size : List ℕ → Bool → Base → List ℕ → Result Literal FaultKind
literal_of_size [] signed base digits = unsized_literal signed base digits
literal_of_size (b ∷ bs) signed base digits = sized_literal (value_of 10 (b ∷ bs)) signed base digits

-- a literal with how many bytes it has
abbrev pub counted : ℕ → Result Literal FaultKind → Counted
counted n (Ok l) = Ok (l, n)
counted n (Err k) = Err k

-- a based number, whose digits stand at the head of these bytes; its form is looked at before its value
abbrev pub based_number : List ℕ → Format → List ℕ → Counted
based_number size format bs =
    let n = digits_length format.base bs in
    let literal = literal_of_size size format.signed format.base (take n bs) in
    unless (n == 0 || goes_on (drop n bs)) BadNumber (counted (length size + format.used + n) literal)

-- a number by what stands after its first digits; an apostrophe that leads to no base begins no number
abbrev pub number_by : List ℕ → Option Format → List ℕ → Counted
number_by size (Some format) rest = based_number size format (drop format.used rest)
number_by [] None rest = Err BadToken
number_by (b ∷ bs) None rest = plain_number (b ∷ bs) rest

-- the number at the head of bytes that begin with a digit or an apostrophe, and how many bytes it has
abbrev pub number_at : List ℕ → Counted
number_at bs = let n = prefix_len is_in_decimal bs in number_by (take n bs) (format_at (drop n bs)) (drop n bs)
