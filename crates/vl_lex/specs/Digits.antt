-- Digits, and the numbers and wild bits that they stand for (IEEE 1364-2005, 3.5.1; the value of `x` and `z` digits and wild bits are this
-- project's own).
use Rattle.std.specs.Prelude.{ℕ, ◌+◌, ◌*◌, ◌-◌, ◌%◌, ◌^◌, ◌==◌, Bool, ◌||◌, if◌then◌else◌, List, [], ◌∷◌, length, map, Option, Some, None}
use Rattle.vl_pre.specs.Bytes.{between, is_digit}
use Rattle.vl_lex.specs.declared.digits.Base.{Base}
use Rattle.vl_lex.specs.declared.digits.Base.TheVariants as base

-- `b o d h` in either case
abbrev pub base_of : ℕ → Option Base
base_of b =
    if b == 98 || b == 66 then Some base.Binary else
    if b == 111 || b == 79 then Some base.Octal else
    if b == 100 || b == 68 then Some base.Decimal else
    if b == 104 || b == 72 then Some base.Hexadecimal else None

-- how many digits a base has
abbrev pub radix : Base → ℕ
radix base.Binary = 2
radix base.Octal = 8
radix base.Decimal = 10
radix base.Hexadecimal = 16

-- how many bits a `z` digit stands for; a decimal one stands alone, and for every bit
abbrev pub digit_bits : Base → ℕ
digit_bits base.Binary = 1
digit_bits base.Octal = 3
digit_bits base.Decimal = 1
digit_bits base.Hexadecimal = 4

-- `x` in either case
abbrev pub is_x : ℕ → Bool
is_x b = b == 120 || b == 88

-- `z` in either case; `?` is `z`
abbrev pub is_z : ℕ → Bool
is_z b = b == 122 || b == 90 || b == 63

-- a digit of the base; of a decimal `x` or `z` `digits_length` speaks
abbrev pub is_digit_of : Base → ℕ → Bool
is_digit_of base.Binary b = between 48 49 b || is_x b || is_z b
is_digit_of base.Octal b = between 48 55 b || is_x b || is_z b
is_digit_of base.Decimal b = is_digit b
is_digit_of base.Hexadecimal b = is_digit b || between 65 70 b || between 97 102 b || is_x b || is_z b

-- the value of one digit: 0 for `x` and `z`
abbrev pub digit_value : ℕ → ℕ
digit_value b =
    if is_digit b then b - 48 else
    if between 65 70 b then b - 55 else
    if between 97 102 b then b - 87 else 0

-- the digits of a spelling; `_` is none
abbrev pub digits_in : List ℕ → List ℕ
digits_in [] = []
digits_in (b ∷ bs) = if b == 95 then digits_in bs else b ∷ digits_in bs

-- Places of a number: each counts as many times the radix as there are places after it.
abbrev pub positional : ℕ → List ℕ → ℕ
positional r [] = 0
positional r (d ∷ ds) = d * r ^ length ds + positional r ds

-- the number that a spelling stands for
abbrev pub value_of : ℕ → List ℕ → ℕ
value_of r spelling = positional r (map digit_value (digits_in spelling))

-- ones in all bits of a `z` digit
abbrev pub z_bits : ℕ → ℕ → ℕ
z_bits bits b = if is_z b then 2 ^ bits - 1 else 0

-- before a leftmost `z` all bits are wild
abbrev pub wild_left : ℕ → List ℕ → ℕ
wild_left width [] = 0
wild_left width (b ∷ bs) = if is_z b then 2 ^ width - 1 else 0

-- The wild bits of a spelling at a width: those of its `z` digits and those to the left of a leftmost `z`, as far as they lie within the
-- width.
abbrev pub wild_of : Base → ℕ → List ℕ → ℕ
wild_of base width spelling =
    positional (2 ^ digit_bits base) (wild_left width spelling ∷ map (z_bits (digit_bits base)) (digits_in spelling)) % 2 ^ width
