-- Operators on numbers of a width, on ℕ and ℤ (IEEE 1364-2005, clauses 5.1 and 5.5).
-- A value of width w is a whole number below 2 ^ w; its bit at place k stands for 2 ^ k.
-- Arithmetic is done on whole numbers, and the result is taken modulo 2 ^ w.
-- This project's own: values are two-state, a zero divisor gives 0, and places outside read 0.
use Rattle.std.specs.Prelude.{ℕ, zero, suc, ◌+◌, ◌-◌, ◌*◌, ◌/◌, ◌%◌, ◌^◌, ◌==◌, Bool, true, false, not, if◌then◌else◌, nat_le, min, ℤ, pos, negsuc, ◌-ℤ◌, neg_ℤ, int_lt, int_le, int_div, int_rem}

-- ---- widths and signs

-- n modulo 2 ^ w, and the whole number z modulo 2 ^ w
abbrev pub low : ℕ → ℕ → ℕ
low w n = n % 2 ^ w

abbrev pub residue : ℕ → ℤ → ℕ
residue w (pos n) = n % 2 ^ w
residue w (negsuc n) = (2 ^ w - 1) - n % 2 ^ w

-- the whole number that n stands for at the width w: in two's complement where signed (5.1.3, 5.1.6)
abbrev pub integer : Bool → ℕ → ℕ → ℤ
integer false w n = pos n
integer true w n = if nat_le (2 ^ w) (2 * n) then pos n -ℤ pos (2 ^ w) else pos n

-- n of the width v at the width w, by its sign where signed; at a lesser width it is cut (5.5.2)
abbrev pub extend : Bool → ℕ → ℕ → ℕ → ℕ
extend s v w n = residue w (integer s v n)

-- 1 where the test holds
abbrev pub bit : Bool → ℕ
bit b = if b then 1 else 0

-- a condition holds where its value is not 0 (9.4)
abbrev pub holds : ℕ → Bool
holds n = not (n == 0)

-- ---- arithmetic (5.1.5); s tells whether the operands are signed

abbrev pub add : ℕ → ℕ → ℕ → ℕ
add w a b = low w (a + b)

abbrev pub sub : ℕ → ℕ → ℕ → ℕ
sub w a b = residue w (pos a -ℤ pos b)

abbrev pub mul : ℕ → ℕ → ℕ → ℕ
mul w a b = low w (a * b)

abbrev pub negate : ℕ → ℕ → ℕ
negate w a = residue w (neg_ℤ (pos a))

-- the quotient, truncated toward zero, and the remainder, with the sign of the first operand
abbrev pub div : Bool → ℕ → ℕ → ℕ → ℕ
div s w a b = if b == 0 then 0 else residue w (int_div (integer s w a) (integer s w b))

abbrev pub rem : Bool → ℕ → ℕ → ℕ → ℕ
rem s w a b = if b == 0 then 0 else residue w (int_rem (integer s w a) (integer s w b))

-- ---- comparisons (5.1.7, 5.1.8)

abbrev pub less : Bool → ℕ → ℕ → ℕ → Bool
less s w a b = int_lt (integer s w a) (integer s w b)

abbrev pub at_most : Bool → ℕ → ℕ → ℕ → Bool
at_most s w a b = int_le (integer s w a) (integer s w b)

-- ---- bit by bit (5.1.10); `and`, `or` and `xor` are std's `bit_and`, `bit_or` and `bit_xor`

abbrev pub invert : ℕ → ℕ → ℕ
invert w a = (2 ^ w - 1) - a

-- ---- reductions (5.1.11)

abbrev pub all_ones : ℕ → ℕ → Bool
all_ones w a = a == 2 ^ w - 1

-- the number of ones at the places below w
abbrev pub ones : ℕ → ℕ → ℕ
ones zero a = 0
ones (suc w) a = a % 2 + ones w (a / 2)

abbrev pub is_odd : ℕ → ℕ → Bool
is_odd w a = ones w a % 2 == 1

-- ---- shifts (5.1.12): a distance beyond the width does what the width does

abbrev pub shift_left : ℕ → ℕ → ℕ → ℕ
shift_left w a n = low w (a * 2 ^ min n w)

abbrev pub shift_right : ℕ → ℕ → ℕ → ℕ
shift_right w a n = a / 2 ^ min n w

-- z divided by m, rounded down
abbrev pub floor_div : ℤ → ℕ → ℤ
floor_div (pos a) m = pos (a / m)
floor_div (negsuc a) m = negsuc (a / m)

-- the sign bit comes in from the left
abbrev pub shift_right_signed : ℕ → ℕ → ℕ → ℕ
shift_right_signed w a n = residue w (floor_div (integer true w a) (2 ^ min n w))

-- `>>>`: the sign bit comes in where signed, else 0
abbrev pub arithmetic_right : Bool → ℕ → ℕ → ℕ → ℕ
arithmetic_right true w a n = shift_right_signed w a n
arithmetic_right false w a n = shift_right w a n

-- ---- places (5.2.1): a place may lie outside, on either side

-- the w bits of a from the place z upward
abbrev pub select : ℤ → ℕ → ℕ → ℕ
select (pos k) w a = low w (a / 2 ^ k)
select (negsuc k) w a = low w (a * 2 ^ suc k)

-- a, of width v, with the low w bits of b at the places from k upward: what stands above, b, what stands below
abbrev pub insert_at : ℕ → ℕ → ℕ → ℕ → ℕ → ℕ
insert_at v k w b a = low v ((a / 2 ^ (k + w)) * 2 ^ (k + w) + (low w b * 2 ^ k + a % 2 ^ k))

-- the same from the place z; bits at places outside are lost
abbrev pub insert : ℕ → ℤ → ℕ → ℕ → ℕ → ℕ
insert v (pos k) w b a = insert_at v k w b a
insert v (negsuc k) w b a = insert_at v 0 (w - suc k) (b / 2 ^ suc k) a

-- ---- concatenation (5.1.14): b, of width w, to the right of a

abbrev pub concat : ℕ → ℕ → ℕ → ℕ
concat w a b = a * 2 ^ w + b
