-- What each operator gives: its width (IEEE 1364-2005, table 5-22) and its value.
use Rattle.std.specs.Prelude.{ℕ, ◌==◌, Bool, true, false, not, ◌&&◌, ◌||◌, bit_and, bit_or, bit_xor}
use Rattle.bit_ops.specs.Operators as ops
use Rattle.bit_ops.specs.declared.operator.Unary.{Unary}
use Rattle.bit_ops.specs.declared.operator.Unary.TheVariants as one
use Rattle.bit_ops.specs.declared.operator.Binary.{Binary}
use Rattle.bit_ops.specs.declared.operator.Binary.TheVariants as two

-- ---- one operand, a of width w

abbrev pub unary_width : Unary → ℕ → ℕ
unary_width one.Plus w = w
unary_width one.Minus w = w
unary_width one.Not w = w
unary_width one.LogicNot w = 1
unary_width one.And w = 1
unary_width one.Nand w = 1
unary_width one.Or w = 1
unary_width one.Nor w = 1
unary_width one.Xor w = 1
unary_width one.Xnor w = 1

abbrev pub unary : Unary → ℕ → ℕ → ℕ
unary one.Plus w a = a
unary one.Minus w a = ops.negate w a
unary one.Not w a = ops.invert w a
unary one.LogicNot w a = ops.bit (not (ops.holds a))
unary one.And w a = ops.bit (ops.all_ones w a)
unary one.Nand w a = ops.bit (not (ops.all_ones w a))
unary one.Or w a = ops.bit (ops.holds a)
unary one.Nor w a = ops.bit (not (ops.holds a))
unary one.Xor w a = ops.bit (ops.is_odd w a)
unary one.Xnor w a = ops.bit (not (ops.is_odd w a))

-- ---- two operands, a of width w and b

-- whether b has the width of a: not where it is a distance, or where both are conditions
abbrev pub takes_one_width : Binary → Bool
takes_one_width two.Mul = true
takes_one_width two.Div = true
takes_one_width two.Rem = true
takes_one_width two.Add = true
takes_one_width two.Sub = true
takes_one_width two.Shl = false
takes_one_width two.Shr = false
takes_one_width two.Sar = false
takes_one_width two.Lt = true
takes_one_width two.Le = true
takes_one_width two.Gt = true
takes_one_width two.Ge = true
takes_one_width two.Eq = true
takes_one_width two.Ne = true
takes_one_width two.And = true
takes_one_width two.Xor = true
takes_one_width two.Xnor = true
takes_one_width two.Or = true
takes_one_width two.LogicAnd = false
takes_one_width two.LogicOr = false

abbrev pub binary_width : Binary → ℕ → ℕ
binary_width two.Mul w = w
binary_width two.Div w = w
binary_width two.Rem w = w
binary_width two.Add w = w
binary_width two.Sub w = w
binary_width two.Shl w = w
binary_width two.Shr w = w
binary_width two.Sar w = w
binary_width two.Lt w = 1
binary_width two.Le w = 1
binary_width two.Gt w = 1
binary_width two.Ge w = 1
binary_width two.Eq w = 1
binary_width two.Ne w = 1
binary_width two.And w = w
binary_width two.Xor w = w
binary_width two.Xnor w = w
binary_width two.Or w = w
binary_width two.LogicAnd w = 1
binary_width two.LogicOr w = 1

-- s tells whether the operator is a signed one: whether both operands are signed, and of `>>>` whether the result is;
-- `&`, `|` and `^` go bit by bit, as std defines them on numbers (5.1.10)
abbrev pub binary : Binary → Bool → ℕ → ℕ → ℕ → ℕ
binary two.Mul s w a b = ops.mul w a b
binary two.Div s w a b = ops.div s w a b
binary two.Rem s w a b = ops.rem s w a b
binary two.Add s w a b = ops.add w a b
binary two.Sub s w a b = ops.sub w a b
binary two.Shl s w a b = ops.shift_left w a b
binary two.Shr s w a b = ops.shift_right w a b
binary two.Sar s w a b = ops.arithmetic_right s w a b
binary two.Lt s w a b = ops.bit (ops.less s w a b)
binary two.Le s w a b = ops.bit (ops.at_most s w a b)
binary two.Gt s w a b = ops.bit (ops.less s w b a)
binary two.Ge s w a b = ops.bit (ops.at_most s w b a)
binary two.Eq s w a b = ops.bit (a == b)
binary two.Ne s w a b = ops.bit (not (a == b))
binary two.And s w a b = bit_and a b
binary two.Xor s w a b = bit_xor a b
binary two.Xnor s w a b = ops.invert w (bit_xor a b)
binary two.Or s w a b = bit_or a b
binary two.LogicAnd s w a b = ops.bit (ops.holds a && ops.holds b)
binary two.LogicOr s w a b = ops.bit (ops.holds a || ops.holds b)
