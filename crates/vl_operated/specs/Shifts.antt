-- Which operators are shifts (IEEE 1364-2005, 5.1.12).
use Rattle.std.specs.Prelude.{Bool, true, false}
use Rattle.bit_ops.specs.declared.operator.Binary.{Binary}
use Rattle.vl_value.specs.Meaning as m

abbrev pub is_taken_by_shift : m.Operands → Bool
is_taken_by_shift m.shifted = true
is_taken_by_shift m.alike = false
is_taken_by_shift m.compared = false
is_taken_by_shift m.judged = false

abbrev pub is_shift : Binary → Bool
is_shift f = is_taken_by_shift (m.operands_of f)
