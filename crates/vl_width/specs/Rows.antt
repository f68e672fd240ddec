-- How the program's operators take their operands (IEEE 1364-2005, table 5-22).
use Rattle.vl_value.specs.Meaning as m
use Rattle.vl_width.specs.declared.operands.Operands.{Operands}
use Rattle.vl_width.specs.declared.operands.Operands.TheVariants as o

abbrev pub taken : Operands → m.Operands
taken o.Alike = m.alike
taken o.Compared = m.compared
taken o.Shifted = m.shifted
taken o.Judged = m.judged
