-- Steps of a draft as steps of the program, and what steps read. This project's own.
use Rattle.std.specs.Prelude.{ℕ, slice_index, List, [], ◌∷◌, Option, Some, None}
use Rattle.step_program.specs.Table.{Table, stands}
use Rattle.step_program.specs.declared.step.Slot.{Slot}
use Rattle.step_program.specs.declared.step.Slot.TheVariants as at
use Rattle.step_program.specs.declared.step.Two.{Two}
use Rattle.step_program.specs.declared.step.Pick.{Pick}
use Rattle.step_program.specs.declared.step.Test.{Test}
use Rattle.step_program.specs.declared.step.Join.{Join}
use Rattle.step_program.specs.declared.step.Take.{Take}
use Rattle.step_program.specs.declared.step.Sum.{Sum}
use Rattle.step_program.specs.declared.step.Operand.{Operand}
use Rattle.step_program.specs.declared.step.Number.{Number}
use Rattle.step_program.specs.declared.step.Calculation.{Calculation}
use Rattle.step_program.specs.declared.step.Calculation.TheVariants as c
use Rattle.step_program.specs.declared.step.Step.{Step}
use Rattle.step_program.specs.declared.step.Step.TheVariants as s

-- ---- with the program's slots in place of the draft's

abbrev pub two : Table → Two → Two
two t x = record { left = slice_index t.narrow x.left; right = slice_index t.narrow x.right }

abbrev pub pick : Table → Pick → Pick
pick t x = record {
  condition = slice_index t.narrow x.condition;
  yes = slice_index t.narrow x.yes;
  no = slice_index t.narrow x.no;
}

abbrev pub test : Table → Test → Test
test t x = record {
  of = slice_index t.narrow x.of;
  like = slice_index t.narrow x.like;
  mask = x.mask;
  differs = x.differs;
}

abbrev pub join : Table → Join → Join
join t x = record { high = slice_index t.narrow x.high; low = slice_index t.narrow x.low; scale = x.scale }

abbrev pub take : Table → Take → Take
take t x = record { of = slice_index t.narrow x.of; from = x.from; mask = x.mask }

abbrev pub sum : Table → Sum → Sum
sum t x = record { left = slice_index t.narrow x.left; right = slice_index t.narrow x.right; mask = x.mask }

abbrev pub operand : Table → Operand → Operand
operand t x = record { slot = stands t x.slot; width = x.width }

abbrev pub number : Table → Number → Number
number t x = record { of = operand t x.of; signed = x.signed }

abbrev pub calculation : Table → Calculation → Calculation
calculation t (c.Constant value) = c.Constant value
calculation t (c.Unary operator of) = c.Unary operator (operand t of)
calculation t (c.Binary operator signed left right) = c.Binary operator signed (operand t left) (operand t right)
calculation t (c.Extend signed of) = c.Extend signed (operand t of)
calculation t (c.Cut of) = c.Cut (operand t of)
calculation t (c.Select of place) = c.Select (operand t of) (number t place)
calculation t (c.Insert of place part) = c.Insert (operand t of) (number t place) (operand t part)
calculation t (c.Concat left right) = c.Concat (operand t left) (operand t right)
calculation t (c.Choose condition first second) = c.Choose (operand t condition) (operand t first) (operand t second)
calculation t (c.Word memory least index) = c.Word memory least (number t index)

abbrev pub step : Table → Step → Step
step t (s.And x) = s.And (two t x)
step t (s.Or x) = s.Or (two t x)
step t (s.Xor x) = s.Xor (two t x)
step t (s.Pick x) = s.Pick (pick t x)
step t (s.Test x) = s.Test (test t x)
step t (s.Join x) = s.Join (join t x)
step t (s.Take x) = s.Take (take t x)
step t (s.Sum x) = s.Sum (sum t x)
step t (s.Rare x) = s.Rare (record { width = x.width; calculation = calculation t x.calculation })

-- ---- what a step reads: Q holds of each slot

abbrev pub BothRead : (Slot → Type 0) → ℕ → ℕ → Type 0
BothRead Q a b = Q (at.Narrow a) × Q (at.Narrow b)

abbrev pub CalculationReads : (Slot → Type 0) → Calculation → Type 0
CalculationReads Q (c.Constant value) = Unit {0}
CalculationReads Q (c.Unary operator of) = Q of.slot
CalculationReads Q (c.Binary operator signed left right) = Q left.slot × Q right.slot
CalculationReads Q (c.Extend signed of) = Q of.slot
CalculationReads Q (c.Cut of) = Q of.slot
CalculationReads Q (c.Select of place) = Q of.slot × Q place.of.slot
CalculationReads Q (c.Insert of place part) = Q of.slot × Q place.of.slot × Q part.slot
CalculationReads Q (c.Concat left right) = Q left.slot × Q right.slot
CalculationReads Q (c.Choose condition first second) = Q condition.slot × Q first.slot × Q second.slot
CalculationReads Q (c.Word memory least index) = Q index.of.slot

abbrev pub Reads : (Slot → Type 0) → Step → Type 0
Reads Q (s.And x) = BothRead Q x.left x.right
Reads Q (s.Or x) = BothRead Q x.left x.right
Reads Q (s.Xor x) = BothRead Q x.left x.right
Reads Q (s.Pick x) = Q (at.Narrow x.condition) × Q (at.Narrow x.yes) × Q (at.Narrow x.no)
Reads Q (s.Test x) = BothRead Q x.of x.like
Reads Q (s.Join x) = BothRead Q x.high x.low
Reads Q (s.Take x) = Q (at.Narrow x.of)
Reads Q (s.Sum x) = BothRead Q x.left x.right
Reads Q (s.Rare x) = CalculationReads Q x.calculation

-- the same as three slots, where there are so many

abbrev pub one : Slot → List (Option Slot)
one a = Some a ∷ None ∷ None ∷ []

abbrev pub pair : Slot → Slot → List (Option Slot)
pair a b = Some a ∷ Some b ∷ None ∷ []

abbrev pub three : Slot → Slot → Slot → List (Option Slot)
three a b c = Some a ∷ Some b ∷ Some c ∷ []

abbrev pub calculation_operands : Calculation → List (Option Slot)
calculation_operands (c.Constant value) = None ∷ None ∷ None ∷ []
calculation_operands (c.Unary operator of) = one of.slot
calculation_operands (c.Binary operator signed left right) = pair left.slot right.slot
calculation_operands (c.Extend signed of) = one of.slot
calculation_operands (c.Cut of) = one of.slot
calculation_operands (c.Select of place) = pair of.slot place.of.slot
calculation_operands (c.Insert of place part) = three of.slot place.of.slot part.slot
calculation_operands (c.Concat left right) = pair left.slot right.slot
calculation_operands (c.Choose condition first second) = three condition.slot first.slot second.slot
calculation_operands (c.Word memory least index) = one index.of.slot

abbrev pub operands : Step → List (Option Slot)
operands (s.And x) = pair (at.Narrow x.left) (at.Narrow x.right)
operands (s.Or x) = pair (at.Narrow x.left) (at.Narrow x.right)
operands (s.Xor x) = pair (at.Narrow x.left) (at.Narrow x.right)
operands (s.Pick x) = three (at.Narrow x.condition) (at.Narrow x.yes) (at.Narrow x.no)
operands (s.Test x) = pair (at.Narrow x.of) (at.Narrow x.like)
operands (s.Join x) = pair (at.Narrow x.high) (at.Narrow x.low)
operands (s.Take x) = one (at.Narrow x.of)
operands (s.Sum x) = pair (at.Narrow x.left) (at.Narrow x.right)
operands (s.Rare x) = calculation_operands x.calculation
