-- Slots, what is read in them, and the values of steps. This project's own.
use Rattle.std.specs.Prelude.{ℕ, ◌+◌, ◌*◌, ◌/◌, ◌%◌, ◌^◌, ◌==◌, Bool, true, false, not, if◌then◌else◌, nat_le, List, [], ◌∷◌, ◌++◌, slice_index, slice_index_or, bit_and, bit_or, bit_xor, ℤ, pos, negsuc, ◌-ℤ◌}
use Rattle.bit_ops.specs.Operators as ops
use Rattle.bit_ops.specs.Applied as applied
use Rattle.step_program.specs.declared.words.MemoryWords.{MemoryWords}
use Rattle.step_program.specs.declared.words.MemoryWords.TheVariants as m
use Rattle.step_program.specs.declared.step.Slot.{Slot}
use Rattle.step_program.specs.declared.step.Slot.TheVariants as at
use Rattle.step_program.specs.declared.step.Two.{Two}
use Rattle.step_program.specs.declared.step.Pick.{Pick}
use Rattle.step_program.specs.declared.step.Test.{Test}
use Rattle.step_program.specs.declared.step.Join.{Join}
use Rattle.step_program.specs.declared.step.Take.{Take}
use Rattle.step_program.specs.declared.step.Sum.{Sum}
use Rattle.step_program.specs.declared.step.Operand.{Operand}
use Rattle.step_program.specs.declared.step.Number.{Number}
use Rattle.step_program.specs.declared.step.Calculation.{Calculation}
use Rattle.step_program.specs.declared.step.Calculation.TheVariants as c
use Rattle.step_program.specs.declared.step.Rare.{Rare}
use Rattle.step_program.specs.declared.step.Step.{Step}
use Rattle.step_program.specs.declared.step.Step.TheVariants as s

-- ---- slots

-- the numbers that stand in the narrow slots and in the wide ones
pub record Slots : Type 0 where
  pub narrow : List ℕ
  pub wide : List ℕ

-- the number in a slot; 0 where there is none
abbrev pub slot_value : Slots → Slot → ℕ
slot_value slots (at.Narrow k) = slice_index slots.narrow k
slot_value slots (at.Wide k) = slice_index slots.wide k

-- a number is put after those of its kind
abbrev pub placed : Bool → ℕ → Slots → Slots
placed true n slots = record { narrow = slots.narrow ++ n ∷ []; wide = slots.wide }
placed false n slots = record { narrow = slots.narrow; wide = slots.wide ++ n ∷ [] }

-- ---- words of memories, from the least index on

abbrev pub contents : MemoryWords → List ℕ
contents (m.Narrow words) = words.items
contents (m.Wide words) = words.items

-- the word at a place; 0 outside
abbrev pub word_at : List ℕ → ℤ → ℕ
word_at words (pos k) = slice_index words k
word_at words (negsuc k) = 0

-- ---- fast steps, of the numbers in the narrow slots

abbrev pub and_value : List ℕ → Two → ℕ
and_value xs s = bit_and (slice_index xs s.left) (slice_index xs s.right)

abbrev pub or_value : List ℕ → Two → ℕ
or_value xs s = bit_or (slice_index xs s.left) (slice_index xs s.right)

abbrev pub xor_value : List ℕ → Two → ℕ
xor_value xs s = bit_xor (slice_index xs s.left) (slice_index xs s.right)

abbrev pub pick_value : List ℕ → Pick → ℕ
pick_value xs s = if ops.holds (slice_index xs s.condition) then slice_index xs s.yes else slice_index xs s.no

-- whether the bits of a mask are those of another number, or whether they are not
abbrev pub test_value : List ℕ → Test → ℕ
test_value xs s = let same : Bool = bit_and (slice_index xs s.of) s.mask == slice_index xs s.like in
    ops.bit (if s.differs then not same else same)

-- one number to the left of another, so many places as the power of two says
abbrev pub join_value : List ℕ → Join → ℕ
join_value xs s = bit_or ((slice_index xs s.high * s.scale) % 2 ^ 64) (slice_index xs s.low)

-- the bits of a mask from a place on
abbrev pub take_value : List ℕ → Take → ℕ
take_value xs s = bit_and (slice_index xs s.of / 2 ^ s.from) s.mask

abbrev pub sum_value : List ℕ → Sum → ℕ
sum_value xs s = bit_and ((slice_index xs s.left + slice_index xs s.right) % 2 ^ 64) s.mask

-- ---- rare steps

-- the low bits of a slot
abbrev pub operand_value : Slots → Operand → ℕ
operand_value slots o = ops.low o.width (slot_value slots o.slot)

-- the whole number that they stand for
abbrev pub number_value : Slots → Number → ℤ
number_value slots i = ops.integer i.signed i.of.width (operand_value slots i.of)

-- the value of a calculation at a width
abbrev pub calculation_value : List (List ℕ) → Slots → ℕ → Calculation → ℕ
calculation_value words slots w (c.Constant value) = value
calculation_value words slots w (c.Unary operator of) = applied.unary operator of.width (operand_value slots of)
calculation_value words slots w (c.Binary operator signed left right) =
    applied.binary operator signed left.width (operand_value slots left) (operand_value slots right)
calculation_value words slots w (c.Extend signed of) = ops.extend signed of.width w (operand_value slots of)
calculation_value words slots w (c.Cut of) = ops.low w (operand_value slots of)
calculation_value words slots w (c.Select of place) = ops.select (number_value slots place) w (operand_value slots of)
calculation_value words slots w (c.Insert of place part) =
    ops.insert w (number_value slots place) part.width (operand_value slots part) (operand_value slots of)
calculation_value words slots w (c.Concat left right) =
    ops.concat right.width (operand_value slots left) (operand_value slots right)
calculation_value words slots w (c.Choose condition first second) =
    if ops.holds (operand_value slots condition) then operand_value slots first else operand_value slots second
calculation_value words slots w (c.Word memory least index) =
    ops.low w (word_at (slice_index_or words memory []) (number_value slots index -ℤ pos least))

abbrev pub rare_value : List (List ℕ) → Slots → Rare → ℕ
rare_value words slots rare = calculation_value words slots rare.width rare.calculation

-- ---- all steps

-- whether a value of this width stands in a narrow slot
abbrev pub is_narrow_width : ℕ → Bool
is_narrow_width w = nat_le w 64

abbrev pub is_narrow : Step → Bool
is_narrow (s.And two) = true
is_narrow (s.Or two) = true
is_narrow (s.Xor two) = true
is_narrow (s.Pick pick) = true
is_narrow (s.Test test) = true
is_narrow (s.Join join) = true
is_narrow (s.Take take) = true
is_narrow (s.Sum sum) = true
is_narrow (s.Rare rare) = is_narrow_width rare.width

abbrev pub step_value : List (List ℕ) → Slots → Step → ℕ
step_value words slots (s.And two) = and_value slots.narrow two
step_value words slots (s.Or two) = or_value slots.narrow two
step_value words slots (s.Xor two) = xor_value slots.narrow two
step_value words slots (s.Pick pick) = pick_value slots.narrow pick
step_value words slots (s.Test test) = test_value slots.narrow test
step_value words slots (s.Join join) = join_value slots.narrow join
step_value words slots (s.Take take) = take_value slots.narrow take
step_value words slots (s.Sum sum) = sum_value slots.narrow sum
step_value words slots (s.Rare rare) = rare_value words slots rare

-- the slots after these steps, each of which puts its value after those of its kind
abbrev pub after : List (List ℕ) → Slots → List Step → Slots
after words slots [] = slots
after words slots (s ∷ more) = after words (placed (is_narrow s) (step_value words slots s) slots) more
