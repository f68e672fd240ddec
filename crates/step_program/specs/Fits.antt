-- Which steps are well-formed: each reads slots that are there before it. This project's own.
use Rattle.std.specs.Prelude.{◌≡◌, ℕ, ◌+◌, ◌^◌, ◌<◌, ◌≤◌, Bool, true, false, List, [], ◌∷◌}
use Rattle.dt_core.specs.declared.limits.TheConstants.{MAX_WIDTH}
use Rattle.bit_ops.specs.declared.operator.Binary.{Binary}
use Rattle.bit_ops.specs.Applied.{unary_width, binary_width, takes_one_width}
use Rattle.step_program.specs.Values.{is_narrow}
use Rattle.step_program.specs.declared.step.Slot.{Slot}
use Rattle.step_program.specs.declared.step.Slot.TheVariants as at
use Rattle.step_program.specs.declared.step.Two.{Two}
use Rattle.step_program.specs.declared.step.Pick.{Pick}
use Rattle.step_program.specs.declared.step.Test.{Test}
use Rattle.step_program.specs.declared.step.Join.{Join}
use Rattle.step_program.specs.declared.step.Take.{Take}
use Rattle.step_program.specs.declared.step.Sum.{Sum}
use Rattle.step_program.specs.declared.step.Operand.{Operand}
use Rattle.step_program.specs.declared.step.Calculation.{Calculation}
use Rattle.step_program.specs.declared.step.Calculation.TheVariants as c
use Rattle.step_program.specs.declared.step.Rare.{Rare}
use Rattle.step_program.specs.declared.step.Step.{Step}
use Rattle.step_program.specs.declared.step.Step.TheVariants as s

-- n narrow slots and m wide ones: the slot is one of them
abbrev pub IsSlot : ℕ → ℕ → Slot → Type 0
IsSlot n m (at.Narrow k) = k < n
IsSlot n m (at.Wide k) = k < m

abbrev pub is_narrow_slot : Slot → Bool
is_narrow_slot (at.Narrow k) = true
is_narrow_slot (at.Wide k) = false

-- a width that a vector can have
abbrev pub IsWidth : ℕ → Type 0
IsWidth w = (1 ≤ w) × (w ≤ MAX_WIDTH)

abbrev pub OperandFits : ℕ → ℕ → Operand → Type 0
OperandFits n m o = IsSlot n m o.slot × IsWidth o.width

abbrev pub OneWidth : Binary → ℕ → ℕ → Type 0
OneWidth operator a b = takes_one_width operator ≡ true → a ≡ b

-- a calculation gives this width; its operands' widths are those that the call of `bit_ops` takes
abbrev pub CalculationFits : ℕ → ℕ → ℕ → Calculation → Type 0
CalculationFits n m w (c.Constant value) = value < 2 ^ w
CalculationFits n m w (c.Unary operator of) = OperandFits n m of × (w ≡ unary_width operator of.width)
CalculationFits n m w (c.Binary operator signed left right) = OperandFits n m left × OperandFits n m right
    × (w ≡ binary_width operator left.width) × OneWidth operator left.width right.width
CalculationFits n m w (c.Extend signed of) = OperandFits n m of × (of.width ≤ w)
CalculationFits n m w (c.Cut of) = OperandFits n m of × (w ≤ of.width)
CalculationFits n m w (c.Select of place) = OperandFits n m of × OperandFits n m place.of
CalculationFits n m w (c.Insert of place part) =
    OperandFits n m of × OperandFits n m place.of × OperandFits n m part × (of.width ≡ w)
CalculationFits n m w (c.Concat left right) =
    OperandFits n m left × OperandFits n m right × (left.width + right.width ≡ w)
CalculationFits n m w (c.Choose condition first second) =
    OperandFits n m condition × OperandFits n m first × OperandFits n m second × (first.width ≡ w) × (second.width ≡ w)
CalculationFits n m w (c.Word memory least index) = OperandFits n m index.of

abbrev pub RareFits : ℕ → ℕ → Rare → Type 0
RareFits n m rare = IsWidth rare.width × CalculationFits n m rare.width rare.calculation

abbrev pub TwoFits : ℕ → Two → Type 0
TwoFits n two = (two.left < n) × (two.right < n)

abbrev pub PickFits : ℕ → Pick → Type 0
PickFits n pick = (pick.condition < n) × (pick.yes < n) × (pick.no < n)

abbrev pub TestFits : ℕ → Test → Type 0
TestFits n test = (test.of < n) × (test.like < n)

abbrev pub JoinFits : ℕ → Join → Type 0
JoinFits n join = (join.high < n) × (join.low < n)

abbrev pub TakeFits : ℕ → Take → Type 0
TakeFits n take = (take.of < n) × (take.from < 64)

abbrev pub SumFits : ℕ → Sum → Type 0
SumFits n sum = (sum.left < n) × (sum.right < n)

abbrev pub StepFits : ℕ → ℕ → Step → Type 0
StepFits n m (s.And two) = TwoFits n two
StepFits n m (s.Or two) = TwoFits n two
StepFits n m (s.Xor two) = TwoFits n two
StepFits n m (s.Pick pick) = PickFits n pick
StepFits n m (s.Test test) = TestFits n test
StepFits n m (s.Join join) = JoinFits n join
StepFits n m (s.Take take) = TakeFits n take
StepFits n m (s.Sum sum) = SumFits n sum
StepFits n m (s.Rare rare) = RareFits n m rare

-- a step gives one slot, a narrow or a wide one
abbrev pub narrow_one : Bool → ℕ
narrow_one true = 1
narrow_one false = 0

abbrev pub wide_one : Bool → ℕ
wide_one true = 0
wide_one false = 1

-- the slot that comes next
abbrev pub next_slot : Bool → ℕ → ℕ → Slot
next_slot true n m = at.Narrow n
next_slot false n m = at.Wide m

-- how many of the steps give a narrow slot, and how many a wide one
abbrev pub narrow_steps : List Step → ℕ
narrow_steps [] = 0
narrow_steps (s ∷ more) = narrow_one (is_narrow s) + narrow_steps more

abbrev pub wide_steps : List Step → ℕ
wide_steps [] = 0
wide_steps (s ∷ more) = wide_one (is_narrow s) + wide_steps more

-- each step fits the slots before it
abbrev pub StepsFit : ℕ → ℕ → List Step → Type 0
StepsFit n m [] = Unit {0}
StepsFit n m (s ∷ more) =
    StepFits n m s × StepsFit (n + narrow_one (is_narrow s)) (m + wide_one (is_narrow s)) more
