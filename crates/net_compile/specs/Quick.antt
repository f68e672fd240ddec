-- Fast steps in place of calculations. This project's own.
use Rattle.std.specs.Prelude.{◌≡◌, ℕ, ◌^◌, ◌<◌, List}
use Rattle.step_program.specs.Values.{Slots, slot_value, is_narrow, is_narrow_width, step_value, calculation_value}
use Rattle.step_program.specs.Fits.{is_narrow_slot, CalculationFits, StepFits}
use Rattle.step_program.specs.declared.step.Operand.{Operand}
use Rattle.step_program.specs.declared.step.Calculation.{Calculation}
use Rattle.step_program.specs.declared.step.Calculation.TheVariants as calc
use Rattle.step_program.specs.declared.step.Step.{Step}

-- the number in the operand's slot has the operand's width, and so has the slot
pub record IsBounded (slots : Slots) (x : Operand) : Type 0 where
  pub fits : slot_value slots x.slot < 2 ^ x.width
  pub kind : is_narrow_slot x.slot ≡ is_narrow_width x.width

-- this holds of each operand of a calculation, but for a place and an index
abbrev pub AreBounded : Slots → Calculation → Type 0
AreBounded slots (calc.Constant value) = Unit {0}
AreBounded slots (calc.Unary operator x) = IsBounded slots x
AreBounded slots (calc.Binary operator signed x y) = IsBounded slots x × IsBounded slots y
AreBounded slots (calc.Extend signed x) = IsBounded slots x
AreBounded slots (calc.Cut x) = IsBounded slots x
AreBounded slots (calc.Select x place) = IsBounded slots x
AreBounded slots (calc.Insert x place part) = IsBounded slots x × IsBounded slots part
AreBounded slots (calc.Concat x y) = IsBounded slots x × IsBounded slots y
AreBounded slots (calc.Choose n x y) = IsBounded slots n × IsBounded slots x × IsBounded slots y
AreBounded slots (calc.Word memory least index) = Unit {0}

-- the step has the value of the calculation
pub record IsQuick (w : ℕ) (r : Calculation) (step : Step) : Type 0 where
  pub fits : (n m : ℕ) → CalculationFits n m w r → StepFits n m step
  pub kind : is_narrow step ≡ is_narrow_width w
  pub value : (words : List (List ℕ)) (slots : Slots) (n m : ℕ) → CalculationFits n m w r → AreBounded slots r
      → step_value words slots step ≡ calculation_value words slots w r
