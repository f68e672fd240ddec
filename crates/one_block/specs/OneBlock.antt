-- Numbered designs of one clocked block that can be designs of a hierarchy: their signals count the data inputs and
-- the registers, and what is written fits. This project's own.
use Rattle.std.specs.Prelude.{◌≡◌, ℕ, ◌+◌, ◌≤◌, List, [], ◌∷◌, ◌++◌, length, sum}
use Rattle.std.specs.List.{All}
use Rattle.dt_core.specs.declared.limits.TheConstants.{MAX_SIGNALS, MAX_INPUTS, MAX_INPUT_BITS}
use Rattle.flat_ir.specs.declared.design.Role.{Role}
use Rattle.flat_ir.specs.declared.design.Role.TheVariants as role
use Rattle.flat_ir.specs.declared.design.Signal.{Signal}
use Rattle.flat_ir.specs.FlatRun.{Flat, flat_next}
use Rattle.flat_ir.specs.Names.{Fit}

-- the width of a signal that shows a data input, and of one that shows a register
abbrev pub input_width : Signal → Role → List ℕ
input_width s role.Clock = []
input_width s (role.Input i) = s.width ∷ []
input_width s (role.Register r) = []

abbrev pub register_width : Signal → Role → List ℕ
register_width s role.Clock = []
register_width s (role.Input i) = []
register_width s (role.Register r) = s.width ∷ []

-- the widths of all signals that show data inputs, and of those that show registers, in order
abbrev pub input_widths : List Signal → List ℕ
input_widths [] = []
input_widths (s ∷ ss) = input_width s s.role ++ input_widths ss

abbrev pub register_widths : List Signal → List ℕ
register_widths [] = []
register_widths (s ∷ ss) = register_width s s.role ++ register_widths ss

-- a role's number, where i data inputs and r registers stand before it
abbrev pub IsNumbered : ℕ → ℕ → Role → Type 0
IsNumbered i r role.Clock = Unit {0}
IsNumbered i r (role.Input k) = k ≡ i
IsNumbered i r (role.Register k) = k ≡ r

-- so of all signals, in order
abbrev pub AreNumbered : ℕ → ℕ → List Signal → Type 0
AreNumbered i r [] = Unit {0}
AreNumbered i r (s ∷ ss) = IsNumbered i r s.role
    × AreNumbered (i + length (input_width s s.role)) (r + length (register_width s s.role)) ss

-- a clock has one bit
abbrev pub ClockFits : ℕ → Role → Type 0
ClockFits w role.Clock = w ≡ 1
ClockFits w (role.Input i) = Unit {0}
ClockFits w (role.Register r) = Unit {0}

-- a row and a state are within the widths of the data inputs and of the registers
pub record Fits (f : Flat) (row state : List ℕ) : Type 0 where
  pub inputs : Fit (input_widths f.signals) row
  pub registers : Fit f.registers state

-- each data input and each register is shown by one signal, of its width, in order; a clock has one bit; signals, data
-- inputs and their bits are no more than the limits; and with what fits, the next state fits
pub record IsOneBlock (f : Flat) : Type 0 where
  pub numbered : AreNumbered 0 0 f.signals
  pub inputs : f.inputs ≡ length (input_widths f.signals)
  pub registers : f.registers ≡ register_widths f.signals
  pub clocks : All (λ s. ClockFits s.width s.role) f.signals
  pub few : length f.signals ≤ MAX_SIGNALS
  pub few_inputs : f.inputs ≤ MAX_INPUTS
  pub few_bits : sum (input_widths f.signals) ≤ MAX_INPUT_BITS
  pub keeps : (row state : List ℕ) → Fits f row state → Fit f.registers (flat_next f row state)
