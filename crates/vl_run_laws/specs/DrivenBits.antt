-- What drives a design's bits, and what the driven parts of the numbered design that stands for it have. This project's own.
use Rattle.std.specs.Prelude.{◌≡◌, ◌↔◌, ℕ, ◌<◌, slice_get, Some, IsTrue}
use Rattle.std.specs.List.{All}
use Rattle.netlist.specs.Design.{Flat}
use Rattle.netlist.specs.Laws.{HasBit}
use Rattle.netlist.specs.Values.{Values}
use Rattle.netlist.specs.declared.design.DrivenPart.{DrivenPart}
use Rattle.vl_design.specs.Design.{Design, Signal}
use Rattle.vl_process.specs.Processes.{drivers}
use Rattle.vl_process.specs.Settling.{Fits, signal_width, Holds, is_driven}
use Rattle.vl_process.specs.StandsFor.{StandsFor, HasNodeValue}

-- a driven part that has the bit of a signal at a place
pub record HasDrivenPart (f : Flat) (t i : ℕ) : Type 0 where
  pub number : ℕ
  pub part : DrivenPart
  pub at : slice_get f.driven number ≡ Some part
  pub has : HasBit part.range t i

-- the bit at a place of the signal of a number is there, and some driver drives it
pub record IsDrivenBit (d : Design) (t i : ℕ) : Type 0 where
  pub signal : Signal
  pub at : slice_get d.signals t ≡ Some signal
  pub within : i < signal_width signal
  pub driven : IsTrue (is_driven d signal.path i)

-- a law: the bits that drivers drive are those of the driven parts
abbrev pub DrivenBitsLaw : Type 0
DrivenBitsLaw = (f : Flat) (d : Design) (t i : ℕ) → StandsFor f d → HasDrivenPart f t i ↔ IsDrivenBit d t i

-- a law: over values that fit, all drivers hold exactly where each driven part has its node's value
abbrev pub HoldsLaw : Type 0
HoldsLaw = (f : Flat) (d : Design) (v : Values) → StandsFor f d → Fits d v
    → All (Holds d v) (drivers d) ↔ All (HasNodeValue f v) f.driven
