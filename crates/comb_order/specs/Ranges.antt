-- Ranges of bits in order. This project's own.
use Rattle.std.specs.Prelude.{ℕ, ◌<◌, ◌≤◌, List, length, slice_index_or}
use Rattle.netlist.specs.Fits.{IsBefore}
use Rattle.netlist.specs.declared.design.Range.{Range}
use Rattle.netlist.specs.declared.design.DrivenPart.{DrivenPart}

-- the first parts, so many, stand before the range
pub record IsStart (driven : List DrivenPart) (range : Range) (start : ℕ) : Type 0 where
  pub within : start ≤ length driven
  pub before : (k : ℕ) (d : DrivenPart) → k < start → IsBefore (slice_index_or driven k d).range range
