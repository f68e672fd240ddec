use Rattle.std.proofs.Common.{ℕ, ◌<◌, ◌≤◌, length, get_or}
use Rattle.netlist.specs.Fits.{StandBefore, AreApart}
use Rattle.netlist.specs.declared.design.DrivenPart.{DrivenPart}
use Rattle.netlist.specs.declared.design.RegisterPart.{RegisterPart}
use Rattle.netlist.proofs.parts.are_apart.Given as goal

-- the driven parts so far stand before each register part that is left, and each register part so far is apart from
-- all driven parts
abbrev pub invariant-loop-register : goal.invariant-loop-register
invariant-loop-register l = record {
  within : l.next ≤ length l.driven;
  before : (j : ℕ) (e : RegisterPart) → l.register-index ≤ j → j < length l.registers
      → StandBefore l.driven 0 l.next (get_or l.registers j e).range;
  apart : (i j : ℕ) (d : DrivenPart) (e : RegisterPart) → i < length l.driven → j < l.register-index
      → AreApart (get_or l.driven i d).range (get_or l.registers j e).range;
}
