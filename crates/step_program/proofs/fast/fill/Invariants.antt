use Rattle.std.proofs.Common.{◌+◌, drop, length, take}
use Rattle.step_program.specs.Running.{filled}
use Rattle.step_program.proofs.Lefts.{FillLeft}
use Rattle.step_program.proofs.fast.fill.Given as goal

abbrev pub invariant-loop-step : goal.invariant-loop-step
invariant-loop-step g l =
    FillLeft g.S.Fast.reads g.S.Fast.gives l.at l.slots (drop l.step-index l.steps) (l.fn.from + length l.steps)
    (filled g.S.Fast.gives (take l.fn.from l.initial.slots) l.steps)
