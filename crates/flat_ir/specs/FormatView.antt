-- What the values of `src/format.rt` stand for in `Format`. This project's own.
use Rattle.std.specs.Prelude.{ℕ, List, [], Option, Some, None, decimal}
use Rattle.flat_ir.specs.declared.format.Progress.TheVariants as progress
use Rattle.flat_ir.specs.declared.format.Progress as declared_progress
use Rattle.flat_ir.specs.declared.format.Step.TheVariants as steps
use Rattle.flat_ir.specs.declared.format.Step as declared_step
use Rattle.flat_ir.specs.Format.{Progress, outside, percent, percent_zero, Step, itself, into, shows, wrong}

-- what was read last
abbrev pub progress_of : declared_progress.Progress → Progress
progress_of progress.Outside = outside
progress_of progress.Percent = percent
progress_of progress.PercentZero = percent_zero

-- what a byte does
abbrev pub step_of : declared_step.Step → Step
step_of steps.Itself = itself
step_of (steps.Into next) = into (progress_of next)
step_of steps.Shows = shows
step_of steps.Wrong = wrong

-- the digits of an argument, if there is one
abbrev pub digits : Option ℕ → List ℕ
digits None = []
digits (Some n) = decimal n
