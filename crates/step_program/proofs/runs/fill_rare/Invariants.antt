use Rattle.std.proofs.Common.{◌+◌, drop, map}
use Rattle.step_program.specs.Values.{after, contents}
use Rattle.step_program.specs.Fits.{narrow_steps, wide_steps}
use Rattle.step_program.specs.Running.{front, rare_steps}
use Rattle.step_program.proofs.Lefts.{Left}
use Rattle.step_program.proofs.runs.fill_rare.Given as goal

abbrev pub invariant-loop-step : goal.invariant-loop-step
invariant-loop-step l =
    Left (map contents l.words) l.now.narrow l.now.wide l.narrow l.wide (rare_steps (drop l.step-index l.steps))
    (l.fn.at.narrow + narrow_steps (rare_steps l.steps)) (l.fn.at.wide + wide_steps (rare_steps l.steps))
    (after (map contents l.words) (front l.fn.at.narrow l.fn.at.wide l.initial.narrow l.initial.wide) (rare_steps l.steps))
