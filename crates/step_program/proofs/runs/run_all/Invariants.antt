use Rattle.std.proofs.Common.{◌+◌, drop, map}
use Rattle.step_program.specs.Values.{after, contents}
use Rattle.step_program.specs.Fits.{narrow_steps, wide_steps}
use Rattle.step_program.specs.Running.{front, all_steps}
use Rattle.step_program.proofs.Lefts.{Left}
use Rattle.step_program.proofs.runs.run_all.Given as goal

abbrev pub invariant-loop-run : goal.invariant-loop-run
invariant-loop-run l =
    Left (map contents l.words) l.now.narrow l.now.wide l.narrow l.wide (all_steps (drop l.run-index l.runs))
    (l.fn.at.narrow + narrow_steps (all_steps l.runs)) (l.fn.at.wide + wide_steps (all_steps l.runs))
    (after (map contents l.words) (front l.fn.at.narrow l.fn.at.wide l.initial.narrow l.initial.wide) (all_steps l.runs))
