-- What a program's fields stand for. This project's own.
use Rattle.std.specs.Prelude.{◌≡◌, ◌<◌, ◌^◌}
use Rattle.step_program.specs.Fits.{StepsFit}
use Rattle.step_program.specs.Plan.{Plan, narrow_front, wide_front, narrow_total, wide_total}
use Rattle.step_program.specs.Running.{all_steps}
use Rattle.step_program.specs.declared.program.Program.TheInside.{Inside}

abbrev pub plan_of : Inside → Plan
plan_of a = record {
  narrow = a.given.narrow;
  wide = a.given.wide;
  narrow_constants = a.narrow_constants.items;
  wide_constants = a.wide_constants.items;
  steps = all_steps a.runs.items;
}

-- its steps read slots in front of them alone, and the totals are its slots
pub record IsSound (a : Inside) : Type 0 where
  pub fits : StepsFit (narrow_front (plan_of a)) (wide_front (plan_of a)) (plan_of a).steps
  pub narrow : a.total.narrow ≡ narrow_total (plan_of a)
  pub wide : a.total.wide ≡ wide_total (plan_of a)
  pub few : (a.total.narrow < 2 ^ 32) × (a.total.wide < 2 ^ 32)
