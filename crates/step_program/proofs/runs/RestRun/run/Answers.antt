use Rattle.std.proofs.Common.{ap}
use Rattle.step_program.specs.Running.{rest_steps}
use Rattle.step_program.proofs.Lefts.{does_fills}
use Rattle.step_program.proofs.OfKinds.{may_fill, has_room, has_filled, sums, xors}
use Rattle.step_program.proofs.runs.RestRun.run.Goals as goal

pub fill-requires-clause-fits : goal.fill-requires-clause-fits
fill-requires-clause-fits c =
    may_fill _ _ _ sums (rest_steps c.args.self.now) c.deref.result.now c.in-Sums.steps.items c.args.at.narrow
    (ap rest_steps c.in-Sums.is) c.deref.ensures.value (c.args.at.wide, c.requires.fits)

pub fill-requires-clause-room : goal.fill-requires-clause-room
fill-requires-clause-room c =
    has_room _ _ _ sums (rest_steps c.args.self.now) c.deref.result.now c.in-Sums.steps.items c.args.at.narrow _
    (ap rest_steps c.in-Sums.is) c.deref.ensures.value c.requires.room.0

pub returns-in-Sums : goal.returns-in-Sums
returns-in-Sums c =
    does_fills _ _ _ _ _ _ _ _ (has_filled _ _ _ sums (rest_steps c.args.self.now) c.deref.result.now c.in-Sums.steps.items c.args.at.narrow _ _ _
    (ap rest_steps c.in-Sums.is) c.deref.ensures.value c.fill.ensures.count c.fill.ensures.value)

pub fill-requires-in-Xors-clause-fits : goal.fill-requires-in-Xors-clause-fits
fill-requires-in-Xors-clause-fits c =
    may_fill _ _ _ xors (rest_steps c.args.self.now) c.deref-in-Xors.result.now c.in-Xors.steps.items c.args.at.narrow
    (ap rest_steps c.in-Xors.is) c.deref-in-Xors.ensures.value (c.args.at.wide, c.requires.fits)

pub fill-requires-in-Xors-clause-room : goal.fill-requires-in-Xors-clause-room
fill-requires-in-Xors-clause-room c =
    has_room _ _ _ xors (rest_steps c.args.self.now) c.deref-in-Xors.result.now c.in-Xors.steps.items c.args.at.narrow _
    (ap rest_steps c.in-Xors.is) c.deref-in-Xors.ensures.value c.requires.room.0

pub returns-in-Xors : goal.returns-in-Xors
returns-in-Xors c =
    does_fills _ _ _ _ _ _ _ _ (has_filled _ _ _ xors (rest_steps c.args.self.now) c.deref-in-Xors.result.now c.in-Xors.steps.items c.args.at.narrow _ _ _
    (ap rest_steps c.in-Xors.is) c.deref-in-Xors.ensures.value c.fill-in-Xors.ensures.count c.fill-in-Xors.ensures.value)
