use Rattle.std.proofs.Common.{ap}
use Rattle.step_program.specs.Running.{word_steps}
use Rattle.step_program.proofs.OfKinds.{may_fill, has_room, has_filled, tests, joins, takes}
use Rattle.step_program.proofs.runs.WordRun.run.Goals as goal

pub fill-requires-clause-fits : goal.fill-requires-clause-fits
fill-requires-clause-fits c =
    may_fill _ _ _ tests (word_steps c.args.self.now) c.deref.result.now c.in-Tests.steps.items c.args.from
    (ap word_steps c.in-Tests.is) c.deref.ensures.value c.requires.fits

pub fill-requires-clause-room : goal.fill-requires-clause-room
fill-requires-clause-room c =
    has_room _ _ _ tests (word_steps c.args.self.now) c.deref.result.now c.in-Tests.steps.items c.args.from _
    (ap word_steps c.in-Tests.is) c.deref.ensures.value c.requires.room

pub returns-in-Tests : goal.returns-in-Tests
returns-in-Tests c =
    has_filled _ _ _ tests (word_steps c.args.self.now) c.deref.result.now c.in-Tests.steps.items c.args.from _ _ _
    (ap word_steps c.in-Tests.is) c.deref.ensures.value c.fill.ensures.count c.fill.ensures.value

pub fill-requires-in-Joins-clause-fits : goal.fill-requires-in-Joins-clause-fits
fill-requires-in-Joins-clause-fits c =
    may_fill _ _ _ joins (word_steps c.args.self.now) c.deref-in-Joins.result.now c.in-Joins.steps.items c.args.from
    (ap word_steps c.in-Joins.is) c.deref-in-Joins.ensures.value c.requires.fits

pub fill-requires-in-Joins-clause-room : goal.fill-requires-in-Joins-clause-room
fill-requires-in-Joins-clause-room c =
    has_room _ _ _ joins (word_steps c.args.self.now) c.deref-in-Joins.result.now c.in-Joins.steps.items c.args.from _
    (ap word_steps c.in-Joins.is) c.deref-in-Joins.ensures.value c.requires.room

pub returns-in-Joins : goal.returns-in-Joins
returns-in-Joins c =
    has_filled _ _ _ joins (word_steps c.args.self.now) c.deref-in-Joins.result.now c.in-Joins.steps.items c.args.from _ _ _
    (ap word_steps c.in-Joins.is) c.deref-in-Joins.ensures.value c.fill-in-Joins.ensures.count c.fill-in-Joins.ensures.value

pub fill-requires-in-Takes-clause-fits : goal.fill-requires-in-Takes-clause-fits
fill-requires-in-Takes-clause-fits c =
    may_fill _ _ _ takes (word_steps c.args.self.now) c.deref-in-Takes.result.now c.in-Takes.steps.items c.args.from
    (ap word_steps c.in-Takes.is) c.deref-in-Takes.ensures.value c.requires.fits

pub fill-requires-in-Takes-clause-room : goal.fill-requires-in-Takes-clause-room
fill-requires-in-Takes-clause-room c =
    has_room _ _ _ takes (word_steps c.args.self.now) c.deref-in-Takes.result.now c.in-Takes.steps.items c.args.from _
    (ap word_steps c.in-Takes.is) c.deref-in-Takes.ensures.value c.requires.room

pub returns-in-Takes : goal.returns-in-Takes
returns-in-Takes c =
    has_filled _ _ _ takes (word_steps c.args.self.now) c.deref-in-Takes.result.now c.in-Takes.steps.items c.args.from _ _ _
    (ap word_steps c.in-Takes.is) c.deref-in-Takes.ensures.value c.fill-in-Takes.ensures.count c.fill-in-Takes.ensures.value
