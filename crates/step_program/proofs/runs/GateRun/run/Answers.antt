use Rattle.std.proofs.Common.{ap}
use Rattle.step_program.specs.Running.{gate_steps}
use Rattle.step_program.proofs.OfKinds.{may_fill, has_room, has_filled, ands, ors, picks}
use Rattle.step_program.proofs.runs.GateRun.run.Goals as goal

pub fill-requires-clause-fits : goal.fill-requires-clause-fits
fill-requires-clause-fits c =
    may_fill _ _ _ ands (gate_steps c.args.self.now) c.deref.result.now c.in-Ands.steps.items c.args.from
    (ap gate_steps c.in-Ands.is) c.deref.ensures.value c.requires.fits

pub fill-requires-clause-room : goal.fill-requires-clause-room
fill-requires-clause-room c =
    has_room _ _ _ ands (gate_steps c.args.self.now) c.deref.result.now c.in-Ands.steps.items c.args.from _
    (ap gate_steps c.in-Ands.is) c.deref.ensures.value c.requires.room

pub returns-in-Ands : goal.returns-in-Ands
returns-in-Ands c =
    has_filled _ _ _ ands (gate_steps c.args.self.now) c.deref.result.now c.in-Ands.steps.items c.args.from _ _ _
    (ap gate_steps c.in-Ands.is) c.deref.ensures.value c.fill.ensures.count c.fill.ensures.value

pub fill-requires-in-Ors-clause-fits : goal.fill-requires-in-Ors-clause-fits
fill-requires-in-Ors-clause-fits c =
    may_fill _ _ _ ors (gate_steps c.args.self.now) c.deref-in-Ors.result.now c.in-Ors.steps.items c.args.from
    (ap gate_steps c.in-Ors.is) c.deref-in-Ors.ensures.value c.requires.fits

pub fill-requires-in-Ors-clause-room : goal.fill-requires-in-Ors-clause-room
fill-requires-in-Ors-clause-room c =
    has_room _ _ _ ors (gate_steps c.args.self.now) c.deref-in-Ors.result.now c.in-Ors.steps.items c.args.from _
    (ap gate_steps c.in-Ors.is) c.deref-in-Ors.ensures.value c.requires.room

pub returns-in-Ors : goal.returns-in-Ors
returns-in-Ors c =
    has_filled _ _ _ ors (gate_steps c.args.self.now) c.deref-in-Ors.result.now c.in-Ors.steps.items c.args.from _ _ _
    (ap gate_steps c.in-Ors.is) c.deref-in-Ors.ensures.value c.fill-in-Ors.ensures.count c.fill-in-Ors.ensures.value

pub fill-requires-in-Picks-clause-fits : goal.fill-requires-in-Picks-clause-fits
fill-requires-in-Picks-clause-fits c =
    may_fill _ _ _ picks (gate_steps c.args.self.now) c.deref-in-Picks.result.now c.in-Picks.steps.items c.args.from
    (ap gate_steps c.in-Picks.is) c.deref-in-Picks.ensures.value c.requires.fits

pub fill-requires-in-Picks-clause-room : goal.fill-requires-in-Picks-clause-room
fill-requires-in-Picks-clause-room c =
    has_room _ _ _ picks (gate_steps c.args.self.now) c.deref-in-Picks.result.now c.in-Picks.steps.items c.args.from _
    (ap gate_steps c.in-Picks.is) c.deref-in-Picks.ensures.value c.requires.room

pub returns-in-Picks : goal.returns-in-Picks
returns-in-Picks c =
    has_filled _ _ _ picks (gate_steps c.args.self.now) c.deref-in-Picks.result.now c.in-Picks.steps.items c.args.from _ _ _
    (ap gate_steps c.in-Picks.is) c.deref-in-Picks.ensures.value c.fill-in-Picks.ensures.count c.fill-in-Picks.ensures.value
