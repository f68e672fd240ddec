use Rattle.step_program.specs.Plan.{held}
use Rattle.held_state.proofs.Taken.{commit_there, took}
use Rattle.held_state.proofs.commits.take_next.Goals as goal

pub run-requires-clause-there : goal.run-requires-clause-there
run-requires-clause-there c =
    commit_there c.args.flat.now c.args.compiled.now c.args.commit.now (held c.args.slots.now) c.requires.fits
    c.requires.compiles c.requires.ready c.requires.commit

pub returns-clause-ready : goal.returns-clause-ready
returns-clause-ready c =
    (took c.args.flat.now c.args.compiled.now c.args.commit.now (held c.args.slots.now) (held c.run.new.slots) c.requires.fits
    c.requires.compiles c.requires.ready c.requires.commit c.run.ensures.slots).ready

pub returns-clause-registers : goal.returns-clause-registers
returns-clause-registers c =
    (took c.args.flat.now c.args.compiled.now c.args.commit.now (held c.args.slots.now) (held c.run.new.slots) c.requires.fits
    c.requires.compiles c.requires.ready c.requires.commit c.run.ensures.slots).registers
