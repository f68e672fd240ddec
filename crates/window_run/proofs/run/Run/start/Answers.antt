use Rattle.std.proofs.Common.{refl, ap}
use Rattle.window_run.proofs.RanLaws.{ran_none}
use Rattle.window_run.proofs.run.Run.start.Goals as goal

pub returns-clause-ran : goal.returns-clause-ran
returns-clause-ran c =
    ran_none c.args.flat.now c.args.order.now _ c.in_ok-widths.ensures.fits c.requires.order
    (ap (λ s. s.flat) c.in_ok-sim.ensures) refl refl (ap (λ s. s.cycle) c.in_ok-sim.ensures) (ap (λ s. s.state) c.in_ok-sim.ensures)
    (ap (λ r. r.rows) c.in_ok-last.ensures) (ap (λ j. j.cycles) c.in_ok-journal.ensures)
