use Rattle.std.proofs.Common.{◌≡◌, ◌<◌, ◌-◌, length, ap, ◌∙◌, arith}
use Rattle.std.proofs.lemmas.List.{length-drop}
use Rattle.window_run.proofs.AgainLaws.{can_go, come_back}
use Rattle.window_run.proofs.replay.go_back.Goals as goal

pub go_back-requires-clause-cycle : goal.go_back-requires-clause-cycle
go_back-requires-clause-cycle c =
    let l : 0 < length c.loop.journal.cycles = omega (arith, c.loop.invariant.noted, c.requires.noted, c.loop-test.true) in
    (can_go c.requires.come.0 c.loop.sim c.loop.journal (c.loop.invariant.come c.requires.come.0 c.requires.come.1) l).cycle

pub go_back-requires-clause-some : goal.go_back-requires-clause-some
go_back-requires-clause-some c = omega (arith, c.loop.invariant.noted, c.requires.noted, c.loop-test.true)

pub go_back-requires-clause-fit : goal.go_back-requires-clause-fit
go_back-requires-clause-fit c =
    let l : 0 < length c.loop.journal.cycles = omega (arith, c.loop.invariant.noted, c.requires.noted, c.loop-test.true) in
    (can_go c.requires.come.0 c.loop.sim c.loop.journal (c.loop.invariant.come c.requires.come.0 c.requires.come.1) l).fit

pub loop-preserved : goal.loop-preserved
loop-preserved c =
    let i = c.loop.invariant in
    let b = c.go_back.ensures in
    let l : 0 < length c.loop.journal.cycles = omega (arith, i.noted, c.requires.noted, c.loop-test.true) in
    let d = ap length b.cycles ∙ length-drop 1 c.loop.journal.cycles in
    record {
      come = λ states h. come_back states c.loop.sim c.go_back.new.self c.loop.journal c.go_back.new.journal (i.come states h) l
          b.flat b.cycle b.state b.cycles;
      noted = omega (arith, d, l, i.noted);
      cycle = omega (arith, b.cycle, i.cycle);
      flat = b.flat ∙ i.flat;
      closed = b.fresh;
      most = b.most ∙ i.most;
    }

pub returns-clause-come : goal.returns-clause-come
returns-clause-come c = λ states h.
    let k : c.loop.sim.cycle ≡ c.args.sim.now.cycle - c.args.count =
    omega (arith, c.loop.invariant.cycle, c.loop-test.false, c.loop.auto.counter-end) in
    (c.loop.invariant.come states h).state ∙ ap states k
