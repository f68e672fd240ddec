use Rattle.std.proofs.Common.{◌≤◌, ◌+◌, ◌-◌, refl, sym, ap, subst, arith, rules}
use Rattle.std.specs.Prelude.{IsSomeAnd}
use Rattle.window_run.specs.Over.{state_at}
use Rattle.window_run.specs.Ran.{RanTo}
use Rattle.window_run.specs.Window.{window_start, window_length, window_text, Waves}
use Rattle.window_run.specs.Calls.Inside.{progress_of}
use Rattle.window_run.proofs.AgainLaws.{kept_count, kept_rows, reached, window_waves}
use Rattle.window_run.proofs.RanLaws.{Failed, failed, some_failure}
use Rattle.window_run.proofs.run.Run.write_window.Goals as goal

pub replay-requires-clause-room : goal.replay-requires-clause-room
replay-requires-clause-room g c =
    let p = progress_of c.self.inside in
    let q = c.requires.ran in
    let before = subst (λ v. RanTo v.flat q.0 q.1 v) (sym c.self.view_is) q.2 in
    let x = some_failure p.failure (search rules) in
    let h : Failed p.flat q.0 q.1 p x.0 = failed p.flat q.0 q.1 p x.0 refl x.1 before in
    let k = kept_count p.lag x.0.cycle q.1 p.kept.rows h.within h.kept in
    omega (arith, k, h.cycle, h.within, h.taken, c.go_back.ensures.cycle, c.count.ensures, c.self.invariant.counted)

pub returns-clause-waves : goal.returns-clause-waves
returns-clause-waves g c = λ flat order rows r.
    let p = progress_of c.self.inside in
    let before = subst (RanTo flat order rows) (sym c.self.view_is) r in
    let x = some_failure p.failure (search rules) in
    let h : Failed flat order rows p x.0 = failed flat order rows p x.0 refl x.1 before in
    let s = reached flat order rows p x.0 _ c.go_back.new.sim h (ap (λ n. n - 1) c.count.ensures) c.go_back.ensures.flat
    c.go_back.ensures.cycle (c.go_back.ensures.come (state_at flat order rows) h.come) in
    subst (λ v. IsSomeAnd v.failure (λ y. Waves (g.K.Sink.held c.args.out.now) (g.K.Sink.held c.replay.new.out)
    (g.K.Sink.faults c.args.out.now) (g.K.Sink.faults c.replay.new.out) (window_text flat order rows v.lag y.cycle) c.replay.result))
    c.self.view_is
    (window_waves flat order rows p x.0 p.failure (g.K.Sink.held c.args.out.now) (g.K.Sink.held c.replay.new.out)
    (g.K.Sink.faults c.args.out.now) (g.K.Sink.faults c.replay.new.out) c.replay.result x.1 h
    (c.replay.ensures.waves flat order rows (window_start p.lag x.0.cycle) s (kept_rows p.lag x.0.cycle rows p.kept.rows h.within h.kept)))

pub returns-clause-steps : goal.returns-clause-steps
returns-clause-steps g c =
    let p = progress_of c.self.inside in
    let q = c.requires.ran in
    let before = subst (λ v. RanTo v.flat q.0 q.1 v) (sym c.self.view_is) q.2 in
    let x = some_failure p.failure (search rules) in
    let h : Failed p.flat q.0 q.1 p x.0 = failed p.flat q.0 q.1 p x.0 refl x.1 before in
    let k = kept_count p.lag x.0.cycle q.1 p.kept.rows h.within h.kept in
    let few : c.replay.new.steps ≤ c.args.steps.now + window_length p.lag x.0.cycle = omega (arith, k, c.replay.ensures.steps) in
    subst (λ v. IsSomeAnd v.failure (λ y. c.replay.new.steps ≤ c.args.steps.now + window_length v.lag y.cycle)) c.self.view_is
    (subst (λ o. IsSomeAnd o (λ y. c.replay.new.steps ≤ c.args.steps.now + window_length p.lag y.cycle)) (sym x.1) few)
