use Rattle.std.proofs.Common.{◌≡◌, ◌+◌, ◌-◌, ◌<◌, length, [], refl, subst, ◌∙◌, arith}
use Rattle.std.specs.Prelude.{Ok, Err}
use Rattle.std.proofs.lemmas.Result.{err_from_is_err_and}
use Rattle.design_names.specs.Shown.{flat_scope}
use Rattle.waveform.specs.Vcd.{vcd_text}
use Rattle.waveform.specs.Writes.{WritesText}
use Rattle.window_run.specs.Window.{Waves, wave_of}
use Rattle.window_run.proofs.AgainLaws.{waves_more, header_waves, begins, ends}
use Rattle.window_run.proofs.replay.replay.Goals as goal

pub returns-in_err-header-clause-waves : goal.returns-in_err-header-clause-waves
returns-in_err-header-clause-waves g c = λ f order all first at from.
    let old = g.K.Sink.held c.args.out.now in
    let new = g.K.Sink.held c.header.new.out in
    let before = g.K.Sink.faults c.args.out.now in
    let now = g.K.Sink.faults c.header.new.out in
    let p = err_from_is_err_and c.from_residual.result c.from_residual.ensures.1 in
    let t = subst (λ x. WritesText old new before now (vcd_text (flat_scope x) first []) (Err c.in_err-header.field-0.0))
    (c.in-Ok.ensures.0 ∙ c.flat.ensures ∙ at.flat) (c.in_err-header.ensures.text first) in
    rw (p.1, p.2) (header_waves f order all first (length c.args.rows.now.rows) old new before now c.in_err-header.field-0.0 t)

pub loop-number-init : goal.loop-number-init
loop-number-init g c = record {
  at = λ f order all first at from. begins f order all first (g.K.Sink.held c.args.out.now) (g.K.Sink.held c.header.new.out)
      (g.K.Sink.faults c.args.out.now) (g.K.Sink.faults c.header.new.out) c.args.sim.now c.header.new.self tt at
      (subst (λ x. WritesText (g.K.Sink.held c.args.out.now) (g.K.Sink.held c.header.new.out) (g.K.Sink.faults c.args.out.now)
      (g.K.Sink.faults c.header.new.out) (vcd_text (flat_scope x) first []) (Ok tt)) (c.in-Ok.ensures.0 ∙ c.flat.ensures ∙ at.flat)
      (c.in_ok-header.ensures.text first)) c.in_ok-header.ensures.written;
  steps = omega arith;
  cycle = omega arith;
  flat = refl;
  design = c.header.ensures.design ∙ c.in-Ok.ensures.0 ∙ c.flat.ensures;
  live = c.in_ok-header.ensures.live;
  begun = c.in_ok-header.ensures.begun;
}

pub returns-in_err-cycle-clause-waves : goal.returns-in_err-cycle-clause-waves
returns-in_err-cycle-clause-waves g c = λ f order all first at from.
    let i = c.loop-number.invariant in
    let n = c.loop-number.number in
    let old = g.K.Sink.held c.args.out.now in
    let before = g.K.Sink.faults c.args.out.now in
    let new = g.K.Sink.held c.cycle.new.out in
    let now = g.K.Sink.faults c.cycle.new.out in
    let l : n < length c.args.rows.now.rows = omega (arith, c.loop-number-test.true, c.count-number-end.ensures) in
    let w = c.in_err-cycle.ensures.goes f order all first n old before (i.at f order all first at from) (from n l) in
    let k : n + 1 + (length c.args.rows.now.rows - (n + 1)) ≡ length c.args.rows.now.rows = omega (arith, l) in
    let p = err_from_is_err_and c.from_residual-in_err-cycle.result c.from_residual-in_err-cycle.ensures.1 in
    rw (p.1, p.2) (subst (λ m. Waves old new before now (wave_of f order all first m) (Err c.in_err-cycle.field-0.0)) k
    (waves_more f order all first (n + 1) (length c.args.rows.now.rows - (n + 1)) old new before now c.in_err-cycle.field-0.0 w))

pub loop-number-preserved : goal.loop-number-preserved
loop-number-preserved g c =
    let i = c.loop-number.invariant in
    let n = c.loop-number.number in
    let l : n < length c.args.rows.now.rows = omega (arith, c.loop-number-test.true, c.count-number-end.ensures) in
    record {
      at = λ f order all first at from.
          c.in_ok-cycle.ensures.goes f order all first n (g.K.Sink.held c.args.out.now) (g.K.Sink.faults c.args.out.now)
          (i.at f order all first at from) (from n l);
      steps = omega (arith, i.steps, c.cycle.ensures.steps);
      cycle = omega (arith, i.cycle, c.cycle.ensures.cycle);
      flat = c.cycle.ensures.flat ∙ i.flat;
      design = c.cycle.ensures.design ∙ i.design;
      live = c.in_ok-cycle.ensures.live;
      begun = c.in_ok-cycle.ensures.begun;
    }

pub returns-clause-waves : goal.returns-clause-waves
returns-clause-waves g c = λ f order all first at from.
    let k : c.loop-number.number ≡ length c.args.rows.now.rows =
    omega (arith, c.loop-number-test.false, c.loop-number.auto.number-end, c.count-number-end.ensures) in
    ends f order all first c.loop-number.number (length c.args.rows.now.rows) (g.K.Sink.held c.args.out.now)
    (g.K.Sink.held c.loop-number.out) (g.K.Sink.faults c.args.out.now) (g.K.Sink.faults c.loop-number.out) c.loop-number.sim
    c.loop-number.screen k (c.loop-number.invariant.at f order all first at from)
