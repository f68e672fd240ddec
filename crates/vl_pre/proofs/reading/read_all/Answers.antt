use Rattle.std.proofs.Common.{rules, ◌≡◌, ◌≤◌, ◌<◌, ◌-◌, [], length, sym, ap, ◌∙◌, arith}
use Rattle.std.proofs.lemmas.Result.{err_from_is_err_and}
use Rattle.vl_pre.specs.Directives.{is_read}
use Rattle.vl_pre.specs.CleanText.{reading_from}
use Rattle.vl_pre.specs.Calls.Reading.{fault_of, context_of, step_at}
use Rattle.vl_pre.proofs.ReadingLaws.{reading_more, reading_ended, finish_gives, empty_text}
use Rattle.vl_pre.proofs.StepLaws.{step_at_length, reads_more}
use Rattle.vl_pre.proofs.WriteLaws.{leads_here, leads_stop}
use Rattle.vl_pre.proofs.reading.read_all.Goals as goal

pub loop-alloc-init : goal.loop-alloc-init
loop-alloc-init c =
    let all : length c.args.at.now ≤ length c.args.at.now = omega arith in
    record { reads = (length c.args.at.now, all, leads_here c.args.out.now _); fits = c.requires }

pub returns-in_err-take_step : goal.returns-in_err-take_step
returns-in_err-take_step c =
    let context = context_of c.loop-alloc.context in
    let s = step_at (is_read context.conditions) context c.loop-alloc.at in
    let left : 0 < length c.loop-alloc.at = search rules in
    let reads = c.loop-alloc.invariant.reads in
    let p = err_from_is_err_and c.from_residual.result c.from_residual.ensures.1 in
    rw (p.1, p.2) (leads_stop s.part (reading_from (reads.0 - 1) s.context) (fault_of c.in_err-take_step.field-0.0) reads.2
    (reading_more reads.0 context c.loop-alloc.at (let k = reads.1 in omega (arith, k, left)) left) c.in_err-take_step.ensures)

pub loop-alloc-preserved : goal.loop-alloc-preserved
loop-alloc-preserved c =
    let left : 0 < length c.loop-alloc.at = search rules in
    let stepped = c.in_ok-take_step.ensures in
    record {
      reads = reads_more c.args.out.now c.loop-alloc.out c.take_step.new.out c.take_step.new.at _ (context_of c.loop-alloc.context) (context_of c.take_step.new.context) c.loop-alloc.at c.loop-alloc.invariant.reads left stepped.0 stepped.1;
      fits = stepped.0.fits;
    }

pub loop-alloc-smaller : goal.loop-alloc-smaller
loop-alloc-smaller c =
    let context = context_of c.loop-alloc.context in
    let left : 0 < length c.loop-alloc.at = search rules in
    let wrote = c.in_ok-take_step.ensures.0 in
    let i = step_at_length (is_read context.conditions) context c.loop-alloc.at left wrote.sound in
    let j = ap length wrote.left in omega (arith, i, j)

pub returns : goal.returns
returns c =
    let none : c.bytes.result.now ≡ [] = search rules in
    let context = context_of c.loop-alloc.context in
    let reads = c.loop-alloc.invariant.reads in
    finish_gives c.args.out.now c.loop-alloc.out _ _ context.conditions c.finish.result reads.2
    (reading_ended reads.0 context c.loop-alloc.at (empty_text c.loop-alloc.at (sym c.bytes.ensures ∙ none))) c.loop-alloc.invariant.fits c.finish.ensures
