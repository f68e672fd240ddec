use Rattle.std.proofs.Common.{◌≡◌, false, sym, ap, ◌∙◌}
use Rattle.vl_pre.specs.Directives.{is_read}
use Rattle.vl_pre.specs.CleanText.{nothing}
use Rattle.vl_pre.specs.Calls.Reading.{context_of, step_at, skipped_at}
use Rattle.vl_pre.proofs.ReadingLaws.{steps_as, nothing_steps, skipped_text}
use Rattle.vl_pre.proofs.reading.take_step.Goals as goal

pub returns-else-is_read : goal.returns-else-is_read
returns-else-is_read c =
    let context = context_of c.args.context.now in
    let skipped : is_read context.conditions ≡ false = sym c.is_read.ensures ∙ c.if-is_read.false in
    steps_as c.args.out.now c.args.out.now c.skip_step.new.at c.skip_step.new.context _ (nothing context (skipped_at context c.args.at.now)) c.skip_step.result
    (ap (λ b. step_at b context c.args.at.now) skipped ∙ skipped_text context c.args.at.now c.requires.some)
    (nothing_steps c.args.out.now c.skip_step.new.at context c.skip_step.new.context _ c.skip_step.result c.requires.room c.skip_step.ensures)
