use Rattle.std.proofs.Common.{map}
use Rattle.waveform.specs.Cycle.{form_variable}
use Rattle.waveform.proofs.Pushes.{on_ok, three_pushed, later_text}
use Rattle.waveform.proofs.cycle.push_later.Goals as goal

pub returns : goal.returns
returns c =
    on_ok c.push_rise.result (λ e. three_pushed _ _ _ _ _ _ _ _ (rw c.from.ensures at c.in_ok-push_time.ensures) c.in_ok-push_changes.ensures e
    (later_text (map form_variable c.args.forms.now) c.args.cycle c.args.last.now c.args.values.now)) c.push_rise.ensures
