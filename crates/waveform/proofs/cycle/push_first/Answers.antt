use Rattle.std.proofs.Common.{map}
use Rattle.waveform.specs.Cycle.{form_variable}
use Rattle.waveform.proofs.Pushes.{on_ok, five_pushed, first_text}
use Rattle.waveform.proofs.cycle.push_first.Goals as goal

pub returns : goal.returns
returns c =
    on_ok c.push_rise.result (λ e. five_pushed _ _ _ _ _ _ _ _ _ _ _ _ (rw c.from.ensures at c.in_ok-push_time.ensures) c.in_ok-push.ensures c.in_ok-push_all.ensures c.in_ok-push-2.ensures e
    (first_text (map form_variable c.args.forms.now) c.args.cycle c.args.values.now)) c.push_rise.ensures
