use Rattle.std.proofs.Common.{Some, None, ap, ◌∙◌, sym}
use Rattle.std.proofs.lemmas.Result.{IfOk-weaker}
use Rattle.message_format.specs.Pieces.{elements_of, values_of}
use Rattle.message_format.proofs.EventLaws.{events_say, no_events, text_is}
use Rattle.message_format.proofs.events.message_events.Goals as goal

pub returns-clause-says : goal.returns-clause-says
returns-clause-says c = IfOk-weaker c.events_of.result _ _ (λ es e nodes xs.
    let say = events_say nodes xs c.args.condition c.args.path.now c.deref.result.now c.args.arguments.now es.items e in (
      say.0,
      text_is c.args.path.now c.args.format.now _ (values_of nodes xs c.args.arguments.now) (Some say.0)
          (c.in_ok-pieces.ensures.pieces ∙ ap (λ ps. Some (elements_of ps)) (sym c.deref.ensures.value)) say.1,
      say.2,
    ))
    c.events_of.ensures.events

pub returns-clause-bad : goal.returns-clause-bad
returns-clause-bad c = λ e nodes xs. text_is c.args.path.now c.args.format.now _
    (values_of nodes xs c.args.arguments.now) None
    (c.in_ok-pieces.ensures.pieces ∙ ap (λ ps. Some (elements_of ps)) (sym c.deref.ensures.value))
    (no_events nodes xs c.args.condition c.args.path.now c.deref.result.now c.args.arguments.now
    (c.events_of.ensures.bad e))
