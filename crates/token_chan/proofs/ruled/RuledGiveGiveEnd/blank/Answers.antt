use Rattle.atomic_table.specs.Seated.{TableId}
use Rattle.crossbeam_queue.specs.Passes.{view}
use Rattle.token_chan.specs.Ends.{Giver}
use Rattle.token_chan.specs.declared.view.ReturnView.{ReturnView}
use Rattle.token_chan.proofs.ReturnSteps.{takes, learns_none_returned}
use Rattle.token_chan.proofs.Shapes.{shape_at}
use Rattle.token_chan.proofs.ruled.RuledGiveGiveEnd.blank.Goals as goal

pub pop_as-requires-clause-rule : goal.pop_as-requires-clause-rule
pop_as-requires-clause-rule g c = let e = c.args.self.now in (takes _ _ e.reuses, learns_none_returned _ _ e.reuses)

pub returns-in-Some : goal.returns-in-Some
returns-in-Some g c =
    let s = c.args.self.now in let answer = c.in-Some.ensures in let step = answer.rule.2 in
    let as_state : TableId → ReturnView → Giver = λ b w. record {
      name = (view s.pass).name;
      queues = record { tokens_id = s.pass.table_id; returns_id = b };
      given = (view s.pass).given;
      known = (view s.pass).knows_taken;
      reused = w.reused;
      known_returned = w.knows_returned;
      sent = s.sent;
      refusals = s.refusals;
    } in
    (shape_at _ _ _ s.named answer.rule.0, (step.0, step.1, λ i. as_state (answer.queue.0 i) (step.2 i)))
