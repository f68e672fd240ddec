-- What ruled ends tell. This project's own.
use Rattle.crossbeam_queue.specs.Passes.{view}
use Rattle.token_chan.specs.Ends.{Giver, Taker}
use Rattle.token_chan.specs.declared.queues.RuledGive.{RuledGive}
use Rattle.token_chan.specs.declared.queues.RuledTake.{RuledTake}

module _ {R : Type 0} where
  abbrev pub giver_state : RuledGive R → Giver
  giver_state g = record {
    name = (view g.pass).name;
    queues = record { tokens_id = g.pass.table_id; returns_id = g.return_pass.table_id };
    given = (view g.pass).given;
    known = (view g.pass).knows_taken;
    reused = (view g.return_pass).reused;
    known_returned = (view g.return_pass).knows_returned;
    sent = g.sent;
    refusals = g.refusals;
  }

  abbrev pub taker_state : RuledTake R → Taker
  taker_state t = record {
    name = (view t.pass).name;
    queues = record { tokens_id = t.pass.table_id; returns_id = t.return_pass.table_id };
    taken = (view t.pass).taken;
    known = (view t.pass).knows_given;
    returned = (view t.return_pass).returned;
    known_reused = (view t.return_pass).knows_reused;
    refusals = t.refusals;
  }
