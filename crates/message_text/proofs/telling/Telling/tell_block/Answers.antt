use Rattle.std.proofs.Common.{false, get_or, refl}
use Rattle.message_text.specs.declared.telling.Given.{Given}
use Rattle.message_text.proofs.BlockLaws.{front_more}
use Rattle.message_text.proofs.telling.Telling.tell_block.Goals as goal

pub loop-k-preserved : goal.loop-k-preserved
loop-k-preserved c =
    let none : Given = record { done = false; width = 0; value = 0 } in
    front_more c.args.self.now c.loop-k.self c.tell.new.self c.args.events.now c.args.given.now c.loop-k.k
    c.index-events-k.result (get_or c.args.given.now c.loop-k.k none) none c.loop-k-test.true c.index-events-k.is refl
    c.in_ok-tell.ensures.tells c.in_ok-tell.ensures.stop c.loop-k.invariant
