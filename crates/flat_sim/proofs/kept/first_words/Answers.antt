use Rattle.flat_sim.proofs.Loops.{first_more}
use Rattle.flat_sim.proofs.kept.first_words.Goals as goal

pub loop-memory-preserved : goal.loop-memory-preserved
loop-memory-preserved c =
    first_more c.args.memories.now c.loop-memory.words.items c.push.new.self.items c.loop-memory.memory-index
    c.memory-item.result c.in_ok-own_words.field-0 c.loop-memory-test.true c.memory-item.is c.in_ok-push.ensures.items
    c.loop-memory.invariant c.in_ok-own_words.ensures.kept c.in_ok-own_words.ensures.same
