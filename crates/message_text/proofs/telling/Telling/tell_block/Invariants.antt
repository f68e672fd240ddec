use Rattle.message_text.proofs.BlockLaws.{Front}
use Rattle.message_text.proofs.telling.Telling.tell_block.Given as goal

abbrev pub invariant-loop-k : goal.invariant-loop-k
invariant-loop-k l = Front l.fn.self l.self l.events l.given l.k
