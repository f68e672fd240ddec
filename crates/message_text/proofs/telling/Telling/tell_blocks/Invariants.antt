use Rattle.message_text.proofs.BlocksLaws.{Passed}
use Rattle.message_text.proofs.telling.Telling.tell_blocks.Given as goal

abbrev pub invariant-loop-block : goal.invariant-loop-block
invariant-loop-block l = Passed l.fn.self l.self l.blocks l.given l.rest l.block-index
