use Rattle.comb_order.specs.First.{IsFirst}
use Rattle.comb_order.proofs.Ranges.{SharesBelow}
use Rattle.comb_order.proofs.reads.first_shared.Given as goal

-- the first of the parts so far that share a bit
abbrev pub invariant-loop-number : goal.invariant-loop-number
invariant-loop-number l = IsFirst l.ranks (SharesBelow l.driven l.range l.number) l.found
