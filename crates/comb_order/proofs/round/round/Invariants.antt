use Rattle.std.specs.Prelude.{slice_index}
use Rattle.comb_order.specs.Round.{next_of}
use Rattle.comb_order.proofs.Rounds.{Stands}
use Rattle.comb_order.proofs.round.round.Given as goal

abbrev pub invariant-loop-step : goal.invariant-loop-step
invariant-loop-step l =
    Stands l.flat l.start l.ranks (slice_index l.ranks (next_of l.firsts l.start)) l.step l.parts.items l.next
