use Rattle.std.proofs.Common.{◌≡◌, ◌≤◌, ◌+◌, ◌++◌, take, drop}
use Rattle.held_state.specs.Moves.{moved}
use Rattle.held_state.specs.Noting.{AddsRegisters}
use Rattle.flat_sim.specs.Compared.{to_numbers}
use Rattle.flat_sim.proofs.compared.note_moved.Given as goal

-- so far the first parts take their next numbers
abbrev pub invariant-loop-k : goal.invariant-loop-k
invariant-loop-k l = record {
  noted : AddsRegisters l.flat l.fn.journal.fresh l.journal.fresh (to_numbers l.slots l.moves)
      (take l.k (moved 0 l.slots l.moves) ++ drop l.k (to_numbers l.slots l.moves));
  room : l.fn.journal.room ≤ l.journal.room + l.k;
  cycles : l.journal.cycles ≡ l.fn.journal.cycles;
  most : l.journal.most ≡ l.fn.journal.most;
}
