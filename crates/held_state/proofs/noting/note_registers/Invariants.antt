use Rattle.std.proofs.Common.{◌≡◌, ◌≤◌, ◌+◌, ◌++◌, take, drop}
use Rattle.step_program.specs.Plan.{held}
use Rattle.held_state.specs.Moves.{next_numbers}
use Rattle.held_state.specs.Noting.{AddsRegisters}
use Rattle.held_state.specs.Slots.{numbers}
use Rattle.held_state.proofs.noting.note_registers.Given as goal

-- so far the first parts take their next numbers
abbrev pub invariant-loop-k : goal.invariant-loop-k
invariant-loop-k l = record {
  noted : AddsRegisters l.nodes.flat l.fn.journal.fresh l.journal.fresh (numbers (held l.values) l.given)
      (take l.k (next_numbers l.nodes.flat l.nodes.numbers) ++ drop l.k (numbers (held l.values) l.given));
  room : l.fn.journal.room ≤ l.journal.room + l.k;
  cycles : l.journal.cycles ≡ l.fn.journal.cycles;
  most : l.journal.most ≡ l.fn.journal.most;
}
