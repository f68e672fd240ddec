use Rattle.std.proofs.Common.{◌≡◌, ◌≤◌, ◌+◌, drop, map}
use Rattle.netlist.specs.Run.{after_writes}
use Rattle.step_program.specs.Values.{contents}
use Rattle.held_state.specs.Kept.{AllKept}
use Rattle.held_state.specs.Noting.{AddsWords}
use Rattle.held_state.proofs.noting.note_writes.Given as goal

-- what is left to write, written to the words as they are, is all
abbrev pub invariant-loop-one : goal.invariant-loop-one
invariant-loop-one l = record {
  kept : AllKept l.nodes.flat.memories l.words;
  all : after_writes l.nodes.flat l.nodes.numbers (drop l.one-index l.nodes.flat.writes) (map contents l.words)
      ≡ after_writes l.nodes.flat l.nodes.numbers l.nodes.flat.writes (map contents l.fn.words);
  noted : AddsWords l.nodes.flat l.fn.journal.fresh l.journal.fresh l.fn.words l.words;
  room : l.fn.journal.room ≤ l.journal.room + l.one-index;
  cycles : l.journal.cycles ≡ l.fn.journal.cycles;
  most : l.journal.most ≡ l.fn.journal.most;
}
