use Rattle.std.proofs.Common.{◌≡◌, length}
use Rattle.std.specs.List.{All}
use Rattle.state_changes.specs.Changes.{undone}
use Rattle.step_program.specs.Plan.{held}
use Rattle.held_state.specs.Back.{ChangeFits}
use Rattle.held_state.specs.Noting.{CanRun, held_state}
use Rattle.held_state.proofs.undoing.undo_all.Given as goal

-- what is left to undo, undone from the state as it is, is all
abbrev pub invariant-loop-change : goal.invariant-loop-change
invariant-loop-change l = record {
  notes : All (ChangeFits l.flat) l.journal.fresh;
  can_run : CanRun l.flat l.compiled (held l.slots) l.words;
  all : undone l.journal.fresh (held_state l.flat l.compiled (held l.slots) l.words)
      ≡ undone l.fn.journal.fresh (held_state l.flat l.compiled (held l.fn.slots) l.fn.words);
  cycles : l.journal.cycles ≡ l.fn.journal.cycles;
  most : l.journal.most ≡ l.fn.journal.most;
}

abbrev pub decreases-loop-change : goal.decreases-loop-change
decreases-loop-change l = length l.journal.fresh
