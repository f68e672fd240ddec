use Rattle.std.proofs.Common.{List, subst, sym}
use Rattle.held_state.specs.declared.commits.Move.{Move}
use Rattle.held_state.specs.Moves.{AreInTurn}
use Rattle.held_state.proofs.commits.Commit.run.Goals as goal

pub move_all-requires-clause-turn : goal.move_all-requires-clause-turn
move_all-requires-clause-turn c is =
    subst (λ (ms : List Move). AreInTurn ms) (sym c.deref.ensures.value) (c.requires.can.turn is)
