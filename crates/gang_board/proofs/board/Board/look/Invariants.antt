use Rattle.gang_board.proofs.Looks.{Looking}
use Rattle.gang_board.proofs.board.Board.look.Given as goal

abbrev pub invariant-loop-leader : goal.invariant-loop-leader
invariant-loop-leader l = Looking l.fn.carrier l.leader l.carrier
