use Rattle.std.proofs.Common.{◌+◌, ◌*◌, length}
use Rattle.gang_board.proofs.board.Board.+laggers.Given as goal

abbrev pub decreases-with_lagger : goal.decreases-with_lagger
decreases-with_lagger l = 2 * length l.rest.now + 1

abbrev pub decreases-with_laggers : goal.decreases-with_laggers
decreases-with_laggers l = 2 * length l.laggers.now
