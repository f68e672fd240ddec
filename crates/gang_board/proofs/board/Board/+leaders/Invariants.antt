use Rattle.std.proofs.Common.{◌+◌, ◌*◌, length}
use Rattle.gang_board.proofs.board.Board.+leaders.Given as goal

abbrev pub decreases-with_leader : goal.decreases-with_leader
decreases-with_leader l = 2 * length l.rest.now + 1

abbrev pub decreases-with_leaders : goal.decreases-with_leaders
decreases-with_leaders l = 2 * length l.leaders.now
