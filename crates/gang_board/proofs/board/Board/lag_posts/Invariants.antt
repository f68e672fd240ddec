use Rattle.std.proofs.Common.{◌≡◌}
use Rattle.gang_board.proofs.Makes.{LaggersMade}
use Rattle.gang_board.proofs.board.Board.lag_posts.Given as goal

abbrev pub invariant-loop-number : goal.invariant-loop-number
invariant-loop-number g l = (l.seat.table_id ≡ l.fn.seat.table_id)
    × LaggersMade l.self g.N.RunName.run l.setup l.number l.seat.me l.posts.items
