use Rattle.std.proofs.Common.{ap, arith}
use Rattle.atomic_table.specs.Seated.{TableId}
use Rattle.gang_board.specs.PostStates.{leader}
use Rattle.gang_board.proofs.PostSeats.{fire_place_there}
use Rattle.board_rule.proofs.Seated.{empty_seat_keeps}
use Rattle.gang_board.proofs.board.Board.empty_seat.Goals as goal

pub split_seat-requires : goal.split_seat-requires
split_seat-requires c =
    let p = c.args.post.now in
    let there = fire_place_there p.seat.table_id.words p.number (leader p) p.seat.me p.is in
    let same = ap (λ (x : TableId). x.words) c.requires in
    (c.requires, omega (arith, there, same), empty_seat_keeps p.seat.id p.seat.me.0)
