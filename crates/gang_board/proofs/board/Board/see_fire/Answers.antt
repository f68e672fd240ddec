use Rattle.std.proofs.Common.{ap, arith}
use mathlib.Core.Option.{none}
use Rattle.atomic_table.specs.Table.{step}
use Rattle.atomic_table.specs.Seated.{TableId}
use Rattle.gang_board.specs.PostStates.{leader}
use Rattle.gang_board.proofs.PostSeats.{fire_place_there, see_fire_allowed, fire_moved}
use Rattle.gang_board.proofs.board.Board.see_fire.Goals as goal

pub load-found-requires : goal.load-found-requires
load-found-requires c =
    let p = c.args.post.now in let t = c.args.self.now.table.shared in
    let there = fire_place_there p.seat.table_id.words p.number (leader p) p.seat.me p.is in
    let same = ap (λ (x : TableId). x.words) c.requires in (
      c.requires,
      omega (arith, there, same),
      see_fire_allowed p.seat.table_id.words p.number (leader p) p.seat.me p.is t.table_id.slots p.seat.id (step t.table_id.slots 0 0 0 none),
    )

pub returns-clause-event : goal.returns-clause-event
returns-clause-event c =
    let p = c.args.post.now in let t = c.args.self.now.table.shared in
    fire_moved p.seat.table_id.words p.number (leader p) p.seat.me p.is c.load-found.result (step t.table_id.slots 0 0 0 none) c.load-found.new.seat.me
    c.load-found.ensures.2
