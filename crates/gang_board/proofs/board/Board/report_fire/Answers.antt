use Rattle.std.proofs.Common.{ap, arith}
use mathlib.Core.Option.{none}
use Rattle.atomic_table.specs.Table.{step}
use Rattle.atomic_table.specs.Seated.{TableId}
use Rattle.named_run.proofs.RunLaws.{fires_below}
use Rattle.gang_board.specs.PostStates.{leader}
use Rattle.gang_board.proofs.PostSeats.{fire_place_there, report_allowed}
use Rattle.gang_board.proofs.board.Board.report_fire.Goals as goal

pub fetch_min-requires : goal.fetch_min-requires
fetch_min-requires c =
    let p = c.args.post.now in let t = c.args.self.now.table.shared in
    let there = fire_place_there p.seat.table_id.words p.number (leader p) p.seat.me p.is in
    let same = ap (λ (x : TableId). x.words) c.requires.board in (
      c.requires.board,
      omega (arith, there, same),
      report_allowed p.seat.table_id.words p.number (leader p) p.seat.me p.is t.table_id.slots p.seat.id (step t.table_id.slots 0 c.args.cycle 0 none) c.args.cycle c.requires.cycle record {
        runs = c.requires.may.runs;
        new = c.requires.may.new;
        below = fires_below _ _ _ c.requires.may.fired;
        fires = c.requires.may.fired;
      },
    )
