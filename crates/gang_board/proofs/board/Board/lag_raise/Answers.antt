use Rattle.std.proofs.Common.{ℕ, ◌+◌, ◌%◌, ◌^◌, sym, ap, subst, arith}
use mathlib.Core.Option.{none}
use Rattle.atomic_table.specs.Table.{step, Allows}
use Rattle.atomic_table.specs.Seated.{TableId}
use Rattle.board_rule.specs.Rule.{Ruled}
use Rattle.board_rule.specs.Plays.{lag_raises}
use Rattle.gang_board.specs.PostStates.{lagger}
use Rattle.gang_board.proofs.PostSeats.{lagger_place_there, lag_raise_allowed}
use Rattle.gang_board.proofs.board.Board.lag_raise.Goals as goal

pub fetch_add-requires : goal.fetch_add-requires
fetch_add-requires c =
    let p = c.args.post.now in let t = c.args.self.now.table.shared in
    let place = c.lagger_place.ensures in
    let there = lagger_place_there p.seat.table_id.words p.number (lagger p) p.seat.me p.is in
    let same = ap (λ (x : TableId). x.words) c.requires.board in (
      c.requires.board,
      omega (arith, place, there, same),
      subst (λ (w : ℕ). Allows Ruled t.table_id.slots p.seat.id p.seat.me w (λ n. (n + 1) % 2 ^ 64) (lag_raises (step t.table_id.slots w 1 0 none) p.seat.me)) (sym place)
          (lag_raise_allowed p.seat.table_id.words p.number (lagger p) p.seat.me p.is t.table_id.slots p.seat.id (step t.table_id.slots c.lagger_place.result 1 0 none) c.requires.far),
    )
