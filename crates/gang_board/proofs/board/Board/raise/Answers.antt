use Rattle.std.proofs.Common.{ℕ, ◌+◌, ◌%◌, ◌^◌, sym, ap, subst, arith}
use mathlib.Core.Option.{none}
use Rattle.atomic_table.specs.Table.{step, Allows}
use Rattle.atomic_table.specs.Seated.{TableId}
use Rattle.board_rule.specs.Rule.{Ruled}
use Rattle.board_rule.specs.Plays.{raises}
use Rattle.gang_board.specs.PostStates.{leader}
use Rattle.gang_board.proofs.PostSeats.{leader_place_there, raise_allowed}
use Rattle.gang_board.proofs.board.Board.raise.Goals as goal

pub fetch_add-requires : goal.fetch_add-requires
fetch_add-requires c =
    let p = c.args.post.now in let t = c.args.self.now.table.shared in
    let place = c.leader_place.ensures in
    let there = leader_place_there p.seat.table_id.words p.number (leader p) p.seat.me p.is in
    let same = ap (λ (x : TableId). x.words) c.requires.board in (
      c.requires.board,
      omega (arith, place, there, same),
      subst (λ (w : ℕ). Allows Ruled t.table_id.slots p.seat.id p.seat.me w (λ n. (n + 2) % 2 ^ 64) (raises (step t.table_id.slots w 2 0 none) p.seat.me)) (sym place)
          (raise_allowed p.seat.table_id.words p.number (leader p) p.seat.me p.is t.table_id.slots p.seat.id (step t.table_id.slots c.leader_place.result 2 0 none) c.requires.may),
    )
