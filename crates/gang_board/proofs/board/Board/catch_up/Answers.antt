use Rattle.std.proofs.Common.{ℕ, set, ap, ◌∙◌, arith}
use Rattle.std.proofs.lemmas.List.{length-set}
use Rattle.atomic_table.specs.Table.{Me}
use Rattle.board_rule.proofs.Lists.{set_again}
use Rattle.gang_board.specs.declared.posts.LeaderPost.{LeaderPost}
use Rattle.board_rule.specs.declared.view.View.{View}
use Rattle.gang_board.proofs.CaughtLaggers.{caught_up}
use Rattle.gang_board.proofs.board.Board.catch_up.Goals as goal

pub overflow_cast-count : goal.overflow_cast-count
overflow_cast-count c =
    let all = c.requires.1 in let count = all.leader_count in let few = all.few in
    let size = length-set c.args.leaders.now 0 c.empty_seat-carrier.new.post in omega (arith, count, few, size)

pub returns : goal.returns
returns c = λ n all.
    let leaders = c.args.leaders.now in let first = c.index-leaders-0.result in let empty = c.empty_seat-carrier.ensures in
    let some = all.some in let count = all.leader_count in
    let same = ap (λ (p : LeaderPost). set leaders 0 p) empty.post ∙ set_again leaders 0 first in
    let named = ap (λ (m : Me ℕ View). m.0.named) empty.seat.1 ∙ (all.leaders 0 first (omega (arith, some, count))).named in
    (c.with_laggers-word.result, c.fire_cycle.ensures, caught_up c.args.self.now n _ c.empty_seat-carrier.result _ leaders _ _ _ _ all same named c.with_laggers-word.ensures)
