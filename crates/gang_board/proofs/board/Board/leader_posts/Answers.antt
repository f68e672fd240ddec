use Rattle.std.proofs.Common.{refl, sym, ap, ◌∙◌, subst, arith, ◌+◌}
use Rattle.atomic_table.specs.Seated.{TableId}
use Rattle.gang_board.proofs.Makes.{LeadersMade, leader_splits, leader_seat, new_leader, one_leader_more, pushed}
use Rattle.gang_board.proofs.board.Board.leader_posts.Goals as goal

pub split_seat-theirs-requires : goal.split_seat-theirs-requires
split_seat-theirs-requires g c =
    let inv = c.loop-number.invariant in
    let same = inv.0 ∙ c.requires.board.0 in
    let words = ap (λ (x : TableId). x.words) c.requires.board.0 in let count = c.requires.board.1 in (
      same,
      omega (arith, words, count),
      leader_splits c.args.self.now g.N.RunName.run c.args.setup.now c.loop-number.number c.loop-number.seat.me c.loop-number.posts.items
          inv.1 c.loop-number-test.true c.loop-number.seat.id,
    )

pub invariant_of-post : goal.invariant_of-post
invariant_of-post g c =
    let inv = c.loop-number.invariant in let split = c.split_seat-theirs.ensures in
    record {
      is = leader_seat c.args.self.now g.N.RunName.run c.args.setup.now c.loop-number.number c.loop-number.seat.me c.loop-number.posts.items
          inv.1 c.loop-number-test.true c.split_seat-theirs.result.table_id.words c.split_seat-theirs.result.me c.requires.begins.0 c.requires.begins.1
          (ap (λ (x : TableId). x.words) (split.3 ∙ inv.0) ∙ c.requires.board.1) split.4;
    }

pub loop-number-preserved : goal.loop-number-preserved
loop-number-preserved g c =
    let inv = c.loop-number.invariant in let split = c.split_seat-theirs.ensures in
    let b = c.args.self.now in let r = g.N.RunName.run in let s = c.args.setup.now in let k = c.loop-number.number in
    let me = c.loop-number.seat.me in let posts = c.loop-number.posts.items in
    let test = c.loop-number-test.true in (
      split.0 ∙ inv.0,
      subst (LeadersMade b r s (k + 1) c.split_seat-theirs.new.seat.me)
          (sym (pushed _ _ _ _ (sym c.is_err.ensures.value ∙ c.if-is_err.false) c.push.ensures.items))
          (one_leader_more b r s k me posts inv.1 test c.split_seat-theirs.new.seat.me _ split.2
          (new_leader b r s k me posts inv.1 test _ (split.3 ∙ inv.0 ∙ c.requires.board.0) refl refl split.4)),
    )
