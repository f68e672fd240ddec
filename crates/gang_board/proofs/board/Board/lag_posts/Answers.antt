use Rattle.std.proofs.Common.{refl, sym, ap, ◌∙◌, subst, arith, ◌+◌, List, length, map, false}
use Rattle.std.proofs.lemmas.List.{length-replicate}
use Rattle.atomic_table.specs.Seated.{TableId}
use Rattle.token_net.specs.Posts.{Sight}
use Rattle.gang_board.specs.Seats.{IsLaggerSeat}
use Rattle.gang_board.specs.Sights.{sight_of}
use Rattle.gang_board.proofs.Makes.{LaggersMade, lagger_splits, lagger_seat, lagger_alone_is, new_lagger, one_lagger_more, pushed, map_replicate}
use Rattle.gang_board.proofs.board.Board.lag_posts.Goals as goal

pub split_seat-theirs-requires : goal.split_seat-theirs-requires
split_seat-theirs-requires g c =
    let inv = c.loop-number.invariant in
    let same = inv.0 ∙ c.requires.board.0 in
    let words = ap (λ (x : TableId). x.words) c.requires.board.0 in let count = c.requires.board.1 in (
      same,
      omega (arith, words, count),
      lagger_splits c.args.self.now g.N.RunName.run c.args.setup.now c.loop-number.number c.loop-number.seat.me c.loop-number.posts.items
          inv.1 c.loop-number-test.true c.loop-number.seat.id,
    )

pub invariant_of-post : goal.invariant_of-post
invariant_of-post g c =
    let inv = c.loop-number.invariant in let split = c.split_seat-theirs.ensures in
    let b = c.args.self.now in let r = g.N.RunName.run in let s = c.args.setup.now in let k = c.loop-number.number in
    let me = c.loop-number.seat.me in let posts = c.loop-number.posts.items in
    let test = c.loop-number-test.true in
    let made = c.in_ok-sights.ensures in
    let sights = ap (map sight_of) made ∙ map_replicate sight_of s.leaders record { position = s.leader_at; halted = false } in
    record {
      is = subst (λ (l : List Sight). IsLaggerSeat c.split_seat-theirs.result.table_id.words k record { at = s.lagger_at; sights = l } c.split_seat-theirs.result.me) (sym sights)
          (lagger_seat b r s k me posts inv.1 test c.split_seat-theirs.result.table_id.words c.split_seat-theirs.result.me c.requires.begins.0 c.requires.begins.1
          (ap (λ (x : TableId). x.words) (split.3 ∙ inv.0) ∙ c.requires.board.1) split.4);
      sized = ap length made ∙ length-replicate s.leaders record { position = s.leader_at; halted = false }
          ∙ sym (ap (λ m. m.0.named.parts) (lagger_alone_is b r s k me posts inv.1 test c.split_seat-theirs.result.me split.4));
    }

pub loop-number-preserved : goal.loop-number-preserved
loop-number-preserved g c =
    let inv = c.loop-number.invariant in let split = c.split_seat-theirs.ensures in
    let b = c.args.self.now in let r = g.N.RunName.run in let s = c.args.setup.now in let k = c.loop-number.number in
    let me = c.loop-number.seat.me in let posts = c.loop-number.posts.items in
    let test = c.loop-number-test.true in
    let sights = ap (map sight_of) c.in_ok-sights.ensures ∙ map_replicate sight_of s.leaders record { position = s.leader_at; halted = false } in (
      split.0 ∙ inv.0,
      subst (LaggersMade b r s (k + 1) c.split_seat-theirs.new.seat.me)
          (sym (pushed _ _ _ _ (sym c.is_err.ensures.value ∙ c.if-is_err.false) c.push.ensures.items))
          (one_lagger_more b r s k me posts inv.1 test c.split_seat-theirs.new.seat.me _ split.2
          (new_lagger b r s k me posts inv.1 test _ (split.3 ∙ inv.0 ∙ c.requires.board.0) refl
          (λ i. record { at = s.lagger_at; sights = sights i }) split.4)),
    )
