use Rattle.std.proofs.Common.{◌≡◌, ℕ, ◌≤◌, length, refl, sym, ap, ◌∙◌, subst, arith}
use Rattle.atomic_table.specs.Table.{Me}
use Rattle.atomic_table.specs.Seated.{TableId}
use Rattle.atomic_table.specs.declared.shared.Seat.{Seat}
use Rattle.token_net.specs.Posts.{Leader}
use Rattle.board_rule.specs.Views.{Named}
use Rattle.board_rule.specs.Plays.{both}
use Rattle.gang_board.specs.Seats.{leader_looks_of}
use Rattle.gang_board.specs.PostStates.{leader}
use Rattle.gang_board.specs.CatchUp.{AreLeaders}
use Rattle.board_rule.specs.declared.view.View.{View}
use Rattle.board_rule.proofs.Seated.{empty_seat_keeps, join_keeps}
use Rattle.gang_board.proofs.Caught.{joins, splits, looked_before, mine_is, post_is, named_then, leaders_more}
use Rattle.gang_board.proofs.board.Board.+leaders.Goals as goal

abbrev seat_words : Seat ℕ View → ℕ
seat_words s = s.table_id.words

pub with_leader-split_seat-empty-requires : goal.with_leader-split_seat-empty-requires
with_leader-split_seat-empty-requires t c =
    let carrier = c.requires.carrier in let wide = carrier.words.wide in let same = ap (λ (x : TableId). x.words) carrier.board in
    (carrier.board, omega (arith, wide, same), empty_seat_keeps c.args.carrier.now.id c.args.carrier.now.me.0)

pub with_leader-join_seat-requires : goal.with_leader-join_seat-requires
with_leader-join_seat-requires t c =
    let carrier = c.requires.carrier in let wide = carrier.words.wide in let same = ap (λ (x : TableId). x.words) carrier.board in
    let theirs = c.replace-theirs.ensures.value in let empty = c.split_seat-empty.ensures in (
      empty.0 ∙ carrier.board,
      ap (λ (s : Seat ℕ View). s.table_id) theirs ∙ c.requires.post.board,
      ap (λ (s : Seat ℕ View). s.me.1) theirs ∙ c.args.post.now.is.free,
      omega (arith, wide, same),
      join_keeps c.split_seat-empty.new.seat.id c.split_seat-empty.new.seat.me.0 c.replace-theirs.result.id c.replace-theirs.result.me.0
          (ap (λ (s : Seat ℕ View). s.me.0.named) theirs ∙ c.requires.post.named ∙ sym (ap (λ (m : Me ℕ View). m.0.named) empty.2)),
    )

pub with_leader-with_leaders-word-requires : goal.with_leader-with_leaders-word-requires
with_leader-with_leaders-word-requires t c =
    let theirs = c.replace-theirs.ensures.value in let empty = c.split_seat-empty.ensures in let join = c.join_seat.ensures in
    let c0 = c.args.carrier.now in let c1 = c.join_seat.new.seat in let post = c.args.post.now in
    let joined = join.2 ∙ (λ i. (both (empty.2 i).0 (theirs i).me.0, (empty.2 i).1)) in
    let named = ap (λ (m : Me ℕ View). m.0.named) joined in (
      omega arith,
      (
        joins c.args.self.now c0 c1 c1 c1 post.seat post.seat post.number (length c.args.rest.now) 0 (leader post) c.requires.carrier post.is c.requires.post.number
            c.requires.post.named joined (join.0 ∙ empty.0),
        (
          subst (λ (n : Named). AreLeaders c.args.self.now n c.args.rest.now) (sym named) c.requires.rest,
          subst (λ (n : Named). (c.args.count ≡ n.parts) × (1 ≤ c.args.count)) (sym named) c.requires.count,
        ),
      ),
    )

pub with_leader-split_seat-mine-requires : goal.with_leader-split_seat-mine-requires
with_leader-split_seat-mine-requires t c =
    let theirs = c.replace-theirs.ensures.value in let empty = c.split_seat-empty.ensures in let join = c.join_seat.ensures in
    let c0 = c.args.carrier.now in let c1 = c.join_seat.new.seat in let c2 = c.with_leaders-word.new.carrier in let post = c.args.post.now in
    let joined = join.2 ∙ (λ i. (both (empty.2 i).0 (theirs i).me.0, (empty.2 i).1)) in
    let looked = c.with_leaders-word.ensures.looked in
    let carrier = c.requires.carrier in let wide = carrier.words.wide in let same = ap (λ (x : TableId). x.words) carrier.board in (
      looked.seat.board ∙ join.0 ∙ empty.0 ∙ carrier.board,
      omega (arith, wide, same),
      splits c.args.self.now c0 c1 c2 c2 post.seat post.seat post.number (length c.args.rest.now) c.with_leaders-word.result (leader post) carrier post.is c.requires.post.number
          c.requires.post.named joined (join.0 ∙ empty.0) looked c2.id,
    )

pub with_leader-returns : goal.with_leader-returns
with_leader-returns t c =
    let theirs = c.replace-theirs.ensures.value in let empty = c.split_seat-empty.ensures in let join = c.join_seat.ensures in
    let c0 = c.args.carrier.now in let c1 = c.join_seat.new.seat in let c2 = c.with_leaders-word.new.carrier in let c3 = c.split_seat-mine.new.seat in
    let post = c.args.post.now in let mine = c.split_seat-mine.result in let split = c.split_seat-mine.ensures in
    let joined = join.2 ∙ (λ i. (both (empty.2 i).0 (theirs i).me.0, (empty.2 i).1)) in
    let inner = c.with_leaders-word.ensures in let looked = inner.looked in
    let carrier = c.requires.carrier in let word = c.with_leaders-word.result in
    let before = looked_before c.args.self.now c0 c1 c2 c3 post.seat mine post.number (length c.args.rest.now) word (leader post) carrier post.is c.requires.post.number
    c.requires.post.named joined (join.0 ∙ empty.0) looked split.2 split.0 split.4 split.3 in
    let is = mine_is c.args.self.now c0 c1 c2 c3 post.seat mine post.number (length c.args.rest.now) word (leader post) carrier post.is c.requires.post.number
    c.requires.post.named joined (join.0 ∙ empty.0) looked split.2 split.0 split.4 split.3 in
    let that = post_is c.args.self.now c0 c1 c2 c3 post.seat mine post.number (length c.args.rest.now) word (leader post) carrier post.is c.requires.post.number
    c.requires.post.named joined (join.0 ∙ empty.0) looked split.2 split.0 split.4 split.3 in
    let then = named_then c.args.self.now c0 c1 c2 c3 post.seat mine post.number (length c.args.rest.now) word (leader post) carrier post.is c.requires.post.number
    c.requires.post.named joined (join.0 ∙ empty.0) looked split.2 split.0 split.4 split.3 in
    let seat = c.replace.ensures.after in
    let seen_leader : Leader = record { at = post.position; halted = post.halted; reported = post.reported; seen = looked.posts.fire } in
    let new_leader : Leader = record { at = post.position; halted = post.halted; reported = post.reported; seen = word } in
    let same_post : new_leader ≡ seen_leader = λ i. record { at = post.position; halted = post.halted; reported = post.reported; seen = sym looked.fire i } in (
      record { looked = before; size = inner.size; leaders = inner.leaders },
      (
        record {
          board = ap (λ (s : Seat ℕ View). s.table_id) seat ∙ split.3 ∙ looked.seat.board ∙ join.0 ∙ empty.0 ∙ carrier.board ∙ sym c.requires.post.board;
          number = refl;
          named = ap (λ (s : Seat ℕ View). s.me.0.named) seat ∙ ap (λ (m : Me ℕ View). m.0.named) is ∙ then ∙ sym c.requires.post.named;
          post = same_post;
          looks = ap (λ (s : Seat ℕ View). leader_looks_of s.me.0.leaders) seat ∙ ap (λ (m : Me ℕ View). leader_looks_of m.0.leaders) is;
        },
        same_post ∙ that,
      ),
    )

pub with_leaders-returns-in-Some : goal.with_leaders-returns-in-Some
with_leaders-returns-in-Some t c = leaders_more _ _ _ c.args.leaders.now c.in-Some.rest.now c.with_leader.new.rest c.in-Some.post.now c.with_leader.new.post
    c.in-Some.ensures.cases.0 c.with_leader.ensures
