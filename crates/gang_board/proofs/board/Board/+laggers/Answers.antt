use Rattle.std.proofs.Common.{◌≡◌, ℕ, ◌≤◌, List, length, map, refl, sym, ap, ◌∙◌, subst, arith}
use Rattle.atomic_table.specs.Table.{Me}
use Rattle.atomic_table.specs.Seated.{TableId}
use Rattle.atomic_table.specs.declared.shared.Seat.{Seat}
use Rattle.std.proofs.lemmas.List.{length-map}
use Rattle.token_net.specs.Posts.{Lagger, Sight}
use Rattle.board_rule.specs.Views.{Named}
use Rattle.board_rule.specs.Plays.{both}
use Rattle.gang_board.specs.Seats.{lagger_looks_of, IsLaggerSeat}
use Rattle.gang_board.specs.Sights.{sight_of}
use Rattle.gang_board.specs.PostStates.{lagger}
use Rattle.gang_board.specs.CatchUp.{AreLeaders, AreLaggers, all_present, seen_of}
use Rattle.board_rule.specs.declared.view.View.{View}
use Rattle.board_rule.proofs.Seated.{empty_seat_keeps, join_keeps}
use Rattle.gang_board.proofs.CaughtLaggers.{joins_lagger, splits_lagger, looked_before_lagger, lagger_mine_is, lagger_post_is, lagger_seat_now, named_then, laggers_more, sights_all, laggers_again}
use Rattle.gang_board.proofs.board.Board.+laggers.Goals as goal

abbrev seat_words : Seat ℕ View → ℕ
seat_words s = s.table_id.words

pub with_lagger-split_seat-empty-requires : goal.with_lagger-split_seat-empty-requires
with_lagger-split_seat-empty-requires t c =
    let carrier = c.requires.carrier in let wide = carrier.words.wide in let same = ap (λ (x : TableId). x.words) carrier.board in
    (carrier.board, omega (arith, wide, same), empty_seat_keeps c.args.carrier.now.id c.args.carrier.now.me.0)

pub with_lagger-join_seat-requires : goal.with_lagger-join_seat-requires
with_lagger-join_seat-requires t c =
    let carrier = c.requires.carrier in let wide = carrier.words.wide in let same = ap (λ (x : TableId). x.words) carrier.board in
    let theirs = c.replace-theirs.ensures.value in let empty = c.split_seat-empty.ensures in (
      empty.0 ∙ carrier.board,
      ap (λ (s : Seat ℕ View). s.table_id) theirs ∙ c.requires.post.board,
      ap (λ (s : Seat ℕ View). s.me.1) theirs ∙ c.args.post.now.is.free,
      omega (arith, wide, same),
      join_keeps c.split_seat-empty.new.seat.id c.split_seat-empty.new.seat.me.0 c.replace-theirs.result.id c.replace-theirs.result.me.0
          (ap (λ (s : Seat ℕ View). s.me.0.named) theirs ∙ c.requires.post.named ∙ sym (ap (λ (m : Me ℕ View). m.0.named) empty.2)),
    )

pub with_lagger-with_laggers-word-requires : goal.with_lagger-with_laggers-word-requires
with_lagger-with_laggers-word-requires t c =
    let theirs = c.replace-theirs.ensures.value in let empty = c.split_seat-empty.ensures in let join = c.join_seat.ensures in
    let c0 = c.args.carrier.now in let c1 = c.join_seat.new.seat in let post = c.args.post.now in
    let joined = join.2 ∙ (λ i. (both (empty.2 i).0 (theirs i).me.0, (empty.2 i).1)) in
    let named = ap (λ (m : Me ℕ View). m.0.named) joined in (
      omega arith,
      (
        joins_lagger c.args.self.now c0 c1 c1 c1 post.seat post.seat post.number (length c.args.leaders.now) (length c.args.rest.now) 0 (lagger post) c.requires.carrier post.is c.requires.post.number
            c.requires.post.named joined (join.0 ∙ empty.0),
        (
          subst (λ (n : Named). AreLeaders c.args.self.now n c.args.leaders.now) (sym named) c.requires.leaders,
          (
            subst (λ (n : Named). AreLaggers c.args.self.now n c.args.rest.now) (sym named) c.requires.rest,
            (
              subst (λ (n : Named). (c.args.count ≡ n.parts) × (1 ≤ c.args.count)) (sym named) c.requires.count,
              subst (λ (n : Named). length c.args.leaders.now ≡ n.parts) (sym named) c.requires.all,
            ),
          ),
        ),
      ),
    )

pub with_lagger-split_seat-mine-requires : goal.with_lagger-split_seat-mine-requires
with_lagger-split_seat-mine-requires t c =
    let theirs = c.replace-theirs.ensures.value in let empty = c.split_seat-empty.ensures in let join = c.join_seat.ensures in
    let c0 = c.args.carrier.now in let c1 = c.join_seat.new.seat in let c2 = c.with_laggers-word.new.carrier in let post = c.args.post.now in
    let joined = join.2 ∙ (λ i. (both (empty.2 i).0 (theirs i).me.0, (empty.2 i).1)) in
    let looked = c.with_laggers-word.ensures.looked in
    let carrier = c.requires.carrier in let wide = carrier.words.wide in let same = ap (λ (x : TableId). x.words) carrier.board in (
      looked.seat.board ∙ join.0 ∙ empty.0 ∙ carrier.board,
      omega (arith, wide, same),
      splits_lagger c.args.self.now c0 c1 c2 c2 post.seat post.seat post.number (length c.args.leaders.now) (length c.args.rest.now) c.with_laggers-word.result (lagger post) carrier post.is c.requires.post.number
          c.requires.post.named joined (join.0 ∙ empty.0) looked c2.id,
    )

pub with_lagger-invariant_of-post : goal.with_lagger-invariant_of-post
with_lagger-invariant_of-post t c =
    let theirs = c.replace-theirs.ensures.value in let empty = c.split_seat-empty.ensures in let join = c.join_seat.ensures in
    let c0 = c.args.carrier.now in let c1 = c.join_seat.new.seat in let c2 = c.with_laggers-word.new.carrier in let c3 = c.split_seat-mine.new.seat in
    let post = c.args.post.now in let mine = c.split_seat-mine.result in let split = c.split_seat-mine.ensures in
    let joined = join.2 ∙ (λ i. (both (empty.2 i).0 (theirs i).me.0, (empty.2 i).1)) in
    let inner = c.with_laggers-word.ensures in let looked = inner.looked in
    let carrier = c.requires.carrier in let word = c.with_laggers-word.result in let n : Named = c0.me.0.named in
    let sights = ap (map sight_of) c.see_all.ensures
    ∙ sights_all c.args.self.now n looked.posts c.args.leaders.now c.with_laggers-word.new.leaders inner.size c.requires.all c.requires.leaders inner.leaders in
    let seat = c.replace.ensures.after in
    let is = lagger_mine_is c.args.self.now c0 c1 c2 c3 post.seat mine post.number (length c.args.leaders.now) (length c.args.rest.now) word (lagger post) carrier post.is c.requires.post.number
    c.requires.post.named joined (join.0 ∙ empty.0) looked split.2 split.0 split.4 split.3 in
    let then = named_then c.args.self.now c0 c1 c2 c3 post.seat mine post.number (length c.args.leaders.now) (length c.args.rest.now) word (lagger post) carrier post.is c.requires.post.number
    c.requires.post.named joined (join.0 ∙ empty.0) looked split.2 split.0 split.4 split.3 in
    let now = lagger_seat_now c.args.self.now c0 c1 c2 c3 post.seat mine post.number (length c.args.leaders.now) (length c.args.rest.now) word (lagger post) carrier post.is c.requires.post.number
    c.requires.post.named joined (join.0 ∙ empty.0) looked split.2 split.0 split.4 split.3 in
    let size = inner.size in let all = c.requires.all in
    record {
      is = subst (λ (s : Seat ℕ View). IsLaggerSeat s.table_id.words post.number record { at = post.position; sights = map sight_of c.see_all.new.sights.items } s.me) (sym seat)
          (subst (λ (l : List Sight). IsLaggerSeat mine.table_id.words post.number record { at = post.position; sights = l } mine.me) (sym sights) now);
      sized = ap length c.see_all.ensures ∙ length-map c.with_laggers-word.new.leaders seen_of ∙ size ∙ all
          ∙ sym (ap (λ (s : Seat ℕ View). s.me.0.named.parts) seat ∙ ap (λ (m : Me ℕ View). m.0.named.parts) is ∙ ap (λ (m : Named). m.parts) then);
    }

pub with_lagger-returns : goal.with_lagger-returns
with_lagger-returns t c =
    let theirs = c.replace-theirs.ensures.value in let empty = c.split_seat-empty.ensures in let join = c.join_seat.ensures in
    let c0 = c.args.carrier.now in let c1 = c.join_seat.new.seat in let c2 = c.with_laggers-word.new.carrier in let c3 = c.split_seat-mine.new.seat in
    let post = c.args.post.now in let mine = c.split_seat-mine.result in let split = c.split_seat-mine.ensures in
    let joined = join.2 ∙ (λ i. (both (empty.2 i).0 (theirs i).me.0, (empty.2 i).1)) in
    let inner = c.with_laggers-word.ensures in let looked = inner.looked in
    let carrier = c.requires.carrier in let word = c.with_laggers-word.result in let n : Named = c0.me.0.named in
    let sights = ap (map sight_of) c.see_all.ensures
    ∙ sights_all c.args.self.now n looked.posts c.args.leaders.now c.with_laggers-word.new.leaders inner.size c.requires.all c.requires.leaders inner.leaders in
    let seat = c.replace.ensures.after in
    let before = looked_before_lagger c.args.self.now c0 c1 c2 c3 post.seat mine post.number (length c.args.leaders.now) (length c.args.rest.now) word (lagger post) carrier post.is c.requires.post.number
    c.requires.post.named joined (join.0 ∙ empty.0) looked split.2 split.0 split.4 split.3 in
    let is = lagger_mine_is c.args.self.now c0 c1 c2 c3 post.seat mine post.number (length c.args.leaders.now) (length c.args.rest.now) word (lagger post) carrier post.is c.requires.post.number
    c.requires.post.named joined (join.0 ∙ empty.0) looked split.2 split.0 split.4 split.3 in
    let that = lagger_post_is c.args.self.now c0 c1 c2 c3 post.seat mine post.number (length c.args.leaders.now) (length c.args.rest.now) word (lagger post) carrier post.is c.requires.post.number
    c.requires.post.named joined (join.0 ∙ empty.0) looked split.2 split.0 split.4 split.3 in
    let then = named_then c.args.self.now c0 c1 c2 c3 post.seat mine post.number (length c.args.leaders.now) (length c.args.rest.now) word (lagger post) carrier post.is c.requires.post.number
    c.requires.post.named joined (join.0 ∙ empty.0) looked split.2 split.0 split.4 split.3 in
    let seen_lagger : Lagger = record { at = post.position; sights = all_present n looked.posts } in
    let new_lagger : Lagger = record { at = post.position; sights = map sight_of c.see_all.new.sights.items } in
    let same_post : new_lagger ≡ seen_lagger = λ i. record { at = post.position; sights = sights i } in (
      record { looked = before; size = inner.size; leaders = inner.leaders; lagger_size = inner.lagger_size; laggers = laggers_again c1.me.0.named n looked.posts _ _ (ap (λ (m : Me ℕ View). m.0.named) joined) inner.laggers },
      (
        record {
          board = ap (λ (s : Seat ℕ View). s.table_id) seat ∙ split.3 ∙ looked.seat.board ∙ join.0 ∙ empty.0 ∙ carrier.board ∙ sym c.requires.post.board;
          number = refl;
          named = ap (λ (s : Seat ℕ View). s.me.0.named) seat ∙ ap (λ (m : Me ℕ View). m.0.named) is ∙ then ∙ sym c.requires.post.named;
          post = same_post;
          looks = ap (λ (s : Seat ℕ View). lagger_looks_of s.me.0.laggers) seat ∙ ap (λ (m : Me ℕ View). lagger_looks_of m.0.laggers) is;
        },
        same_post ∙ that,
      ),
    )

pub with_laggers-returns-in-None : goal.with_laggers-returns-in-None
with_laggers-returns-in-None t c =
    let inner = c.with_leaders.ensures in let none = c.in-None.ensures.cases in
    record { looked = inner.looked; size = inner.size; leaders = inner.leaders; lagger_size = refl; laggers = λ k d l. absurd (omega (arith, l, none)) }

pub with_laggers-returns-in-Some : goal.with_laggers-returns-in-Some
with_laggers-returns-in-Some t c = laggers_more _ _ _ c.args.leaders.now c.with_lagger.new.leaders c.args.laggers.now c.in-Some.rest.now c.with_lagger.new.rest
    c.in-Some.post.now c.with_lagger.new.post c.in-Some.ensures.cases.0 c.with_lagger.ensures
