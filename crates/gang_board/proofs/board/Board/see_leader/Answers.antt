use Rattle.std.proofs.Common.{◌≡◌, ℕ, ◌%◌, ◌/◌, ◌==◌, sym, ap, ◌∙◌, subst, arith, List, map, set}
use Rattle.std.proofs.lemmas.List.{map-set, length-set}
use mathlib.Core.Option.{none}
use Rattle.atomic_table.specs.Table.{step, Allows}
use Rattle.atomic_table.specs.Seated.{TableId}
use Rattle.token_net.specs.Posts.{Sight, Lagger, present, with_sight}
use Rattle.token_net.specs.Network.{see}
use Rattle.board_rule.specs.Views.{HeldLagger}
use Rattle.board_rule.specs.Rule.{Ruled}
use Rattle.board_rule.specs.Plays.{FindsLeader, sees_leader, saw_leader, sight_in, number_at}
use Rattle.gang_board.specs.Seats.{LaggerMoved, IsLaggerSeat, lagger_looks_of}
use Rattle.gang_board.specs.Sights.{sight_of}
use Rattle.gang_board.specs.PostStates.{lagger}
use Rattle.gang_board.specs.declared.seen.Seen.{Seen}
use Rattle.gang_board.proofs.PostSeats.{seen_place_there, see_leader_allowed, lagger_after, leader_seen}
use Rattle.gang_board.proofs.board.Board.see_leader.Goals as goal

pub load-found-requires : goal.load-found-requires
load-found-requires c =
    let p = c.args.post.now in let t = c.args.self.now.table.shared in
    let place = c.leader_place.ensures in
    let there = seen_place_there p.seat.table_id.words p.number (lagger p) p.seat.me p.is c.args.leader c.requires.there in
    let same = ap (λ (x : TableId). x.words) c.requires.board in (
      c.requires.board,
      omega (arith, place, there, same),
      subst (λ (w : ℕ). Allows Ruled t.table_id.slots p.seat.id p.seat.me w (λ n. n) (sees_leader (step t.table_id.slots c.leader_place.result 0 0 none) p.seat.me)) (sym place)
          (see_leader_allowed p.seat.table_id.words p.number (lagger p) p.seat.me p.is t.table_id.slots p.seat.id c.args.leader (step t.table_id.slots c.leader_place.result 0 0 none) c.requires.there (omega (arith, place))),
    )

pub invariant_of-post : goal.invariant_of-post
invariant_of-post c =
    let p = c.args.post.now in let saw = c.load-found.ensures.2 in
    let f = c.load-found.result in let at = c.args.leader in
    let place = c.leader_place.ensures in
    let number : number_at c.leader_place.result ≡ at = omega (arith, place) in
    let seen : Seen = record { position = f / 2; halted = f % 2 == 1 } in
    let has : HeldLagger = record { number = p.number; post = lagger p; looks = lagger_looks_of p.seat.me.0.laggers } in
    let has_post : ℕ → HeldLagger = λ k. record {
      number = p.number;
      post = with_sight k (sight_in f) (lagger p);
      looks = (saw_leader (number_at c.leader_place.result) (sight_in f) has).looks;
    } in
    let sights = map-set sight_of p.sights.items at seen in
    let after = lagger_after p.seat.table_id.words p.number (lagger p) p.seat.me p.is (saw_leader (number_at c.leader_place.result) (sight_in f))
    c.load-found.new.seat.me saw.0 (with_sight at (sight_in f) (lagger p))
    (ap (λ (k : ℕ). has_post k) number)
    (length-set (lagger_looks_of p.seat.me.0.laggers) (number_at c.leader_place.result) _ ∙ p.is.looked) saw.1.0.now in
    record {
      is = subst (λ (w : ℕ). IsLaggerSeat w p.number record { at = p.position; sights = map sight_of (set p.sights.items at seen) } c.load-found.new.seat.me)
          (ap (λ (x : TableId). x.words) (sym c.load-found.ensures.0))
          (subst (λ (l : List Sight). IsLaggerSeat p.seat.table_id.words p.number record { at = p.position; sights = l } c.load-found.new.seat.me) (sym sights) after);
      sized = length-set p.sights.items at seen ∙ p.sized ∙ sym (ap (λ m. m.0.named.parts) saw.0);
    }

pub returns-clause-event : goal.returns-clause-event
returns-clause-event c =
    let p = c.args.post.now in let f = c.load-found.result in let at = c.args.leader in
    let place = c.leader_place.ensures in
    let number : number_at c.leader_place.result ≡ at = omega (arith, place) in
    let sights = map-set sight_of p.sights.items at (record { position = f / 2; halted = f % 2 == 1 }) in
    let new : record { at = p.position; sights = map sight_of (set p.sights.items at (record { position = f / 2; halted = f % 2 == 1 })) } ≡ with_sight at (sight_in f) (lagger p) =
    λ i. record { at = p.position; sights = sights i } in
    subst (λ (l : Lagger). (h : LaggerMoved p.seat.me.0.named (see p.number at) p.number (lagger p) l) × (sight_in f ≡ present (h.before.leader at))) (sym new)
    (leader_seen p.seat.table_id.words p.number (lagger p) p.seat.me p.is at f c.load-found.new.seat.me c.requires.there
    (subst (λ (k : ℕ). FindsLeader k f p.seat.me c.load-found.new.seat.me) number c.load-found.ensures.2))
