use Rattle.std.proofs.Common.{◌≡◌, ℕ, sym, ap, ◌∙◌, subst, arith}
use mathlib.Core.Option.{none}
use Rattle.atomic_table.specs.Table.{step, Allows}
use Rattle.atomic_table.specs.Seated.{TableId}
use Rattle.board_rule.specs.Rule.{Ruled}
use Rattle.board_rule.specs.Plays.{sees_leader, number_at}
use Rattle.gang_board.proofs.Looks.{Looking, looks_begin, all_numbers, look_allowed, fire_allowed, look_seen, looked_all}
use Rattle.gang_board.proofs.board.Board.look.Goals as goal

pub load-requires : goal.load-requires
load-requires c =
    let t = c.args.self.now.table.shared in let now = c.loop-leader.carrier in let inv = c.loop-leader.invariant in
    let p = c.loop-leader.leader in let place = c.leader_place.ensures in
    let small = c.loop-leader-test.true in let count = c.requires.count.0 in
    let wide = c.requires.carrier.words.wide in let same = ap (λ (x : TableId). x.words) c.requires.carrier.board in
    let number : number_at c.leader_place.result ≡ p = omega (arith, place) in (
      inv.board ∙ c.requires.carrier.board,
      omega (arith, place, small, count, wide, same),
      subst (λ (w : ℕ). Allows Ruled t.table_id.slots now.id now.me w (λ n. n) (sees_leader (step t.table_id.slots c.leader_place.result 0 0 none) now.me)) (sym place)
          (look_allowed c.args.self.now c.args.carrier.now now c.requires.carrier p inv (omega (arith, small, count)) t.table_id.slots (step t.table_id.slots c.leader_place.result 0 0 none) number),
    )

pub loop-leader-preserved : goal.loop-leader-preserved
loop-leader-preserved c =
    let inv = c.loop-leader.invariant in let p = c.loop-leader.leader in let place = c.leader_place.ensures in
    let small = c.loop-leader-test.true in let count = c.requires.count.0 in
    let number : number_at c.leader_place.result ≡ p = omega (arith, place) in
    look_seen c.args.carrier.now c.loop-leader.carrier c.load.new.seat p (number_at c.leader_place.result) c.load.result number
    (all_numbers c.args.self.now c.args.carrier.now c.requires.carrier) (omega (arith, small, count)) inv c.load.ensures.0 c.load.ensures.2

pub loop-leader-init : goal.loop-leader-init
loop-leader-init c = looks_begin c.args.carrier.now c.requires.carrier.free

pub load-requires-2 : goal.load-requires-2
load-requires-2 c =
    let t = c.args.self.now.table.shared in let now = c.loop-leader.carrier in let inv = c.loop-leader.invariant in
    let count = c.requires.count in let n = count.0 in let some = count.1 in
    let wide = c.requires.carrier.words.wide in let same = ap (λ (x : TableId). x.words) c.requires.carrier.board in (
      inv.board ∙ c.requires.carrier.board,
      omega (arith, wide, same),
      fire_allowed c.args.self.now c.args.carrier.now now c.requires.carrier c.loop-leader.leader inv (omega (arith, n, some)) t.table_id.slots (step t.table_id.slots 0 0 0 none),
    )

pub returns : goal.returns
returns c =
    let inv = c.loop-leader.invariant in let last = c.load-2.ensures in
    let count = c.requires.count.0 in let low = c.loop-leader-test.false in let high = c.loop-leader.auto.leader-end in
    let all : c.loop-leader.leader ≡ c.args.carrier.now.me.0.named.parts = omega (arith, count, low, high) in
    looked_all c.args.carrier.now c.loop-leader.carrier c.load-2.new.seat c.load-2.result (all_numbers c.args.self.now c.args.carrier.now c.requires.carrier)
    (subst (λ (p : ℕ). Looking c.args.carrier.now p c.loop-leader.carrier) all inv) last.0 last.2.0 last.2.1.0.now last.2.1.1
