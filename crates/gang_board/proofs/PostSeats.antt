-- What the seat in a post allows, and what it is after a step.
use Rattle.std.proofs.Common.{◌≡◌, ℕ, ◌+◌, ◌%◌, ◌^◌, ◌<◌, ◌≤◌, min, true, false, List, [], ◌∷◌, map, length, refl, sym, ap, ◌∙◌, subst, arith}
use Rattle.std.proofs.lemmas.Grind.{merely}
use Rattle.std.proofs.lemmas.List.{get_or-set_same}
use Rattle.atomic_table.specs.Table.{Me, Step, Allows}
use Rattle.token_net.specs.Posts.{Sight, Leader, Lagger, PostsHold, MayRaise, MayHalt, MayReport, HasSeenFar, present, sight, with_sight, most_rows}
use Rattle.token_net.specs.Network.{Event, raise, halt, fire, see, lag_raise, see_fire}
use Rattle.board_rule.specs.Views.{HeldLeader, HeldLagger, course}
use Rattle.board_rule.specs.Rule.{Each, Ruled, fire_word, leader_word, lagger_word}
use Rattle.board_rule.specs.Plays.{Stood, Happened, by_leaders, by_laggers, posts_view, with_leaders, with_laggers, leader_view, lagger_view, raises, halts, reports, sees_fire, FindsLeader, sees_leader, lag_raises, number_at, sight_in}
use Rattle.board_rule.specs.Plays.{raised_leader, halted_leader, reported_leader, saw_fire, saw_leader, raised_lagger}
use Rattle.token_net.proofs.Places.{put_same}
use Rattle.gang_board.specs.Seats.{leader_looks_of, lagger_looks_of, LeaderMoved, LaggerMoved, IsLeaderSeat, IsLaggerSeat}
use Rattle.board_rule.specs.Plays.{Grows}
use Rattle.board_rule.specs.declared.view.View.{View}
use Rattle.board_rule.proofs.Steps.{raise_keeps, halt_keeps, report_keeps, see_fire_keeps, see_leader_keeps, lag_raise_keeps}

-- ---- a leader's post

module _ (words p : ℕ) (x : Leader) (me : Me ℕ View) (seat : IsLeaderSeat words p x me) where
  abbrev has_leader : HeldLeader
  has_leader = record { number = p; post = x; looks = leader_looks_of me.0.leaders }

  leader_is : me ≡ (leader_view me.0.named has_leader, [])
  leader_is = λ i. (record { named = me.0.named; leaders = seat.leaders i; laggers = seat.laggers i }, seat.free i)

  pub leader_place_there : leader_word p < words
  leader_place_there = let l = seat.there in let w = seat.board.wide in omega (arith, l, w)

  pub fire_place_there : fire_word < words
  fire_place_there = let w = seat.board.wide in omega (arith, w)

  pub leader_bound : x.at ≤ most_rows
  leader_bound = let t = seat.within in let b = seat.board.bound in omega (arith, t, b)

  pub raise_allowed : (slots id : ℕ) (st : Step ℕ) → MayRaise (course me.0.named) p x
      → Allows Ruled slots id me (leader_word p) (λ w. (w + 2) % 2 ^ 64) (raises st me)
  raise_allowed slots id st may =
      subst (λ (m : Me ℕ View). Allows Ruled slots id m (leader_word p) (λ w. (w + 2) % 2 ^ 64) (raises st m))
      (sym leader_is) (raise_keeps me.0.named slots id st has_leader may seat.board.bound)

  pub halt_allowed : (slots id : ℕ) (st : Step ℕ) → MayHalt (course me.0.named).rows x
      → Allows Ruled slots id me (leader_word p) (λ w. (w + 1) % 2 ^ 64) (halts st me)
  halt_allowed slots id st may =
      subst (λ (m : Me ℕ View). Allows Ruled slots id m (leader_word p) (λ w. (w + 1) % 2 ^ 64) (halts st m))
      (sym leader_is) (halt_keeps me.0.named slots id st has_leader may seat.board.bound)

  pub report_allowed : (slots id : ℕ) (st : Step ℕ) (t : ℕ) → t ≡ x.at → MayReport (course me.0.named) p x
      → Allows Ruled slots id me fire_word (λ w. min w t) (reports st me)
  report_allowed slots id st t cycle may =
      subst (λ (m : Me ℕ View). Allows Ruled slots id m fire_word (λ w. min w t) (reports st m)) (sym leader_is)
      (report_keeps me.0.named slots id st has_leader t cycle may)

  -- what was found of the fire word in a step of the seat
  pub fire_falls : (found : ℕ) (st : Step ℕ) (now : Me ℕ View) → sees_fire st me found now → found ≤ x.seen
  fire_falls found st now finds = (subst (Each (λ (k : HeldLeader). found ≤ k.post.seen)) seat.leaders finds.1.2).0

  -- the events of a step of the seat are one, by its post
  pub leader_moved : (e : ℕ → Event) (g : HeldLeader → HeldLeader) → (g has_leader).number ≡ p
      → Happened (by_leaders e me.0.leaders) me.0 (with_leaders g me.0) → LeaderMoved me.0.named (e p) p x (g has_leader).post
  leader_moved e g same happened =
      let t : Happened (e p ∷ []) (leader_view me.0.named has_leader) (leader_view me.0.named (g has_leader)) =
      subst (λ (l : List HeldLeader × List HeldLagger). Happened (by_leaders e l.0) (posts_view me.0.named l.0 l.1) (posts_view me.0.named (map g l.0) l.1))
      (λ i. (seat.leaders i, seat.laggers i)) happened in
      record {
        before = t.before.posts;
        held = t.before.holds;
        was = t.before.leaders.0.1;
        allowed = t.allowed.0;
        holds = subst (PostsHold (course me.0.named)) t.made t.now.holds;
        is = t.now.leaders.0.1 ∙ (λ i. (t.made i).leader (same i));
      }

  pub raise_moved : (st : Step ℕ) (found : ℕ) (now : Me ℕ View) → raises st me found now → LeaderMoved me.0.named (raise p) p x (record x { at = x.at + 1 })
  raise_moved st found now makes = leader_moved raise raised_leader refl makes.1

  pub halt_moved : (st : Step ℕ) (found : ℕ) (now : Me ℕ View) → halts st me found now → LeaderMoved me.0.named (halt p) p x (record x { halted = true })
  halt_moved st found now makes = leader_moved halt halted_leader refl makes.1

  pub report_moved : (st : Step ℕ) (found : ℕ) (now : Me ℕ View) → reports st me found now → LeaderMoved me.0.named (fire p) p x (record x { reported = true })
  report_moved st found now makes = leader_moved fire reported_leader refl makes.1

  pub fire_moved : (found : ℕ) (st : Step ℕ) (now : Me ℕ View) → sees_fire st me found now
      → (h : LeaderMoved me.0.named (see_fire p) p x (record x { seen = found })) × (found ≡ h.before.fire)
  fire_moved found st now finds =
      let h = leader_moved see_fire (saw_fire found) refl finds.1.0 in
      (h, ap (λ (z : Leader). z.seen) (h.is ∙ put_same p (record (h.before.leader p) { seen = h.before.fire }) h.before.leader))

  pub see_fire_allowed : (slots id : ℕ) (st : Step ℕ) → Allows Ruled slots id me fire_word (λ w. w) (sees_fire st me)
  see_fire_allowed slots id st = subst (λ (m : Me ℕ View). Allows Ruled slots id m fire_word (λ w. w) (sees_fire st m))
      (sym leader_is) (see_fire_keeps me.0.named slots id st has_leader [] [])

  -- after a step that changes the post by g
  module _ (g : HeldLeader → HeldLeader) (now : Me ℕ View) (becomes : now ≡ (with_leaders g me.0, me.1)) where
    leader_now_is : now ≡ (leader_view me.0.named (g has_leader), [])
    leader_now_is = becomes ∙ ap (λ (m : Me ℕ View). (with_leaders g m.0, m.1)) leader_is

    pub leader_after : (y : Leader) → g has_leader ≡ record { number = p; post = y; looks = (g has_leader).looks }
        → Stood (with_leaders g me.0) → IsLeaderSeat words p y now
    leader_after y changed stood =
        let k : HeldLeader = record { number = p; post = y; looks = (g has_leader).looks } in
        let now_is : now ≡ (leader_view me.0.named k, []) =
        leader_now_is ∙ ap (λ (z : HeldLeader). (leader_view me.0.named z, [])) changed in
        let t : Stood (leader_view me.0.named k) =
        subst Stood (ap (λ (m : Me ℕ View). with_leaders g m.0) leader_is ∙ ap (leader_view me.0.named) changed) stood in
        subst (IsLeaderSeat words p y) (sym now_is) record {
          free = refl;
          leaders = refl;
          laggers = refl;
          there = seat.there;
          within = (let w = (t.holds.leader p t.leaders.0.0).within in
              let e = ap (λ (z : Leader). z.at) t.leaders.0.1 in omega (arith, w, e));
          stood = merely record { posts = t.posts; holds = t.holds; is = t.leaders.0.1 };
          board = seat.board;
        }

    pub leader_named_stays : now.0.named ≡ me.0.named
    leader_named_stays = ap (λ (m : Me ℕ View). m.0.named) becomes

    pub leader_looks_after : leader_looks_of now.0.leaders ≡ (g has_leader).looks
    leader_looks_after = ap (λ (m : Me ℕ View). leader_looks_of m.0.leaders) leader_now_is

-- ---- a lagger's post

module _ (words q : ℕ) (y : Lagger) (me : Me ℕ View) (seat : IsLaggerSeat words q y me) where
  abbrev has_lagger : HeldLagger
  has_lagger = record { number = q; post = y; looks = lagger_looks_of me.0.laggers }

  lagger_is : me ≡ (lagger_view me.0.named has_lagger, [])
  lagger_is = λ i. (record { named = me.0.named; leaders = seat.leaders i; laggers = seat.laggers i }, seat.free i)

  pub lagger_place_there : lagger_word q < words
  lagger_place_there = let l = seat.there in let w = seat.board.wide in omega (arith, l, w)

  pub seen_place_there : (p : ℕ) → p < me.0.named.parts → leader_word p < words
  seen_place_there p l = let w = seat.board.wide in omega (arith, l, w)

  pub lag_raise_allowed : (slots id : ℕ) (st : Step ℕ) → HasSeenFar me.0.named.parts me.0.named.lag y
      → Allows Ruled slots id me (lagger_word q) (λ w. (w + 1) % 2 ^ 64) (lag_raises st me)
  lag_raise_allowed slots id st far =
      subst (λ (m : Me ℕ View). Allows Ruled slots id m (lagger_word q) (λ w. (w + 1) % 2 ^ 64) (lag_raises st m))
      (sym lagger_is) (lag_raise_keeps me.0.named slots id st has_lagger far seat.board.bound)

  pub see_leader_allowed : (slots id p : ℕ) (st : Step ℕ) → p < me.0.named.parts → number_at st.word ≡ p
      → Allows Ruled slots id me (leader_word p) (λ w. w) (sees_leader st me)
  see_leader_allowed slots id p st l number =
      subst (λ (m : Me ℕ View). Allows Ruled slots id m (leader_word p) (λ w. w) (sees_leader st m)) (sym lagger_is)
      (see_leader_keeps me.0.named slots id st [] has_lagger [] p l number)

  -- what was found of a leader in a step of the seat
  pub seen_grows : (p found : ℕ) (now : Me ℕ View) → FindsLeader p found me now → Grows (sight y p) (sight_in found)
  seen_grows p found now finds = (subst (Each (λ (k : HeldLagger). Grows (sight k.post p) (sight_in found))) seat.laggers finds.1.2).0

  -- the events of a step of the seat are one, by its post
  pub lagger_moved : (e : ℕ → Event) (g : HeldLagger → HeldLagger) → (g has_lagger).number ≡ q
      → Happened (by_laggers e me.0.laggers) me.0 (with_laggers g me.0) → LaggerMoved me.0.named (e q) q y (g has_lagger).post
  lagger_moved e g same happened =
      let t : Happened (e q ∷ []) (lagger_view me.0.named has_lagger) (lagger_view me.0.named (g has_lagger)) =
      subst (λ (l : List HeldLeader × List HeldLagger). Happened (by_laggers e l.1) (posts_view me.0.named l.0 l.1) (posts_view me.0.named l.0 (map g l.1)))
      (λ i. (seat.leaders i, seat.laggers i)) happened in
      record {
        before = t.before.posts;
        held = t.before.holds;
        was = t.before.laggers.0.1;
        allowed = t.allowed.0;
        holds = subst (PostsHold (course me.0.named)) t.made t.now.holds;
        is = t.now.laggers.0.1 ∙ (λ i. (t.made i).lagger (same i));
      }

  pub lag_raise_moved : (st : Step ℕ) (found : ℕ) (now : Me ℕ View) → lag_raises st me found now → LaggerMoved me.0.named (lag_raise q) q y (record y { at = y.at + 1 })
  lag_raise_moved st found now makes = lagger_moved lag_raise raised_lagger refl makes.1

  pub leader_seen : (p found : ℕ) (now : Me ℕ View) → p < me.0.named.parts → FindsLeader p found me now
      → (h : LaggerMoved me.0.named (see q p) q y (with_sight p (sight_in found) y)) × (sight_in found ≡ present (h.before.leader p))
  leader_seen p found now l finds =
      let h = lagger_moved (λ z. see z p) (saw_leader p (sight_in found)) refl finds.1.0 in
      let unseen : Sight = record { at = 0; halted = false } in
      let z : Lagger = h.before.lagger q in
      let size = seat.sized in let other = h.held.sized q seat.there in (
        h,
        sym (get_or-set_same y.sights p (sight_in found) unseen (omega (arith, size, l)))
            ∙ ap (λ (m : Lagger). sight m p) (h.is ∙ put_same q (with_sight p (present (h.before.leader p)) z) h.before.lagger)
            ∙ get_or-set_same z.sights p (present (h.before.leader p)) unseen (omega (arith, other, l)),
      )

  pub lagger_bound : HasSeenFar me.0.named.parts me.0.named.lag y → y.at < most_rows
  lagger_bound far = let f = far q seat.there in let w = seat.within q seat.there in let r = seat.board.bound in
      omega (arith, f, w, r)

  -- after a step that changes the post by g
  module _ (g : HeldLagger → HeldLagger) (now : Me ℕ View) (becomes : now ≡ (with_laggers g me.0, me.1)) where
    lagger_now_is : now ≡ (lagger_view me.0.named (g has_lagger), [])
    lagger_now_is = becomes ∙ ap (λ (m : Me ℕ View). (with_laggers g m.0, m.1)) lagger_is

    pub lagger_after : (z : Lagger) → g has_lagger ≡ record { number = q; post = z; looks = (g has_lagger).looks }
        → length (g has_lagger).looks ≡ me.0.named.parts → Stood (with_laggers g me.0) → IsLaggerSeat words q z now
    lagger_after z changed looked stood =
        let k : HeldLagger = record { number = q; post = z; looks = (g has_lagger).looks } in
        let now_is : now ≡ (lagger_view me.0.named k, []) =
        lagger_now_is ∙ ap (λ (l : HeldLagger). (lagger_view me.0.named l, [])) changed in
        let t : Stood (lagger_view me.0.named k) =
        subst Stood (ap (λ (m : Me ℕ View). with_laggers g m.0) lagger_is ∙ ap (lagger_view me.0.named) changed) stood in
        let is = t.laggers.0.1 in
        subst (IsLaggerSeat words q z) (sym now_is) record {
          free = refl;
          leaders = refl;
          laggers = refl;
          there = seat.there;
          sized = ap (λ (l : Lagger). length l.sights) is ∙ t.holds.sized q seat.there;
          looked = looked;
          within = λ p l. (let a = (t.holds.sight q p seat.there l).no_further in
              let b = (t.holds.leader p l).within in
              let e = ap (λ (m : Lagger). (sight m p).at) is in omega (arith, a, b, e));
          stood = merely record { posts = t.posts; holds = t.holds; is = is };
          board = seat.board;
        }

    pub lagger_named_stays : now.0.named ≡ me.0.named
    lagger_named_stays = ap (λ (m : Me ℕ View). m.0.named) becomes

    pub lagger_looks_after : lagger_looks_of now.0.laggers ≡ (g has_lagger).looks
    lagger_looks_after = ap (λ (m : Me ℕ View). lagger_looks_of m.0.laggers) lagger_now_is
