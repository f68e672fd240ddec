-- The posts that come out of the first seat.
use Rattle.std.proofs.Common.{◌≡◌, ◌≢◌, ℕ, zero, suc, ◌+◌, ◌<◌, ◌≤◌, false, List, [], ◌∷◌, ◌++◌, length, map, replicate, Result, Ok, Err, is_ok, is_err, if◌then◌else◌, true≢false}
use Rattle.std.proofs.Common.{get_or, refl, sym, ap, ◌∙◌, subst, ⊎_elim, arith}
use Rattle.std.specs.Prelude.{slice_index_or}
use Rattle.std.proofs.lemmas.Bool.{cases_eq}
use Rattle.std.proofs.lemmas.Grind.{merely}
use Rattle.std.proofs.lemmas.List.{length-append, length-replicate, get_or-replicate}
use Rattle.atomic_table.specs.Table.{Me, Splits}
use Rattle.named_run.specs.Named.{RunData, end_of}
use Rattle.token_net.specs.Posts.{Sight, first_posts}
use Rattle.board_rule.specs.Views.{HeldLeader, HeldLagger, first_leader, first_lagger}
use Rattle.board_rule.specs.Rule.{Ruled, word_count}
use Rattle.board_rule.specs.Plays.{leader_view, lagger_view, without_leader, leader_alone, without_lagger, lagger_alone}
use Rattle.gang_board.specs.Seats.{leader_looks_of, lagger_looks_of, IsLeaderSeat, IsLaggerSeat}
use Rattle.gang_board.specs.PostStates.{leader, lagger}
use Rattle.gang_board.specs.Begins.{Begins, named_in, left_view, first_view, without_leaders, IsNewLeader, IsNewLagger, AreNewLeaders, AreNewLaggers}
use Rattle.board_rule.specs.declared.view.View.{View}
use Rattle.board_rule.specs.declared.setup.Setup.{Setup}
use Rattle.gang_board.specs.declared.board.Board.{Board}
use Rattle.gang_board.specs.declared.posts.LeaderPost.{LeaderPost}
use Rattle.gang_board.specs.declared.posts.LagPost.{LagPost}
use Rattle.gang_board.proofs.Opening.{each_leader, each_lagger, start_holds}
use Rattle.board_rule.proofs.Seated.{leader_split, lagger_split}

-- where not all are made, some are left
some_left : (k left n : ℕ) → k + left ≡ n → k < n → (m : ℕ) × (left ≡ suc m)
some_left k zero n e l = absurd (omega (arith, e, l))
some_left k (suc m) n e l = (m, refl)

-- the element that was added, and those before it
pub added : {A : Type 0} (xs : List A) (x d : A) (k : ℕ) → length xs ≡ k → get_or (xs ++ x ∷ []) k d ≡ x
added [] x d zero e = refl
added [] x d (suc k) e = absurd (omega (arith, e))
added (y ∷ ys) x d zero e = absurd (omega (arith, e))
added (y ∷ ys) x d (suc k) e = added ys x d k (omega (arith, e))

pub ahead : {A : Type 0} (xs : List A) (x d : A) (j : ℕ) → j < length xs → get_or (xs ++ x ∷ []) j d ≡ get_or xs j d
ahead [] x d j l = absurd (omega (arith, l))
ahead (y ∷ ys) x d zero l = refl
ahead (y ∷ ys) x d (suc j) l = ahead ys x d j (omega (arith, l))

-- what a push that succeeded leaves
pub pushed : {A B X : Type 0} (r : Result A B) (xs ys zs : List X) → is_err r ≡ false → zs ≡ (if is_ok r then xs else ys) → zs ≡ xs
pushed (Ok x) xs ys zs e is = is
pushed (Err x) xs ys zs e is = absurd (true≢false e)

pub map_replicate : {A B : Type 0} (f : A → B) (n : ℕ) (x : A) → map f (replicate n x) ≡ replicate n (f x)
map_replicate f zero x = refl
map_replicate f (suc n) x = ap (λ (l : List _). f x ∷ l) (map_replicate f n x)

-- the posts of the leaders below k are made, and the seat has the others
pub record LeadersMade (b : Board) (r : RunData) (s : Setup) (k : ℕ) (me : Me ℕ View) (posts : List LeaderPost) : Type 0 where
  pub left : ℕ
  pub count : k + left ≡ s.leaders
  pub is : me ≡ (left_view r s k left 0 s.leaders, [])
  pub size : length posts ≡ k
  pub each : (j : ℕ) (d : LeaderPost) → j < k → IsNewLeader b (named_in r s) s.leader_at j (slice_index_or posts j d)

-- the posts of the laggers below k are made, and the seat has the others
pub record LaggersMade (b : Board) (r : RunData) (s : Setup) (k : ℕ) (me : Me ℕ View) (posts : List LagPost) : Type 0 where
  pub left : ℕ
  pub count : k + left ≡ s.leaders
  pub is : me ≡ (left_view r s s.leaders 0 k left, [])
  pub size : length posts ≡ k
  pub each : (j : ℕ) (d : LagPost) → j < k → IsNewLagger b (named_in r s) s.leader_at s.lagger_at j (slice_index_or posts j d)

module _ (b : Board) (r : RunData) (s : Setup) where
  pub no_leaders : (me : Me ℕ View) (posts : List LeaderPost) → me ≡ (first_view r s, []) → posts ≡ [] → LeadersMade b r s 0 me posts
  no_leaders me posts is bare = record {
    left = s.leaders;
    count = omega arith;
    is = is;
    size = ap length bare;
    each = λ j d l. absurd (omega (arith, l));
  }

  pub no_laggers : (me : Me ℕ View) (posts : List LagPost) → me ≡ (without_leaders r s, []) → posts ≡ [] → LaggersMade b r s 0 me posts
  no_laggers me posts is bare = record {
    left = s.leaders;
    count = omega arith;
    is = is;
    size = ap length bare;
    each = λ j d l. absurd (omega (arith, l));
  }

  module _ (k : ℕ) (me : Me ℕ View) (posts : List LeaderPost) (made : LeadersMade b r s k me posts) (more : k < s.leaders) where
    leader_left : (m : ℕ) × (k + suc m ≡ s.leaders) × (me ≡ (left_view r s k (suc m) 0 s.leaders, []))
    leader_left = let m = some_left k made.left s.leaders made.count more in
        (m.0, ap (λ (x : ℕ). k + x) (sym m.1) ∙ made.count, made.is ∙ ap (λ (x : ℕ). (left_view r s k x 0 s.leaders, [])) m.1)

    pub leader_splits : (id : ℕ) → Splits Ruled id me.0 (without_leader me.0) (leader_alone me.0)
    leader_splits id = let m = leader_left in
        subst (λ (x : Me ℕ View). Splits Ruled id x.0 (without_leader x.0) (leader_alone x.0)) (sym m.2)
        (leader_split (named_in r s) id (first_leader s.leader_at k) _ _
        (each_leader (λ (x : HeldLeader). x.number ≢ k) s.leader_at (suc k) m.0 (λ j l u e. omega (arith, l, e))))

    pub leader_alone_is : (theirs : Me ℕ View) → theirs ≡ (leader_alone me.0, []) → theirs ≡ (leader_view (named_in r s) (first_leader s.leader_at k), [])
    leader_alone_is theirs e = let m = leader_left in e ∙ ap (λ (x : Me ℕ View). (leader_alone x.0, [])) m.2

    pub leader_seat : (words : ℕ) (theirs : Me ℕ View) → 1 ≤ s.leaders → Begins r s.leaders s.lag s.leader_at s.lagger_at → words ≡ word_count s.leaders
        → theirs ≡ (leader_alone me.0, []) → IsLeaderSeat words k (first_leader s.leader_at k).post theirs
    leader_seat words theirs nonempty begins wide e = subst (IsLeaderSeat words k (first_leader s.leader_at k).post) (sym (leader_alone_is theirs e)) record {
      free = refl;
      leaders = refl;
      laggers = refl;
      there = more;
      within = begins.within;
      stood = merely record { posts = first_posts s.leaders s.leader_at s.lagger_at; holds = start_holds s r nonempty begins; is = refl };
      board = record { wide = wide; bound = begins.bound };
    }

    pub new_leader : (post : LeaderPost) → post.seat.table_id ≡ b.table.shared.table_id → post.number ≡ k → leader post ≡ (first_leader s.leader_at k).post
        → post.seat.me ≡ (leader_alone me.0, []) → IsNewLeader b (named_in r s) s.leader_at k post
    new_leader post board number same_post e = let is = leader_alone_is post.seat.me e in record {
      board = board;
      number = number;
      named = ap (λ (m : Me ℕ View). m.0.named) is;
      post = same_post;
      looks = ap (λ (m : Me ℕ View). leader_looks_of m.0.leaders) is;
    }

    pub one_leader_more : (now : Me ℕ View) (post : LeaderPost) → now ≡ (without_leader me.0, me.1) → IsNewLeader b (named_in r s) s.leader_at k post
        → LeadersMade b r s (k + 1) now (posts ++ post ∷ [])
    one_leader_more now post e new = let m = leader_left in
        let c = m.1 in let next : suc k ≡ k + 1 = omega arith in
        record {
          left = m.0;
          count = omega (arith, c);
          is = e ∙ ap (λ (x : Me ℕ View). (without_leader x.0, x.1)) m.2 ∙ ap (λ (x : ℕ). (left_view r s x m.0 0 s.leaders, [])) next;
          size = (let l = length-append posts (post ∷ []) in let z = made.size in omega (arith, l, z));
          each = λ j d l. ⊎_elim
              (λ (t : j ≡ k). subst (λ (x : ℕ). IsNewLeader b (named_in r s) s.leader_at x (get_or (posts ++ post ∷ []) x d)) (sym t)
              (subst (IsNewLeader b (named_in r s) s.leader_at k) (sym (added posts post d k made.size)) new))
              (λ (ne : j ≢ k). let small : j < k = omega (arith, l, ne) in
              subst (IsNewLeader b (named_in r s) s.leader_at j) (sym (ahead posts post d j (let z = made.size in omega (arith, small, z)))) (made.each j d small))
              (cases_eq j k);
        }

  pub all_leaders : (me : Me ℕ View) (posts : List LeaderPost) → LeadersMade b r s s.leaders me posts
      → AreNewLeaders b (named_in r s) s.leader_at s.leaders posts × (me ≡ (without_leaders r s, []))
  all_leaders me posts made = (
    record { count = made.size; each = made.each },
    (let c = made.count in let e : made.left ≡ 0 = omega (arith, c) in
        made.is ∙ ap (λ (x : ℕ). (left_view r s s.leaders x 0 s.leaders, [])) e),
  )

  module _ (k : ℕ) (me : Me ℕ View) (posts : List LagPost) (made : LaggersMade b r s k me posts) (more : k < s.leaders) where
    lagger_left : (m : ℕ) × (k + suc m ≡ s.leaders) × (me ≡ (left_view r s s.leaders 0 k (suc m), []))
    lagger_left = let m = some_left k made.left s.leaders made.count more in
        (m.0, ap (λ (x : ℕ). k + x) (sym m.1) ∙ made.count, made.is ∙ ap (λ (x : ℕ). (left_view r s s.leaders 0 k x, [])) m.1)

    pub lagger_splits : (id : ℕ) → Splits Ruled id me.0 (without_lagger me.0) (lagger_alone me.0)
    lagger_splits id = let m = lagger_left in
        subst (λ (x : Me ℕ View). Splits Ruled id x.0 (without_lagger x.0) (lagger_alone x.0)) (sym m.2)
        (lagger_split (named_in r s) id (first_lagger s.leaders s.leader_at s.lagger_at k) _ _
        (each_lagger (λ (x : HeldLagger). x.number ≢ k) s.leaders s.leader_at s.lagger_at (suc k) m.0 (λ j l u e. omega (arith, l, e))))

    pub lagger_alone_is : (theirs : Me ℕ View) → theirs ≡ (lagger_alone me.0, []) → theirs ≡ (lagger_view (named_in r s) (first_lagger s.leaders s.leader_at s.lagger_at k), [])
    lagger_alone_is theirs e = let m = lagger_left in e ∙ ap (λ (x : Me ℕ View). (lagger_alone x.0, [])) m.2

    pub lagger_seat : (words : ℕ) (theirs : Me ℕ View) → 1 ≤ s.leaders → Begins r s.leaders s.lag s.leader_at s.lagger_at → words ≡ word_count s.leaders
        → theirs ≡ (lagger_alone me.0, []) → IsLaggerSeat words k (first_lagger s.leaders s.leader_at s.lagger_at k).post theirs
    lagger_seat words theirs nonempty begins wide e = subst (IsLaggerSeat words k (first_lagger s.leaders s.leader_at s.lagger_at k).post) (sym (lagger_alone_is theirs e)) record {
      free = refl;
      leaders = refl;
      laggers = refl;
      there = more;
      sized = length-replicate s.leaders record { at = s.leader_at; halted = false };
      looked = length-replicate s.leaders 0;
      within = λ p l. subst (λ (x : Sight). x.at ≤ end_of r) (sym (get_or-replicate s.leaders p record { at = s.leader_at; halted = false } record { at = 0; halted = false } l)) begins.within;
      stood = merely record { posts = first_posts s.leaders s.leader_at s.lagger_at; holds = start_holds s r nonempty begins; is = refl };
      board = record { wide = wide; bound = begins.bound };
    }

    pub new_lagger : (post : LagPost) → post.seat.table_id ≡ b.table.shared.table_id → post.number ≡ k
        → lagger post ≡ (first_lagger s.leaders s.leader_at s.lagger_at k).post → post.seat.me ≡ (lagger_alone me.0, [])
        → IsNewLagger b (named_in r s) s.leader_at s.lagger_at k post
    new_lagger post board number same_post e = let is = lagger_alone_is post.seat.me e in record {
      board = board;
      number = number;
      named = ap (λ (m : Me ℕ View). m.0.named) is;
      post = same_post;
      looks = ap (λ (m : Me ℕ View). lagger_looks_of m.0.laggers) is;
    }

    pub one_lagger_more : (now : Me ℕ View) (post : LagPost) → now ≡ (without_lagger me.0, me.1) → IsNewLagger b (named_in r s) s.leader_at s.lagger_at k post
        → LaggersMade b r s (k + 1) now (posts ++ post ∷ [])
    one_lagger_more now post e new = let m = lagger_left in
        let c = m.1 in let next : suc k ≡ k + 1 = omega arith in
        record {
          left = m.0;
          count = omega (arith, c);
          is = e ∙ ap (λ (x : Me ℕ View). (without_lagger x.0, x.1)) m.2 ∙ ap (λ (x : ℕ). (left_view r s s.leaders 0 x m.0, [])) next;
          size = (let l = length-append posts (post ∷ []) in let z = made.size in omega (arith, l, z));
          each = λ j d l. ⊎_elim
              (λ (t : j ≡ k). subst (λ (x : ℕ). IsNewLagger b (named_in r s) s.leader_at s.lagger_at x (get_or (posts ++ post ∷ []) x d)) (sym t)
              (subst (IsNewLagger b (named_in r s) s.leader_at s.lagger_at k) (sym (added posts post d k made.size)) new))
              (λ (ne : j ≢ k). let small : j < k = omega (arith, l, ne) in
              subst (IsNewLagger b (named_in r s) s.leader_at s.lagger_at j) (sym (ahead posts post d j (let z = made.size in omega (arith, small, z)))) (made.each j d small))
              (cases_eq j k);
        }

  pub all_laggers : (me : Me ℕ View) (posts : List LagPost) → LaggersMade b r s s.leaders me posts
      → AreNewLaggers b (named_in r s) s.leader_at s.lagger_at s.leaders posts
  all_laggers me posts made = record { count = made.size; each = made.each }
