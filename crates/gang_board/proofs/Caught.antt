-- A leader's post that was joined to the carrier, and parted off again once the carrier has looked.
use Rattle.std.proofs.Common.{◌≡◌, ◌≢◌, ℕ, zero, suc, ◌+◌, ◌*◌, ◌<◌, ◌≤◌, List, [], ◌∷◌, ◌++◌, map, length, get_or, refl, sym, ap, ◌∙◌, subst, ⊎_elim, arith}
use Rattle.std.specs.List.{range_with_len}
use Rattle.std.proofs.lemmas.Bool.{cases_eq}
use Rattle.std.proofs.lemmas.List.{length-append}
use Rattle.std.proofs.lemmas.Grind.{merely}
use Rattle.atomic_table.specs.Table.{Me, Splits}
use Rattle.atomic_table.specs.declared.shared.Seat.{Seat}
use Rattle.named_run.specs.Named.{end_of}
use Rattle.token_net.specs.Posts.{Leader, Posts, PostsHold}
use Rattle.board_rule.specs.Views.{Named, HeldLeader, HeldLagger, course, rested_leader, rested_lagger}
use Rattle.board_rule.specs.Rule.{Each, Ruled}
use Rattle.board_rule.specs.Plays.{both, without_leader, leader_alone, leader_view}
use Rattle.gang_board.specs.Seats.{leader_looks_of, IsLeaderSeat}
use Rattle.gang_board.specs.CatchUp.{IsCarrier, caught_leader, caught_lagger, Looked, LeadersLooked, LeaderLooked, LeaderCaughtUp}
use Rattle.gang_board.specs.declared.posts.LeaderPost.{LeaderPost}
use Rattle.gang_board.proofs.Makes.{added, ahead}
use Rattle.board_rule.specs.declared.view.View.{View}
use Rattle.gang_board.specs.declared.board.Board.{Board}
use Rattle.board_rule.proofs.Seated.{leader_split}

abbrev number_of : HeldLeader → ℕ
number_of k = k.number

rested_numbers : (xs : List HeldLeader) → map number_of (map rested_leader xs) ≡ map number_of xs
rested_numbers [] = refl
rested_numbers (x ∷ xs) = ap (λ (l : List ℕ). x.number ∷ l) (rested_numbers xs)

caught_numbers : (c : Posts) (xs : List HeldLeader) → map number_of (map (caught_leader c) xs) ≡ map number_of xs
caught_numbers c [] = refl
caught_numbers c (x ∷ xs) = ap (λ (l : List ℕ). x.number ∷ l) (caught_numbers c xs)

abbrev head_or : {A : Type 0} → A → List A → A
head_or d [] = d
head_or d (x ∷ xs) = x

abbrev tail_of : {A : Type 0} → List A → List A
tail_of [] = []
tail_of (x ∷ xs) = xs

-- numbers of a range that begins above k are not k
range_apart : (k a n : ℕ) (xs : List HeldLeader) → map number_of xs ≡ range_with_len a n → k < a → Each (λ (x : HeldLeader). x.number ≢ k) xs
range_apart k a n [] e l = tt
range_apart k a zero (x ∷ xs) e l = absurd (let z = ap length e in omega (arith, z))
range_apart k a (suc n) (x ∷ xs) e l = (
  (λ t. let h : x.number ≡ a = ap (head_or 0) e in omega (arith, t, h, l)),
  range_apart k (a + 1) n xs (ap (λ (ys : List ℕ). tail_of ys) e) (omega (arith, l)),
)

-- a list whose elements, rested, are these
split_map : (ys : List HeldLeader) (z : HeldLeader) (zs : List HeldLeader) → map rested_leader ys ≡ z ∷ zs
    → (k : HeldLeader) × (ks : List HeldLeader) × (ys ≡ k ∷ ks) × (rested_leader k ≡ z) × (map rested_leader ks ≡ zs)
split_map [] z zs e = absurd (let w = ap length e in omega (arith, w))
split_map (y ∷ ys) z zs e = (y, ys, refl, ap (λ (l : List HeldLeader). head_or y l) e, ap (λ (l : List HeldLeader). tail_of l) e)

module _ (b : Board) (c0 c1 c2 c3 theirs mine : Seat ℕ View) (p m word : ℕ) (x : Leader) (carrier : IsCarrier b (m + 1) 0 c0)
    (seat : IsLeaderSeat theirs.table_id.words p x theirs.me) (number : p ≡ m) (named : theirs.me.0.named ≡ c0.me.0.named)
    (joined : c1.me ≡ (both c0.me.0 theirs.me.0, c0.me.1)) (board : c1.table_id ≡ c0.table_id) where
  abbrev has : HeldLeader
  has = record { number = p; post = x; looks = leader_looks_of theirs.me.0.leaders }

  pub leaders_now : c1.me.0.leaders ≡ has ∷ c0.me.0.leaders
  leaders_now = ap (λ (t : Me ℕ View). t.0.leaders) joined ∙ ap (λ (l : List HeldLeader). l ++ c0.me.0.leaders) seat.leaders

  pub laggers_now : c1.me.0.laggers ≡ c0.me.0.laggers
  laggers_now = ap (λ (t : Me ℕ View). t.0.laggers) joined ∙ ap (λ (l : List HeldLagger). l ++ c0.me.0.laggers) seat.laggers

  pub named_now : c1.me.0.named ≡ c0.me.0.named
  named_now = ap (λ (t : Me ℕ View). t.0.named) joined

  pub joins : IsCarrier b m 0 c1
  joins =
      let parts = ap (λ (n : Named). n.parts) named_now in
      let a = carrier.leaders.1 in let g = carrier.laggers.1 in
      record {
        board = board ∙ carrier.board;
        free = ap (λ (t : Me ℕ View). t.1) joined ∙ carrier.free;
        leaders = (
          suc carrier.leaders.0,
          omega (arith, a, parts),
          ap (map number_of) leaders_now ∙ (λ i. number i ∷ carrier.leaders.2 i),
        );
        laggers = (carrier.laggers.0, omega (arith, g, parts), ap (map (λ (y : HeldLagger). y.number)) laggers_now ∙ carrier.laggers.2);
        words = record {
          wide = ap (λ t. t.words) board ∙ carrier.words.wide ∙ ap (λ (n : Named). 16 * n.parts + 8) (sym named_now);
          bound = subst (λ (n : Named). end_of n.run ≤ 4294967295) (sym named_now) carrier.words.bound;
        };
      }

  module _ (looked : Looked word c1 c2) where
    pub parted : (k : HeldLeader) × (ks : List HeldLeader) × (c2.me.0.leaders ≡ k ∷ ks) × (rested_leader k ≡ caught_leader looked.posts has)
        × (map rested_leader ks ≡ map (caught_leader looked.posts) c0.me.0.leaders)
    parted = split_map c2.me.0.leaders (caught_leader looked.posts has) (map (caught_leader looked.posts) c0.me.0.leaders)
        (looked.seat.leaders ∙ ap (map (caught_leader looked.posts)) leaders_now)

    pub splits : (id : ℕ) → Splits Ruled id c2.me.0 (without_leader c2.me.0) (leader_alone c2.me.0)
    splits id =
        let q = parted in
        let first : q.0.number ≡ m = ap number_of q.3 ∙ number in
        let numbers : map number_of q.1 ≡ range_with_len (m + 1) carrier.leaders.0 =
        sym (rested_numbers q.1) ∙ ap (map number_of) q.4 ∙ caught_numbers looked.posts c0.me.0.leaders ∙ carrier.leaders.2 in
        let at : ℕ → Type 0 = λ k. Each (λ (y : HeldLeader). y.number ≢ k) q.1 in
        subst (λ (l : List HeldLeader). Splits Ruled id record { named = c2.me.0.named; leaders = l; laggers = c2.me.0.laggers }
        (without_leader record { named = c2.me.0.named; leaders = l; laggers = c2.me.0.laggers }) (leader_alone record { named = c2.me.0.named; leaders = l; laggers = c2.me.0.laggers }))
        (sym q.2)
        (leader_split c2.me.0.named id q.0 q.1 c2.me.0.laggers
        (subst at (sym first) (range_apart m (m + 1) carrier.leaders.0 q.1 numbers (omega arith))))

    module _ (left : c3.me ≡ (without_leader c2.me.0, c2.me.1)) (board3 : c3.table_id ≡ c2.table_id) (alone : mine.me ≡ (leader_alone c2.me.0, []))
        (board_mine : mine.table_id ≡ c2.table_id) where
      pub rest_now : c3.me.0.leaders ≡ parted.1
      rest_now = ap (λ (t : Me ℕ View). t.0.leaders) left
          ∙ ap (λ (l : List HeldLeader). (without_leader record { named = c2.me.0.named; leaders = l; laggers = c2.me.0.laggers }).leaders) parted.2

      pub named_then : c2.me.0.named ≡ c0.me.0.named
      named_then = looked.seat.named ∙ named_now

      abbrev pub looked_before : Looked word c0 c3
      looked_before = record {
        posts = looked.posts;
        holds = subst (λ (n : Named). PostsHold (course n) looked.posts) named_now looked.holds;
        fire = looked.fire;
        seat = record {
          board = board3 ∙ looked.seat.board ∙ board;
          free = ap (λ (t : Me ℕ View). t.1) left ∙ looked.seat.free;
          named = ap (λ (t : Me ℕ View). t.0.named) left ∙ named_then;
          leaders = ap (map rested_leader) rest_now ∙ parted.4;
          laggers = ap (λ (t : Me ℕ View). map (rested_lagger c0.me.0.named.parts) t.0.laggers) left
              ∙ subst (λ (n : Named). map (rested_lagger n.parts) c2.me.0.laggers ≡ map (caught_lagger n looked.posts) c1.me.0.laggers) named_now looked.seat.laggers
              ∙ ap (map (caught_lagger c0.me.0.named looked.posts)) laggers_now;
          leaders_are = subst (Each (λ (k : HeldLeader). k.post ≡ looked.posts.leader k.number)) (sym rest_now)
              ((subst (Each (λ (k : HeldLeader). k.post ≡ looked.posts.leader k.number)) parted.2 looked.seat.leaders_are).1);
          laggers_are = subst (Each (λ (k : HeldLagger). k.post ≡ looked.posts.lagger k.number)) (sym (ap (λ (t : Me ℕ View). t.0.laggers) left)) looked.seat.laggers_are;
        };
      }

      pub mine_is : mine.me ≡ (leader_view c2.me.0.named (caught_leader looked.posts has), [])
      mine_is = alone
          ∙ ap (λ (l : List HeldLeader). (leader_alone record { named = c2.me.0.named; leaders = l; laggers = c2.me.0.laggers }, [])) parted.2
          ∙ ap (λ (k : HeldLeader). (leader_view c2.me.0.named k, [])) parted.3

      -- the post that all holds of is this one
      pub post_is : (caught_leader looked.posts has).post ≡ looked.posts.leader p
      post_is = sym (ap (λ (k : HeldLeader). k.post) parted.3)
          ∙ (subst (Each (λ (k : HeldLeader). k.post ≡ looked.posts.leader k.number)) parted.2 looked.seat.leaders_are).0
          ∙ ap looked.posts.leader (ap number_of parted.3)

      pub seat_now : IsLeaderSeat mine.table_id.words p (caught_leader looked.posts has).post mine.me
      seat_now = subst (IsLeaderSeat mine.table_id.words p (caught_leader looked.posts has).post) (sym mine_is) (
          let n : Named = c2.me.0.named in
          let there : p < n.parts = (let l = seat.there in let e = ap (λ (n : Named). n.parts) named in let f = ap (λ (n : Named). n.parts) named_then in omega (arith, l, e, f)) in
          let holds : PostsHold (course n) looked.posts = subst (λ (n : Named). PostsHold (course n) looked.posts) (sym looked.seat.named) looked.holds in
          record {
            free = refl;
            leaders = refl;
            laggers = refl;
            there = there;
            within = (let w = (holds.leader p there).within in let e = ap (λ (y : Leader). y.at) post_is in omega (arith, w, e));
            stood = merely record { posts = looked.posts; holds = holds; is = post_is };
            board = record {
              wide = ap (λ t. t.words) (board_mine ∙ looked.seat.board ∙ board) ∙ carrier.words.wide ∙ ap (λ (n : Named). 16 * n.parts + 8) (sym named_then);
              bound = subst (λ (n : Named). end_of n.run ≤ 4294967295) (sym named_then) carrier.words.bound;
            };
          }
          )

-- the posts of a list and one more have looked
pub leaders_more : (word : ℕ) (old new : Seat ℕ View) (all before now : List LeaderPost) (post post_now : LeaderPost) → all ≡ before ++ post ∷ []
    → LeaderLooked word old new before now post post_now → LeadersLooked word old new all (now ++ post_now ∷ [])
leaders_more word old new all before now post post_now is h =
    let l = h.0 in let one = length-append before (post ∷ []) in let two = length-append now (post_now ∷ []) in let size = l.size in
    let whole = ap length is in
    record {
      looked = l.looked;
      size = omega (arith, one, two, size, whole);
      leaders = λ k d b. subst (λ (xs : List LeaderPost). LeaderCaughtUp l.looked.posts (get_or xs k d) (get_or (now ++ post_now ∷ []) k d)) (sym is)
          (⊎_elim
          (λ (e : k ≡ length before). subst (λ (y : LeaderPost × LeaderPost). LeaderCaughtUp l.looked.posts y.0 y.1)
          (λ i. (sym (added before post d k (sym e)) i, sym (added now post_now d k (size ∙ sym e)) i)) h.1)
          (λ (ne : k ≢ length before). let small : k < length before = omega (arith, b, one, whole, ne) in
          subst (λ (y : LeaderPost × LeaderPost). LeaderCaughtUp l.looked.posts y.0 y.1)
          (λ i. (sym (ahead before post d k small) i, sym (ahead now post_now d k (omega (arith, small, size))) i)) (l.leaders k d small))
          (cases_eq k (length before)));
    }
