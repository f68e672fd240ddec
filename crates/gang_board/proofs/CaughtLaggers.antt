-- A lagger's post that was joined to the carrier, and parted off again once the carrier has looked.
use Rattle.std.proofs.Common.{◌≡◌, ◌≢◌, ℕ, zero, suc, ◌+◌, ◌*◌, ◌<◌, ◌≤◌, List, [], ◌∷◌, ◌++◌, map, length, get_or, false, refl, sym, ap, ◌∙◌, subst, ⊎_elim, arith}
use Rattle.std.specs.List.{range_with_len}
use Rattle.std.proofs.lemmas.Bool.{cases_eq}
use Rattle.std.proofs.lemmas.List.{length-replicate, length-append}
use Rattle.std.proofs.lemmas.List.FromFn.{get_or-map-range_with_len}
use Rattle.std.proofs.lemmas.Grind.{merely}
use Rattle.atomic_table.specs.Table.{Me, Splits}
use Rattle.atomic_table.specs.declared.shared.Seat.{Seat}
use Rattle.named_run.specs.Named.{end_of}
use Rattle.token_net.specs.Posts.{Lagger, Posts, PostsHold, present, sight}
use Rattle.board_rule.specs.Views.{Named, HeldLeader, HeldLagger, course, rested_leader, rested_lagger}
use Rattle.board_rule.specs.Rule.{Each, Ruled}
use Rattle.board_rule.specs.Plays.{both, without_lagger, lagger_alone, lagger_view}
use Rattle.gang_board.specs.Seats.{lagger_looks_of, IsLaggerSeat}
use Rattle.gang_board.specs.Sights.{sight_of}
use Rattle.gang_board.specs.PostStates.{leader, lagger}
use Rattle.gang_board.specs.CatchUp.{AreAllPosts, IsCarrier, all_present, caught_leader, caught_lagger, Looked, AllLooked, LaggerLooked, LaggerCaughtUp, LeaderCaughtUp, AreLeaders, CaughtUp, seen_of}
use Rattle.gang_board.specs.declared.seen.Seen.{Seen}
use Rattle.board_rule.specs.declared.view.View.{View}
use Rattle.gang_board.specs.declared.board.Board.{Board}
use Rattle.gang_board.specs.declared.posts.LeaderPost.{LeaderPost}
use Rattle.gang_board.specs.declared.posts.LagPost.{LagPost}
use Rattle.board_rule.proofs.Seated.{lagger_split}
use Rattle.gang_board.proofs.Makes.{added, ahead}

abbrev head_or : {A : Type 0} → A → List A → A
head_or d [] = d
head_or d (x ∷ xs) = x

abbrev tail_of : {A : Type 0} → List A → List A
tail_of [] = []
tail_of (x ∷ xs) = xs

abbrev number_of : HeldLagger → ℕ
number_of k = k.number

rested_numbers : (parts : ℕ) (xs : List HeldLagger) → map number_of (map (rested_lagger parts) xs) ≡ map number_of xs
rested_numbers parts [] = refl
rested_numbers parts (x ∷ xs) = ap (λ (l : List ℕ). x.number ∷ l) (rested_numbers parts xs)

caught_numbers : (n : Named) (c : Posts) (xs : List HeldLagger) → map number_of (map (caught_lagger n c) xs) ≡ map number_of xs
caught_numbers n c [] = refl
caught_numbers n c (x ∷ xs) = ap (λ (l : List ℕ). x.number ∷ l) (caught_numbers n c xs)

-- numbers of a range that begins above k are not k
range_apart : (k a n : ℕ) (xs : List HeldLagger) → map number_of xs ≡ range_with_len a n → k < a → Each (λ (x : HeldLagger). x.number ≢ k) xs
range_apart k a n [] e l = tt
range_apart k a zero (x ∷ xs) e l = absurd (let z = ap length e in omega (arith, z))
range_apart k a (suc n) (x ∷ xs) e l = (
  (λ t. let h : x.number ≡ a = ap (head_or 0) e in omega (arith, t, h, l)),
  range_apart k (a + 1) n xs (ap (λ (ys : List ℕ). tail_of ys) e) (omega (arith, l)),
)

-- a list whose elements, rested, are these
split_map : (parts : ℕ) (ys : List HeldLagger) (z : HeldLagger) (zs : List HeldLagger) → map (rested_lagger parts) ys ≡ z ∷ zs
    → (k : HeldLagger) × (ks : List HeldLagger) × (ys ≡ k ∷ ks) × (rested_lagger parts k ≡ z) × (map (rested_lagger parts) ks ≡ zs)
split_map parts [] z zs e = absurd (let w = ap length e in omega (arith, w))
split_map parts (y ∷ ys) z zs e = (y, ys, refl, ap (λ (l : List HeldLagger). head_or (rested_lagger parts y) l) e, ap (λ (l : List HeldLagger). tail_of l) e)

module _ (b : Board) (c0 c1 c2 c3 theirs mine : Seat ℕ View) (q k m word : ℕ) (y : Lagger) (carrier : IsCarrier b k (m + 1) c0)
    (seat : IsLaggerSeat theirs.table_id.words q y theirs.me) (number : q ≡ m) (named : theirs.me.0.named ≡ c0.me.0.named)
    (joined : c1.me ≡ (both c0.me.0 theirs.me.0, c0.me.1)) (board : c1.table_id ≡ c0.table_id) where
  abbrev has : HeldLagger
  has = record { number = q; post = y; looks = lagger_looks_of theirs.me.0.laggers }

  pub laggers_now : c1.me.0.laggers ≡ has ∷ c0.me.0.laggers
  laggers_now = ap (λ (t : Me ℕ View). t.0.laggers) joined ∙ ap (λ (l : List HeldLagger). l ++ c0.me.0.laggers) seat.laggers

  pub leaders_now : c1.me.0.leaders ≡ c0.me.0.leaders
  leaders_now = ap (λ (t : Me ℕ View). t.0.leaders) joined ∙ ap (λ (l : List HeldLeader). l ++ c0.me.0.leaders) seat.leaders

  pub named_now : c1.me.0.named ≡ c0.me.0.named
  named_now = ap (λ (t : Me ℕ View). t.0.named) joined

  pub joins_lagger : IsCarrier b k m c1
  joins_lagger =
      let parts = ap (λ (n : Named). n.parts) named_now in
      let a = carrier.leaders.1 in let g = carrier.laggers.1 in
      record {
        board = board ∙ carrier.board;
        free = ap (λ (t : Me ℕ View). t.1) joined ∙ carrier.free;
        leaders = (carrier.leaders.0, omega (arith, a, parts), ap (map (λ (x : HeldLeader). x.number)) leaders_now ∙ carrier.leaders.2);
        laggers = (
          suc carrier.laggers.0,
          omega (arith, g, parts),
          ap (map number_of) laggers_now ∙ (λ i. number i ∷ carrier.laggers.2 i),
        );
        words = record {
          wide = ap (λ t. t.words) board ∙ carrier.words.wide ∙ ap (λ (n : Named). 16 * n.parts + 8) (sym named_now);
          bound = subst (λ (n : Named). end_of n.run ≤ 4294967295) (sym named_now) carrier.words.bound;
        };
      }

  module _ (looked : Looked word c1 c2) where
    abbrev whole : Named
    whole = c1.me.0.named

    pub parted : (z : HeldLagger) × (zs : List HeldLagger) × (c2.me.0.laggers ≡ z ∷ zs) × (rested_lagger whole.parts z ≡ caught_lagger whole looked.posts has)
        × (map (rested_lagger whole.parts) zs ≡ map (caught_lagger whole looked.posts) c0.me.0.laggers)
    parted = split_map whole.parts c2.me.0.laggers (caught_lagger whole looked.posts has) (map (caught_lagger whole looked.posts) c0.me.0.laggers)
        (looked.seat.laggers ∙ ap (map (caught_lagger whole looked.posts)) laggers_now)

    pub splits_lagger : (id : ℕ) → Splits Ruled id c2.me.0 (without_lagger c2.me.0) (lagger_alone c2.me.0)
    splits_lagger id =
        let z = parted in
        let first : z.0.number ≡ m = ap number_of z.3 ∙ number in
        let numbers : map number_of z.1 ≡ range_with_len (m + 1) carrier.laggers.0 =
        sym (rested_numbers whole.parts z.1) ∙ ap (map number_of) z.4 ∙ caught_numbers whole looked.posts c0.me.0.laggers ∙ carrier.laggers.2 in
        let at : ℕ → Type 0 = λ k. Each (λ (y : HeldLagger). y.number ≢ k) z.1 in
        subst (λ (l : List HeldLagger). Splits Ruled id record { named = c2.me.0.named; leaders = c2.me.0.leaders; laggers = l }
        (without_lagger record { named = c2.me.0.named; leaders = c2.me.0.leaders; laggers = l }) (lagger_alone record { named = c2.me.0.named; leaders = c2.me.0.leaders; laggers = l }))
        (sym z.2)
        (lagger_split c2.me.0.named id z.0 c2.me.0.leaders z.1
        (subst at (sym first) (range_apart m (m + 1) carrier.laggers.0 z.1 numbers (omega arith))))

    module _ (left : c3.me ≡ (without_lagger c2.me.0, c2.me.1)) (board3 : c3.table_id ≡ c2.table_id) (alone : mine.me ≡ (lagger_alone c2.me.0, []))
        (board_mine : mine.table_id ≡ c2.table_id) where
      pub rest_now : c3.me.0.laggers ≡ parted.1
      rest_now = ap (λ (t : Me ℕ View). t.0.laggers) left
          ∙ ap (λ (l : List HeldLagger). (without_lagger record { named = c2.me.0.named; leaders = c2.me.0.leaders; laggers = l }).laggers) parted.2

      pub named_then : c2.me.0.named ≡ c0.me.0.named
      named_then = looked.seat.named ∙ named_now

      abbrev pub looked_before_lagger : Looked word c0 c3
      looked_before_lagger = record {
        posts = looked.posts;
        holds = subst (λ (n : Named). PostsHold (course n) looked.posts) named_now looked.holds;
        fire = looked.fire;
        seat = record {
          board = board3 ∙ looked.seat.board ∙ board;
          free = ap (λ (t : Me ℕ View). t.1) left ∙ looked.seat.free;
          named = ap (λ (t : Me ℕ View). t.0.named) left ∙ named_then;
          leaders = ap (λ (t : Me ℕ View). map rested_leader t.0.leaders) left ∙ looked.seat.leaders ∙ ap (map (caught_leader looked.posts)) leaders_now;
          laggers = ap (map (rested_lagger c0.me.0.named.parts)) rest_now
              ∙ subst (λ (n : Named). map (rested_lagger n.parts) parted.1 ≡ map (caught_lagger n looked.posts) c0.me.0.laggers) named_now parted.4;
          leaders_are = subst (Each (λ (k : HeldLeader). k.post ≡ looked.posts.leader k.number)) (sym (ap (λ (t : Me ℕ View). t.0.leaders) left)) looked.seat.leaders_are;
          laggers_are = subst (Each (λ (k : HeldLagger). k.post ≡ looked.posts.lagger k.number)) (sym rest_now)
              ((subst (Each (λ (k : HeldLagger). k.post ≡ looked.posts.lagger k.number)) parted.2 looked.seat.laggers_are).1);
        };
      }

      pub lagger_mine_is : mine.me ≡ (lagger_view c2.me.0.named (caught_lagger c0.me.0.named looked.posts has), [])
      lagger_mine_is = alone
          ∙ ap (λ (l : List HeldLagger). (lagger_alone record { named = c2.me.0.named; leaders = c2.me.0.leaders; laggers = l }, [])) parted.2
          ∙ ap (λ (n : Named). (lagger_view c2.me.0.named (rested_lagger n.parts parted.0), [])) looked.seat.named
          ∙ ap (λ (k : HeldLagger). (lagger_view c2.me.0.named k, [])) parted.3
          ∙ ap (λ (n : Named). (lagger_view c2.me.0.named (caught_lagger n looked.posts has), [])) named_now

      -- the post that all holds of is this one
      pub lagger_post_is : (caught_lagger c0.me.0.named looked.posts has).post ≡ looked.posts.lagger q
      lagger_post_is = ap (λ (n : Named). (caught_lagger n looked.posts has).post) (sym named_now) ∙ sym (ap (λ (k : HeldLagger). k.post) parted.3)
          ∙ (subst (Each (λ (k : HeldLagger). k.post ≡ looked.posts.lagger k.number)) parted.2 looked.seat.laggers_are).0
          ∙ ap looked.posts.lagger (ap number_of parted.3)

      pub lagger_seat_now : IsLaggerSeat mine.table_id.words q (caught_lagger c0.me.0.named looked.posts has).post mine.me
      lagger_seat_now = subst (IsLaggerSeat mine.table_id.words q (caught_lagger c0.me.0.named looked.posts has).post) (sym lagger_mine_is) (
          let n : Named = c2.me.0.named in
          let there : q < n.parts = (let l = seat.there in let e = ap (λ (n : Named). n.parts) named in let f = ap (λ (n : Named). n.parts) named_then in omega (arith, l, e, f)) in
          let holds : PostsHold (course n) looked.posts = subst (λ (n : Named). PostsHold (course n) looked.posts) (sym looked.seat.named) looked.holds in
          record {
            free = refl;
            leaders = refl;
            laggers = refl;
            there = there;
            sized = ap (λ (z : Lagger). length z.sights) lagger_post_is ∙ holds.sized q there;
            looked = length-replicate c0.me.0.named.parts 0 ∙ ap (λ (n : Named). n.parts) (sym named_then);
            within = λ p l. (let a = (holds.sight q p there l).no_further in
                let w = (holds.leader p l).within in
                let e = ap (λ (z : Lagger). (sight z p).at) lagger_post_is in omega (arith, a, w, e));
            stood = merely record { posts = looked.posts; holds = holds; is = lagger_post_is };
            board = record {
              wide = ap (λ t. t.words) (board_mine ∙ looked.seat.board ∙ board) ∙ carrier.words.wide ∙ ap (λ (n : Named). 16 * n.parts + 8) (sym named_then);
              bound = subst (λ (n : Named). end_of n.run ≤ 4294967295) (sym named_then) carrier.words.bound;
            };
          }
          )

-- the posts of a list and one more have looked
pub laggers_more : (word : ℕ) (old new : Seat ℕ View) (before now : List LeaderPost) (all first second : List LagPost) (post post_now : LagPost) → all ≡ first ++ post ∷ []
    → LaggerLooked word old new before now first second post post_now → AllLooked word old new before now all (second ++ post_now ∷ [])
laggers_more word old new before now all first second post post_now is h =
    let l = h.0 in let n : Named = old.me.0.named in
    let one = length-append first (post ∷ []) in let two = length-append second (post_now ∷ []) in let size = l.lagger_size in
    let whole = ap length is in
    record {
      looked = l.looked;
      size = l.size;
      leaders = l.leaders;
      lagger_size = omega (arith, one, two, size, whole);
      laggers = λ k d b. subst (λ (xs : List LagPost). LaggerCaughtUp n l.looked.posts (get_or xs k d) (get_or (second ++ post_now ∷ []) k d)) (sym is)
          (⊎_elim
          (λ (e : k ≡ length first). subst (λ (y : LagPost × LagPost). LaggerCaughtUp n l.looked.posts y.0 y.1)
          (λ i. (sym (added first post d k (sym e)) i, sym (added second post_now d k (size ∙ sym e)) i)) h.1)
          (λ (ne : k ≢ length first). let small : k < length first = omega (arith, b, one, whole, ne) in
          subst (λ (y : LagPost × LagPost). LaggerCaughtUp n l.looked.posts y.0 y.1)
          (λ i. (sym (ahead first post d k small) i, sym (ahead second post_now d k (omega (arith, small, size))) i)) (l.laggers k d small))
          (cases_eq k (length first)));
    }

-- ---- what laggers see of the leaders' posts

sights_from : (c : Posts) (now : List LeaderPost) (a : ℕ) → ((k : ℕ) (d : LeaderPost) → k < length now → leader (get_or now k d) ≡ c.leader (a + k))
    → map sight_of (map seen_of now) ≡ map (λ (p : ℕ). present (c.leader p)) (range_with_len a (length now))
sights_from c [] a h = refl
sights_from c (x ∷ xs) a h =
    let here : leader x ≡ c.leader a = h 0 x (omega arith) ∙ ap c.leader (omega arith) in
    let rest = sights_from c xs (a + 1) (λ k d l. h (suc k) d (omega (arith, l)) ∙ (let e : a + suc k ≡ a + 1 + k = omega arith in ap c.leader e)) in
    λ i. present (here i) ∷ rest i

pub sights_all : (b : Board) (n : Named) (c : Posts) (old now : List LeaderPost) → length now ≡ length old → length old ≡ n.parts → AreLeaders b n old
    → ((k : ℕ) (d : LeaderPost) → k < length old → LeaderCaughtUp c (get_or old k d) (get_or now k d)) → map sight_of (map seen_of now) ≡ all_present n c
sights_all b n c old now size count are caught =
    sights_from c now 0 (λ k d l. let small : k < length old = omega (arith, l, size) in
    (caught k d small).1 ∙ ap c.leader (are k d small).number ∙ (let e : k ≡ 0 + k = omega arith in ap c.leader e))
    ∙ ap (λ (m : ℕ). map (λ (p : ℕ). present (c.leader p)) (range_with_len 0 m)) (size ∙ count)

-- what is seen of each leader, place by place, is what is seen of all
pub seen_places : (xs : List Seen) (ys : List LeaderPost) → length xs ≡ length ys → ((j : ℕ) (d : Seen) (e : LeaderPost) → j < length ys → get_or xs j d ≡ seen_of (get_or ys j e))
    → xs ≡ map seen_of ys
seen_places [] [] e h = refl
seen_places [] (y ∷ ys) e h = absurd (omega (arith, e))
seen_places (x ∷ xs) [] e h = absurd (omega (arith, e))
seen_places (x ∷ xs) (y ∷ ys) e h = λ i. h 0 x y (omega arith) i ∷ seen_places xs ys (omega (arith, e)) (λ j d f l. h (suc j) d f (omega (arith, l))) i

-- laggers that have caught up have done so by another name of the run
pub laggers_again : (m n : Named) (c : Posts) (first second : List LagPost) → m ≡ n
    → ((k : ℕ) (d : LagPost) → k < length first → LaggerCaughtUp m c (get_or first k d) (get_or second k d))
    → (k : ℕ) (d : LagPost) → k < length first → LaggerCaughtUp n c (get_or first k d) (get_or second k d)
laggers_again m n c first second e h k d l = subst (λ (o : Named). LaggerCaughtUp o c (get_or first k d) (get_or second k d)) e (h k d l)

-- what a lagger that has caught up has seen of a leader is what there is to see of it
pub caught_seen : (b : Board) (n : Named) (c : Posts) (old new : List LeaderPost) (first second : List LagPost) → AreAllPosts b n old first
    → ((k : ℕ) (d : LeaderPost) → k < length old → LeaderCaughtUp c (get_or old k d) (get_or new k d))
    → ((k : ℕ) (d : LagPost) → k < length first → LaggerCaughtUp n c (get_or first k d) (get_or second k d))
    → (q p : ℕ) (d : LagPost) (e : LeaderPost) → q < n.parts → p < n.parts
    → sight (lagger (get_or second q d)) p ≡ present (leader (get_or new p e))
caught_seen b n c old new first second all leaders laggers q p d e lq lp =
    let here : q < length first = (let k = all.lagger_count in omega (arith, k, lq)) in
    let there : p < length old = (let k = all.leader_count in omega (arith, k, lp)) in
    ap (λ (y : Lagger). sight y p) (laggers q d here).0.post
    ∙ get_or-map-range_with_len (λ (k : ℕ). present (c.leader k)) 0 n.parts p p (record { at = 0; halted = false }) lp (omega arith)
    ∙ ap (λ (k : ℕ). present (c.leader k)) (sym (all.leaders p e there).number)
    ∙ ap present (sym (leaders p e there).1)

-- all posts that have looked have caught up
pub caught_up : (b : Board) (n : Named) (word : ℕ) (c0 c1 : Seat ℕ View) (old given new : List LeaderPost) (first second : List LagPost) → AreAllPosts b n old first
    → given ≡ old → c0.me.0.named ≡ n → AllLooked word c0 c1 given new first second → CaughtUp n word old new first second
caught_up b n word c0 c1 old given new first second all same named h =
    let posts : Posts = h.looked.posts in
    let leaders : (k : ℕ) (d : LeaderPost) → k < length old → LeaderCaughtUp posts (get_or old k d) (get_or new k d) =
    subst (λ (xs : List LeaderPost). (k : ℕ) (d : LeaderPost) → k < length xs → LeaderCaughtUp posts (get_or xs k d) (get_or new k d)) same h.leaders in
    let laggers = laggers_again c0.me.0.named n posts first second named h.laggers in
    record {
      posts = posts;
      holds = subst (λ (m : Named). PostsHold (course m) posts) named h.looked.holds;
      fire = h.looked.fire;
      leader_count = h.size ∙ ap (λ (xs : List LeaderPost). length xs) same;
      lagger_count = h.lagger_size;
      leaders = leaders;
      laggers = laggers;
      seen = caught_seen b n posts old new first second all leaders laggers;
    }
