-- All posts brought up to date at one moment. This project's own.
use Rattle.std.specs.Prelude.{◌≡◌, ℕ, ◌+◌, ◌<◌, ◌≤◌, Option, List, [], map, length, replicate}
use Rattle.std.specs.Prelude.{slice_index_or}
use Rattle.std.specs.List.{range_with_len}
use Rattle.atomic_table.specs.declared.shared.Seat.{Seat}
use Rattle.token_net.specs.Posts.{Sight, Posts, PostsHold, present, sight}
use Rattle.board_rule.specs.Views.{Named, HeldLeader, HeldLagger, course, rested_leader, rested_lagger}
use Rattle.board_rule.specs.Rule.{Each}
use Rattle.gang_board.specs.Seats.{IsBoardOf}
use Rattle.gang_board.specs.Sights.{cycle_of}
use Rattle.gang_board.specs.PostStates.{leader, leader_named, IsLeaderOf, LeaderBecomes}
use Rattle.gang_board.specs.PostStates.{lagger, lagger_named, IsLaggerOf, LaggerBecomes}
use Rattle.board_rule.specs.declared.view.View.{View}
use Rattle.gang_board.specs.declared.board.Board.{Board}
use Rattle.gang_board.specs.declared.posts.LeaderPost.{LeaderPost}
use Rattle.gang_board.specs.declared.posts.LagPost.{LagPost}
use Rattle.gang_board.specs.declared.seen.Seen.{Seen}
use Rattle.board_rule.specs.declared.setup.TheConstants.{MAX_LEADERS}

-- ---- the posts that are handed in

-- the post of the leader k of a board, which names this run, and so of a lagger
pub record IsLeaderAt (b : Board) (n : Named) (k : ℕ) (p : LeaderPost) : Type 0 where
  pub board : IsLeaderOf b p
  pub number : p.number ≡ k
  pub named : leader_named p ≡ n

pub record IsLaggerAt (b : Board) (n : Named) (k : ℕ) (p : LagPost) : Type 0 where
  pub board : IsLaggerOf b p
  pub number : p.number ≡ k
  pub named : lagger_named p ≡ n

-- the posts of the leaders 0 to m-1, in order, and so of laggers
abbrev pub AreLeaders : Board → Named → List LeaderPost → Type 0
AreLeaders b n posts = (k : ℕ) (d : LeaderPost) → k < length posts → IsLeaderAt b n k (slice_index_or posts k d)

abbrev pub AreLaggers : Board → Named → List LagPost → Type 0
AreLaggers b n posts = (k : ℕ) (d : LagPost) → k < length posts → IsLaggerAt b n k (slice_index_or posts k d)

-- all posts of the board
pub record AreAllPosts (b : Board) (n : Named) (first : List LeaderPost) (second : List LagPost) : Type 0 where
  pub some : 1 ≤ n.parts
  pub few : n.parts ≤ MAX_LEADERS
  pub leader_count : length first ≡ n.parts
  pub lagger_count : length second ≡ n.parts
  pub leaders : AreLeaders b n first
  pub laggers : AreLaggers b n second

-- ---- what they are then

-- what there is to see of the leaders
abbrev pub all_present : Named → Posts → List Sight
all_present n c = map (λ p. present (c.leader p)) (range_with_len 0 n.parts)

-- the leader has seen the fire word and the lagger each leader, as in c, where each is; its looks are counted anew
abbrev pub LeaderCaughtUp : Posts → LeaderPost → LeaderPost → Type 0
LeaderCaughtUp c old new = LeaderBecomes old new (record (leader old) { seen = c.fire }) 0
    × (leader new ≡ c.leader old.number)

abbrev pub LaggerCaughtUp : Named → Posts → LagPost → LagPost → Type 0
LaggerCaughtUp n c old new =
    LaggerBecomes old new (record (lagger old) { sights = all_present n c }) (replicate n.parts 0)
    × (lagger new ≡ c.lagger old.number)

-- at one moment the posts are these, all holds of them, the fire word is c's, and each has seen what there is to see
pub record CaughtUp (n : Named) (word : ℕ) (old new : List LeaderPost) (first second : List LagPost) : Type 0 where
  pub posts : Posts
  pub holds : PostsHold (course n) posts
  pub fire : posts.fire ≡ word
  pub leader_count : length new ≡ length old
  pub lagger_count : length second ≡ length first
  pub leaders : (k : ℕ) (d : LeaderPost) → k < length old
      → LeaderCaughtUp posts (slice_index_or old k d) (slice_index_or new k d)
  pub laggers : (k : ℕ) (d : LagPost) → k < length first
      → LaggerCaughtUp n posts (slice_index_or first k d) (slice_index_or second k d)
  -- what each lagger has seen of each leader is that leader's position and halt
  pub seen : (q p : ℕ) (d : LagPost) (e : LeaderPost) → q < n.parts → p < n.parts
      → sight (lagger (slice_index_or second q d)) p ≡ present (leader (slice_index_or new p e))

-- the answer tells the fire word of that moment
abbrev pub CatchesUp : Named → Option ℕ → List LeaderPost → List LeaderPost → List LagPost → List LagPost → Type 0
CatchesUp n answer old new first second = (word : ℕ) × (answer ≡ cycle_of word) × CaughtUp n word old new first second

-- ---- the seat that has them for a while

-- the seat of the board has the posts of the leaders and of the laggers from these numbers on
pub record IsCarrier (b : Board) (k j : ℕ) (s : Seat ℕ View) : Type 0 where
  pub board : s.table_id ≡ b.table.shared.table_id
  pub free : s.me.1 ≡ []
  pub leaders : (m : ℕ) × (k + m ≡ s.me.0.named.parts) × (map (λ x. x.number) s.me.0.leaders ≡ range_with_len k m)
  pub laggers : (m : ℕ) × (j + m ≡ s.me.0.named.parts) × (map (λ x. x.number) s.me.0.laggers ≡ range_with_len j m)
  pub words : IsBoardOf s.table_id.words s.me.0.named

-- what a leader's post and a lagger's are once they have seen what there is to see, without a look
abbrev pub caught_leader : Posts → HeldLeader → HeldLeader
caught_leader c k = record {
  number = k.number;
  post = record { at = k.post.at; halted = k.post.halted; reported = k.post.reported; seen = c.fire };
  looks = 0;
}

abbrev pub caught_lagger : Named → Posts → HeldLagger → HeldLagger
caught_lagger n c k = record {
  number = k.number;
  post = record { at = k.post.at; sights = all_present n c };
  looks = replicate n.parts 0;
}

-- the seat's posts have seen what there is to see in c, and are as they are there
pub record HasSeen (c : Posts) (old new : Seat ℕ View) : Type 0 where
  pub board : new.table_id ≡ old.table_id
  pub free : new.me.1 ≡ []
  pub named : new.me.0.named ≡ old.me.0.named
  pub leaders : map rested_leader new.me.0.leaders ≡ map (caught_leader c) old.me.0.leaders
  pub laggers : map (rested_lagger old.me.0.named.parts) new.me.0.laggers
      ≡ map (caught_lagger old.me.0.named c) old.me.0.laggers
  pub leaders_are : Each (λ (k : HeldLeader). k.post ≡ c.leader k.number) new.me.0.leaders
  pub laggers_are : Each (λ (k : HeldLagger). k.post ≡ c.lagger k.number) new.me.0.laggers

-- at one moment all holds of posts with this fire word, and the seat's are among them and have seen all
pub record Looked (word : ℕ) (old new : Seat ℕ View) : Type 0 where
  pub posts : Posts
  pub holds : PostsHold (course old.me.0.named) posts
  pub fire : posts.fire ≡ word
  pub seat : HasSeen posts old new

-- so have these leaders' posts
pub record LeadersLooked (word : ℕ) (old new : Seat ℕ View) (before now : List LeaderPost) : Type 0 where
  pub looked : Looked word old new
  pub size : length now ≡ length before
  pub leaders : (k : ℕ) (d : LeaderPost) → k < length before
      → LeaderCaughtUp looked.posts (slice_index_or before k d) (slice_index_or now k d)

-- and one more
abbrev pub LeaderLooked : ℕ → Seat ℕ View → Seat ℕ View → List LeaderPost → List LeaderPost → LeaderPost → LeaderPost
    → Type 0
LeaderLooked word old new before now post post_now = (l : LeadersLooked word old new before now)
    × LeaderCaughtUp l.looked.posts post post_now

-- so have all leaders' posts and these laggers'
pub record AllLooked (word : ℕ) (old new : Seat ℕ View) (before now : List LeaderPost) (first second : List LagPost)
    : Type 0 where
  pub looked : Looked word old new
  pub size : length now ≡ length before
  pub leaders : (k : ℕ) (d : LeaderPost) → k < length before
      → LeaderCaughtUp looked.posts (slice_index_or before k d) (slice_index_or now k d)
  pub lagger_size : length second ≡ length first
  pub laggers : (k : ℕ) (d : LagPost) → k < length first
      → LaggerCaughtUp old.me.0.named looked.posts (slice_index_or first k d) (slice_index_or second k d)

-- and one more
abbrev pub LaggerLooked : ℕ → Seat ℕ View → Seat ℕ View → List LeaderPost → List LeaderPost → List LagPost
    → List LagPost → LagPost → LagPost → Type 0
LaggerLooked word old new before now first second post post_now = (l : AllLooked word old new before now first second)
    × LaggerCaughtUp old.me.0.named l.looked.posts post post_now

-- what a post tells that is seen now
abbrev pub seen_of : LeaderPost → Seen
seen_of p = record { position = p.position; halted = p.halted }
