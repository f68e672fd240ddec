-- How a board begins. This project's own.
use Rattle.std.specs.Prelude.{◌≡◌, ℕ, ◌-◌, ◌*◌, ◌%◌, ◌<◌, ◌≤◌, ◌==◌, if◌then◌else◌, false}
use Rattle.std.specs.Prelude.{List, [], map, length, replicate, slice_index_or}
use Rattle.std.specs.List.{range_with_len}
use Rattle.atomic_table.specs.Table.{Me}
use Rattle.atomic_table.specs.declared.shared.Seat.{Seat}
use Rattle.named_run.specs.Named.{RunData, end_of, fires}
use Rattle.token_net.specs.Posts.{none_yet, most_rows}
use Rattle.board_rule.specs.Views.{Named, first_leader, first_lagger, leaders_from, laggers_from}
use Rattle.board_rule.specs.Rule.{fire_word, word_count}
use Rattle.gang_board.specs.PostStates.{leader, leader_named, leader_looks, IsLeaderOf}
use Rattle.gang_board.specs.PostStates.{lagger, lagger_named, lagger_looks, IsLaggerOf}
use Rattle.board_rule.specs.declared.view.View.{View}
use Rattle.gang_board.specs.declared.board.Board.{Board}
use Rattle.gang_board.specs.declared.posts.LeaderPost.{LeaderPost}
use Rattle.gang_board.specs.declared.posts.LagPost.{LagPost}
use Rattle.gang_board.specs.declared.seen.Seen.{Seen}
use Rattle.board_rule.specs.declared.setup.Setup.{Setup}

-- the word at a place, before any step; those that stand between others are never read
abbrev pub first_word : Setup → ℕ → ℕ
first_word s k = if k == fire_word then none_yet else (if k % 16 == 8 then 2 * s.leader_at else s.lagger_at)

-- all words before any step, and what a lagger has seen then: each leader at its first position
abbrev pub first_words_of : Setup → List ℕ
first_words_of s = map (first_word s) (range_with_len 0 (word_count s.leaders))

abbrev pub first_sights_of : Setup → List Seen
first_sights_of s = replicate s.leaders (record { position = s.leader_at; halted = false })

-- a board with so many leaders and this lag may begin in the run, with leaders at a and laggers at b: no assertion that
-- a leader owns fires before a, and laggers stand at a less the lag
pub record Begins (r : RunData) (leaders lag a b : ℕ) : Type 0 where
  pub bound : end_of r ≤ most_rows
  pub within : a ≤ end_of r
  pub clear : (p t : ℕ) → p < leaders → t < a → fires r p t ≡ false
  pub behind : b ≡ a - lag

-- there are leaders, and the board may begin so
abbrev pub BeginsAt : RunData → Setup → Type 0
BeginsAt r s = (1 ≤ s.leaders) × Begins r s.leaders s.lag s.leader_at s.lagger_at

-- the seat is one of the board, which has the words of so many leaders
abbrev pub IsFirstSeat : Board → Setup → Seat ℕ View → Type 0
IsFirstSeat b s seat = (seat.table_id ≡ b.table.shared.table_id) × (seat.table_id.words ≡ word_count s.leaders)

-- what all name
abbrev pub named_by : RunData → ℕ → ℕ → Named
named_by r leaders lag = record { run = r; parts = leaders; lag = lag }

abbrev pub named_in : RunData → Setup → Named
named_in r s = named_by r s.leaders s.lag

-- a seat with all posts from the leader k and from the lagger j on, of as many as are left
abbrev pub left_view : RunData → Setup → ℕ → ℕ → ℕ → ℕ → View
left_view r s k m j l = record {
  named = named_in r s;
  leaders = leaders_from s.leader_at k m;
  laggers = laggers_from s.leaders s.leader_at s.lagger_at j l;
}

-- with all posts, and with those of laggers alone
abbrev pub first_view : RunData → Setup → View
first_view r s = left_view r s 0 s.leaders 0 s.leaders

abbrev pub without_leaders : RunData → Setup → View
without_leaders r s = left_view r s s.leaders 0 0 s.leaders

-- ---- new posts

-- a new post of the leader k of a board
pub record IsNewLeader (b : Board) (n : Named) (a k : ℕ) (p : LeaderPost) : Type 0 where
  pub board : IsLeaderOf b p
  pub number : p.number ≡ k
  pub named : leader_named p ≡ n
  pub post : leader p ≡ (first_leader a k).post
  pub looks : leader_looks p ≡ 0

-- new posts of the leaders 0 to m-1, in order
pub record AreNewLeaders (b : Board) (n : Named) (a m : ℕ) (posts : List LeaderPost) : Type 0 where
  pub count : length posts ≡ m
  pub each : (k : ℕ) (d : LeaderPost) → k < m → IsNewLeader b n a k (slice_index_or posts k d)

-- a new post of the lagger k of a board
pub record IsNewLagger (b : Board) (n : Named) (a at k : ℕ) (p : LagPost) : Type 0 where
  pub board : IsLaggerOf b p
  pub number : p.number ≡ k
  pub named : lagger_named p ≡ n
  pub post : lagger p ≡ (first_lagger n.parts a at k).post
  pub looks : lagger_looks p ≡ replicate n.parts 0

-- new posts of the laggers 0 to m-1, in order
pub record AreNewLaggers (b : Board) (n : Named) (a at m : ℕ) (posts : List LagPost) : Type 0 where
  pub count : length posts ≡ m
  pub each : (k : ℕ) (d : LagPost) → k < m → IsNewLagger b n a at k (slice_index_or posts k d)

-- new posts of all leaders, which the first seat has no more
abbrev pub LeadersParted : Board → RunData → Setup → List LeaderPost → Me ℕ View → Type 0
LeadersParted b r s posts me = AreNewLeaders b (named_in r s) s.leader_at s.leaders posts
    × (me ≡ (without_leaders r s, []))

-- new posts of all laggers
abbrev pub AreAllLaggers : Board → RunData → Setup → List LagPost → Type 0
AreAllLaggers b r s posts = AreNewLaggers b (named_in r s) s.leader_at s.lagger_at s.leaders posts
