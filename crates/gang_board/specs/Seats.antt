-- What the seat in a post is, what it tells of the board as it stood at the post's last step, and what a call was of the
-- network. This project's own.
use Rattle.std.specs.Prelude.{◌≡◌, ℕ, ◌<◌, ◌≤◌, List, [], ◌∷◌, length}
use Rattle.atomic_table.specs.Table.{Me}
use Rattle.named_run.specs.Named.{end_of}
use Rattle.token_net.specs.Posts.{Leader, Lagger, Posts, PostsHold, sight, most_rows}
use Rattle.token_net.specs.Network.{Event}
use Rattle.board_rule.specs.Views.{Named, HeldLeader, HeldLagger, course}
use Rattle.board_rule.specs.Events.{posts_after, PostsAllow}
use Rattle.board_rule.specs.Rule.{word_count}
use Rattle.board_rule.specs.declared.view.View.{View}

-- how often the first leader has looked at the fire word, and the first lagger at each leader's word
abbrev pub leader_looks_of : List HeldLeader → ℕ
leader_looks_of [] = 0
leader_looks_of (k ∷ ks) = k.looks

abbrev pub lagger_looks_of : List HeldLagger → List ℕ
lagger_looks_of [] = []
lagger_looks_of (k ∷ ks) = k.looks

-- at one moment there were posts for which all held, and among them this leader's
pub record StoodLeader (n : Named) (p : ℕ) (x : Leader) : Type 0 where
  pub posts : Posts
  pub holds : PostsHold (course n) posts
  pub is : x ≡ posts.leader p

-- the same of this lagger's
pub record StoodLagger (n : Named) (q : ℕ) (y : Lagger) : Type 0 where
  pub posts : Posts
  pub holds : PostsHold (course n) posts
  pub is : y ≡ posts.lagger q

-- one event on the posts of the whole board: before it all held of them, and the leader p's was x; they allowed it; all
-- holds of what it made of them, and the leader p's is y
pub record LeaderMoved (n : Named) (e : Event) (p : ℕ) (x y : Leader) : Type 0 where
  pub before : Posts
  pub held : PostsHold (course n) before
  pub was : x ≡ before.leader p
  pub allowed : PostsAllow (course n) e before
  pub holds : PostsHold (course n) (posts_after e before)
  pub is : y ≡ (posts_after e before).leader p

-- the same, by the lagger q's post, which was x and is y
pub record LaggerMoved (n : Named) (e : Event) (q : ℕ) (x y : Lagger) : Type 0 where
  pub before : Posts
  pub held : PostsHold (course n) before
  pub was : x ≡ before.lagger q
  pub allowed : PostsAllow (course n) e before
  pub holds : PostsHold (course n) (posts_after e before)
  pub is : y ≡ (posts_after e before).lagger q

-- a board that names this run has so many words, and the run has no more rows than a fire word can tell
pub record IsBoardOf (words : ℕ) (n : Named) : Type 0 where
  pub wide : words ≡ word_count n.parts
  pub bound : end_of n.run ≤ most_rows

-- the seat has the post x of the leader p, and no other
pub record IsLeaderSeat (words p : ℕ) (x : Leader) (me : Me ℕ View) : Type 0 where
  pub free : me.1 ≡ []
  pub leaders : me.0.leaders ≡ record { number = p; post = x; looks = leader_looks_of me.0.leaders } ∷ []
  pub laggers : me.0.laggers ≡ []
  pub there : p < me.0.named.parts
  pub within : x.at ≤ end_of me.0.named.run
  pub stood : ∥ StoodLeader me.0.named p x ∥₁
  pub board : IsBoardOf words me.0.named

-- the seat has the post y of the lagger q, and no other
pub record IsLaggerSeat (words q : ℕ) (y : Lagger) (me : Me ℕ View) : Type 0 where
  pub free : me.1 ≡ []
  pub leaders : me.0.leaders ≡ []
  pub laggers : me.0.laggers ≡ record { number = q; post = y; looks = lagger_looks_of me.0.laggers } ∷ []
  pub there : q < me.0.named.parts
  pub sized : length y.sights ≡ me.0.named.parts
  pub looked : length (lagger_looks_of me.0.laggers) ≡ me.0.named.parts
  pub within : (p : ℕ) → p < me.0.named.parts → (sight y p).at ≤ end_of me.0.named.run
  pub stood : ∥ StoodLagger me.0.named q y ∥₁
  pub board : IsBoardOf words me.0.named
