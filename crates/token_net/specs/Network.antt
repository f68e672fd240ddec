-- The network of leaders and laggers: what it is at a moment, its nine kinds of event, where each is enabled, and
-- what it does. Leaders run until an assertion fires or the rows end; laggers run the same cycles later. This
-- project's own, over FAME1 decoupling.
use Rattle.std.specs.Prelude.{◌≡◌, ◌≢◌, ℕ, ◌<◌, false}
use Rattle.token_net.specs.Shape.{Shape, Run}
use Rattle.token_net.specs.SideState.{quiet, firing, SideState, MayTake, MayEvaluate, MayGive, MayClose, after_take}
use Rattle.token_net.specs.SideState.{after_evaluate, after_give, after_close, first_side_state}
use Rattle.token_net.specs.Posts.{LeaderRuns, MayHalt, HasSeenFar}
use Rattle.token_net.specs.Posts.{Posts, present, sight, after_raise, after_halt, after_fire, after_see_fire}
use Rattle.token_net.specs.Posts.{after_see, after_lag_raise, first_posts}

-- the leaders, or the laggers
pub data Side : Type 0 where
  leading : Side
  lagging : Side

-- the network at a moment: how many rows there are, the two sides, and the posts, which know each partition's position
pub record Config (S V : Type 0) : Type 0 where
  pub rows : ℕ
  pub leaders : SideState S V
  pub laggers : SideState S V
  pub posts : Posts

-- what may happen: on a side, a channel's taker takes, a partition evaluates, or a channel's giver gives; a leader
-- raises its position, halts, or reports that an assertion fires; a lagger sees a leader, or raises its position; a
-- leader sees the fire word
pub data Event : Type 0 where
  take : Side → ℕ → Event
  evaluate : Side → ℕ → Event
  give : Side → ℕ → Event
  raise : ℕ → Event
  halt : ℕ → Event
  fire : ℕ → Event
  see : ℕ → ℕ → Event
  lag_raise : ℕ → Event
  see_fire : ℕ → Event

module _ {S V : Type 0} where
  -- the position of a partition on a side
  abbrev pub position : Side → Config S V → ℕ → ℕ
  position leading c p = (c.posts.leader p).at
  position lagging c q = (c.posts.lagger q).at

  -- what one side holds, and the network where one side holds something else
  abbrev pub side_state : Side → Config S V → SideState S V
  side_state leading c = c.leaders
  side_state lagging c = c.laggers

  abbrev pub with_side_state : Side → SideState S V → Config S V → Config S V
  with_side_state leading h c = record c { leaders = h }
  with_side_state lagging h c = record c { laggers = h }

module _ {S V : Type 0} (n : Shape S V) where
  -- ---- where an event is enabled

  -- the partition runs; a lagger always does
  abbrev pub Runs : Side → Config S V → ℕ → Type 0
  Runs leading c p = LeaderRuns (c.posts.leader p)
  Runs lagging c q = Unit {0}

  -- a leader may start a cycle that has a row; a lagger may start where it has seen each leader far enough ahead
  abbrev pub MayStart : Side → Config S V → ℕ → Type 0
  MayStart leading c p = (c.posts.leader p).at < c.rows
  MayStart lagging c q = HasSeenFar n.parts n.lag (c.posts.lagger q)

  -- a leader that has evaluated may give where no assertion of its own fires; a lagger always may
  abbrev pub MayHandOn : Side → Config S V → ℕ → Type 0
  MayHandOn leading c p = c.leaders.phase p ≡ quiet
  MayHandOn lagging c q = Unit {0}

  -- the event may happen now
  abbrev pub Enabled : Config S V → Event → Type 0
  Enabled c (take s ch) = Runs s c (n.to ch) × MayTake n (MayStart s c) (side_state s c) ch
  Enabled c (evaluate s p) = Runs s c p × MayEvaluate n (MayStart s c) (side_state s c) p
  Enabled c (give s ch) = Runs s c (n.from ch) × MayHandOn s c (n.from ch) × MayGive n (side_state s c) ch
  -- a leader that runs, has evaluated and has given all its outputs, where no assertion of its own fires
  Enabled c (raise p) = Runs leading c p × (c.leaders.phase p ≡ quiet) × MayClose n c.leaders p
  Enabled c (halt p) = (p < n.parts) × MayHalt c.rows (c.posts.leader p)
  -- a leader that runs, where an assertion of its own fires, and hasn't reported
  Enabled c (fire p) = (p < n.parts) × Runs leading c p × (c.leaders.phase p ≡ firing)
      × ((c.posts.leader p).reported ≡ false)
  -- the lagger hasn't seen the leader as it is
  Enabled c (see q p) = (q < n.parts) × (p < n.parts) × (sight (c.posts.lagger q) p ≢ present (c.posts.leader p))
  -- a lagger that has evaluated and has given all its outputs
  Enabled c (lag_raise q) = MayClose n c.laggers q
  -- a leader that runs and hasn't seen the fire word as it is
  Enabled c (see_fire p) = (p < n.parts) × Runs leading c p × (c.posts.fire ≢ (c.posts.leader p).seen)

  -- ---- what it does

  -- the network after the event
  abbrev pub after : Config S V → Event → Config S V
  after c (take s ch) = with_side_state s (after_take n ch (side_state s c)) c
  after c (evaluate s p) = with_side_state s (after_evaluate n p (position s c p) (side_state s c)) c
  after c (give s ch) = with_side_state s (after_give n ch (position s c (n.from ch)) (side_state s c)) c
  after c (raise p) = record c { leaders = after_close n p c.leaders; posts = after_raise p c.posts }
  after c (halt p) = record c { posts = after_halt p c.posts }
  after c (fire p) = record c { posts = after_fire p c.posts }
  after c (see q p) = record c { posts = after_see q p c.posts }
  after c (lag_raise q) = record c { laggers = after_close n q c.laggers; posts = after_lag_raise q c.posts }
  after c (see_fire p) = record c { posts = after_see_fire p c.posts }

  -- all positions are 0, states and tokens are the run's first, no leader is halted, nothing was reported, and each
  -- lagger has seen each leader at 0, not halted
  abbrev pub start : Run S V → ℕ → Config S V
  start r rows = record {
    rows = rows;
    leaders = first_side_state n r;
    laggers = first_side_state n r;
    posts = first_posts n.parts 0 0;
  }
