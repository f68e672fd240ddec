-- What holds of the network at every moment, whatever events came in whatever order: a consistent cut of the design's
-- run. This project's own.
use Rattle.std.specs.Prelude.{◌≡◌, ◌≢◌, ℕ, ◌<◌, true, false}
use Rattle.token_net.specs.Shape.{Shape, Run}
use Rattle.token_net.specs.SideState.{idle, firing, SideHolds}
use Rattle.token_net.specs.Posts.{Course, PostsHold, HasSeenFar}
use Rattle.token_net.specs.Network.{leading, lagging, Config, position}

module _ {S V : Type 0} (n : Shape S V) where
  -- what the rules of posts ask of the run, over the rows that there are now
  abbrev pub course : Run S V → Config S V → Course
  course r c = record { parts = n.parts; rows = c.rows; lag = n.lag; fired = r.fired }

  pub record Holds (r : Run S V) (c : Config S V) : Type 0 where
    -- on each side: own states, next states and verdicts are the run's; each channel holds the run's tokens; copies
    -- are the run's tokens; what was taken and given agrees with the phases
    pub leaders : SideHolds n r c.rows (position leading c) c.leaders
    pub laggers : SideHolds n r c.rows (position lagging c) c.laggers
    -- the posts keep their rules, the lag rule among them
    pub posts : PostsHold (course r c) c.posts
    -- a leader that has reported has evaluated in its present cycle, and an assertion of its own fires
    pub reported : (p : ℕ) → p < n.parts → (c.posts.leader p).reported ≡ true → c.leaders.phase p ≡ firing
    -- a lagger that isn't idle has seen each leader at its position + 1 + lag or further
    pub begun : (q : ℕ) → q < n.parts → c.laggers.phase q ≢ idle → HasSeenFar n.parts n.lag (c.posts.lagger q)
    -- a leader has given nothing in a cycle in which an assertion of its own fires
    pub kept_back : (ch : ℕ) → ch < n.channels → c.leaders.phase (n.from ch) ≡ firing → c.leaders.given ch ≡ false
