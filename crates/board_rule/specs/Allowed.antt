-- Where the posts of a board allow an event, against where the network enables it. This project's own.
use Rattle.std.specs.Prelude.{◌≡◌, ◌≢◌, ℕ, ◌⊎◌, ◌↔◌}
use Rattle.token_net.specs.Shape.{Shape, Run}
use Rattle.token_net.specs.SideState.{quiet, firing, MayClose}
use Rattle.token_net.specs.Posts.{LeaderRuns, present, sight}
use Rattle.token_net.specs.Network.{Config, Event, Enabled, raise, halt, fire, see, lag_raise, see_fire}
use Rattle.token_net.specs.Holds.{course}
use Rattle.board_rule.specs.Events.{PostsAllow, posts_after}

module _ {S V : Type 0} (n : Shape S V) (r : Run S V) (c : Config S V) where
  -- the posts of the network allow the event
  abbrev pub Allowed : Event → Type 0
  Allowed e = PostsAllow (course n r c) e c.posts

  -- posts and the network ask the same of an event, but for what a partition alone knows, its phase and what it has
  -- given; a look needs that there is something new to see
  pub record AllowedLaws : Type 0 where
    pub raises : (p : ℕ) → Enabled n c (raise p)
        ↔ (Allowed (raise p) × (c.leaders.phase p ≡ quiet) × MayClose n c.leaders p)
    pub halts : (p : ℕ) → Enabled n c (halt p) ↔ Allowed (halt p)
    pub reports : (p : ℕ) → Enabled n c (fire p) ↔ (Allowed (fire p) × (c.leaders.phase p ≡ firing))
    pub lag_raises : (q : ℕ) → Enabled n c (lag_raise q) ↔ (Allowed (lag_raise q) × MayClose n c.laggers q)
    pub sees : (q p : ℕ) → Enabled n c (see q p)
        ↔ (Allowed (see q p) × (sight (c.posts.lagger q) p ≢ present (c.posts.leader p)))
    pub sees_fire : (p : ℕ) → Enabled n c (see_fire p)
        ↔ (Allowed (see_fire p) × LeaderRuns (c.posts.leader p) × (c.posts.fire ≢ (c.posts.leader p).seen))
    -- a look that posts allow is such an event, or it leaves all posts, or it is one of a leader that no longer runs
    pub looks : (q p : ℕ) → Allowed (see q p) → Enabled n c (see q p) ⊎ (posts_after (see q p) c.posts ≡ c.posts)
    pub fire_looks : (p : ℕ) → Allowed (see_fire p)
        → Enabled n c (see_fire p) ⊎ (posts_after (see_fire p) c.posts ≡ c.posts) ⊎ (¬ LeaderRuns (c.posts.leader p))
