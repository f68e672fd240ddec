-- What a step on the board is of the network: events, as posts know them. This project's own.
use Rattle.std.specs.Prelude.{◌<◌, List, [], ◌∷◌}
use Rattle.token_net.specs.Posts.{Course, Posts, MayRaise, MayReport, MayHalt, HasSeenFar, after_raise, after_halt}
use Rattle.token_net.specs.Posts.{after_fire, after_see_fire, after_see, after_lag_raise}
use Rattle.token_net.specs.Network.{Event, take, evaluate, give, raise, halt, fire, see, lag_raise, see_fire}

-- what an event of the network makes of the posts; those of a channel, and an evaluation, leave them
abbrev pub posts_after : Event → Posts → Posts
posts_after (take s ch) c = c
posts_after (evaluate s p) c = c
posts_after (give s ch) c = c
posts_after (raise p) c = after_raise p c
posts_after (halt p) c = after_halt p c
posts_after (fire p) c = after_fire p c
posts_after (see q p) c = after_see q p c
posts_after (lag_raise q) c = after_lag_raise q c
posts_after (see_fire p) c = after_see_fire p c

-- events, one after another
abbrev pub all_after : List Event → Posts → Posts
all_after [] c = c
all_after (e ∷ es) c = all_after es (posts_after e c)

module _ (n : Course) where
  -- where the posts allow an event: a look at any time, and one that isn't of posts never
  abbrev pub PostsAllow : Event → Posts → Type 0
  PostsAllow (take s ch) c = ⊥
  PostsAllow (evaluate s p) c = ⊥
  PostsAllow (give s ch) c = ⊥
  PostsAllow (raise p) c = (p < n.parts) × MayRaise n p (c.leader p)
  PostsAllow (halt p) c = (p < n.parts) × MayHalt n.rows (c.leader p)
  PostsAllow (fire p) c = (p < n.parts) × MayReport n p (c.leader p)
  PostsAllow (see q p) c = (q < n.parts) × (p < n.parts)
  PostsAllow (lag_raise q) c = (q < n.parts) × HasSeenFar n.parts n.lag (c.lagger q)
  PostsAllow (see_fire p) c = p < n.parts

  -- each of the events is allowed at its turn
  abbrev pub AllAllowed : List Event → Posts → Type 0
  AllAllowed [] c = Unit {0}
  AllAllowed (e ∷ es) c = PostsAllow e c × AllAllowed es (posts_after e c)
