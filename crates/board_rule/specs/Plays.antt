-- What each step on the board makes of the view of the seat that makes it, what it is of the network, and what it lets
-- that seat know. This project's own.
use Rattle.std.specs.Prelude.{◌≡◌, ℕ, ◌+◌, ◌/◌, ◌%◌, ◌==◌, ◌<◌, ◌≤◌, min, true}
use Rattle.std.specs.Prelude.{List, [], ◌∷◌, ◌++◌, map, slice_index, slice_set}
use Rattle.atomic_table.specs.Table.{Me, Step}
use Rattle.named_run.specs.Named.{RunData, no_run}
use Rattle.token_net.specs.Posts.{Sight, Posts, PostsHold, present, sight, with_sight}
use Rattle.token_net.specs.Network.{Event, raise, halt, fire, see, lag_raise, see_fire}
use Rattle.board_rule.specs.Views.{Named, HeldLeader, HeldLagger, course, rested_leader, rested_lagger}
use Rattle.board_rule.specs.Views.{leaders_from, laggers_from}
use Rattle.board_rule.specs.Events.{all_after, AllAllowed}
use Rattle.board_rule.specs.Rule.{Each}
use Rattle.board_rule.specs.declared.view.View.{View}
use Rattle.board_rule.specs.declared.setup.Setup.{Setup}

-- ---- views

abbrev pub with_leaders : (HeldLeader → HeldLeader) → View → View
with_leaders f v = record { named = v.named; leaders = map f v.leaders; laggers = v.laggers }

abbrev pub with_laggers : (HeldLagger → HeldLagger) → View → View
with_laggers f v = record { named = v.named; leaders = v.leaders; laggers = map f v.laggers }

-- a seat with these posts, with one leader's, with one lagger's, and with none
abbrev pub posts_view : Named → List HeldLeader → List HeldLagger → View
posts_view n ks ls = record { named = n; leaders = ks; laggers = ls }

abbrev pub leader_view : Named → HeldLeader → View
leader_view n k = posts_view n (k ∷ []) []

abbrev pub lagger_view : Named → HeldLagger → View
lagger_view n k = posts_view n [] (k ∷ [])

abbrev pub no_posts : Named → View
no_posts n = posts_view n [] []

-- the first seat has all posts, and no run is named
abbrev pub all_posts : Setup → View
all_posts s = record {
  named = record { run = no_run s.leader_at; parts = s.leaders; lag = s.lag };
  leaders = leaders_from s.leader_at 0 s.leaders;
  laggers = laggers_from s.leaders s.leader_at s.lagger_at 0 s.leaders;
}

-- ---- what is known of the board

-- there were posts for which all held, and the seat's are as it knows them
pub record Stood (v : View) : Type 0 where
  pub posts : Posts
  pub holds : PostsHold (course v.named) posts
  pub leaders : Each (λ (k : HeldLeader). (k.number < v.named.parts) × (k.post ≡ posts.leader k.number)) v.leaders
  pub laggers : Each (λ (k : HeldLagger). (k.number < v.named.parts) × (k.post ≡ posts.lagger k.number)) v.laggers

-- the step was these events on the posts of the whole board: before it all held of them, and the seat's were as it knew
-- them; the events were allowed and made of them what they are then; all holds then, and the seat's are as it knows them
pub record Happened (es : List Event) (v w : View) : Type 0 where
  pub before : Stood v
  pub allowed : AllAllowed (course v.named) es before.posts
  pub now : Stood w
  pub made : now.posts ≡ all_after es before.posts

-- ---- the six calls. A step is one event for each post of its kind that the seat has, so one event: but for `catch_up`
-- a seat has one post

-- a count of looks rises by one until it stands at its last value
abbrev pub one_more : ℕ → ℕ
one_more k = min (k + 1) 18446744073709551615

-- a lagger's counts, after one look more at the leader p's word
abbrev pub looked_at : ℕ → List ℕ → List ℕ
looked_at p counts = slice_set counts p (one_more (slice_index counts p))

-- what a leader's word says of it
abbrev pub sight_in : ℕ → Sight
sight_in w = record { at = w / 2; halted = w % 2 == 1 }

-- what was seen of a leader only grows: its position doesn't fall, and a halt that was seen stays, with its position
pub record Grows (old new : Sight) : Type 0 where
  pub further : old.at ≤ new.at
  pub last : old.halted ≡ true → new ≡ old

-- the leader whose word it is
abbrev pub number_at : ℕ → ℕ
number_at word = word / 16

abbrev pub raised_leader : HeldLeader → HeldLeader
raised_leader k = record k { post = record k.post { at = k.post.at + 1 } }

abbrev pub halted_leader : HeldLeader → HeldLeader
halted_leader k = record k { post = record k.post { halted = true } }

abbrev pub reported_leader : HeldLeader → HeldLeader
reported_leader k = record k { post = record k.post { reported = true } }

abbrev pub saw_fire : ℕ → HeldLeader → HeldLeader
saw_fire f k = record k { post = record k.post { seen = f }; looks = one_more k.looks }

abbrev pub saw_leader : ℕ → Sight → HeldLagger → HeldLagger
saw_leader p s k = record k {
  post = with_sight p s k.post;
  looks = looked_at p k.looks;
}

abbrev pub raised_lagger : HeldLagger → HeldLagger
raised_lagger k = record k { post = record k.post { at = k.post.at + 1 } }

-- the step's view, and the events that it is
abbrev pub Moves : List Event → View → Me ℕ View → Me ℕ View → Type 0
Moves es w me now = (now ≡ (w, me.1)) × Happened es me.0 w

abbrev pub by_leaders : (ℕ → Event) → List HeldLeader → List Event
by_leaders e ks = map (λ k. e k.number) ks

abbrev pub by_laggers : (ℕ → Event) → List HeldLagger → List Event
by_laggers e ks = map (λ k. e k.number) ks

abbrev pub raises : Step ℕ → Me ℕ View → ℕ → Me ℕ View → Type 0
raises s me found now = Moves (by_leaders raise me.0.leaders) (with_leaders raised_leader me.0) me now

abbrev pub halts : Step ℕ → Me ℕ View → ℕ → Me ℕ View → Type 0
halts s me found now = Moves (by_leaders halt me.0.leaders) (with_leaders halted_leader me.0) me now

abbrev pub reports : Step ℕ → Me ℕ View → ℕ → Me ℕ View → Type 0
reports s me found now = Moves (by_leaders fire me.0.leaders) (with_leaders reported_leader me.0) me now

-- the fire word of those posts was what was found, and no post had seen a lesser one
abbrev pub sees_fire : Step ℕ → Me ℕ View → ℕ → Me ℕ View → Type 0
sees_fire s me found now = (now ≡ (with_leaders (saw_fire found) me.0, me.1))
    × ((t : Happened (by_leaders see_fire me.0.leaders) me.0 (with_leaders (saw_fire found) me.0))
    × (t.now.posts.fire ≡ found) × Each (λ (k : HeldLeader). found ≤ k.post.seen) me.0.leaders)

-- what was found is what there was to see of the leader p among those posts, no post had seen more of it, and where the
-- seat has the leader's post too, it is that post's
abbrev pub FindsLeader : ℕ → ℕ → Me ℕ View → Me ℕ View → Type 0
FindsLeader p found me now = (now ≡ (with_laggers (saw_leader p (sight_in found)) me.0, me.1))
    × ((t : Happened (by_laggers (λ q. see q p) me.0.laggers) me.0 (with_laggers (saw_leader p (sight_in found)) me.0))
    × (sight_in found ≡ present (t.now.posts.leader p))
    × Each (λ (k : HeldLagger). Grows (sight k.post p) (sight_in found)) me.0.laggers
    × Each (λ (k : HeldLeader). k.number ≡ p → sight_in found ≡ present k.post) me.0.leaders)

abbrev pub sees_leader : Step ℕ → Me ℕ View → ℕ → Me ℕ View → Type 0
sees_leader s me found now = FindsLeader (number_at s.word) found me now

abbrev pub lag_raises : Step ℕ → Me ℕ View → ℕ → Me ℕ View → Type 0
lag_raises s me found now = Moves (by_laggers lag_raise me.0.laggers) (with_laggers raised_lagger me.0) me now

-- ---- the start: the run is named
-- By a seat that has all posts, before any is split off. It is no event, and makes no word another; no other step names a
-- run.

-- the step's view, and what is known then
abbrev pub Becomes : View → Me ℕ View → Me ℕ View → Type 0
Becomes w me now = (now ≡ (w, me.1)) × Stood w

abbrev pub names : RunData → Step ℕ → Me ℕ View → ℕ → Me ℕ View → Type 0
names r s me found now = Becomes (record {
  named = record { run = r; parts = me.0.named.parts; lag = me.0.named.lag };
  leaders = me.0.leaders;
  laggers = me.0.laggers;
}) me now

-- ---- seats that are split and joined

-- the other's posts stand before one's own
abbrev pub both : View → View → View
both v w = record { named = v.named; leaders = w.leaders ++ v.leaders; laggers = w.laggers ++ v.laggers }

abbrev pub rest_of : {A : Type 0} → List A → List A
rest_of [] = []
rest_of (x ∷ xs) = xs

abbrev pub first_of : {A : Type 0} → (A → A) → List A → List A
first_of f [] = []
first_of f (x ∷ xs) = f x ∷ []

-- the first leader's post goes to a seat of its own, and rests; and the first lagger's
abbrev pub without_leader : View → View
without_leader v = record { named = v.named; leaders = rest_of v.leaders; laggers = v.laggers }

abbrev pub leader_alone : View → View
leader_alone v = record { named = v.named; leaders = first_of rested_leader v.leaders; laggers = [] }

abbrev pub without_lagger : View → View
without_lagger v = record { named = v.named; leaders = v.leaders; laggers = rest_of v.laggers }

abbrev pub lagger_alone : View → View
lagger_alone v = record {
  named = v.named;
  leaders = [];
  laggers = first_of (rested_lagger v.named.parts) v.laggers;
}
