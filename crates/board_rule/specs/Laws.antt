-- The laws of the board, over its words and views: whoever steps, each step is one event of the network on the posts of
-- the whole board, and seats that are split or joined leave the posts. This project's own.
use Rattle.std.specs.Prelude.{◌≡◌, ◌≢◌, ℕ, ◌+◌, ◌%◌, ◌^◌, ◌<◌, ◌≤◌, min, List, [], ◌∷◌, ◌++◌, map}
use Rattle.std.specs.Prelude.{slice_index, slice_set}
use mathlib.Core.Option.{some}
use lib.ListN.{get_elem?}
use Rattle.atomic_table.specs.Table.{State}
use Rattle.named_run.specs.Named.{end_of}
use Rattle.token_net.specs.Posts.{MayRaise, MayHalt, MayReport, HasSeenFar, most_rows}
use Rattle.token_net.specs.Network.{Event, raise, halt, fire, see, lag_raise, see_fire}
use Rattle.board_rule.specs.Views.{Named, HeldLeader, HeldLagger, course, rested_leader, rested_lagger, no_name}
use Rattle.board_rule.specs.Events.{all_after, AllAllowed}
use Rattle.board_rule.specs.Rule.{Each, fire_word, leader_word, lagger_word, Kept}
use Rattle.board_rule.specs.Plays.{posts_view, leader_view, lagger_view, no_posts, both, sight_in, saw_fire, saw_leader}
use Rattle.board_rule.specs.Plays.{by_leaders, by_laggers, raised_leader, halted_leader, reported_leader, raised_lagger}
use Rattle.board_rule.specs.declared.view.View.{View}

-- the table once the seat id has made the word at place i another, and has another view
abbrev pub stepped : State ℕ View → ℕ → ℕ → ℕ → View → State ℕ View
stepped s id i word w = record { words = slice_set s.words i word; homes = s.homes; views = slice_set s.views id w }

-- the table once the seat id has the view l, and a new seat the view r
abbrev pub split : State ℕ View → ℕ → View → View → State ℕ View
split s id l r = record { words = s.words; homes = s.homes; views = slice_set s.views id l ++ r ∷ [] }

-- the table once the seat id has the view w of two seats' posts, and the other no post
abbrev pub joined : State ℕ View → ℕ → ℕ → View → State ℕ View
joined s id other w = record {
  words = s.words;
  homes = s.homes;
  views = slice_set (slice_set s.views id w) other (no_posts no_name);
}

-- these events lead from the one to the other: whatever posts the board kept, each event was allowed at its turn, and
-- the board keeps the posts that they make of them
abbrev pub Leads : Named → List Event → State ℕ View → State ℕ View → Type 0
Leads n es s t = (h : Kept n s) → (k : Kept n t) × AllAllowed (course n) es h.posts × (k.posts ≡ all_after es h.posts)

module _ (n : Named) where
  -- what is promised of the eight kinds of step of the seat id, for every run that it names; a look by a seat with
  -- several posts is as many events
  pub record BoardLaws (s : State ℕ View) (id : ℕ) : Type 0 where
    pub raises : (k : HeldLeader) → get_elem? s.views id ≡ some (leader_view n k) → end_of n.run ≤ most_rows
        → MayRaise (course n) k.number k.post → let i = leader_word k.number in Leads n (raise k.number ∷ []) s
        (stepped s id i ((slice_index s.words i + 2) % 2 ^ 64) (leader_view n (raised_leader k)))
    pub halts : (k : HeldLeader) → get_elem? s.views id ≡ some (leader_view n k) → end_of n.run ≤ most_rows
        → MayHalt (end_of n.run) k.post → let i = leader_word k.number in Leads n (halt k.number ∷ []) s
        (stepped s id i ((slice_index s.words i + 1) % 2 ^ 64) (leader_view n (halted_leader k)))
    pub reports : (k : HeldLeader) → get_elem? s.views id ≡ some (leader_view n k)
        → MayReport (course n) k.number k.post → Leads n (fire k.number ∷ []) s
        (stepped s id fire_word (min (slice_index s.words fire_word) k.post.at) (leader_view n (reported_leader k)))
    pub sees_fire : (ks : List HeldLeader) (ls : List HeldLagger) → get_elem? s.views id ≡ some (posts_view n ks ls)
        → let f = slice_index s.words fire_word in Leads n (by_leaders see_fire ks) s
        (stepped s id fire_word f (posts_view n (map (saw_fire f) ks) ls))
    pub sees_leader : (ks : List HeldLeader) (ls : List HeldLagger) → get_elem? s.views id ≡ some (posts_view n ks ls)
        → (p : ℕ) → p < n.parts → let f = slice_index s.words (leader_word p) in
        Leads n (by_laggers (λ q. see q p) ls) s
        (stepped s id (leader_word p) f (posts_view n ks (map (saw_leader p (sight_in f)) ls)))
    pub lag_raises : (k : HeldLagger) → get_elem? s.views id ≡ some (lagger_view n k) → end_of n.run ≤ most_rows
        → HasSeenFar n.parts n.lag k.post → let i = lagger_word k.number in Leads n (lag_raise k.number ∷ []) s
        (stepped s id i ((slice_index s.words i + 1) % 2 ^ 64) (lagger_view n (raised_lagger k)))
    -- the first post goes to a seat of its own, a seat without posts comes, and a seat takes in another's posts
    pub splits_leader : (k : HeldLeader) (ks : List HeldLeader) (ls : List HeldLagger)
        → get_elem? s.views id ≡ some (posts_view n (k ∷ ks) ls) → Each (λ x. x.number ≢ k.number) ks
        → Leads n [] s (split s id (posts_view n ks ls) (leader_view n (rested_leader k)))
    pub splits_lagger : (ks : List HeldLeader) (k : HeldLagger) (ls : List HeldLagger)
        → get_elem? s.views id ≡ some (posts_view n ks (k ∷ ls)) → Each (λ x. x.number ≢ k.number) ls
        → Leads n [] s (split s id (posts_view n ks ls) (lagger_view n (rested_lagger n.parts k)))
    pub splits_none : (v : View) → get_elem? s.views id ≡ some v
        → Leads n [] s (split s id v (no_posts v.named))
    pub joins : (other : ℕ) (v w : View) → w.named ≡ v.named → get_elem? s.views id ≡ some v → ¬ (other ≡ id)
        → get_elem? (slice_set s.views id (both v w)) other ≡ some w → Leads n [] s (joined s id other (both v w))
