-- The laws: of posts alone, that each step keeps what holds of them and that they end at the first failure; of the
-- network, that it is always a consistent cut of the design's run, never stuck, and ends there too. This project's own.
use Rattle.std.specs.Prelude.{◌≡◌, ℕ, ◌+◌, ◌-◌, ◌*◌, ◌<◌, ◌≤◌, false, List, length, ◌⊎◌}
use Rattle.token_net.specs.Shape.{Shape, IsShape, Run, IsRun}
use Rattle.token_net.specs.Posts.{Posts, most_rows, Course, MayRaise, MayHalt, MayReport, HasSeenFar, after_raise}
use Rattle.token_net.specs.Posts.{after_halt, after_fire, after_see_fire, after_see, after_lag_raise, first_posts}
use Rattle.token_net.specs.Posts.{after_extension, with_rows, PostsHold}
use Rattle.token_net.specs.Network.{Config, Event, Enabled, after, start}
use Rattle.token_net.specs.Holds.{course, Holds}
use Rattle.token_net.specs.Left.{left}
use Rattle.token_net.specs.End.{AllDone, Finished, IsEnd}
use Rattle.token_net.specs.Extension.{Step, extensions, MayExtend, extended, Leads, piece}

module _ (n : Course) where
  -- what is promised of posts alone, for every run; p names a leader and q a lagger
  pub record PostsLaws : Type 0 where
    -- what holds of posts holds at a start with leaders at a, where no assertion fires below a, and laggers at 0 or at
    -- most the lag before them
    pub begins : (a b : ℕ) → a ≤ n.rows → ((p t : ℕ) → p < n.parts → t < a → n.fired p t ≡ false)
        → (b ≡ 0) ⊎ (b + n.lag ≤ a) → PostsHold n (first_posts n.parts a b)
    -- each of the six steps keeps it, where the post allows the step
    pub raise : (c : Posts) (p : ℕ) → PostsHold n c → p < n.parts → MayRaise n p (c.leader p)
        → PostsHold n (after_raise p c)
    pub halt : (c : Posts) (p : ℕ) → PostsHold n c → p < n.parts → MayHalt n.rows (c.leader p)
        → PostsHold n (after_halt p c)
    pub report : (c : Posts) (p : ℕ) → PostsHold n c → p < n.parts → MayReport n p (c.leader p)
        → PostsHold n (after_fire p c)
    pub see_fire : (c : Posts) (p : ℕ) → PostsHold n c → p < n.parts → PostsHold n (after_see_fire p c)
    pub see : (c : Posts) (q p : ℕ) → PostsHold n c → q < n.parts → p < n.parts → PostsHold n (after_see q p c)
    pub lag_raise : (c : Posts) (q : ℕ) → PostsHold n c → q < n.parts → HasSeenFar n.parts n.lag (c.lagger q)
        → PostsHold n (after_lag_raise q c)
    -- an extension keeps it, for the longer run
    pub extends : (c : Posts) (k : ℕ) → PostsHold n c → PostsHold (with_rows n k) (after_extension n.parts c)
    -- where every leader is halted and every lagger done, they stand at the first failure or the end of the rows
    pub end : (c : Posts) → 1 ≤ n.parts → n.rows ≤ most_rows → PostsHold n c → AllDone n.parts n.lag c → IsEnd n c

module _ {S V : Type 0} (n : Shape S V) where
  -- what so many rows add to what is left, and what is left without rows
  abbrev pub for_rows : ℕ → ℕ
  for_rows rows = 5 * n.parts * n.parts * rows

  abbrev pub for_none : ℕ
  for_none = 2 * n.parts * n.parts + 2 * n.parts

  -- what is known after steps from c that lead to d
  pub record IsCut (r : Run S V) (steps : List Step) (c d : Config S V) : Type 0 where
    pub holds : Holds n r d
    -- the states in which the laggers began a cycle k, at whatever moments, are together the run's state of k once
    -- each has reached it
    pub pieces : (k : ℕ) → ((q : ℕ) → q < n.parts → k ≤ (d.posts.lagger q).at) → (q : ℕ) → q < n.parts
        → piece n c steps q k ≡ r.part q k
    -- no lagger is further than the slowest leader less the lag
    pub lag : (q p : ℕ) → q < n.parts → p < n.parts → (d.posts.lagger q).at ≤ (d.posts.leader p).at - n.lag

  -- what an extension by k rows does
  pub record IsExtended (r : Run S V) (c : Config S V) (k : ℕ) : Type 0 where
    pub holds : Holds n r (extended n k c)
    pub more : left n (extended n k c) ≡ left n c + for_rows k + for_none

  -- what is promised of the network, for every run of the design
  pub record Laws : Type 0 where
    -- it holds at the start
    pub begins : (r : Run S V) (rows : ℕ) → IsShape n
        → Holds n r (start n r rows) × (left n (start n r rows) ≡ for_rows rows + for_none)
    -- each kind of event keeps what holds
    pub keeps : (r : Run S V) (c : Config S V) (e : Event) → IsShape n → IsRun n c.rows r → Holds n r c
        → Enabled n c e → Holds n r (after n c e)
    -- after any list of steps, each enabled at its turn
    pub cut : (r : Run S V) (rows : ℕ) (steps : List Step) (d : Config S V) → IsShape n
        → Leads n steps (start n r rows) d → IsRun n d.rows r → IsCut r steps (start n r rows) d
    -- where it isn't finished some event is enabled, whatever led there; where it is finished none is
    pub goes : (r : Run S V) (c : Config S V) → IsShape n → Holds n r c → ((e : Event) × Enabled n c e) ⊎ Finished n c
    pub rests : (r : Run S V) (c : Config S V) (e : Event) → IsShape n → Holds n r c → Finished n c → Enabled n c e → ⊥
    -- each event lowers what is left
    pub falls : (r : Run S V) (c : Config S V) (e : Event) → IsShape n → Holds n r c → Enabled n c e
        → left n (after n c e) < left n c
    -- a list of steps is no longer than this
    pub most : (r : Run S V) (rows : ℕ) (steps : List Step) (d : Config S V) → IsShape n
        → Leads n steps (start n r rows) d → IsRun n d.rows r → d.rows ≤ most_rows
        → length steps ≤ for_rows d.rows + (extensions steps + 1) * for_none + extensions steps
    -- a finished network is at the first failure or the end of the rows, as its posts alone tell
    pub end : (r : Run S V) (c : Config S V) → IsShape n → c.rows ≤ most_rows → PostsHold (course n r c) c.posts
        → Finished n c → IsEnd (course n r c) c.posts
    -- an extension keeps what holds, and raises what is left by so much
    pub extends : (r : Run S V) (c : Config S V) (k : ℕ) → IsShape n → c.rows ≤ most_rows → Holds n r c
        → MayExtend n c → IsExtended r c k
