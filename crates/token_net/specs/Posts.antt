-- What leaders and laggers let each other know: positions, halts, the first fire, and what was seen of them; what a
-- post allows, and the six steps. Posts stand apart from states and tokens, since threads share them. This project's
-- own.
use Rattle.std.specs.Prelude.{◌≡◌, ℕ, ◌+◌, ◌<◌, ◌≤◌, Bool, true, false, List, map, length, replicate, slice_index_or}
use Rattle.std.specs.Prelude.{slice_set, ◌⊎◌, min}
use Rattle.std.specs.List.{range_with_len}
use Rattle.token_net.specs.Families.{put, put_below}

-- a leader's position and halt, as a lagger has seen them
pub record Sight : Type 0 where
  pub at : ℕ
  pub halted : Bool

-- a leader's post: its position, whether it has halted, whether it has reported that an assertion of its own fires,
-- and the fire word as it has seen it, a cycle or none yet
pub record Leader : Type 0 where
  pub at : ℕ
  pub halted : Bool
  pub reported : Bool
  pub seen : ℕ

-- a lagger's post: its position, and what it has seen of each leader
pub record Lagger : Type 0 where
  pub at : ℕ
  pub sights : List Sight

-- all posts, and the fire word: the least cycle that a leader has reported, or none yet
pub record Posts : Type 0 where
  pub leader : ℕ → Leader
  pub lagger : ℕ → Lagger
  pub fire : ℕ

-- the fire word while no leader has reported: 2^64-1
abbrev pub none_yet : ℕ
none_yet = 18446744073709551615

-- there are 2^32-1 rows at most, so that no cycle is `none_yet`
abbrev pub most_rows : ℕ
most_rows = 4294967295

-- what there is to see of a leader
abbrev pub present : Leader → Sight
present x = record { at = x.at; halted = x.halted }

-- a leader's position, not halted
abbrev pub going_on : Leader → Sight
going_on x = record { at = x.at; halted = false }

-- what a lagger has seen of the leader p
abbrev pub sight : Lagger → ℕ → Sight
sight y p = slice_index_or y.sights p (record { at = 0; halted = false })

-- a lagger that has now seen this of the leader p
abbrev pub with_sight : ℕ → Sight → Lagger → Lagger
with_sight p s y = record y { sights = slice_set y.sights p s }

-- ---- a run, as posts know it

-- what the rules of posts ask of a run: how many leaders and laggers there are, the number of rows, the lag, and
-- whether an assertion of the leader p's partition fires in the cycle t, as `fired p t`. It is asked at cycles below
-- the number of rows alone; where a run begins at a later cycle than 0, no assertion before that cycle counts as fired
pub record Course : Type 0 where
  pub parts : ℕ
  pub rows : ℕ
  pub lag : ℕ
  pub fired : ℕ → ℕ → Bool

-- the same run with k rows more
abbrev pub with_rows : Course → ℕ → Course
with_rows n k = record n { rows = n.rows + k }

-- ---- what a post allows

-- a leader runs where it isn't halted and hasn't seen a fire at a cycle below its position
pub record LeaderRuns (x : Leader) : Type 0 where
  pub going : x.halted ≡ false
  pub clear : x.at ≤ x.seen

module _ (n : Course) where
  -- the leader p may raise its position where it runs, the position is below the number of rows, and no assertion of
  -- its own fires there
  pub record MayRaise (p : ℕ) (x : Leader) : Type 0 where
    pub runs : LeaderRuns x
    pub below : x.at < n.rows
    pub quiet : n.fired p x.at ≡ false

  -- the leader p may report its position where it runs, hasn't reported, the position is below the number of rows,
  -- and an assertion of its own fires there
  pub record MayReport (p : ℕ) (x : Leader) : Type 0 where
    pub runs : LeaderRuns x
    pub new : x.reported ≡ false
    pub below : x.at < n.rows
    pub fires : n.fired p x.at ≡ true

-- a leader may halt where it isn't halted, and stands at the number of rows, has reported its position, or has seen a
-- fire at a cycle below its position
pub record MayHalt (rows : ℕ) (x : Leader) : Type 0 where
  pub going : x.halted ≡ false
  pub why : (x.at ≡ rows) ⊎ (x.reported ≡ true) ⊎ (x.seen < x.at)

-- a lagger may start its cycle, and raise its position, where it has seen each leader at its own position + 1 + lag or
-- further
abbrev pub HasSeenFar : ℕ → ℕ → Lagger → Type 0
HasSeenFar parts lag y = (p : ℕ) → p < parts → y.at + 1 + lag ≤ (sight y p).at

-- ---- the six steps

-- the leader p is one cycle further
abbrev pub after_raise : ℕ → Posts → Posts
after_raise p c = record c { leader = put p (record (c.leader p) { at = (c.leader p).at + 1 }) c.leader }

-- the leader p is halted
abbrev pub after_halt : ℕ → Posts → Posts
after_halt p c = record c { leader = put p (record (c.leader p) { halted = true }) c.leader }

-- the leader p has reported, and the fire word is the lesser of itself and the leader's position
abbrev pub after_fire : ℕ → Posts → Posts
after_fire p c = record c {
  fire = min c.fire (c.leader p).at;
  leader = put p (record (c.leader p) { reported = true }) c.leader;
}

-- the leader p has seen the fire word as it is; its post allows this at any time
abbrev pub after_see_fire : ℕ → Posts → Posts
after_see_fire p c = record c { leader = put p (record (c.leader p) { seen = c.fire }) c.leader }

-- the lagger q has seen the leader p as it is; its post allows this at any time
abbrev pub after_see : ℕ → ℕ → Posts → Posts
after_see q p c = record c { lagger = put q (with_sight p (present (c.leader p)) (c.lagger q)) c.lagger }

-- the lagger q is one cycle further
abbrev pub after_lag_raise : ℕ → Posts → Posts
after_lag_raise q c = record c { lagger = put q (record (c.lagger q) { at = (c.lagger q).at + 1 }) c.lagger }

-- ---- the start, and going on with more rows

-- all leaders at the position a and all laggers at b; none is halted, nothing was reported, and each lagger has seen
-- each leader at a, not halted
abbrev pub first_posts : ℕ → ℕ → ℕ → Posts
first_posts parts a b = record {
  leader = λ p. record { at = a; halted = false; reported = false; seen = none_yet };
  lagger = λ q. record { at = b; sights = replicate parts (record { at = a; halted = false }) };
  fire = none_yet;
}

-- no leader is halted, and each lagger has seen each leader's position, not halted; what has a number that names
-- nothing stays
abbrev pub after_extension : ℕ → Posts → Posts
after_extension parts c = record c {
  leader = put_below parts (λ p. record (c.leader p) { halted = false }) c.leader;
  lagger = put_below parts
      (λ q. record (c.lagger q) { sights = map (λ p. going_on (c.leader p)) (range_with_len 0 parts) })
      c.lagger;
}

-- ---- what holds

module _ (n : Course) where
  -- none yet, or a cycle of the rows in which some assertion fires
  abbrev pub IsFire : ℕ → Type 0
  IsFire f = (f ≡ none_yet) ⊎ ((f < n.rows) × ((p : ℕ) × (p < n.parts) × (n.fired p f ≡ true)))

  -- what holds of a leader p under a fire word
  pub record LeaderHolds (fire : ℕ) (p : ℕ) (x : Leader) : Type 0 where
    -- its position is at most the number of rows, and no assertion of its own fires below it
    pub within : x.at ≤ n.rows
    pub clear : (t : ℕ) → t < x.at → n.fired p t ≡ false
    -- where it has reported, its position is below the number of rows, an assertion of its own fires there, and the
    -- fire word is at most that
    pub reports : x.reported ≡ true → (x.at < n.rows) × (n.fired p x.at ≡ true) × (fire ≤ x.at)
    -- where it is halted below the number of rows, it has reported, or the fire word is below its position
    pub stopped : x.halted ≡ true → x.at < n.rows → (x.reported ≡ true) ⊎ (fire < x.at)
    -- what it has seen of the fire word is none yet or a cycle in which some assertion fires, and the word is at most
    -- that
    pub saw : IsFire x.seen
    pub later : fire ≤ x.seen

  -- what holds of what was seen of a leader
  pub record SightHolds (x : Leader) (s : Sight) : Type 0 where
    -- the position seen is at most the leader's
    pub no_further : s.at ≤ x.at
    -- where a halt was seen, the leader is as it was seen
    pub last : s.halted ≡ true → s ≡ present x

  -- a lagger's position is 0, or at most each leader's less the lag
  abbrev pub KeepsLag : Posts → Type 0
  KeepsLag c = (q p : ℕ) → q < n.parts → p < n.parts
      → ((c.lagger q).at ≡ 0) ⊎ ((c.lagger q).at + n.lag ≤ (c.leader p).at)

  -- what holds of all posts
  pub record PostsHold (c : Posts) : Type 0 where
    -- the fire word is none yet, or a cycle of the rows in which some assertion fires
    pub fire : IsFire c.fire
    -- each leader's post, and what each lagger has seen of it
    pub leader : (p : ℕ) → p < n.parts → LeaderHolds c.fire p (c.leader p)
    pub sight : (q p : ℕ) → q < n.parts → p < n.parts → SightHolds (c.leader p) (sight (c.lagger q) p)
    -- the lag rule
    pub lag : KeepsLag c
    -- each lagger has a sight for each leader
    pub sized : (q : ℕ) → q < n.parts → length (c.lagger q).sights ≡ n.parts
