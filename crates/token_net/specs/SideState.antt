-- One side of the network, which is all leaders or all laggers: what it holds at a moment, and the four moves of a
-- cycle. Both sides move alike; who may move, and when, is said in Network. FAME1 decoupling as in Strober in outline;
-- the rules are this project's own.
use Rattle.std.specs.Prelude.{◌≡◌, ◌≢◌, ℕ, zero, suc, ◌+◌, ◌<◌, ◌≤◌, ◌==◌, Bool, true, false, if◌then◌else◌, List, []}
use Rattle.std.specs.Prelude.{◌∷◌, ◌++◌, drop, length, ◌⊎◌}
use Rattle.token_net.specs.Families.{put, one_if}
use Rattle.token_net.specs.Shape.{Shape, Run}

-- how far a partition is in its present cycle: it hasn't begun it; it takes tokens; it has evaluated and no assertion
-- of its own fires; it has evaluated and one does
pub data Phase : Type 0 where
  idle : Phase
  taking : Phase
  quiet : Phase
  firing : Phase

-- the phase after an evaluation, by whether an assertion fires
abbrev pub verdict : Bool → Phase
verdict true = firing
verdict false = quiet

-- it has evaluated in its present cycle; or it hasn't
abbrev pub HasEvaluated : Phase → Type 0
HasEvaluated p = (p ≡ quiet) ⊎ (p ≡ firing)

abbrev pub HasNotEvaluated : Phase → Type 0
HasNotEvaluated p = (p ≡ idle) ⊎ (p ≡ taking)

-- what a channel carries for one cycle
pub record Token (V : Type 0) : Type 0 where
  pub cycle : ℕ
  pub values : V

-- what one side holds; its positions stand in its posts
pub record SideState (S V : Type 0) : Type 0 where
  -- of a partition: how far it is, its own state, and the next one once it has evaluated
  pub phase : ℕ → Phase
  pub own : ℕ → S
  pub next : ℕ → S
  -- of a channel: the tokens that it holds, the oldest first; whether in its present cycle its taker has taken from
  -- it, and its giver given to it; and the values that were taken last
  pub held : ℕ → List (Token V)
  pub taken : ℕ → Bool
  pub given : ℕ → Bool
  pub copy : ℕ → V

-- the values of the oldest token, or v where there is none
abbrev pub oldest_values : {V : Type 0} → V → List (Token V) → V
oldest_values v [] = v
oldest_values v (x ∷ xs) = x.values

module _ {S V : Type 0} (n : Shape S V) where
  -- ---- what a partition may do in its cycle

  -- the partition has taken from each channel that leads to it
  abbrev pub HasTakenAll : SideState S V → ℕ → Type 0
  HasTakenAll h p = (ch : ℕ) → ch < n.channels → n.to ch ≡ p → h.taken ch ≡ true

  -- the partition has given to each channel that leads from it
  abbrev pub HasGivenAll : SideState S V → ℕ → Type 0
  HasGivenAll h p = (ch : ℕ) → ch < n.channels → n.from ch ≡ p → h.given ch ≡ true

  -- no channel leads to the partition
  abbrev pub HasNoInput : ℕ → Type 0
  HasNoInput p = (ch : ℕ) → ch < n.channels → n.to ch ≢ p

  -- a channel's taker is idle and may start, or is taking and hasn't taken from this channel
  abbrev pub IsReadyToTake : (ℕ → Type 0) → SideState S V → ℕ → Type 0
  IsReadyToTake starts h ch = ((h.phase (n.to ch) ≡ idle) × starts (n.to ch))
      ⊎ ((h.phase (n.to ch) ≡ taking) × (h.taken ch ≡ false))

  -- its taker is ready, and the channel isn't empty
  pub record MayTake (starts : ℕ → Type 0) (h : SideState S V) (ch : ℕ) : Type 0 where
    pub there : ch < n.channels
    pub ready : IsReadyToTake starts h ch
    pub some : h.held ch ≢ []

  -- a partition is taking and has taken all its inputs, or is idle, has none, and may start
  abbrev pub IsReadyToEvaluate : (ℕ → Type 0) → SideState S V → ℕ → Type 0
  IsReadyToEvaluate starts h p = ((h.phase p ≡ taking) × HasTakenAll h p)
      ⊎ ((h.phase p ≡ idle) × HasNoInput p × starts p)

  -- the partition is ready
  pub record MayEvaluate (starts : ℕ → Type 0) (h : SideState S V) (p : ℕ) : Type 0 where
    pub there : p < n.parts
    pub ready : IsReadyToEvaluate starts h p

  -- its giver has evaluated and hasn't given to this channel, and the channel has room
  pub record MayGive (h : SideState S V) (ch : ℕ) : Type 0 where
    pub there : ch < n.channels
    pub evaluated : HasEvaluated (h.phase (n.from ch))
    pub new : h.given ch ≡ false
    pub room : length (h.held ch) < n.depth

  -- it has evaluated and given all its outputs
  pub record MayClose (h : SideState S V) (p : ℕ) : Type 0 where
    pub there : p < n.parts
    pub evaluated : HasEvaluated (h.phase p)
    pub all : HasGivenAll h p

  -- ---- the moves

  -- the oldest token of the channel goes, its values are the taker's copy, and the taker is taking
  abbrev pub after_take : ℕ → SideState S V → SideState S V
  after_take ch h = record h {
    phase = put (n.to ch) taking h.phase;
    held = put ch (drop 1 (h.held ch)) h.held;
    taken = put ch true h.taken;
    copy = put ch (oldest_values (h.copy ch) (h.held ch)) h.copy;
  }

  -- the partition's verdict and next state of the cycle t, from its own state and its copies
  abbrev pub after_evaluate : ℕ → ℕ → SideState S V → SideState S V
  after_evaluate p t h = record h {
    phase = put p (verdict (n.fires p t (h.own p) h.copy)) h.phase;
    next = put p (n.next p t (h.own p) h.copy) h.next;
  }

  -- the token of the cycle after t is appended
  abbrev pub after_give : ℕ → ℕ → SideState S V → SideState S V
  after_give ch t h = record h {
    held = put ch (h.held ch ++ record { cycle = t + 1; values = n.send ch (h.next (n.from ch)) } ∷ []) h.held;
    given = put ch true h.given;
  }

  -- the next state is the partition's own, and it is idle: in its new cycle it has taken and given nothing
  abbrev pub after_close : ℕ → SideState S V → SideState S V
  after_close p h = record h {
    phase = put p idle h.phase;
    own = put p (h.next p) h.own;
    taken = λ ch. if n.to ch == p then false else h.taken ch;
    given = λ ch. if n.from ch == p then false else h.given ch;
  }

  -- at the start: each partition is idle in the run's first state, and each channel holds the first token
  abbrev pub first_side_state : Run S V → SideState S V
  first_side_state r = record {
    phase = λ _. idle;
    own = λ p. r.part p 0;
    next = λ p. r.part p 0;
    held = λ ch. record { cycle = 0; values = r.token ch 0 } ∷ [];
    taken = λ _. false;
    given = λ _. false;
    copy = λ ch. r.token ch 0;
  }

-- ---- what holds of a side, by the design's run

-- the run's tokens of a channel for the k cycles from a on
abbrev pub tokens : {S V : Type 0} → Run S V → ℕ → ℕ → ℕ → List (Token V)
tokens r ch a zero = []
tokens r ch a (suc k) = record { cycle = a; values = r.token ch a } ∷ tokens r ch (suc a) k

-- of a partition at the position t
pub record PartHolds {S V : Type 0} (r : Run S V) (rows : ℕ) (h : SideState S V) (p t : ℕ) : Type 0 where
  -- its own state is the run's
  pub own : h.own p ≡ r.part p t
  -- its position is at most the number of rows, and below it unless it is idle
  pub within : t ≤ rows
  pub below : h.phase p ≢ idle → t < rows
  -- once it has evaluated, its next state is the run's, and its verdict is right
  pub next : HasEvaluated (h.phase p) → h.next p ≡ r.part p (t + 1)
  pub right : HasEvaluated (h.phase p) → h.phase p ≡ verdict (r.fired p t)

-- of a channel's queue, whose taker has taken `taken` tokens in all and whose giver has given `given`
pub record QueueHolds {S V : Type 0} (r : Run S V) (depth ch taken given : ℕ) (held : List (Token V)) : Type 0 where
  -- it holds the run's tokens in order, from the count taken up to the count given, and at most as many as its depth
  pub count : taken + length held ≡ given
  pub in_order : held ≡ tokens r ch taken (length held)
  pub room : length held ≤ depth

-- of a channel's taker at the position t: its phase, whether it has taken from the channel in its present cycle, and
-- what it took last
pub record TakerHolds {S V : Type 0} (r : Run S V) (ch t : ℕ) (phase : Phase) (taken : Bool) (copy : V) : Type 0 where
  -- what was taken in the present cycle is the run's token of that cycle
  pub copied : taken ≡ true → copy ≡ r.token ch t
  -- where it is idle it has taken nothing, and where it has evaluated it has taken from the channel
  pub idle_took_none : phase ≡ idle → taken ≡ false
  pub evaluated_took_all : HasEvaluated phase → taken ≡ true

-- of a channel's giver: where it hasn't evaluated, it has given nothing in its present cycle
pub record GiverHolds (phase : Phase) (given : Bool) : Type 0 where
  pub gave_none_yet : HasNotEvaluated phase → given ≡ false

module _ {S V : Type 0} (n : Shape S V) where
  -- how many tokens a channel's taker has taken, where partitions stand at the positions `at`: its position, and 1 more
  -- where it has taken in its present cycle
  abbrev pub count_taken : (ℕ → ℕ) → SideState S V → ℕ → ℕ
  count_taken at h ch = at (n.to ch) + one_if (h.taken ch)

  -- how many its giver has given: its position and 1 for the first token, and 1 more where it has given in its present
  -- cycle
  abbrev pub count_given : (ℕ → ℕ) → SideState S V → ℕ → ℕ
  count_given at h ch = at (n.from ch) + 1 + one_if (h.given ch)

  -- of a channel: its queue, its taker and its giver
  pub record ChannelHolds (r : Run S V) (at : ℕ → ℕ) (h : SideState S V) (ch : ℕ) : Type 0 where
    pub queue : QueueHolds r n.depth ch (count_taken at h ch) (count_given at h ch) (h.held ch)
    pub taker : TakerHolds r ch (at (n.to ch)) (h.phase (n.to ch)) (h.taken ch) (h.copy ch)
    pub giver : GiverHolds (h.phase (n.from ch)) (h.given ch)

  -- of each partition and each channel of the side
  pub record SideHolds (r : Run S V) (rows : ℕ) (at : ℕ → ℕ) (h : SideState S V) : Type 0 where
    pub part : (p : ℕ) → p < n.parts → PartHolds r rows h p (at p)
    pub channel : (ch : ℕ) → ch < n.channels → ChannelHolds r at h ch
