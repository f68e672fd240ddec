-- What a network is of: partitions, the channels between them, and what one partition does in one cycle. FAME1
-- decoupling as in Strober in outline: a partition runs a cycle where a token of that cycle has come on each of its
-- input channels. Row t is what the design's inputs are in the cycle t. The rules are this project's own.
use Rattle.std.specs.Prelude.{◌≡◌, ◌≢◌, ℕ, ◌+◌, ◌<◌, ◌≤◌, Bool}

-- a network, where S is the type of a partition's own state, and V that of the values of a token
pub record Shape (S V : Type 0) : Type 0 where
  -- how many partitions and channels there are; they are numbered from 0
  pub parts : ℕ
  pub channels : ℕ
  -- the partition that gives tokens to a channel, and the one that takes them
  pub from : ℕ → ℕ
  pub to : ℕ → ℕ
  -- how many tokens a channel holds at most
  pub depth : ℕ
  -- how many cycles the lagging partitions keep from the slowest leading one
  pub lag : ℕ
  -- what the partition p does in the cycle t, from its own state and the values that it took from each channel, in the
  -- order `next p t own copy`: its next state, and whether an assertion of its own fires. The rows of all cycles stand
  -- in these functions, and those below the number of rows are looked at; so more rows are a larger number
  pub next : ℕ → ℕ → S → (ℕ → V) → S
  pub fires : ℕ → ℕ → S → (ℕ → V) → Bool
  -- what the channel ch carries of its giver's state, as `send ch own`
  pub send : ℕ → S → V

-- what a design's own run, which knows no partitions, says of them: the state of the partition p in the cycle t as
-- `part p t`, the token of the channel ch of the cycle t as `token ch t`, and whether an assertion of p fires in the
-- cycle t as `fired p t`
pub record Run (S V : Type 0) : Type 0 where
  pub part : ℕ → ℕ → S
  pub token : ℕ → ℕ → V
  pub fired : ℕ → ℕ → Bool

module _ {S V : Type 0} (n : Shape S V) where
  -- the parts of a network fit together
  pub record IsShape : Type 0 where
    -- each channel leads from a partition to another one, and there is at most one from each to each
    pub from : (ch : ℕ) → ch < n.channels → n.from ch < n.parts
    pub to : (ch : ℕ) → ch < n.channels → n.to ch < n.parts
    pub apart : (ch : ℕ) → ch < n.channels → n.from ch ≢ n.to ch
    pub single : (ch k : ℕ) → ch < n.channels → k < n.channels → n.from ch ≡ n.from k → n.to ch ≡ n.to k → ch ≡ k
    -- a channel has room for a token of one cycle and one of the next, and there is a partition
    pub deep : 2 ≤ n.depth
    pub some : 1 ≤ n.parts

  -- the values that a partition took are those of the run's tokens of a cycle
  abbrev pub AreTokens : Run S V → ℕ → ℕ → (ℕ → V) → Type 0
  AreTokens r p t copy = (ch : ℕ) → ch < n.channels → n.to ch ≡ p → copy ch ≡ r.token ch t

  -- the run of a number of rows is the network's, partition by partition: from the run's state and tokens, a cycle
  -- leads to the run's next state and fires where the run does, and what a channel carries of the run's state is the
  -- run's token
  pub record IsRun (rows : ℕ) (r : Run S V) : Type 0 where
    pub next : (p t : ℕ) (copy : ℕ → V) → p < n.parts → t < rows → AreTokens r p t copy
        → n.next p t (r.part p t) copy ≡ r.part p (t + 1)
    pub fires : (p t : ℕ) (copy : ℕ → V) → p < n.parts → t < rows → AreTokens r p t copy
        → n.fires p t (r.part p t) copy ≡ r.fired p t
    pub send : (ch t : ℕ) → ch < n.channels → t ≤ rows → n.send ch (r.part (n.from ch) t) ≡ r.token ch t
