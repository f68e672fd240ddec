-- The end, which the posts tell by themselves: who has come to it, and where they then stand. This project's own.
use Rattle.std.specs.Prelude.{◌≡◌, ℕ, ◌+◌, ◌-◌, ◌<◌, ◌≤◌, true, false}
use Rattle.token_net.specs.Shape.{Shape}
use Rattle.token_net.specs.Posts.{Lagger, Posts, Course, none_yet, sight}
use Rattle.token_net.specs.Network.{Config}

module _ (parts lag : ℕ) where
  -- a lagger is done: it has seen every leader halted, and the least of their positions is below its own + 1 + lag
  pub record IsDone (y : Lagger) : Type 0 where
    pub halts : (p : ℕ) → p < parts → (sight y p).halted ≡ true
    pub near : (p : ℕ) × (p < parts) × ((sight y p).at < y.at + 1 + lag)

  -- every leader is halted and every lagger done
  pub record AllDone (c : Posts) : Type 0 where
    pub leaders : (p : ℕ) → p < parts → (c.leader p).halted ≡ true
    pub laggers : (q : ℕ) → q < parts → IsDone (c.lagger q)

-- the network is finished
abbrev pub Finished : {S V : Type 0} → Shape S V → Config S V → Type 0
Finished n c = AllDone n.parts n.lag c.posts

module _ (n : Course) where
  -- k is the first cycle of the rows in which an assertion fires, or the number of rows where none does
  pub record IsFirstFailure (k : ℕ) : Type 0 where
    pub within : k ≤ n.rows
    pub none : (p t : ℕ) → p < n.parts → t < k → n.fired p t ≡ false
    pub fires : k < n.rows → (p : ℕ) × (p < n.parts) × (n.fired p k ≡ true)

  -- where posts stand at the end
  pub record IsEnd (c : Posts) : Type 0 where
    -- k is the first failure, or the number of rows where there is none
    pub k : ℕ
    pub first : IsFirstFailure k
    -- it is the least position of a leader
    pub least : (p : ℕ) → p < n.parts → k ≤ (c.leader p).at
    pub reached : (p : ℕ) × (p < n.parts) × ((c.leader p).at ≡ k)
    -- each lagger stands at k less the lag, or at 0
    pub laggers : (q : ℕ) → q < n.parts → (c.lagger q).at ≡ k - n.lag
    -- the fire word is the first failure, or none yet where there is none
    pub word : k < n.rows → c.fire ≡ k
    pub no_word : k ≡ n.rows → c.fire ≡ none_yet
