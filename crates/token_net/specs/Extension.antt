-- More rows after an end without a failure, and lists of steps, each an event or an extension. The rows of all cycles
-- stand in what a partition does in a cycle, so an extension only raises the number of rows. This project's own.
use Rattle.std.specs.Prelude.{◌≡◌, ℕ, zero, suc, ◌+◌, ◌==◌, Bool, false, if◌then◌else◌, List, [], ◌∷◌}
use Rattle.token_net.specs.Shape.{Shape}
use Rattle.token_net.specs.Posts.{none_yet, after_extension}
use Rattle.token_net.specs.Network.{Config, Event, lag_raise, Enabled, after}
use Rattle.token_net.specs.End.{Finished}

-- an event, or so many rows more
pub data Step : Type 0 where
  event : Event → Step
  extension : ℕ → Step

-- how many of the steps are extensions
abbrev pub extensions : List Step → ℕ
extensions [] = 0
extensions (event e ∷ steps) = extensions steps
extensions (extension k ∷ steps) = suc (extensions steps)

-- whether the lagger q raises its position in an event, and in a step
abbrev pub raises_event : ℕ → Event → Bool
raises_event q (lag_raise x) = x == q
raises_event q _ = false

abbrev pub raises : ℕ → Step → Bool
raises q (event e) = raises_event q e
raises q (extension k) = false

module _ {S V : Type 0} (n : Shape S V) where
  -- the network may be extended where it is finished and no leader has reported
  pub record MayExtend (c : Config S V) : Type 0 where
    pub finished : Finished n c
    pub no_fire : c.posts.fire ≡ none_yet

  -- k rows more: no leader is halted, each lagger has seen each leader's position, not halted, and all else stays
  abbrev pub extended : ℕ → Config S V → Config S V
  extended k c = record c { rows = c.rows + k; posts = after_extension n.parts c.posts }

  -- the step may be made now; and the network after it
  abbrev pub MayStep : Config S V → Step → Type 0
  MayStep c (event e) = Enabled n c e
  MayStep c (extension k) = MayExtend c

  abbrev pub after_step : Config S V → Step → Config S V
  after_step c (event e) = after n c e
  after_step c (extension k) = extended k c

  -- each step of the list is enabled at its turn, and the last leads to d
  abbrev pub Leads : List Step → Config S V → Config S V → Type 0
  Leads [] c d = c ≡ d
  Leads (s ∷ steps) c d = MayStep c s × Leads steps (after_step c s) d

  -- the own state of the lagger q after its k-th raise in a list of steps from c, or at c for k = 0
  abbrev pub piece : Config S V → List Step → ℕ → ℕ → S
  piece c steps q zero = c.laggers.own q
  piece c [] q (suc k) = c.laggers.own q
  piece c (s ∷ steps) q (suc k) =
      if raises q s then piece (after_step c s) steps q k
      else piece (after_step c s) steps q (suc k)
