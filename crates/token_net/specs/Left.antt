-- A number that each event lowers, and so a bound on how many events there may be. This project's own.
use Rattle.std.specs.Prelude.{ℕ, ◌+◌, ◌-◌, ◌*◌, ◌==◌, ◌&&◌, Bool, not, if◌then◌else◌}
use Rattle.std.specs.Bool.{beq}
use Rattle.token_net.specs.Families.{total, one_if}
use Rattle.token_net.specs.Shape.{Shape}
use Rattle.token_net.specs.SideState.{Phase, idle, taking, quiet, firing, SideState}
use Rattle.token_net.specs.Posts.{Sight, present, sight}
use Rattle.token_net.specs.Network.{Config}

-- ---- numbers that fall

-- how many evaluations it has made in its present cycle
abbrev pub evaluations : Phase → ℕ
evaluations idle = 0
evaluations taking = 0
evaluations quiet = 1
evaluations firing = 1

-- a position or a halt differs
abbrev pub differs : Sight → Sight → Bool
differs a b = not ((a.at == b.at) && beq a.halted b.halted)

module _ {S V : Type 0} (n : Shape S V) where
  -- how many takes, evaluations and gives a partition has made in its present cycle
  abbrev pub made : SideState S V → ℕ → ℕ
  made h p =
      total n.channels (λ ch. one_if ((n.to ch == p) && h.taken ch))
      + total n.channels (λ ch. one_if ((n.from ch == p) && h.given ch))
      + evaluations (h.phase p)

  -- for each of the cycles that a partition at t has left, twice the number of partitions; less what it has made in
  -- its present cycle
  abbrev pub cycles_left : ℕ → SideState S V → ℕ → ℕ → ℕ
  cycles_left rows h p t = 2 * n.parts * (rows - t) - made h p

  -- how many leaders haven't reported
  abbrev pub unreported : Config S V → ℕ
  unreported c = total n.parts (λ p. one_if (not (c.posts.leader p).reported))

  -- for a leader that isn't halted: 1 for its halt, 1 where it hasn't reported, its cycles, the number of all leaders
  -- that haven't reported, and 1 where it hasn't seen the fire word as it is
  abbrev pub going_left : Config S V → ℕ → ℕ
  going_left c p =
      1 + one_if (not (c.posts.leader p).reported) + cycles_left c.rows c.leaders p (c.posts.leader p).at
      + unreported c + one_if (not ((c.posts.leader p).seen == c.posts.fire))

  -- for a leader: none where it is halted
  abbrev pub leader_left : Config S V → ℕ → ℕ
  leader_left c p = if (c.posts.leader p).halted then 0 else going_left c p

  -- for a lagger: its cycles
  abbrev pub lagger_left : Config S V → ℕ → ℕ
  lagger_left c q = cycles_left c.rows c.laggers q (c.posts.lagger q).at

  -- of a lagger and a leader: the rows that the leader has left, 1 where the leader isn't halted, and 1 where the
  -- lagger hasn't seen it as it is
  abbrev pub sight_left : Config S V → ℕ → ℕ → ℕ
  sight_left c q p =
      (c.rows - (c.posts.leader p).at) + one_if (not (c.posts.leader p).halted)
      + one_if (differs (sight (c.posts.lagger q) p) (present (c.posts.leader p)))

  -- a number that each event lowers
  abbrev pub left : Config S V → ℕ
  left c = total n.parts (leader_left c) + total n.parts (lagger_left c)
      + total n.parts (λ q. total n.parts (sight_left c q))
