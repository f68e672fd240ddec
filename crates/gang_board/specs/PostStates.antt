-- The states of posts, for contracts. This project's own.
use Rattle.std.specs.Prelude.{◌≡◌, ℕ, ◌+◌, ◌<◌, ◌≤◌, true, false, List, map, length}
use Rattle.named_run.specs.Named.{end_of, fires}
use Rattle.token_net.specs.Posts.{Sight, Leader, Lagger, LeaderRuns, present, with_sight, most_rows}
use Rattle.token_net.specs.Network.{Event, see, see_fire}
use Rattle.board_rule.specs.Views.{Named}
use Rattle.board_rule.specs.Plays.{one_more, looked_at}
use Rattle.gang_board.specs.Seats.{leader_looks_of, lagger_looks_of, StoodLeader, StoodLagger}
use Rattle.gang_board.specs.Seats.{LeaderMoved, LaggerMoved}
use Rattle.gang_board.specs.Sights.{sight_of}
use Rattle.gang_board.specs.declared.posts.LeaderPost.{LeaderPost}
use Rattle.gang_board.specs.declared.posts.LagPost.{LagPost}
use Rattle.gang_board.specs.declared.board.Board.{Board}

-- ---- a leader's post

-- its position, halt and report, and what it has seen of the fire word
abbrev pub leader : LeaderPost → Leader
leader p = record { at = p.position; halted = p.halted; reported = p.reported; seen = p.seen }

-- the run that it names, with the number of leaders and the lag
abbrev pub leader_named : LeaderPost → Named
leader_named p = p.seat.me.0.named

-- how often it has looked at the fire word
abbrev pub leader_looks : LeaderPost → ℕ
leader_looks p = leader_looks_of p.seat.me.0.leaders

-- it is a post of this board
abbrev pub IsLeaderOf : Board → LeaderPost → Type 0
IsLeaderOf b p = p.seat.table_id ≡ b.table.shared.table_id

-- after a call the post's state is this, with so many looks; its board, number, run and lag are as they were
pub record LeaderBecomes (old new : LeaderPost) (x : Leader) (count : ℕ) : Type 0 where
  pub board : new.seat.table_id ≡ old.seat.table_id
  pub number : new.number ≡ old.number
  pub named : leader_named new ≡ leader_named old
  pub post : leader new ≡ x
  pub looks : leader_looks new ≡ count

-- the leader is one cycle further; it is halted; it has reported; it has seen the fire word, in one look more
abbrev pub LeaderRaised : LeaderPost → LeaderPost → Type 0
LeaderRaised old new = LeaderBecomes old new (record (leader old) { at = old.position + 1 }) (leader_looks old)

abbrev pub LeaderHalted : LeaderPost → LeaderPost → Type 0
LeaderHalted old new = LeaderBecomes old new (record (leader old) { halted = true }) (leader_looks old)

abbrev pub LeaderReported : LeaderPost → LeaderPost → Type 0
LeaderReported old new = LeaderBecomes old new (record (leader old) { reported = true }) (leader_looks old)

abbrev pub LeaderLooks : LeaderPost → LeaderPost → Type 0
LeaderLooks old new = LeaderBecomes old new (record (leader old) { seen = new.seen }) (one_more (leader_looks old))

-- the leader may report: it runs, hasn't reported, and an assertion of its own fires at its position
pub record MayReportFire (p : LeaderPost) : Type 0 where
  pub runs : LeaderRuns (leader p)
  pub new : p.reported ≡ false
  pub fired : fires (leader_named p).run p.number p.position ≡ true

-- the call was this event of the network, by the leader, on the posts of the whole board
abbrev pub LeaderEvent : (ℕ → Event) → LeaderPost → LeaderPost → Type 0
LeaderEvent e old new = LeaderMoved (leader_named old) (e old.number) old.number (leader old) (leader new)

-- the call was the leader's look at the fire word, and what it saw was that word
abbrev pub SawFire : LeaderPost → LeaderPost → Type 0
SawFire old new = (h : LeaderEvent see_fire old new) × (new.seen ≡ h.before.fire)

-- what holds of every leader's post: its number names a leader, the run has no more rows than a fire word can tell, and
-- at one moment all held of posts and it was among them
pub record LeaderStands (p : LeaderPost) : Type 0 where
  pub there : p.number < (leader_named p).parts
  pub bound : end_of (leader_named p).run ≤ most_rows
  pub stood : ∥ StoodLeader (leader_named p) p.number (leader p) ∥₁

-- ---- a lagger's post

-- its position, and what it has seen of each leader
abbrev pub lagger : LagPost → Lagger
lagger p = record { at = p.position; sights = map sight_of p.sights.items }

-- the run that it names, with the number of leaders and the lag
abbrev pub lagger_named : LagPost → Named
lagger_named p = p.seat.me.0.named

-- how often it has looked at each leader's word
abbrev pub lagger_looks : LagPost → List ℕ
lagger_looks p = lagger_looks_of p.seat.me.0.laggers

-- it is a post of this board
abbrev pub IsLaggerOf : Board → LagPost → Type 0
IsLaggerOf b p = p.seat.table_id ≡ b.table.shared.table_id

-- after a call the post's state is this, with so many looks; its board, number, run and lag are as they were
pub record LaggerBecomes (old new : LagPost) (y : Lagger) (counts : List ℕ) : Type 0 where
  pub board : new.seat.table_id ≡ old.seat.table_id
  pub number : new.number ≡ old.number
  pub named : lagger_named new ≡ lagger_named old
  pub post : lagger new ≡ y
  pub looks : lagger_looks new ≡ counts

-- the lagger is one cycle further; it has seen this of the leader k, in one look more
abbrev pub LaggerRaised : LagPost → LagPost → Type 0
LaggerRaised old new = LaggerBecomes old new (record (lagger old) { at = old.position + 1 }) (lagger_looks old)

abbrev pub LaggerLooks : LagPost → LagPost → ℕ → Sight → Type 0
LaggerLooks old new k s = LaggerBecomes old new (with_sight k s (lagger old)) (looked_at k (lagger_looks old))

-- the call was this event of the network, by the lagger, on the posts of the whole board
abbrev pub LaggerEvent : (ℕ → Event) → LagPost → LagPost → Type 0
LaggerEvent e old new = LaggerMoved (lagger_named old) (e old.number) old.number (lagger old) (lagger new)

-- the call was the lagger's look at the leader k, and this was what there was to see of it
abbrev pub SawLeader : LagPost → LagPost → ℕ → Sight → Type 0
SawLeader old new k s = (h : LaggerEvent (λ q. see q k) old new) × (s ≡ present (h.before.leader k))

-- what holds of every lagger's post: the same, and it has a sight of each leader and a count of its looks there
pub record LaggerStands (p : LagPost) : Type 0 where
  pub there : p.number < (lagger_named p).parts
  pub bound : end_of (lagger_named p).run ≤ most_rows
  pub sized : length (lagger p).sights ≡ (lagger_named p).parts
  pub looked : length (lagger_looks p) ≡ (lagger_named p).parts
  pub stood : ∥ StoodLagger (lagger_named p) p.number (lagger p) ∥₁
