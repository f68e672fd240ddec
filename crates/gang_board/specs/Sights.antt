-- What the program keeps of what was seen. This project's own.
use Rattle.std.specs.Prelude.{ℕ, ◌==◌, Option, Some, None, if◌then◌else◌}
use Rattle.token_net.specs.Posts.{Sight, none_yet}
use Rattle.gang_board.specs.declared.seen.Seen.{Seen}

-- what is kept of a leader
abbrev pub sight_of : Seen → Sight
sight_of s = record { at = s.position; halted = s.halted }

-- the cycle that a fire word tells, or none yet
abbrev pub cycle_of : ℕ → Option ℕ
cycle_of w = if w == none_yet then None else Some w
