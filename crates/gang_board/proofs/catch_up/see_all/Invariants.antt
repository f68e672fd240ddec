use Rattle.std.proofs.Common.{◌≡◌, ◌<◌, ℕ, length}
use Rattle.std.specs.Prelude.{slice_index_or}
use Rattle.gang_board.specs.CatchUp.{seen_of}
use Rattle.gang_board.specs.declared.seen.Seen.{Seen}
use Rattle.gang_board.specs.declared.posts.LeaderPost.{LeaderPost}
use Rattle.gang_board.proofs.catch_up.see_all.Given as goal

abbrev pub invariant-loop-number : goal.invariant-loop-number
invariant-loop-number l = (length l.sights.items ≡ length l.leaders)
    × ((j : ℕ) (d : Seen) (e : LeaderPost) → j < l.number → slice_index_or l.sights.items j d ≡ seen_of (slice_index_or l.leaders j e))
