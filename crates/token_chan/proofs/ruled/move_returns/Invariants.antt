use Rattle.std.proofs.Common.{◌≡◌, ◌+◌, ◌-◌, ◌≤◌, length, true, vec_len, vec_capacity}
use Rattle.crossbeam_queue.specs.Passes.{view, IsPassOf}
use Rattle.token_chan.specs.ReturnRule.{AreMoved}
use Rattle.token_chan.proofs.ruled.move_returns.Given as goal

abbrev pub invariant-loop-token : goal.invariant-loop-token
invariant-loop-token g l = IsPassOf l.returns l.pass × ((view l.pass).reuses ≡ true) × ((view l.pass).hands_back ≡ true)
    × ((view l.pass).name ≡ (view l.fn.pass).name) × ((view l.pass).returned ≡ (view l.fn.pass).returned)
    × AreMoved (view l.fn.pass) (view l.pass) l.fn.used.items l.used.items
    × (vec_len l.used + length (view l.pass).returned ≤ vec_capacity l.used + length (view l.pass).reused)
    × (vec_capacity l.fn.used ≤ vec_capacity l.used)

abbrev pub decreases-loop-token : goal.decreases-loop-token
decreases-loop-token g l = length (view l.fn.pass).returned - length (view l.pass).reused
