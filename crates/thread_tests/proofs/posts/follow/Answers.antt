use Rattle.std.proofs.Common.{ℕ, ◌≡◌, ◌≤◌, ◌+◌, sym, subst, arith}
use Rattle.token_net.specs.Posts.{HasSeenFar, sight}
use Rattle.board_rule.specs.Views.{Named}
use Rattle.gang_board.specs.PostStates.{lagger}
use Rattle.thread_tests.proofs.posts.follow.Goals as goal

pub lag_raise-requires-clause-far : goal.lag_raise-requires-clause-far
lag_raise-requires-clause-far c =
    let p = c.is_ahead.new.post in let is = c.is_ahead.ensures in let ahead = is.ahead c.if-is_ahead.true in
    subst (λ (n : Named). HasSeenFar n.parts n.lag (lagger p)) (sym is.post.named)
    (λ q l. let first : q ≡ 0 = omega (arith, l) in
    subst (λ (k : ℕ). p.position + 1 + 0 ≤ (sight (lagger p) k).at) (sym first) (omega (arith, ahead)))
