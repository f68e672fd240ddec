use Rattle.std.proofs.Common.{sym, subst, arith}
use Rattle.token_net.specs.Posts.{HasSeenFar}
use Rattle.board_rule.specs.Views.{Named}
use Rattle.gang_board.specs.PostStates.{lagger}
use Rattle.thread_tests.proofs.leaders_and_laggers.follow.Goals as goal

pub lag_raise-requires-clause-far : goal.lag_raise-requires-clause-far
lag_raise-requires-clause-far g c =
    let p = c.wait_for.new.post in let is = c.wait_for.ensures in let at = is.at in let was = c.loop-at.invariant.1 in
    subst (λ (n : Named). HasSeenFar n.parts n.lag (lagger p)) (sym is.post.named)
    (λ q l. let far = is.far q l in omega (arith, far, at, was))
