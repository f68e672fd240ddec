use Rattle.std.proofs.Common.{arith}
use Rattle.gang_board.specs.PostStates.{leader, leader_named}
use Rattle.thread_tests.proofs.Idle.{may_raise}
use Rattle.thread_tests.proofs.posts.raise_all.Goals as goal

pub raise-requires-clause-may : goal.raise-requires-clause-may
raise-requires-clause-may c =
    let p = c.loop.post in let is = c.loop.invariant in
    let at = is.position in let seen = is.seen in let count = c.requires.count in let small = c.loop-test.true in
    may_raise (leader_named p) p.number (leader p) is.named is.halted (omega (arith, at, seen, count, small)) (omega (arith, at, count, small))
