use Rattle.std.proofs.Common.{◌≡◌, ◌<◌, ◌∙◌, List, length, arith}
use Rattle.gang_board.specs.CatchUp.{AreAllPosts, AreLeaders, AreLaggers}
use Rattle.gang_board.specs.declared.board.Board.{Board}
use Rattle.gang_board.specs.declared.posts.LeaderPost.{LeaderPost}
use Rattle.gang_board.specs.declared.posts.LagPost.{LagPost}
use Rattle.thread_tests.specs.Runs.{failing_named}
use Rattle.thread_tests.proofs.leaders_and_laggers.run_to_end.Goals as goal

are_all : (b : Board) (leaders : List LeaderPost) (laggers : List LagPost) → (length leaders ≡ 16) × AreLeaders b failing_named leaders
    → (length laggers ≡ 16) × AreLaggers b failing_named laggers → AreAllPosts b failing_named leaders laggers
are_all b leaders laggers first second = record {
  some = omega arith;
  few = omega arith;
  leader_count = first.0;
  lagger_count = second.0;
  leaders = first.1;
  laggers = second.1;
}

pub catch_up-requires : goal.catch_up-requires
catch_up-requires g c = let is = c.run_all.ensures in (failing_named, are_all _ _ _ is.leaders is.laggers)

pub returns : goal.returns
returns g c = λ k d l.
    let is = c.run_all.ensures in let up = (c.catch_up.ensures failing_named (are_all _ _ _ is.leaders is.laggers)).2 in
    let count = up.lagger_count in let here : k < length c.run_all.new.laggers = omega (arith, l, count) in
    (up.laggers k d here).0.named ∙ (is.laggers.1 k d here).named
