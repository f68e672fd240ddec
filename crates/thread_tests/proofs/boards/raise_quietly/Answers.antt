use Rattle.std.proofs.Common.{arith}
use Rattle.named_run.proofs.RunLaws.{none_owned}
use Rattle.gang_board.specs.PostStates.{leader}
use Rattle.gang_board.proofs.PostSeats.{leader_bound}
use Rattle.thread_tests.proofs.boards.raise_quietly.Goals as goal

pub raise-requires-clause-may : goal.raise-requires-clause-may
raise-requires-clause-may c =
    let p = c.args.post.now in
    let seen = c.requires.runs.1 in
    let small = leader_bound p.seat.table_id.words p.number (leader p) p.seat.me p.is in
    record {
      runs = record { going = c.requires.runs.0; clear = omega (arith, seen, small) };
      below = c.requires.below;
      quiet = none_owned _ _ _ c.requires.owns;
    }
