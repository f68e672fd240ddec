use Rattle.std.proofs.Common.{◌∙◌, arith}
use Rattle.named_run.specs.Named.{fires}
use Rattle.thread_tests.proofs.Brief.{first_fires}
use Rattle.thread_tests.proofs.boards.report_first.Goals as goal

pub report_fire-requires-clause-may : goal.report_fire-requires-clause-may
report_fire-requires-clause-may c =
    let at = c.requires.leader.2 in
    record {
      runs = record { going = c.requires.going.0; clear = omega (arith, at) };
      new = c.requires.going.1;
      fired = (λ i. fires (c.requires.leader.0 i) (c.requires.leader.1 i) (at i)) ∙ first_fires;
    }
