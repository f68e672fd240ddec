use Rattle.std.proofs.Common.{ap, ◌∙◌, arith, inl, inr}
use Rattle.named_run.specs.Named.{fires}
use Rattle.token_net.specs.Posts.{Leader}
use Rattle.gang_board.specs.PostStates.{leader}
use Rattle.thread_tests.proofs.Failing.{clear, fire}
use Rattle.thread_tests.proofs.leaders_and_laggers.lead.Goals as goal

pub report_fire-requires-clause-may : goal.report_fire-requires-clause-may
report_fire-requires-clause-may c =
    let p = c.go_on.new.post in let is = c.go_on.ensures in let at = is.position in
    let number = is.number_is ∙ c.requires.1.number in
    record {
      runs = record {
        going = is.halted;
        clear = clear p.seat.table_id.words p.number (leader p) p.seat.me p.is is.named (omega (arith, at));
      };
      new = is.reported;
      fired = (λ i. fires (is.named i).run (number i) (is.position i)) ∙ fire c.args.number c.requires.0;
    }

pub halt-requires-clause-may : goal.halt-requires-clause-may
halt-requires-clause-may c =
    let saw = c.see_fire.ensures.post.post in let reported = c.report_fire.ensures.post.post in
    record {
      going = ap (λ (x : Leader). x.halted) saw ∙ ap (λ (x : Leader). x.halted) reported ∙ c.go_on.ensures.halted;
      why = inr (inl (ap (λ (x : Leader). x.reported) saw ∙ ap (λ (x : Leader). x.reported) reported));
    }
