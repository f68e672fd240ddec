use Rattle.std.proofs.Common.{◌∙◌}
use Rattle.std.proofs.lemmas.Result.{on_ok_weaker}
use Rattle.step_program.proofs.Grows.{added_last}
use Rattle.step_program.proofs.grow.add.Goals as goal

pub returns-in-Some : goal.returns-in-Some
returns-in-Some c =
    on_ok_weaker c.add_after.result
    (λ e. e ∙ added_last c.args.runs.now.items c.pop.new.self.items c.in-Some.last c.args.step c.in-Some.ensures.items)
    c.add_after.ensures
