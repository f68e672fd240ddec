use Rattle.vl_build.proofs.Hearing.{too_much}
use Rattle.vl_build.proofs.progress.Progress.expand.Goals as goal

pub returns-then-sum-gt-MAX_EXPANDED : goal.returns-then-sum-gt-MAX_EXPANDED
returns-then-sum-gt-MAX_EXPANDED c =
    too_much c.args.self.now c.end.new.self c.args.tokens c.saturating_add-sum.result c.if-self.false c.saturating_add-sum.ensures
    c.if-sum-gt-MAX_EXPANDED.true c.end.ensures
