use Rattle.vl_design.specs.Scopes.{failing}
use Rattle.vl_build.proofs.Hearing.{still, failed}
use Rattle.vl_build.proofs.progress.Progress.fail.Goals as goal

pub returns-then-self : goal.returns-then-self
returns-then-self c = λ fs e. still c.args.self.now (failing fs) c.if-self.true

pub returns : goal.returns
returns c = failed c.args.self.now c.args.fault c.lesser-self.result c.if-self.false c.lesser-self.ensures
