use Rattle.vl_tree.specs.SyntaxView as view
use Rattle.vl_build.proofs.Hearing.{too_many}
use Rattle.vl_build.proofs.progress.Progress.begin_instance.Goals as goal

pub returns-else-self-lt-MAX_INSTANCES : goal.returns-else-self-lt-MAX_INSTANCES
returns-else-self-lt-MAX_INSTANCES c =
    too_many c.args.self.now c.end.new.self (view.place c.args.place) c.if-self.false c.if-self-lt-MAX_INSTANCES.false c.end.ensures
