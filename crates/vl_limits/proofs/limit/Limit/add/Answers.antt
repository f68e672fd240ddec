use Rattle.std.proofs.Common.{arith}
use Rattle.vl_tree.specs.SyntaxView as view
use Rattle.vl_limits.proofs.Counted.{added_within}
use Rattle.vl_limits.proofs.limit.Limit.add.Goals as goal

pub returns-in-Some : goal.returns-in-Some
returns-in-Some c = λ cs.
    added_within c.args.self.now.passed c.in-Some.left c.args.self.now.left c.args.count (view.place c.args.place) cs (omega (arith, c.in-Some.ensures))
