use Rattle.std.proofs.Common.{subst}
use Rattle.bit_ops.specs.Operators as ops
use Rattle.vl_nodes.specs.Calls as calls
use Rattle.vl_vectors.proofs.vectors.at_size.Goals as goal

pub returns-then-of-size-clause-made : goal.returns-then-of-size-clause-made
returns-then-of-size-clause-made c =
    subst (λ b. calls.IsOfOne c.args.nodes.now c.extend.new.self c.args.of c.args.size.width (ops.extend b c.args.of.width c.args.size.width) c.extend.result)
    c.both_signed-by_sign.ensures c.extend.ensures.made

pub returns-else-of-size-clause-made : goal.returns-else-of-size-clause-made
returns-else-of-size-clause-made c =
    subst (λ b. calls.IsOfOne c.args.nodes.now c.cut_at.new.nodes c.args.of c.args.size.width (ops.extend b c.args.of.width c.args.size.width) c.cut_at.result)
    c.both_signed-by_sign.ensures c.cut_at.ensures.made
