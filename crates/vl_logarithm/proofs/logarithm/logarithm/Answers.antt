use Rattle.std.proofs.Common.{arith, subst}
use Rattle.vl_nodes.specs.Calls.{IsNumber}
use Rattle.vl_logarithm.proofs.Steps.{reached_first, reached_more, reached_whole}
use Rattle.vl_logarithm.proofs.logarithm.logarithm.Goals as goal

pub loop-k-init : goal.loop-k-init
loop-k-init c =
    reached_first c.args.nodes.now c.number.new.self c.args.of c.in_ok-least.least c.number.result c.in_ok-least.was
    c.in_ok-least.ensures.width
    (subst (λ n. IsNumber c.args.nodes.now c.number.new.self 32 n c.number.result) c.from.ensures c.number.ensures.made)

pub step-requires-clause-within : goal.step-requires-clause-within
step-requires-clause-within c = omega (arith, c.loop-k-test.true, c.loop-k.invariant.most)

pub step-requires-clause-above : goal.step-requires-clause-above
step-requires-clause-above c = c.loop-k.invariant.width

pub loop-k-preserved : goal.loop-k-preserved
loop-k-preserved c =
    reached_more c.args.nodes.now c.loop-k.nodes c.step.new.nodes c.args.of c.loop-k.least c.in_ok-least-2.least c.loop-k.k _
    c.step.result c.in_ok-least-2.was (omega (arith, c.loop-k-test.true)) c.in_ok-least-2.ensures.width c.loop-k.invariant
    c.step.ensures.made

pub returns-clause-width : goal.returns-clause-width
returns-clause-width c = c.loop-k.invariant.width

pub returns-clause-made : goal.returns-clause-made
returns-clause-made c =
    reached_whole c.args.nodes.now c.loop-k.nodes c.args.of c.loop-k.least c.loop-k.k c.requires.0
    (omega (arith, c.loop-k-test.false)) c.loop-k.invariant
