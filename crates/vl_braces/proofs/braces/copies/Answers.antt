use Rattle.std.proofs.Common.{arith, ◌∙◌, ap, ◌*◌}
use Rattle.vl_braces.proofs.Copied.{copied_once, fits_more, copied_more, copied_all}
use Rattle.vl_braces.proofs.braces.copies.Goals as goal

pub loop-done-init : goal.loop-done-init
loop-done-init c = copied_once c.args.nodes.now c.args.of c.args.count c.requires.some

pub concat-requires : goal.concat-requires
concat-requires c =
    let more = fits_more c.loop-done.done c.args.count c.args.of.width c.loop-done-test.true c.requires.fit in
    omega (arith, more, c.loop-done.invariant.width)

pub loop-done-preserved : goal.loop-done-preserved
loop-done-preserved c =
    copied_more c.args.nodes.now c.loop-done.nodes c.concat.new.self c.args.of c.loop-done.all c.args.count c.loop-done.done c.concat.result
    c.in_ok-all.all c.in_ok-all.was c.loop-done-test.true c.loop-done.invariant c.in_ok-all.ensures.width c.concat.ensures.made

pub returns-clause-width : goal.returns-clause-width
returns-clause-width c = c.loop-done.invariant.width ∙ ap (λ k. k * c.args.of.width) (omega (arith, c.loop-done-test.false, c.loop-done.invariant.most))

pub returns-clause-made : goal.returns-clause-made
returns-clause-made c =
    copied_all c.args.nodes.now c.loop-done.nodes c.args.of c.loop-done.all c.args.count c.loop-done.done
    (omega (arith, c.loop-done-test.false, c.loop-done.invariant.most)) c.loop-done.invariant
