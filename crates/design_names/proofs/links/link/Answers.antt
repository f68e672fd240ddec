use Rattle.design_names.proofs.LinkLaws.{linked_step}
use Rattle.design_names.proofs.links.link.Goals as goal

pub loop-left-preserved : goal.loop-left-preserved
loop-left-preserved c = linked_step c.args.owners.now c.args.count c.loop-left.left _ _ _ _ c.loop-left-test.true
    c.loop-left.invariant.within c.requires.owners c.put.ensures.first c.put.ensures.next c.loop-left.invariant.linked
