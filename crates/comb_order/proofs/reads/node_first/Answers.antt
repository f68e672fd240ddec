use Rattle.comb_order.proofs.Nodes.{node_first_of}
use Rattle.comb_order.proofs.reads.node_first.Goals as goal

pub returns : goal.returns
returns c =
    node_first_of c.args.flat.now c.nodes.ensures.fits c.reads_law.ensures.reads c.reads_law.ensures.lower
    c.args.ranks.now c.args.firsts.now c.args.number c.nodes.result.now c.driven.result.now _
    c.touched_first-own.result c.operands_first.result c.first_of.result c.requires.within c.requires.count
    c.requires.below c.nodes.ensures.nodes c.driven.ensures.driven c.touched_first-own.ensures
    c.operands_first.ensures c.first_of.ensures
