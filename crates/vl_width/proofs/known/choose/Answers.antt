use Rattle.vl_width.specs.Terms.{meant}
use Rattle.vl_width.proofs.Walks.{popped}
use Rattle.vl_width.proofs.known.choose.Goals as goal

pub loop-nearest-preserved-in-Some : goal.loop-nearest-preserved-in-Some
loop-nearest-preserved-in-Some c =
    popped c.loop-nearest.left c.pop.new.self c.in-Some.nearest (meant c.loop-nearest.other) (meant c.choice-other.result) _ c.in-Some.ensures c.choice-other.ensures c.loop-nearest.invariant

pub loop-nearest-preserved-in-Some-2 : goal.loop-nearest-preserved-in-Some-2
loop-nearest-preserved-in-Some-2 c =
    popped c.loop-nearest.left c.pop.new.self c.in-Some.nearest (meant c.loop-nearest.other) (meant c.choice-other.result) _ c.in-Some.ensures c.choice-other.ensures c.loop-nearest.invariant

pub loop-nearest-preserved : goal.loop-nearest-preserved
loop-nearest-preserved c =
    popped c.loop-nearest.left c.pop.new.self c.in-Some.nearest (meant c.loop-nearest.other) (meant c.choice-other.result) _ c.in-Some.ensures c.choice-other.ensures c.loop-nearest.invariant
