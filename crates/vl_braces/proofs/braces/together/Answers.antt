use Rattle.std.proofs.Common.{arith, ◌+◌, drop}
use Rattle.std.proofs.lemmas.List.{drop_more, drop_all}
use Rattle.vl_braces.proofs.Together.{front_first, front_more, front_whole}
use Rattle.vl_braces.proofs.braces.together.Goals as goal

pub loop-part-init : goal.loop-part-init
loop-part-init c = front_first c.args.nodes.now c.args.first c.args.rest.now

pub loop-part-preserved : goal.loop-part-preserved
loop-part-preserved c =
    let n = c.loop-part.part-index in let rest = c.args.rest.now in
    front_more c.args.nodes.now c.loop-part.nodes c.concat.new.self c.args.first c.loop-part.all c.in_ok-all.all _ rest (drop n rest)
    (drop (n + 1) rest) c.concat.result (drop_more rest n _ c.loop-part-test.true) c.in_ok-all.was c.in_ok-all.ensures.width
    c.concat.ensures.made c.loop-part.invariant

pub returns-clause-made : goal.returns-clause-made
returns-clause-made c =
    let n = c.loop-part.part-index in let rest = c.args.rest.now in
    front_whole c.args.nodes.now c.loop-part.nodes c.args.first c.loop-part.all rest (drop n rest)
    (drop_all n rest (omega (arith, c.loop-part-test.false))) c.loop-part.invariant
