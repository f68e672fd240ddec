use Rattle.std.proofs.Common.{◌<◌, length, arith}
use Rattle.vl_sized.proofs.Widths.{one_input}
use Rattle.vl_sized.proofs.combine.input_shapes.Goals as goal

pub loop-k-preserved : goal.loop-k-preserved
loop-k-preserved g c =
    let shs = (g.N.Names.numbering c.args.names.now).inputs c.args.function in
    let h : c.loop-k.k < length shs = omega (arith, c.loop-k-test.true, c.requires) in
    one_input shs c.loop-k.shapes _ c.loop-k.k c.input.result c.loop-k.invariant h c.input.ensures c.in_ok-push.ensures.ok
