use Rattle.std.proofs.Common.{◌≡◌, take, map}
use Rattle.vl_width.specs.Objects.{plain_shape}
use Rattle.vl_sized.proofs.combine.input_shapes.Given as goal

abbrev pub invariant-loop-k : goal.invariant-loop-k
invariant-loop-k g l = map plain_shape l.shapes ≡ take l.k ((g.N.Names.numbering l.names).inputs l.function)
