use Rattle.std.proofs.Common.{drop}
use Rattle.vl_braces.proofs.Together.{Front}
use Rattle.vl_braces.proofs.braces.together.Given as goal

abbrev pub invariant-loop-part : goal.invariant-loop-part
invariant-loop-part l = Front l.fn.nodes l.nodes l.fn.first l.all l.rest (drop l.part-index l.rest)
