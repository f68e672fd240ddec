use Rattle.std.proofs.Common.{◌+◌, length}
use Rattle.vl_tree.specs.SyntaxView as view
use Rattle.vl_tree.specs.Depth.{one_if, function_type_depths}
use Rattle.vl_tokens.proofs.Counting.{sums}
use Rattle.vl_tokens.proofs.function.front.Goals as goal

pub returns : goal.returns
returns c =
    let f = view.function c.args.f.now in
    let r = length (function_type_depths 0 f.result) in let s = length (one_if 0 f.signed) in
    sums (length (one_if 0 f.automatic)) (s + r) c.plus.ensures c.one_where-2.ensures (sums s r c.plus-rest.ensures c.one_where.ensures c.result.ensures)
