use Rattle.std.proofs.Common.{arith}
use Rattle.packed_rows.proofs.PackLaws.{low_below, low_of_word}
use Rattle.packed_rows.proofs.held.low_part.Goals as goal

pub overflow_add-result : goal.overflow_add-result
overflow_add-result c =
    let h = c.args.held in
    omega (arith, low_below h.bits c.args.word h.count c.requires.0 c.requires.1)

pub returns : goal.returns
returns c =
    let h = c.args.held in
    low_of_word h.bits c.args.word h.count c.requires.0 c.requires.1
