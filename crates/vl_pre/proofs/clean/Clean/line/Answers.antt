use Rattle.std.proofs.Common.{arith, rules, length, ap}
use Rattle.vl_pre.proofs.CleanLaws.{length-joined, line_at}
use Rattle.vl_pre.proofs.clean.Clean.line.Goals as goal

pub index-requires : goal.index-requires
index-requires c =
    let joined = length-joined c.self.inside.bytes.items c.self.inside.lines.items c.self.invariant.paired in
    let view = ap length c.self.view_is in omega (arith, joined, view)

pub returns : goal.returns
returns c =
    let joined = length-joined c.self.inside.bytes.items c.self.inside.lines.items c.self.invariant.paired in
    let view = ap length c.self.view_is in
    line_at c.self.inside.bytes.items c.self.inside.lines.items c.args.self.now c.args.k c.index.result.now c.index.result.now c.self.invariant.paired c.self.view_is (omega (arith, joined, view)) (search rules)
