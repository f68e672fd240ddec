use Rattle.std.proofs.Common.{arith, length, ap}
use Rattle.vl_pre.proofs.CleanLaws.{length-joined}
use Rattle.vl_pre.proofs.clean.Clean.len.Goals as goal

pub returns-clause-length : goal.returns-clause-length
returns-clause-length c =
    let joined = length-joined c.self.inside.bytes.items c.self.inside.lines.items c.self.invariant.paired in
    let view = ap length c.self.view_is in omega (arith, joined, view)
