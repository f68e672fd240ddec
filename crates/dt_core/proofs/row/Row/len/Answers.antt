use Rattle.std.proofs.Common.{length, ap, arith}
use Rattle.dt_core.specs.Packing.{number}
use Rattle.dt_core.proofs.PackingLaws.{length-unpacked}
use Rattle.dt_core.proofs.row.Row.len.Goals as goal

pub returns : goal.returns
returns c =
    let r = c.self.inside in
    omega (arith, ap length c.self.view_is, length-unpacked r.widths.items (number r.bytes.items))
