use Rattle.std.proofs.Common.{◌≡◌, ◌+◌, ◌-◌, ◌<◌, length, arith}
use Rattle.vl_top.proofs.Finding.{finds_more}
use Rattle.vl_top.proofs.first.modules_by_name.Goals as goal

pub loop-i-preserved : goal.loop-i-preserved
loop-i-preserved c =
    let j = c.loop-i.i - 1 in
    let up : j + 1 ≡ c.loop-i.i = omega arith in
    let below : j < length c.args.modules.now = omega arith in
    finds_more c.args.modules.now j c.loop-i.i up c.index-modules-i.result below c.index-modules-i.is c.in_ok-name.name c.in_ok-name.ensures
    _ _ c.loop-i.invariant c.in_ok-set.ensures
