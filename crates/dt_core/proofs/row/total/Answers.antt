use Rattle.std.proofs.Common.{◌≡◌, ap, ◌∙◌, arith}
use Rattle.std.specs.List.{sum}
use Rattle.std.proofs.lemmas.List.{take_all}
use Rattle.dt_core.proofs.row.total.Goals as goal

pub returns : goal.returns
returns c =
    let all : c.loop-width.total ≡ sum c.args.widths.now =
    c.loop-width.invariant.sum_so_far ∙ ap sum (take_all c.loop-width.width-index c.args.widths.now (omega arith)) in
    (omega arith, all)
