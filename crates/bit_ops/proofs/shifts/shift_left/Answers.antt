use Rattle.std.proofs.Common.{◌∙◌, ap, ◌%◌, ◌^◌}
use Rattle.bit_ops.proofs.Shifted.{left_is}
use Rattle.bit_ops.proofs.shifts.shift_left.Goals as goal

pub returns-clause-value : goal.returns-clause-value
returns-clause-value c =
    c.cut.ensures.value ∙ ap (λ k. k % 2 ^ c.args.width) c.left.ensures ∙ left_is 128 c.args.width c.args.value c.args.distance c.requires.1
