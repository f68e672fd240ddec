use Rattle.std.proofs.Common.{◌∙◌, ap, bit_and, get_or, ◌+◌, ◌%◌, ◌^◌}
use Rattle.step_program.proofs.Masks.{summed}
use Rattle.step_program.proofs.step.Sum.modulo.Goals as goal

pub returns-clause-value : goal.returns-clause-value
returns-clause-value c =
    λ xs. ap (bit_and ((get_or xs c.args.left 0 + get_or xs c.args.right 0) % 2 ^ 64)) c.ones.ensures
    ∙ summed (get_or xs c.args.left 0) (get_or xs c.args.right 0) c.args.width c.requires.1
