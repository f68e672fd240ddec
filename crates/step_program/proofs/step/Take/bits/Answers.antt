use Rattle.std.proofs.Common.{◌∙◌, ap, bit_and, get_or, ◌/◌, ◌^◌}
use Rattle.std.proofs.lemmas.Nat.{and_mask}
use Rattle.step_program.proofs.step.Take.bits.Goals as goal

pub returns-clause-value : goal.returns-clause-value
returns-clause-value c =
    λ xs. ap (bit_and (get_or xs c.args.of 0 / 2 ^ c.args.from)) c.ones.ensures
    ∙ and_mask (get_or xs c.args.of 0 / 2 ^ c.args.from) c.args.width
