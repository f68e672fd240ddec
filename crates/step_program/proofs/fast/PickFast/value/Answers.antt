use Rattle.std.proofs.Common.{◌∙◌, ap, bit_and, bit_xor, get_or, ◌+◌, ◌-◌, ◌%◌, ◌^◌}
use Rattle.std.proofs.Math.Facts.{Fits-lt-pow}
use Rattle.bit_ops.specs.Operators.{holds}
use Rattle.step_program.proofs.Masks.{picked}
use Rattle.step_program.proofs.fast.PickFast.value.Goals as goal

pub returns : goal.returns
returns c =
    let s = c.args.self.now in let xs = c.args.slots.now in
    ap (λ k. bit_xor (get_or xs s.no 0) (bit_and (bit_xor (get_or xs s.yes 0) (get_or xs s.no 0)) ((0 + (2 ^ 64 - k)) % 2 ^ 64)))
    c.from.ensures
    ∙ picked (holds (get_or xs s.condition 0)) (get_or xs s.yes 0) (get_or xs s.no 0) (Fits-lt-pow (c.type_inv.slots s.yes)) (Fits-lt-pow (c.type_inv.slots s.no))
