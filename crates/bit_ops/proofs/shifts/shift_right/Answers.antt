use Rattle.std.proofs.Common.{◌∙◌, ap, Bool, ◌/◌, ◌^◌, min}
use Rattle.bit_ops.specs.Operators.{integer}
use Rattle.bit_ops.specs.Reading.{is_negative, turned}
use Rattle.bit_ops.proofs.Shifted.{right_is}
use Rattle.bit_ops.proofs.shifts.shift_right.Goals as goal

pub returns-clause-value : goal.returns-clause-value
returns-clause-value c =
    let w = c.args.width in let n = c.args.value in let d = c.args.distance in
    let b : Bool = is_negative (integer c.args.signed w n) in
    c.turned-2.ensures.value ∙ ap (turned c.is_negative-negative.result w) (c.right.ensures ∙ ap (λ k. k / 2 ^ min d 128) c.turned.ensures.value)
    ∙ ap (λ (t : Bool). turned t w (turned t w n / 2 ^ min d 128)) c.is_negative-negative.ensures
    ∙ right_is 128 w n d c.args.signed c.requires.width.1 c.requires.fits
