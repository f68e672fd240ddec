use Rattle.std.proofs.Common.{◌∙◌, sym, ap, Bool}
use Rattle.bit_ops.specs.Operators.{integer}
use Rattle.bit_ops.specs.Reading.{is_negative}
use Rattle.bit_ops.proofs.Signs.{sign_test}
use Rattle.bit_ops.proofs.numbers.is_negative.Goals as goal

pub returns-then-signed : goal.returns-then-signed
returns-then-signed c =
    sign_test c.args.width c.args.value c.requires.width.0 c.requires.fits
    ∙ ap (λ (s : Bool). is_negative (integer s c.args.width c.args.value)) (sym c.if-signed.true)
