use Rattle.std.proofs.Common.{◌∙◌, ap, ◌%◌, ◌^◌}
use Rattle.bit_ops.specs.Operators as ops
use Rattle.vl_width.proofs.Numbers.{extended_low}
use Rattle.vl_width.proofs.term.sized.Goals as goal

pub returns-clause-value : goal.returns-clause-value
returns-clause-value c =
    let b = c.args.number.bits in let w = c.args.size.width in
    c.cut_to.ensures.value ∙ ap (λ n. n % 2 ^ w) c.extend.ensures.value
    ∙ extended_low c.both_signed-signed.result b.width w b.value c.args.size.wide.1
    ∙ ap (λ s. ops.extend s b.width w b.value) c.both_signed-signed.ensures
