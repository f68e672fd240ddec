use Rattle.std.proofs.Common.{◌∙◌, ap, w64}
use Rattle.std.proofs.lemmas.Int.{to_z-of_z}
use Rattle.bit_ops.specs.Operators.{low, select}
use Rattle.vl_sized.proofs.Worths.{few_bits}
use Rattle.vl_sized.proofs.numbers.bits_from.Goals as goal

pub returns-clause-value : goal.returns-clause-value
returns-clause-value c =
    let w = c.args.size.width in
    c.low_bits-2.ensures.value
    ∙ ap (low w) (c.value.ensures ∙ c.select.ensures.value ∙ (λ i. select (to_z-of_z w64 c.args.place c.ranges.place i) (c.min-bits.ensures i) (c.of.ensures.value i)))
    ∙ few_bits c.args.place c.args.count w c.args.number
