use Rattle.std.proofs.Common.{◌∙◌, sym, ap, map}
use Rattle.vl_sized.specs.Moments.{still}
use Rattle.vl_sized.specs.Plain.{sense_of, width_together}
use Rattle.vl_sized.specs.Wholes.{integer, if_width}
use Rattle.vl_sized.proofs.Senses.{together_is}
use Rattle.vl_sized.proofs.Copies.{copied_low, copied_wide, copied_some, few_copies}
use Rattle.vl_sized.proofs.combine.copies_of.Goals as goal

pub returns-then-is_below_one : goal.returns-then-is_below_one
returns-then-is_below_one c = λ ns.
    c.nothing.ensures ns ∙ copied_low (integer c.args.count) (map (sense_of ns) c.args.parts) (sym c.is_below_one.ensures ∙ c.if-is_below_one.true)

pub returns-in-None : goal.returns-in-None
returns-in-None c = λ ns.
    let w = width_together c.args.parts in
    let k = c.together.ensures ∙ ap (λ ps. if_width (width_together ps)) c.as_slice.ensures in
    c.nothing-in-None.ensures ns
    ∙ copied_wide (integer c.args.count) (map (sense_of ns) c.args.parts) w (together_is ns still c.args.parts) (sym c.in-None.is ∙ c.times.ensures w k)

pub returns-in-Some-bits : goal.returns-in-Some-bits
returns-in-Some-bits c = λ ns.
    let w = width_together c.args.parts in
    let k = c.together.ensures ∙ ap (λ ps. if_width (width_together ps)) c.as_slice.ensures in
    c.repeated.ensures ns
    ∙ copied_some (integer c.args.count) (map (sense_of ns) c.args.parts) w c.in-Some-bits.number c.in-Some.width (together_is ns still c.args.parts)
    (sym c.is_below_one.ensures ∙ c.if-is_below_one.false) (sym c.in-Some-bits.is ∙ c.bits.ensures) (sym c.in-Some.is ∙ c.times.ensures w k)

pub returns-in-None-bits : goal.returns-in-None-bits
returns-in-None-bits c =
    let w = width_together c.args.parts in
    let k = c.together.ensures ∙ ap (λ ps. if_width (width_together ps)) c.as_slice.ensures in
    absurd (few_copies (integer c.args.count) w c.in-Some.width (sym c.is_below_one.ensures ∙ c.if-is_below_one.false) (sym c.in-None-bits.is ∙ c.bits.ensures)
    (sym c.in-Some.is ∙ c.times.ensures w k))
