use Rattle.std.proofs.Common.{◌∙◌}
use Rattle.packed_rows.specs.Words.{left}
use Rattle.packed_rows.proofs.UnpackLaws.{wide_value, left_in_two}
use Rattle.packed_rows.proofs.unpack.take.Goals as goal

pub returns-clause-value : goal.returns-clause-value
returns-clause-value c =
    let low = c.take_few-low in
    let high = c.take_few-high in
    wide_value (left c.args.words.now c.args.held) (left c.args.words.now low.result.held) low.result.value high.result.value
    c.args.width c.if-width-le64.false c.requires.wide low.ensures.value low.ensures.left high.ensures.value

pub returns-clause-left : goal.returns-clause-left
returns-clause-left c =
    let low = c.take_few-low in
    c.take_few-high.ensures.left
    ∙ left_in_two (left c.args.words.now c.args.held) (left c.args.words.now low.result.held) c.args.width
    c.if-width-le64.false low.ensures.left
