use Rattle.std.proofs.Common.{◌+◌, ◌*◌, rules}
use Rattle.talk.proofs.DecimalLaws.{too_great}
use Rattle.talk.proofs.options.read_number.Goals as goal

pub returns-then-number-most-clause-value : goal.returns-then-number-most-clause-value
returns-then-number-most-clause-value c =
    too_great c.args.digits.now c.loop-digit.digit-index c.loop-digit.number (10 * c.loop-digit.number + c.from.result) c.args.most c.loop-digit-test.true c.loop-digit.invariant.0 (search rules) c.if-number-most.true
