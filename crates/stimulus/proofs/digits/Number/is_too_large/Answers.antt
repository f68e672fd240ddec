use Rattle.stimulus.proofs.DigitLaws.{over_large, shift_large}
use Rattle.stimulus.proofs.digits.Number.is_too_large.Goals as goal

pub returns-then-self : goal.returns-then-self
returns-then-self c n h = over_large c.args.self.over c.args.self.value n c.args.width c.if-self.true h c.requires

pub returns-then-width-lt-MAX_WIDTH : goal.returns-then-width-lt-MAX_WIDTH
returns-then-width-lt-MAX_WIDTH c n h = shift_large c.args.self.over c.args.self.value n c.args.width c.if-self.false h
