use Rattle.vl_sized.proofs.Senses.{of_read}
use Rattle.vl_sized.proofs.select.part_of.Goals as goal

pub returns : goal.returns
returns c = λ ns. of_read ns c.size_of.result c.args.shape c.args.source c.args.part c.size_of.ensures.width c.size_of.ensures.signed
