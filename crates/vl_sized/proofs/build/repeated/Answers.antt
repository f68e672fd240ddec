use Rattle.std.proofs.Common.{refl, false}
use Rattle.vl_sized.proofs.Senses.{of_copies}
use Rattle.vl_sized.proofs.build.repeated.Goals as goal

pub returns : goal.returns
returns c = λ ns. of_copies ns (record { width = c.args.width; signed = false; wide = c.requires.range }) c.args.count c.args.parts c.requires.width refl
