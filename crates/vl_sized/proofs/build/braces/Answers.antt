use Rattle.std.proofs.Common.{refl, false}
use Rattle.vl_sized.proofs.Senses.{of_braces}
use Rattle.vl_sized.proofs.build.braces.Goals as goal

pub returns : goal.returns
returns c = λ ns. of_braces ns (record { width = c.args.width; signed = false; wide = c.requires.range }) c.args.parts c.requires.width refl
