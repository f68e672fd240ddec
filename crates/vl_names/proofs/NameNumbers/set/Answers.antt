use Rattle.std.proofs.Common.{◌∙◌}
use Rattle.std.specs.Prelude.{bytes_eq}
use Rattle.vl_names.specs.Names.{number_of}
use Rattle.vl_names.proofs.Noted.{numbered}
use Rattle.vl_names.proofs.NameNumbers.set.Goals as goal

pub returns : goal.returns
returns c = λ x. c.in_ok-put.ensures.0 x ∙ numbered (bytes_eq c.args.name.now x) c.args.number (number_of c.args.self.now x)
