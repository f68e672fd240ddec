use Rattle.std.proofs.Common.{is_some, ap, ◌∙◌}
use Rattle.vl_names.proofs.Noted.{noted}
use Rattle.vl_names.proofs.NameSet.add.Goals as goal

pub returns : goal.returns
returns c = λ x. ap is_some (c.in_ok-put.ensures.0 x) ∙ noted _ _
