use Rattle.std.proofs.Common.{sym, ap, ◌∙◌}
use Rattle.vl_pre.specs.Bytes.{lines}
use Rattle.vl_pre.proofs.CleanLaws.{lines-joined}
use Rattle.vl_pre.proofs.clean.Clean.lines.Goals as goal

pub returns : goal.returns
returns c = c.as_slice.ensures.value ∙ sym (lines-joined c.self.inside.bytes.items c.self.inside.lines.items c.self.invariant.paired) ∙ ap lines c.self.view_is
