use Rattle.std.proofs.Common.{sym, ap, ◌∙◌}
use Rattle.vl_pre.specs.Bytes.{bytes}
use Rattle.vl_pre.proofs.CleanLaws.{bytes-joined}
use Rattle.vl_pre.proofs.clean.Clean.bytes.Goals as goal

pub returns : goal.returns
returns c = c.as_slice.ensures.value ∙ sym (bytes-joined c.self.inside.bytes.items c.self.inside.lines.items c.self.invariant.paired) ∙ ap bytes c.self.view_is
