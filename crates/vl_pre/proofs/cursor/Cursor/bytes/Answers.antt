use Rattle.std.proofs.Common.{sym, ap, ◌∙◌}
use Rattle.vl_pre.specs.Bytes.{bytes}
use Rattle.vl_pre.proofs.CursorLaws.{bytes-text_from}
use Rattle.vl_pre.proofs.cursor.Cursor.bytes.Goals as goal

pub returns : goal.returns
returns c = sym (bytes-text_from c.self.inside.in_body c.self.inside.line c.self.inside.bytes.now) ∙ ap bytes c.self.view_is
