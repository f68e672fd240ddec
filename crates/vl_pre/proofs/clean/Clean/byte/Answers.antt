use Rattle.std.proofs.Common.{ap, ◌∙◌}
use Rattle.std.specs.Prelude.{slice_get}
use Rattle.vl_pre.proofs.CleanLaws.{byte_at}
use Rattle.vl_pre.proofs.clean.Clean.byte.Goals as goal

pub returns : goal.returns
returns c =
    c.at.ensures ∙ ap (λ bs. slice_get bs c.args.k) c.as_slice.ensures.value ∙ byte_at c.self.inside.bytes.items c.self.inside.lines.items c.args.self.now c.args.k c.self.invariant.paired c.self.view_is
