use Rattle.std.proofs.Common.{List, set, ap, ◌∙◌}
use Rattle.std.proofs.lemmas.List.{map-set}
use Rattle.dt_core.specs.BitVectors.{BitVector, plain}
use Rattle.named_run.proofs.token.Values.set.Goals as goal

pub returns : goal.returns
returns c = map-set plain c.self.inside.bits.items c.args.k c.args.value
    ∙ ap (λ (l : List BitVector). set l c.args.k (plain c.args.value)) c.self.view_is
