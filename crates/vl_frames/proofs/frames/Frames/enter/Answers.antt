use Rattle.std.proofs.Common.{◌++◌, ◌∷◌, [], sym, ap, ◌∙◌, subst}
use Rattle.vl_frames.specs.Marks.{IsEmptyFrame}
use Rattle.vl_frames.proofs.Changed.{becomes_entered}
use Rattle.vl_frames.proofs.frames.Frames.enter.Goals as goal

pub returns : goal.returns
returns c =
    becomes_entered c.args.self.now (record { inner = c.replace-outer.new.dest; outer = c.push.new.frames })
    (subst IsEmptyFrame (sym c.replace-outer.ensures.after) c.new.ensures)
    (c.in_ok-push.ensures ∙ ap (λ f. c.args.self.now.outer.items ++ f ∷ []) c.replace-outer.ensures.value)
