use Rattle.std.proofs.Common.{refl, ap, ◌∙◌, false, nat_eq}
use Rattle.std.specs.Prelude.{cond, Some, bytes_eq}
use Rattle.std.specs.Cmp.Lexicographic.{pointwise}
use Rattle.indexmap.specs.IndexMap.{get}
use Rattle.vl_frames.proofs.Changed.{becomes_hidden}
use Rattle.vl_frames.proofs.frames.Frames.hide.Goals as goal

pub returns : goal.returns
returns c =
    becomes_hidden c.args.self.now (record { inner = c.tell.new.self; outer = c.args.self.now.outer }) c.args.name.now refl
    (λ y. ap (λ m. get (pointwise nat_eq) m y) c.in_ok-tell.ensures.constants ∙ c.in_ok-mark.ensures.constants.0 y)
    (λ y. c.in_ok-tell.ensures.genvars.0 y ∙ ap (λ g. cond (bytes_eq c.args.name.now y) (Some false) (get (pointwise nat_eq) g y)) c.in_ok-mark.ensures.genvars)
