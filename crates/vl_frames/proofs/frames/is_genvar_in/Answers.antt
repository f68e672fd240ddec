use Rattle.std.proofs.Common.{◌∙◌, sym, ap}
use Rattle.std.proofs.lemmas.List.{drop_all}
use Rattle.vl_frames.specs.Marks.{genvar_in}
use Rattle.vl_frames.proofs.Looked.{genvar_on}
use Rattle.vl_frames.proofs.frames.is_genvar_in.Goals as goal

pub loop-frame-preserved : goal.loop-frame-preserved
loop-frame-preserved c =
    genvar_on c.args.frames.now c.loop-frame.frame-index c.frame-item.result c.loop-frame-test.true c.frame-item.is c.args.name.now
    c.loop-frame.is_genvar c.is_genvar-is_genvar.result _ c.is_genvar-is_genvar.ensures c.loop-frame.invariant

pub returns : goal.returns
returns c =
    ap (λ fs. genvar_in (λ x. c.loop-frame.is_genvar) fs c.args.name.now) (sym (drop_all c.loop-frame.frame-index c.args.frames.now c.loop-frame-test.false))
    ∙ c.loop-frame.invariant
