use Rattle.std.proofs.Common.{◌≡◌, false, drop}
use Rattle.vl_frames.specs.Marks.{genvar_in}
use Rattle.vl_frames.proofs.frames.is_genvar_in.Given as goal

abbrev pub invariant-loop-frame : goal.invariant-loop-frame
invariant-loop-frame l = genvar_in (λ x. l.is_genvar) (drop l.frame-index l.frames) l.name ≡ genvar_in (λ x. false) l.frames l.name
