use Rattle.std.proofs.Common.{◌≡◌, ◌≤◌, ◌+◌, drop}
use Rattle.dt_core.specs.declared.limits.TheConstants.{MAX_WIDTH}
use Rattle.vl_sized.specs.Plain.{width_together}
use Rattle.vl_sized.proofs.combine.together.Given as goal

abbrev pub invariant-loop-part : goal.invariant-loop-part
invariant-loop-part l = record {
  most : l.width ≤ MAX_WIDTH;
  sum : l.width + width_together (drop l.part-index l.parts) ≡ width_together l.parts;
}
