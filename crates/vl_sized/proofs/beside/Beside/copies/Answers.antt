use Rattle.std.proofs.Common.{◌∙◌, ap, arith}
use Rattle.dt_core.specs.declared.limits.TheConstants.{MAX_WIDTH}
use Rattle.bit_ops.specs.Operators.{low, concat}
use Rattle.vl_sized.proofs.Worths.{copy_more}
use Rattle.vl_sized.proofs.beside.Beside.copies.Goals as goal

pub loop-done-preserved : goal.loop-done-preserved
loop-done-preserved c =
    let w = c.args.self.width in let one = low w c.args.self.value in
    record {
      most = omega arith;
      value = c.put_beside-value.ensures ∙ ap (λ a. low MAX_WIDTH (concat w c.loop-done.value a)) c.low-one.ensures
          ∙ copy_more c.loop-done.done w one c.loop-done.value c.loop-done.invariant.value;
    }
