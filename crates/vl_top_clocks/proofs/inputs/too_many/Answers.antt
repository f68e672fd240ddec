use Rattle.std.proofs.Common.{◌∷◌, ap, ◌∙◌}
use Rattle.dt_core.specs.declared.limits.TheConstants.{MAX_INPUTS, MAX_INPUT_BITS}
use Rattle.vl_value.specs.Things.{width_of}
use Rattle.vl_design.specs.Objects.{Object}
use Rattle.vl_tree.specs.SyntaxView as view
use Rattle.vl_limits.specs.Counting.{further}
use Rattle.vl_top_clocks.proofs.Counting.{counted_more}
use Rattle.vl_top_clocks.proofs.inputs.too_many.Goals as goal

pub loop-input-init : goal.loop-input-init
loop-input-init c = (λ cs. c.new-count.ensures cs, λ cs. c.new-bits.ensures cs)

pub loop-input-preserved : goal.loop-input-preserved
loop-input-preserved c =
    let xs = c.args.inputs.now in let k = c.loop-input.input-index in let x = c.input-item.result in let h = c.loop-input.invariant in (
      counted_more _ _ MAX_INPUTS (λ o. 1) xs k x c.loop-input-test.true c.input-item.is c.add.ensures h.0,
      counted_more _ _ MAX_INPUT_BITS (λ (o : Object). width_of o.shape) xs k x c.loop-input-test.true c.input-item.is
          (λ cs. c.add-in-loop-input.ensures cs ∙ ap (λ w. further c.loop-input.bits ((view.place x.name.now.place, w) ∷ cs)) c.width.ensures) h.1,
    )
