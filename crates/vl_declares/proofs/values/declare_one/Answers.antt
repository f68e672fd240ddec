use Rattle.std.proofs.Common.{◌++◌, ◌∷◌, [], ap, ◌∙◌}
use Rattle.vl_tree.specs.SyntaxView as view
use Rattle.vl_design.specs.Constants.{Worth}
use Rattle.vl_design.specs.Declarations.{parameter}
use Rattle.vl_frames.specs.Marks.{around}
use Rattle.vl_frames.specs.Changes.{declared}
use Rattle.vl_declares.specs.Plain.{all_plain}
use Rattle.vl_declares.proofs.values.declare_one.Goals as goal

pub returns : goal.returns
returns c =
    let x = view.name c.args.name.now in
    record {
      added = c.in_ok-push.ensures
          ∙ ap (λ (w : Worth). all_plain c.args.declared.now.items ++ parameter x w ∷ []) c.in_ok-weighed.ensures.worth;
      fault = c.in_ok-weighed.ensures.fault;
      sight = c.in_ok-declare.ensures.sight
          ∙ ap (λ (w : Worth). declared x.text w (around c.args.frames.now)) c.in_ok-weighed.ensures.worth;
      outer = c.in_ok-declare.ensures.outer;
    }
