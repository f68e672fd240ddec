use Rattle.std.proofs.Common.{map, sym, ap, ◌∙◌}
use Rattle.vl_tree.specs.SyntaxView as view
use Rattle.vl_views.specs.Blocks.{items_of}
use Rattle.vl_views.proofs.ItemViews.{items-map}
use Rattle.vl_parameters.specs.Plain.{plain_given}
use Rattle.vl_members.proofs.Entering.{opens_module}
use Rattle.vl_members.proofs.opening.open_module.Goals as goal

pub returns : goal.returns
returns c =
    let m = c.args.parent.now in
    opens_module (map plain_given c.args.given.now) (view.module_tree m) c.enter_module.new.frames c.declare_members.new.frames
    (items_of c.as_slice.result.now) c.new-declared.result.items c.enter_module.new.declared.items c.declare_members.new.declared.items
    c.in_ok-fault.fault (ap items_of c.as_slice.ensures ∙ sym (items-map m.items)) c.new-declared.ensures.items c.in_ok-fault.ensures
    c.in_ok-declare_members.ensures
