use Rattle.std.proofs.Common.{map, sym, ap, ◌∙◌}
use Rattle.vl_tree.specs.SyntaxView as view
use Rattle.vl_views.specs.Blocks.{items_of}
use Rattle.vl_views.proofs.ItemViews.{items-map}
use Rattle.vl_parameters.specs.Plain.{plain_given}
use Rattle.vl_members.proofs.Entering.{enters_module}
use Rattle.vl_members.proofs.opening.enter_module.Goals as goal

pub returns : goal.returns
returns c =
    let m = c.args.parent.now in
    enters_module (map plain_given c.args.given.now) (view.module_tree m) c.args.frames.now c.note_genvars.new.frames c.declare_header.new.frames
    (items_of c.as_slice.result.now) (map view.header_parameter c.as_slice-parameters.result.now) (map view.port c.ports_of.result.now)
    c.args.declared.now.items c.declare_header.new.declared.items c.declare_header_ports.new.declared.items
    c.in_ok-fault.fault c.in_ok-found.found c.lesser.result
    (ap items_of c.as_slice.ensures ∙ sym (items-map m.items)) (ap (map view.header_parameter) c.as_slice-parameters.ensures) c.ports_of.ensures
    c.requires c.in_ok-note_genvars.ensures c.in_ok-fault.ensures c.in_ok-found.ensures c.lesser.ensures
