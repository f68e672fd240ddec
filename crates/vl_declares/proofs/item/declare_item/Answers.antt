use Rattle.std.proofs.Common.{map, ap, ◌∙◌}
use Rattle.std.specs.Option.{option_map}
use Rattle.vl_tree.specs.SyntaxView as view
use Rattle.vl_parameters.specs.Plain.{plain_given}
use Rattle.vl_declares.proofs.Adding.{range_copied}
use Rattle.vl_declares.proofs.ItemByItem.{by_parameter, by_nets}
use Rattle.vl_declares.proofs.item.declare_item.Goals as goal

pub returns-in_ok-fault-in-Parameter : goal.returns-in_ok-fault-in-Parameter
returns-in_ok-fault-in-Parameter c =
    let a = c.in-Parameter in
    by_parameter (map plain_given c.args.given.now) c.args.item.now c.args.frames.now c.args.declared.now.items _ _ _ a.field-0 a.is_local a.signed a.range a.values
    _ _ _ a.is (range_copied c.as_ref.result ∙ ap (option_map view.range) c.as_ref.ensures.value) c.as_slice.ensures c.given_unless-given.ensures
    c.in_ok-fault-in-Parameter.ensures

pub returns-in_ok-fault-in-Nets : goal.returns-in_ok-fault-in-Nets
returns-in_ok-fault-in-Nets c =
    let a = c.in-Nets in
    by_nets (map plain_given c.args.given.now) c.args.item.now c.args.frames.now c.args.declared.now.items _ _ a.field-0 a.signed a.range a.nets
    _ _ a.is (range_copied c.as_ref-in-Nets.result ∙ ap (option_map view.range) c.as_ref-in-Nets.ensures.value) c.as_slice-in-Nets.ensures
    c.in_ok-fault-in-Nets.ensures
