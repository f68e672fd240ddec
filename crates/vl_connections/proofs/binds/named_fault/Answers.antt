use Rattle.std.proofs.Common.{◌+◌, ◌∷◌, ◌||◌, map, drop, sym, ap, ◌∙◌}
use Rattle.std.proofs.lemmas.List.{drop_all}
use Rattle.std.specs.Option.{option_map}
use Rattle.vl_tree.specs.SyntaxView as view
use Rattle.vl_value.specs.Order.{lesser, least}
use Rattle.vl_found.specs.View.{found}
use Rattle.vl_names.specs.Names.{has}
use Rattle.vl_design.specs.Lists.{stands_in}
use Rattle.vl_parameters.proofs.Adding.{fault_on, fault_end}
use Rattle.vl_connections.specs.Connections.{named_by, named_here}
use Rattle.vl_connections.proofs.Connecting.{known_on, bind-drop}
use Rattle.vl_connections.proofs.binds.named_fault.Goals as goal

pub loop-bind-preserved : goal.loop-bind-preserved
loop-bind-preserved c =
    let f = has c.args.names.now in let g = has c.args.directed.now in
    let all = c.args.binds.now in let k = c.loop-bind.bind-index in let b = view.named_bind c.bind-item.result in
    let x = b.name.text in let h = c.loop-bind.invariant in let before = h.0 in
    let e = bind-drop all k c.bind-item.result c.loop-bind-test.true c.bind-item.is in
    let found_before = option_map found c.loop-bind.fault in
    let is_bound = c.has-is_bound.ensures ∙ h.1 x in (
      x ∷ before,
      known_on c.loop-bind.bound c.add.new.self x before c.in_ok-add.ensures h.1,
      fault_on found_before _ _ (named_here (f x || g x) (stands_in before x) b.name) (named_by f g (x ∷ before) (map view.named_bind (drop (k + 1) all))) _ c.lesser-fault.ensures
          (c.bind_fault.ensures ∙ (λ i. least (named_here (c.is_port-is_port.ensures i) (is_bound i) b.name)))
          (ap (λ bs. lesser found_before (least (named_by f g before bs))) (sym e) ∙ h.2),
    )

pub returns : goal.returns
returns c =
    let f = has c.args.names.now in let g = has c.args.directed.now in
    let h = c.loop-bind.invariant in let found_before = option_map found c.loop-bind.fault in
    let e = drop_all c.loop-bind.bind-index c.args.binds.now c.loop-bind-test.false in
    sym (fault_end found_before) ∙ ap (λ bs. lesser found_before (least (named_by f g h.0 (map view.named_bind bs)))) (sym e) ∙ h.2
