use Rattle.std.proofs.Common.{◌≡◌, ◌+◌, ◌++◌, ◌∷◌, append-nil, map, drop, sym, ap, ◌∙◌}
use Rattle.std.proofs.lemmas.List.{drop_more, drop_all}
use Rattle.std.specs.Prelude.{Option}
use Rattle.std.specs.Option.{option_map}
use Rattle.vl_tree.specs.Syntax as t
use Rattle.vl_tree.specs.SyntaxView as view
use Rattle.vl_value.specs.Order.{lesser, least}
use Rattle.vl_found.specs.View.{found}
use Rattle.vl_design.specs.Lists.{each_of}
use Rattle.vl_design.specs.Declarations.{header_ports, port_needs}
use Rattle.vl_constants.specs.Needed.{constants_of}
use Rattle.vl_declares.specs.Plain.{all_plain}
use Rattle.vl_declares.specs.HeaderPorts.{words_of, words_behind, port_here}
use Rattle.vl_parameters.proofs.Adding.{some_on, fault_on, fault_end}
use Rattle.vl_declares.proofs.Adding.{ports_on}
use Rattle.vl_declares.proofs.header_ports.declare_header_ports.Goals as goal

pub loop-port-preserved : goal.loop-port-preserved
loop-port-preserved c =
    let g = constants_of c.args.frames.now in
    let xs = c.args.ports.now in let k = c.loop-port.port-index in let one = c.port-item.result in
    let p = view.port one in let left = map view.port (drop (k + 1) xs) in
    let d = c.in_ok-ported.ensures in let w = words_of c.loop-port.words in
    let old = all_plain c.loop-port.declared.items in let new = all_plain c.declare_port.new.declared.items in
    let f = option_map found c.loop-port.fault in
    let e : drop k xs ≡ one ∷ drop (k + 1) xs = drop_more xs k one c.loop-port-test.true ∙ ap (λ y. y ∷ drop (k + 1) xs) (sym c.port-item.is) in
    record {
      holds = d.holds;
      added = ap (λ (q : Option t.Directed). new ++ header_ports g q left) d.words
          ∙ some_on old new (port_here g w p) (header_ports g (words_behind w p) left) _ d.added
          (ap (λ ds. old ++ ds) (sym (ports_on g w p left))
          ∙ ap (λ ys. old ++ header_ports g w (map view.port ys)) (sym e) ∙ c.loop-port.invariant.added);
      fault = fault_on f _ (option_map found c.lesser-fault.result) (port_needs g p) (each_of (port_needs g) left) _ c.lesser-fault.ensures d.fault
          (ap (λ ys. lesser f (least (each_of (port_needs g) (map view.port ys)))) (sym e) ∙ c.loop-port.invariant.fault);
    }

pub returns : goal.returns
returns c =
    let g = constants_of c.args.frames.now in let xs = c.args.ports.now in let w = words_of c.loop-port.words in
    let all = all_plain c.loop-port.declared.items in let f = option_map found c.loop-port.fault in
    let e = drop_all c.loop-port.port-index xs c.loop-port-test.false in
    record {
      declared = sym (append-nil all) ∙ ap (λ ys. all ++ header_ports g w (map view.port ys)) (sym e) ∙ c.loop-port.invariant.added;
      fault = sym (fault_end f) ∙ ap (λ ys. lesser f (least (each_of (port_needs g) (map view.port ys)))) (sym e) ∙ c.loop-port.invariant.fault;
    }
