use Rattle.std.proofs.Common.{◌≡◌, ◌++◌, None, map, drop}
use Rattle.std.specs.Option.{option_map}
use Rattle.vl_tree.specs.SyntaxView as view
use Rattle.vl_value.specs.Order.{lesser, least}
use Rattle.vl_found.specs.View.{found}
use Rattle.vl_design.specs.Lists.{each_of}
use Rattle.vl_design.specs.Declarations.{header_ports, port_needs}
use Rattle.vl_constants.specs.Needed.{constants_of}
use Rattle.vl_declares.specs.Plain.{all_plain}
use Rattle.vl_declares.specs.HeaderPorts.{Holds, words_of}
use Rattle.vl_declares.proofs.header_ports.declare_header_ports.Given as goal

-- what was declared and the least fault so far, and those of what is left behind the words of the last port
abbrev pub invariant-loop-port : goal.invariant-loop-port
invariant-loop-port l = record {
  holds : Holds (constants_of l.frames) l.words;
  added : all_plain l.declared.items ++ header_ports (constants_of l.frames) (words_of l.words) (map view.port (drop l.port-index l.ports))
      ≡ all_plain l.fn.declared.items ++ header_ports (constants_of l.frames) None (map view.port l.ports);
  fault : lesser (option_map found l.fault) (least (each_of (port_needs (constants_of l.frames)) (map view.port (drop l.port-index l.ports))))
      ≡ least (each_of (port_needs (constants_of l.frames)) (map view.port l.ports));
}
