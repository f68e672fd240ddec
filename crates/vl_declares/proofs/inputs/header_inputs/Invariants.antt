use Rattle.std.proofs.Common.{◌≡◌, ◌++◌, false, map, drop}
use Rattle.std.specs.Option.{option_map}
use Rattle.vl_tree.specs.SyntaxView as view
use Rattle.vl_value.specs.Order.{lesser, least}
use Rattle.vl_found.specs.View.{found}
use Rattle.vl_design.specs.Lists.{each_of}
use Rattle.vl_design.specs.Spans.{one_bit}
use Rattle.vl_design.specs.Declarations.{header_inputs, input_needs}
use Rattle.vl_span.specs.Plain.{plain_span}
use Rattle.vl_constants.specs.Needed.{constants_of}
use Rattle.vl_declares.specs.Locals.{all_locals}
use Rattle.vl_declares.proofs.inputs.header_inputs.Given as goal

-- what was added and the least fault so far, and those of what is left behind the last input
abbrev pub invariant-loop-port : goal.invariant-loop-port
invariant-loop-port l = record {
  added : all_locals l.locals.items ++ header_inputs (constants_of l.frames) l.signed (plain_span l.span) (map view.function_port (drop l.port-index l.ports))
      ≡ all_locals l.fn.locals.items ++ header_inputs (constants_of l.frames) false one_bit (map view.function_port l.ports);
  fault : lesser (option_map found l.fault) (least (each_of (input_needs (constants_of l.frames)) (map view.function_port (drop l.port-index l.ports))))
      ≡ least (each_of (input_needs (constants_of l.frames)) (map view.function_port l.ports));
}
