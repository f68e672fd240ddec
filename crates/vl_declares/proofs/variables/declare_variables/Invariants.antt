use Rattle.std.proofs.Common.{◌≡◌, ◌++◌, map, drop}
use Rattle.std.specs.Option.{option_map}
use Rattle.vl_tree.specs.SyntaxView as view
use Rattle.vl_value.specs.Order.{lesser, least}
use Rattle.vl_found.specs.View.{found}
use Rattle.vl_design.specs.Lists.{each_of}
use Rattle.vl_design.specs.Declarations.{variable_by, words_needs}
use Rattle.vl_span.specs.Plain.{plain_span}
use Rattle.vl_constants.specs.Needed.{constants_of}
use Rattle.vl_declares.specs.Plain.{all_plain, plain_kind}
use Rattle.vl_declares.proofs.variables.declare_variables.Given as goal

-- what was declared and the least fault so far, and those of what is left
abbrev pub invariant-loop-variable : goal.invariant-loop-variable
invariant-loop-variable l = record {
  declared : all_plain l.declared.items
      ++ map (variable_by (constants_of l.frames) (plain_kind l.kind) l.signed (plain_span l.span)) (map view.variable (drop l.variable-index l.variables))
      ≡ all_plain l.fn.declared.items
      ++ map (variable_by (constants_of l.frames) (plain_kind l.kind) l.signed (plain_span l.span)) (map view.variable l.variables);
  fault : lesser (option_map found l.fault) (least (each_of (words_needs (constants_of l.frames)) (map view.variable (drop l.variable-index l.variables))))
      ≡ least (each_of (words_needs (constants_of l.frames)) (map view.variable l.variables));
}
