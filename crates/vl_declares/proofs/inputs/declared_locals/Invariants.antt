use Rattle.std.proofs.Common.{◌≡◌, ◌++◌, map, drop}
use Rattle.std.specs.Option.{option_map}
use Rattle.vl_tree.specs.SyntaxView as view
use Rattle.vl_value.specs.Order.{lesser, least}
use Rattle.vl_found.specs.View.{found}
use Rattle.vl_design.specs.Lists.{each_of}
use Rattle.vl_design.specs.Declarations.{declared_locals, declaration_needs}
use Rattle.vl_constants.specs.Needed.{constants_of}
use Rattle.vl_declares.specs.Locals.{all_locals}
use Rattle.vl_declares.proofs.inputs.declared_locals.Given as goal

-- what was added and the least fault so far, and those of what is left
abbrev pub invariant-loop-declaration : goal.invariant-loop-declaration
invariant-loop-declaration l = record {
  added : all_locals l.locals.items ++ each_of (declared_locals (constants_of l.frames)) (map view.function_declaration (drop l.declaration-index l.declarations))
      ≡ all_locals l.fn.locals.items ++ each_of (declared_locals (constants_of l.frames)) (map view.function_declaration l.declarations);
  fault : lesser (option_map found l.fault) (least (each_of (declaration_needs (constants_of l.frames)) (map view.function_declaration (drop l.declaration-index l.declarations))))
      ≡ least (each_of (declaration_needs (constants_of l.frames)) (map view.function_declaration l.declarations));
}
