use Rattle.std.proofs.Common.{◌≡◌, ◌++◌, map, drop}
use Rattle.vl_tree.specs.SyntaxView as view
use Rattle.vl_design.specs.Lists.{each_of}
use Rattle.vl_design.specs.Declarations.{declared_inputs}
use Rattle.vl_constants.specs.Needed.{constants_of}
use Rattle.vl_declares.specs.Locals.{all_locals}
use Rattle.vl_declares.proofs.inputs.declared_inputs.Given as goal

-- what was added, and what is left
abbrev pub invariant-loop-declaration : goal.invariant-loop-declaration
invariant-loop-declaration l =
    all_locals l.locals.items ++ each_of (declared_inputs (constants_of l.frames)) (map view.function_declaration (drop l.declaration-index l.declarations))
    ≡ all_locals l.fn.locals.items ++ each_of (declared_inputs (constants_of l.frames)) (map view.function_declaration l.declarations)
