use Rattle.std.proofs.Common.{◌≡◌, ◌++◌, map, drop}
use Rattle.vl_tree.specs.SyntaxView as view
use Rattle.vl_span.specs.Plain.{plain_span}
use Rattle.vl_declares.specs.Locals.{all_locals, locals_named}
use Rattle.vl_declares.proofs.inputs.push_locals.Given as goal

-- what was added, and what is left
abbrev pub invariant-loop-name : goal.invariant-loop-name
invariant-loop-name l = all_locals l.locals.items ++ locals_named l.signed (plain_span l.span) (map view.name (drop l.name-index l.names))
    ≡ all_locals l.fn.locals.items ++ locals_named l.signed (plain_span l.span) (map view.name l.names)
