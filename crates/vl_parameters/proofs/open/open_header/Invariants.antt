use Rattle.std.proofs.Common.{◌≡◌, ◌++◌, map, drop}
use Rattle.vl_tree.specs.SyntaxView as view
use Rattle.vl_parameters.specs.Open.{texts_of, header_names}
use Rattle.vl_parameters.proofs.open.open_header.Given as goal

-- the names so far, and those of what is left
abbrev pub invariant-loop-one : goal.invariant-loop-one
invariant-loop-one l = texts_of l.names.items ++ header_names (map view.header_parameter (drop l.one-index l.parameters))
    ≡ texts_of l.fn.names.items ++ header_names (map view.header_parameter l.parameters)
