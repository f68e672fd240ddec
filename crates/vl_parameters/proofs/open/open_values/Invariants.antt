use Rattle.std.proofs.Common.{◌≡◌, ◌++◌, map, drop}
use Rattle.vl_tree.specs.SyntaxView as view
use Rattle.vl_parameters.specs.Open.{texts_of, value_names}
use Rattle.vl_parameters.proofs.open.open_values.Given as goal

-- the names so far, and those of what is left
abbrev pub invariant-loop-value : goal.invariant-loop-value
invariant-loop-value l = texts_of l.names.items ++ value_names (map view.valued (drop l.value-index l.values))
    ≡ texts_of l.fn.names.items ++ value_names (map view.valued l.values)
