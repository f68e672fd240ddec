use Rattle.std.proofs.Common.{◌≡◌, List, [], ◌++◌, map, drop}
use Rattle.std.specs.Option.{option_map}
use Rattle.vl_tree.specs.SyntaxView as view
use Rattle.vl_value.specs.Paths.{Text}
use Rattle.vl_value.specs.Order.{lesser, least}
use Rattle.vl_found.specs.View.{found}
use Rattle.vl_names.specs.Names.{has}
use Rattle.vl_design.specs.Lists.{stands_in}
use Rattle.vl_design.specs.Parameters.{given_by_name, name_faults}
use Rattle.vl_constants.specs.Needed.{constants_of}
use Rattle.vl_parameters.specs.Open.{texts_of}
use Rattle.vl_parameters.specs.Plain.{plain_given}
use Rattle.vl_parameters.proofs.given.given_by_name.Given as goal

-- the names that were bound, and what was given and the least fault so far, with those of what is left
abbrev pub invariant-loop-bind : goal.invariant-loop-bind
invariant-loop-bind l = (before : List Text)
    × ((x : Text) → has l.bound x ≡ stands_in before x)
    × (map plain_given l.given.items
    ++ given_by_name (constants_of l.frames) (texts_of l.texts) (map view.named_bind (drop l.bind-index l.binds))
    ≡ given_by_name (constants_of l.frames) (texts_of l.texts) (map view.named_bind l.binds))
    × (lesser (option_map found l.fault)
    (least (name_faults (constants_of l.frames) (texts_of l.texts) before (map view.named_bind (drop l.bind-index l.binds))))
    ≡ least (name_faults (constants_of l.frames) (texts_of l.texts) [] (map view.named_bind l.binds)))
