use Rattle.std.proofs.Common.{◌≡◌, List, [], ◌∷◌, drop}
use Rattle.std.specs.Option.{option_map}
use Rattle.vl_value.specs.Paths.{Text}
use Rattle.vl_value.specs.Order.{lesser, least}
use Rattle.vl_found.specs.View.{found}
use Rattle.vl_names.specs.Names.{has}
use Rattle.vl_design.specs.Lists.{stands_in}
use Rattle.vl_design.specs.ObjectFaults.{same_locals}
use Rattle.vl_declares.specs.Locals.{all_locals}
use Rattle.vl_repeats.proofs.routine.names_fault.Given as goal

-- the names before, and the least fault so far, with that of what is left
abbrev pub invariant-loop-local : goal.invariant-loop-local
invariant-loop-local l = (before : List Text)
    × ((x : Text) → has l.names x ≡ stands_in before x)
    × (lesser (option_map found l.fault) (least (same_locals before (all_locals (drop l.local-index l.locals))))
    ≡ least (same_locals (l.own.text ∷ []) (all_locals l.locals)))
