use Rattle.std.proofs.Common.{◌≡◌, List, [], ◌++◌, drop, nat_eq}
use Rattle.std.specs.Prelude.{filter}
use Rattle.std.specs.Cmp.Lexicographic.{pointwise}
use Rattle.std.specs.Option.{option_map}
use Rattle.indexmap.specs.IndexMap.{get}
use Rattle.vl_value.specs.Paths.{Text}
use Rattle.vl_value.specs.Order.{lesser, least}
use Rattle.vl_found.specs.View.{found}
use Rattle.vl_design.specs.Declarations.{Declared, is_named}
use Rattle.vl_design.specs.ObjectFaults.{same_names}
use Rattle.vl_declares.specs.Plain.{all_plain}
use Rattle.vl_repeats.specs.Sides.{plain_met, met_of}
use Rattle.vl_repeats.specs.Flags.{flags_behind}
use Rattle.vl_repeats.proofs.repeats.find_repeats.Given as goal

-- what was met of each name before; the flags and the least fault so far, with those of what is left
abbrev pub invariant-loop-one : goal.invariant-loop-one
invariant-loop-one l = (before : List Declared)
    × ((x : Text) → option_map plain_met (get (pointwise nat_eq) l.names x) ≡ met_of (filter (is_named x) before))
    × (l.counted.items ++ flags_behind before (all_plain (drop l.one-index l.declared)) ≡ flags_behind [] (all_plain l.declared))
    × (lesser (option_map found l.fault) (least (same_names before (all_plain (drop l.one-index l.declared)))) ≡ least (same_names [] (all_plain l.declared)))
